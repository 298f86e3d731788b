-- The segments of a reduce: what their folds and the joins make of an outcome is the tree fold of its elements.
use Rattle.std.proofs.Common.{◌≡◌, ℕ, ℤ, zero, suc, ◌+◌, ◌-◌, ◌*◌, ◌/◌, ◌^◌, ◌<◌, ◌≤◌, List, [], ◌∷◌, ◌++◌, length, map, take, drop, get_or, Option, refl, sym, ap, ap₂, ◌∙◌, subst, arith, length-append, length-take, length-drop}
use Rattle.std.specs.List.{AllByRecursion, flat_map}
use Rattle.std.proofs.Math.ListN.{get_or-map}
use Rattle.std.proofs.Math.Nat.{mul-div_cancel}
use Rattle.std.proofs.Math.Seq.{take-append_seam, drop-append_seam}
use Rattle.std.proofs.lemmas.List.{take-map, drop-map, length-map}
use Rattle.p3l_base.specs.declared.outcome.Outcome.{Outcome}
use Rattle.p3l_base.specs.declared.outcome.Outcome.TheVariants.{Value, Trapped}
use Rattle.p3l_base.specs.declared.outcome.Trap.{Trap}
use Rattle.p3l_skel.specs.declared.tree.Form.TheVariants.{Reduce}
use Rattle.p3l_skel.specs.Counts.{IsLawfulCount}
use Rattle.p3l_skel.specs.Tree.{node_at, part_at, HasLength}
use Rattle.p3l_skel.specs.Fold.{combined, tree_fold, halves, segments}
use Rattle.p3l_skel.specs.Item.{item, reduced, pieces, elements}
use Rattle.p3l_skel.specs.Lawful.{IsLawfulTree}
use Rattle.p3l_skel.proofs.Depth.{lawful_at}
use Rattle.p3l_skel.proofs.Powers.{small_exponent}
use Rattle.p3l_firing.specs.Nodes.{elem_of, segment_of, operator_of}
use Rattle.p3l_firing.specs.Segments.{level_of, segment_words}
use Rattle.p3l_firing.proofs.LawfulForms.{reduce_part, some_factor}
use Rattle.p3l_reduce.specs.JoinTree.{Folding, joined, leaf_of}
use Rattle.p3l_reduce.specs.Reduce.{folding_of, reduce_shape}
use Rattle.p3l_reduce.specs.laws.ReduceTyping.{level_exact}
use Rattle.p3l_reduce.proofs.Whole.{joins_whole}
use Rattle.p3l_template.specs.Shape.{Role}
use Rattle.p3l_template.specs.Units.{Units, outcome_at}
use Rattle.p3l_link.specs.Means.{Means}
use Rattle.p3l_link.proofs.NodeMeaning.{item_at, run_means}

module _ {X Y : Type 0} (f : X → Y) where
  halves-map : (xs : List X) → halves (map f xs) ≡ map (map f) (halves xs)
  halves-map xs =
      let n : length (map f xs) / 2 ≡ length xs / 2 = ap (λ k. k / 2) (length-map xs f) in
      ap (λ k. take k (map f xs) ∷ (drop k (map f xs) ∷ [])) n
      ∙ ap₂ (λ a b. a ∷ (b ∷ [])) (take-map f (length xs / 2) xs) (drop-map f (length xs / 2) xs)

  all-halves-map : (xss : List (List X)) → flat_map halves (map (map f) xss) ≡ map (map f) (flat_map halves xss)
  all-halves-map [] = refl
  all-halves-map (xs ∷ xss) = ap₂ (λ hs rest. hs ++ rest) (halves-map xs) (all-halves-map xss)

  -- the segments of the images are the images of the segments
  segments-map : (level : ℕ) (xs : List X) → segments level (map f xs) ≡ map (map f) (segments level xs)
  unfolding segments
  segments-map zero xs = refl
  segments-map (suc level) xs = ap (flat_map halves) (segments-map level xs) ∙ all-halves-map (segments level xs)

module _ {X : Type 0} (P : X → Type 0) where
  all-take : (k : ℕ) (xs : List X) → AllByRecursion P xs → AllByRecursion P (take k xs)
  all-take zero xs all = tt
  all-take (suc k) [] all = tt
  all-take (suc k) (x ∷ xs) all = (all.0, all-take k xs all.1)

  all-drop : (k : ℕ) (xs : List X) → AllByRecursion P xs → AllByRecursion P (drop k xs)
  all-drop zero xs all = all
  all-drop (suc k) [] all = tt
  all-drop (suc k) (x ∷ xs) all = all-drop k xs all.1

  all-halves : (xss : List (List X)) → AllByRecursion (AllByRecursion P) xss →
      AllByRecursion (AllByRecursion P) (flat_map halves xss)
  all-halves [] all = tt
  all-halves (xs ∷ xss) all = (all-take (length xs / 2) xs all.0, (all-drop (length xs / 2) xs all.0, all-halves xss all.1))

  all-segments : (level : ℕ) (xs : List X) → AllByRecursion P xs → AllByRecursion (AllByRecursion P) (segments level xs)
  unfolding segments
  all-segments zero xs all = (all, tt)
  all-segments (suc level) xs all = all-halves (segments level xs) (all-segments level xs all)

  all-read : (xss : List (List X)) (k : ℕ) → AllByRecursion (AllByRecursion P) xss → AllByRecursion P (get_or xss k [])
  all-read [] k all = tt
  all-read (xs ∷ xss) zero all = all.0
  all-read (xs ∷ xss) (suc k) all = all-read xss k all.1

abbrev IsLong : ℕ → List ℤ → Type 0
IsLong size words = length words ≡ size

pieces_long : (k size : ℕ) (words : List ℤ) → length words ≡ k * size →
    (length (pieces k size words) ≡ k) × AllByRecursion (IsLong size) (pieces k size words)
pieces_long zero size words fits = (refl, tt)
pieces_long (suc k) size words fits =
    let rest : length (drop size words) ≡ k * size = omega (arith, length-drop size words, fits) in
    let first : length (take size words) ≡ size = omega (arith, length-take size words, fits) in
    let more = pieces_long k size (drop size words) rest in
    (ap suc more.0, (first, more.1))

-- elements of one length, one after the other, and cut again
joined_long : (size : ℕ) (xs : List (List ℤ)) → AllByRecursion (IsLong size) xs → length (flat_map (λ x. x) xs) ≡ length xs * size
joined_long size [] all = omega arith
joined_long size (x ∷ xs) all =
    let rest = joined_long size xs all.1 in
    let here = all.0 in
    omega (arith, length-append x (flat_map (λ y. y) xs), rest, here)

cut_again : (size : ℕ) (xs : List (List ℤ)) → AllByRecursion (IsLong size) xs → pieces (length xs) size (flat_map (λ x. x) xs) ≡ xs
cut_again size [] all = refl
cut_again size (x ∷ xs) all =
    let here : length x ≡ size = all.0 in
    ap₂ (λ a b. a ∷ b)
    (ap (λ k. take k (x ++ flat_map (λ y. y) xs)) (sym here) ∙ take-append_seam x (flat_map (λ y. y) xs))
    (ap (λ k. pieces (length xs) size (drop k (x ++ flat_map (λ y. y) xs))) (sym here)
    ∙ ap (pieces (length xs) size) (drop-append_seam x (flat_map (λ y. y) xs))
    ∙ cut_again size xs all.1)

elements_again : (size : ℕ) (xs : List (List ℤ)) → 0 < size → AllByRecursion (IsLong size) xs →
    elements size (flat_map (λ x. x) xs) ≡ xs
elements_again size xs some all =
    let count : length (flat_map (λ x. x) xs) / size ≡ length xs =
    ap (λ k. k / size) (joined_long size xs all) ∙ mul-div_cancel (length xs) some in
    ap (λ k. pieces k size (flat_map (λ x. x) xs)) count ∙ cut_again size xs all

-- a segment's elements are that segment of all elements
segment_elements : (size len n s : ℕ) (words : List ℤ) → 0 < size → length words ≡ len * size →
    elements size (segment_words size n s words) ≡ get_or (segments (level_of n) (elements size words)) s []
unfolding segment_words
segment_elements size len n s words some long =
    let count : length words / size ≡ len = ap (λ k. k / size) long ∙ mul-div_cancel len some in
    let cut = pieces_long len size words long in
    let all : AllByRecursion (IsLong size) (elements size words) =
    subst (λ k. AllByRecursion (IsLong size) (pieces k size words)) (sym count) cut.1 in
    elements_again size (get_or (segments (level_of n) (elements size words)) s []) some
    (all-read (IsLong size) (segments (level_of n) (elements size words)) s
    (all-segments (IsLong size) (level_of n) (elements size words) all))

joined_trap : (g : Folding) (operator : List ℤ → Outcome) (trap : Trap) → g.operator ≡ combined operator →
    ((s : ℕ) → leaf_of g s (Trapped trap) ≡ Trapped trap) →
    (d r : ℕ) → joined g d r (Trapped trap) ≡ Trapped trap
unfolding joined
joined_trap g operator trap op leafs zero r = leafs (r - g.count)
joined_trap g operator trap op leafs (suc d) r =
    ap (λ f. f (joined g d (r + r) (Trapped trap)) (joined g d (suc (r + r)) (Trapped trap))) op
    ∙ ap (λ x. combined operator x (joined g d (suc (r + r)) (Trapped trap))) (joined_trap g operator trap op leafs d (r + r))

module _ (units : Units) (lawful : IsLawfulTree units.tree) (node : ℕ) (inside : node < length units.tree.nodes)
    {workers : Option ℕ} {len elem : ℕ}
    (is : (node_at units.tree node).form ≡ Reduce workers len elem) where
  abbrev operator : List ℤ → Outcome
  operator = item units.tree units.leaf (part_at units.tree node 0)

  some_words : 0 < elem
  some_words =
      some_factor len elem (node_at units.tree node).ins (lawful_at units.tree lawful node inside).ins.0
      (reduce_part units.tree lawful node inside is).elements

  row_is : (words : List ℤ) → item units.tree units.leaf node words ≡ reduced elem operator words
  row_is words = item_at units lawful node inside (Reduce workers len elem) words is

  module _ (k : ℕ) (small : k ≤ 9) (few : 2 ^ k ≤ len) where
    abbrev g : Folding
    g = folding_of units node (2 ^ k)

    operator_is : g.operator ≡ combined operator
    unfolding operator_of
    operator_is = refl

    segment_is : (s : ℕ) (words : List ℤ) →
        segment_of units.tree node (2 ^ k) s (Value words) ≡ Value (segment_words elem (2 ^ k) s words)
    unfolding segment_of
    segment_is s words = ap (λ f. Value (segment_words (elem_of f) (2 ^ k) s words)) is

    leaf_is : (words : List ℤ) → length words ≡ len * elem → (s : ℕ) →
        leaf_of g s (Value words) ≡ tree_fold operator (get_or (segments k (map Value (elements elem words))) s [])
    leaf_is words long s =
        ap (outcome_at units node) (segment_is s words)
        ∙ row_is (segment_words elem (2 ^ k) s words)
        ∙ ap (λ es. tree_fold operator (map Value es))
        (segment_elements elem len (2 ^ k) s words some_words long
        ∙ ap (λ level. get_or (segments level (elements elem words)) s []) (level_exact 9 k small))
        ∙ ap (tree_fold operator)
        (sym (get_or-map (map Value) (segments k (elements elem words)) s [])
        ∙ ap (λ xss. get_or xss s []) (sym (segments-map Value k (elements elem words))))

    value_joins : (words : List ℤ) → length words ≡ (node_at units.tree node).ins →
        joined g k 1 (Value words) ≡ outcome_at units node (Value words)
    value_joins words fits =
        let long : length words ≡ len * elem = fits ∙ (reduce_part units.tree lawful node inside is).elements in
        let count : length words / elem ≡ len = ap (λ n. n / elem) long ∙ mul-div_cancel len some_words in
        let many : length (map Value (elements elem words)) ≡ len =
        length-map (elements elem words) Value ∙ ap (λ n. length (pieces n elem words)) count
        ∙ (pieces_long len elem words long).0 in
        joins_whole operator k (map Value (elements elem words)) g (Value words) refl operator_is
        (λ s below. leaf_is words long s) (omega (arith, many, few))
        ∙ sym (row_is words)

    leaf_traps : (trap : Trap) (s : ℕ) → leaf_of g s (Trapped trap) ≡ Trapped trap
    unfolding segment_of
    leaf_traps trap s = refl

    joins : (o : Outcome) → HasLength (node_at units.tree node).ins o → joined g k 1 o ≡ outcome_at units node o
    joins (Trapped trap) long = joined_trap g operator trap operator_is (leaf_traps trap) k 1
    joins (Value words) long = value_joins words long

    -- joins of segments' folds
    tree_means : Means units node (joined g k 1)
    tree_means = record { same = joins }

  -- a shape by its level, at two to this power of segments
  shape_means : (roles : ℕ → Role) (k : ℕ) → k ≤ 9 → 2 ^ k ≤ len → Means units node ((reduce_shape node len k).meaning units roles)
  unfolding reduce_shape
  shape_means roles zero small few = run_means units lawful node inside
  shape_means roles (suc d) small few = tree_means (suc d) small few

  -- a reduce folds its elements, however many segments share them
  pub reduce_means : (roles : ℕ → Role) (n : ℕ) → IsLawfulCount (Reduce workers len elem) n →
      Means units node ((reduce_shape node len (level_of n)).meaning units roles)
  reduce_means roles n count =
      let k = count.1.0.0 in
      let power : n ≡ 2 ^ k = count.1.0.1 in
      let fits = count.1.1 in
      let most = count.1.2 in
      let small : k ≤ 9 = small_exponent k (omega (arith, power, most)) in
      subst (λ level. Means units node ((reduce_shape node len level).meaning units roles))
      (sym (ap level_of power ∙ level_exact 9 k small))
      (shape_means roles k small (omega (arith, power, fits)))
