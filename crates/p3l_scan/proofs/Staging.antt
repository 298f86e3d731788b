-- Outcomes of plans: the guard of the steps never acts, the root goes by its stages, and the traps are the operator's.
use Rattle.std.proofs.Common.{◌≡◌, ℕ, ℤ, zero, suc, ◌+◌, ◌-◌, ◌*◌, ◌/◌, ◌^◌, ◌<◌, ◌≤◌, false, Ok, Err, List, [], ◌∷◌, ◌++◌, take, drop, length, map, refl, arith, ap, ap₂, sym, ◌∙◌, subst, length-append, length-take, length-drop}
use Rattle.std.specs.Prelude.{nat_le}
use Rattle.std.proofs.Math.Nat.{mul_assoc, suc-mul}
use Rattle.std.proofs.lemmas.Bool.Decides.{nat_tests}
use Rattle.std.proofs.lemmas.List.{length-map}
use Rattle.p3l_base.specs.declared.outcome.Outcome.{Outcome}
use Rattle.p3l_base.specs.declared.outcome.Outcome.TheVariants.{Value, Trapped}
use Rattle.p3l_base.specs.declared.outcome.Trap.{Trap}
use Rattle.p3l_skel.specs.Item.{elements, in_order, item_to, on_value, pieces}
use Rattle.p3l_skel.specs.Tree.{HasLength}
use Rattle.p3l_skel.proofs.Depth.{item_to-step}
use Rattle.p3l_skel.proofs.Elements.{length-pieces}
use Rattle.p3l_scan.specs.Plan.{numbers_of, plan_tree, stage_node, step_node}
use Rattle.p3l_scan.specs.Row.{in_row, with_next}
use Rattle.p3l_scan.specs.Scan.{Scanned, before, both, combined_each, in_words, last_of, merged, scan_of_up_to, with_front}
use Rattle.p3l_scan.specs.Staged.{GoesByStages, IsOperatorTrap, TrapsAsTheOperator, block_outcome, stage_outcome, staged}
use Rattle.p3l_scan.specs.Step.{merged_halves, step_leaf, stepped}
use Rattle.p3l_scan.specs.laws.Nodes.{root_is}
use Rattle.p3l_scan.specs.laws.Powers.{doubled, grown, power_pos}
use Rattle.p3l_scan.specs.laws.Step.{leaf_fits}
use Rattle.p3l_scan.proofs.Blocks.{HaveLength}
use Rattle.p3l_scan.proofs.Leaves.{fitted-is, words-length}
use Rattle.p3l_scan.proofs.Merging.{elements-are, elements-count}
use Rattle.p3l_scan.proofs.Scans.{Combines, Fits, half_length, merged-fits, scan-fits, sized-at, up_to-fits}
use Rattle.p3l_scan.proofs.Sized.{Sized, pieces-sized, sized-drop, sized-take}
use Rattle.p3l_scan.proofs.Values.{all-have, row-at, stage-item, times-pos}

-- THE GUARD

module _ (size elem : ℕ) (some_size : 1 ≤ size) (some : 0 < elem) (operator : List ℤ → Outcome) (keeps : Combines elem operator) where
  several : (s n : ℕ) → n ≡ 2 ^ suc s * size → 2 ≤ n
  several s n e = omega (arith, e, sym (grown s size), times-pos (2 ^ s) size (power_pos s) some_size)

  -- a step makes as many elements of elements
  stepped-fits : (s : ℕ) (xs : List (List ℤ)) → length xs ≡ 2 ^ s * size → Sized elem xs →
      Fits (length xs) elem (stepped operator (step_node s) xs)
  stepped-fits zero xs e h = scan-fits elem operator keeps xs h
  stepped-fits (suc s) xs e h =
      let half : ℕ = length xs / 2 in
      let late : nat_le (step_node (suc s)) 2 ≡ false = search (arith, nat_tests) in
      let many : 2 ≤ length xs = several s (length xs) e in
      let whole : length (take half xs) + length (drop half xs) ≡ length xs =
      omega (arith, length-take half xs, length-drop half xs) in
      rw late
      (subst (λ m. Fits m elem (merged_halves operator xs)) whole
      (merged-fits elem operator keeps (take half xs) (drop half xs) (omega (arith, length-take half xs, many))
      (sized-take elem half xs h) (sized-drop elem half xs h)))

  pub never-guards : (s : ℕ) (block : List ℤ) → length block ≡ 2 ^ s * (size * elem) →
      step_leaf elem operator (step_node s) block ≡ block_outcome elem operator s block
  unfolding step_leaf
  never-guards s block e =
      let xs : List (List ℤ) = elements elem block in
      let long : length block ≡ 2 ^ s * size * elem = e ∙ sym (mul_assoc (2 ^ s) size elem) in
      let count : length xs ≡ 2 ^ s * size = elements-count (2 ^ s * size) elem block some long in
      let are = elements-are (2 ^ s * size) elem block some long in
      let same : length xs * elem ≡ length block = ap (λ n. n * elem) count ∙ sym long in
      fitted-is (length block) (step_node s) (block_outcome elem operator s block)
      (subst (λ n. HasLength n (block_outcome elem operator s block)) same
      (words-length (length xs) elem (stepped operator (step_node s) xs) (stepped-fits s xs count are.1)))

-- THE STAGES

-- parts that make the same of all pieces of one size do so in a row
same-on : (b : ℕ) (f g : List ℤ → Outcome) (xs : List (List ℤ)) → ((x : List ℤ) → length x ≡ b → f x ≡ g x) → Sized b xs →
    map f xs ≡ map g xs
same-on b f g [] h sized = refl
same-on b f g (x ∷ xs) h sized = ap₂ (λ y ys. y ∷ ys) (h x sized.0) (same-on b f g xs h sized.1)

next-length : (n m : ℕ) (first rest : Outcome) → HasLength n first → HasLength m rest → HasLength (n + m) (with_next first rest)
next-length n m (Trapped trap) rest h k = tt
next-length n m (Value v) (Trapped trap) h k = tt
next-length n m (Value v) (Value w) h k = omega (arith, length-append v w, h, k)

-- outcomes in a row have the words of all
row-length : (b : ℕ) (outcomes : List Outcome) → HaveLength b outcomes → HasLength (length outcomes * b) (in_row outcomes)
unfolding HaveLength in_row
row-length b [] h = let none : 0 ≡ 0 * b = omega arith in none
row-length b (o ∷ os) h =
    let product : b + length os * b ≡ length (o ∷ os) * b = omega (arith, suc-mul (length os) b) in
    subst (λ n. HasLength n (in_row (o ∷ os))) product
    (next-length b (length os * b) o (in_row os) h.0 (row-length b os h.1))

stays : (part : ℕ → List ℤ → Outcome) (ns : List ℕ) (trap : Trap) → in_order part ns (Trapped trap) ≡ Trapped trap
stays part [] trap = refl
stays part (n ∷ ns) trap = stays part ns trap

module _ (d size elem : ℕ) (some_size : 1 ≤ size) (some : 0 < elem) (operator : List ℤ → Outcome) (keeps : Combines elem operator) where
  abbrev words : ℕ
  words = size * elem

  abbrev part : ℕ → List ℤ → Outcome
  part = item_to (plan_tree d (size * elem)) (step_leaf elem operator) 5

  -- a stage on words that it takes
  stage-is : (s n b : ℕ) (ws : List ℤ) → s ≤ d → n ≡ 2 ^ (d - s) → b ≡ 2 ^ s * words → length ws ≡ n * b →
      (part (stage_node s) ws ≡ stage_outcome elem operator s n b ws) × HasLength (n * b) (part (stage_node s) ws)
  stage-is s n b ws low count wide long =
      let home : ℕ = step_node s in
      let sized : Sized b (pieces n b ws) = pieces-sized n b ws long in
      let row : List Outcome = map (step_leaf elem operator home) (pieces n b ws) in
      let is : part (stage_node s) ws ≡ in_row row =
      stage-item d words elem operator 3 s ws low (long ∙ ap₂ (λ x y. x * y) count wide)
      ∙ ap₂ (λ x y. in_row (map (step_leaf elem operator home) (pieces x y ws))) (sym count) (sym wide) in
      let many : length row ≡ n = length-map (pieces n b ws) (step_leaf elem operator home) ∙ length-pieces n b ws in (
        is ∙ ap in_row (same-on b (step_leaf elem operator home) (block_outcome elem operator s) (pieces n b ws)
            (λ x h. never-guards size elem some_size some operator keeps s x (h ∙ wide)) sized),
        subst (HasLength (n * b)) (sym is)
            (subst (λ m. HasLength (m * b) (in_row row)) many
            (row-length b row (all-have b (step_leaf elem operator home) (pieces n b ws) (leaf_fits elem operator home b) sized))),
      )

  by-stages : (more s b : ℕ) (ws : List ℤ) → s + more ≡ d → b ≡ 2 ^ s * words → length ws ≡ 2 ^ more * b →
      in_order part (numbers_of s more) (Value ws) ≡ staged elem operator s more b ws
  unfolding numbers_of staged
  by-stages zero s b ws e wide long =
      let left : 1 ≡ 2 ^ (d - s) = let none : 0 ≡ d - s = omega (arith, e) in ap (λ k. 2 ^ k) none in
      (stage-is s 1 b ws (omega (arith, e)) left wide long).0
  by-stages (suc more) s b ws e wide long =
      let left : 2 ^ suc more ≡ 2 ^ (d - s) = let rest : suc more ≡ d - s = omega (arith, e) in ap (λ k. 2 ^ k) rest in
      let is = stage-is s (2 ^ suc more) b ws (omega (arith, e)) left wide long in
      let next : 2 * b ≡ 2 ^ suc s * words = ap (λ z. 2 * z) wide ∙ grown s words in
      let twice : 2 ^ suc more * b ≡ 2 ^ more * (2 * b) = sym (doubled more b) in
      go (part (stage_node s) ws) (λ v fits. by-stages more (suc s) (2 * b) v (omega (arith, e)) next fits)
      (subst (λ n. HasLength n (part (stage_node s) ws)) twice is.1)
      ∙ ap (on_value (staged elem operator (suc s) more (2 * b))) is.0
    where
      go : (o : Outcome) →
          ((v : List ℤ) → length v ≡ 2 ^ more * (2 * b) →
          in_order part (numbers_of (suc s) more) (Value v) ≡ staged elem operator (suc s) more (2 * b) v) →
          HasLength (2 ^ more * (2 * b)) o →
          in_order part (numbers_of (suc s) more) o ≡ on_value (staged elem operator (suc s) more (2 * b)) o
      go (Trapped trap) below fits = stays part (numbers_of (suc s) more) trap
      go (Value v) below fits = below v fits

  pub goes-by-stages : GoesByStages d (size * elem) elem (step_leaf elem operator) operator
  goes-by-stages ws long =
      let one : words ≡ 2 ^ 0 * words = omega arith in
      ap (λ f. f ws) (item_to-step (plan_tree d words) (step_leaf elem operator) 5 0)
      ∙ ap (row-at d words elem operator part ws) (root_is d words)
      ∙ by-stages d 0 words ws (omega arith) one long

  -- TRAPS

  -- the trap of a row is that of one of its outcomes
  of-row : (b : ℕ) (f : List ℤ → Outcome) (xs : List (List ℤ)) (trap : Trap) → Sized b xs → in_row (map f xs) ≡ Trapped trap →
      (x : List ℤ) × (length x ≡ b) × (f x ≡ Trapped trap)
  unfolding in_row
  of-row b f [] trap sized e = cc
  of-row b f (x ∷ xs) trap sized e = by (f x) refl (in_row (map f xs)) refl (λ is. of-row b f xs trap sized.1 is)
    where
      by : (o : Outcome) → f x ≡ o → (r : Outcome) → in_row (map f xs) ≡ r →
          (in_row (map f xs) ≡ Trapped trap → (y : List ℤ) × (length y ≡ b) × (f y ≡ Trapped trap)) →
          (y : List ℤ) × (length y ≡ b) × (f y ≡ Trapped trap)
      by (Trapped t) is r rest below = (x, sized.0, is ∙ sym (ap (λ o. with_next o (in_row (map f xs))) is) ∙ e)
      by (Value v) is (Trapped t) rest below = below (rest ∙ sym (ap₂ with_next is rest) ∙ e)
      by (Value v) is (Value w) rest below = let never = sym (ap₂ with_next is rest) ∙ e in cc

  -- combinations with each of some elements
  of-each : (last : List ℤ) (xs : List (List ℤ)) (trap : Trap) → length last ≡ elem → Sized elem xs →
      combined_each operator last xs ≡ Err trap → IsOperatorTrap elem operator trap
  unfolding combined_each
  of-each last [] trap l h e = cc
  of-each last (x ∷ xs) trap l h e =
      by (operator (last ++ x)) refl (combined_each operator last xs) refl (λ is. of-each last xs trap l h.1 is)
    where
      by : (o : Outcome) → operator (last ++ x) ≡ o → (r : Scanned) → combined_each operator last xs ≡ r →
          (combined_each operator last xs ≡ Err trap → IsOperatorTrap elem operator trap) → IsOperatorTrap elem operator trap
      by (Trapped t) is r rest below =
          let same : Err t ≡ Err trap = sym (ap (λ o. before o (combined_each operator last xs)) is) ∙ e in
          let own : t ≡ trap = cc in
          record { left = last; right = x; left_fits = l; right_fits = h.0; trapped = is ∙ ap (λ z. Trapped z) own }
      by (Value v) is (Err t) rest below = below (rest ∙ sym (ap₂ before is rest) ∙ e)
      by (Value v) is (Ok folds) rest below = let never = sym (ap₂ before is rest) ∙ e in cc

  of-merged : (front back : List (List ℤ)) (trap : Trap) → 1 ≤ length front → Sized elem front → Sized elem back →
      merged operator front back ≡ Err trap → IsOperatorTrap elem operator trap
  unfolding merged
  of-merged front back trap many h k e =
      of-each (last_of front) back trap (sized-at elem front (length front - 1) (omega (arith, many)) h) k
      (by (combined_each operator (last_of front) back) refl)
    where
      by : (r : Scanned) → combined_each operator (last_of front) back ≡ r → combined_each operator (last_of front) back ≡ Err trap
      by (Err t) is = is ∙ sym (ap (with_front front) is) ∙ e
      by (Ok folds) is = let never = sym (ap (with_front front) is) ∙ e in cc

  -- the scans of two halves, merged
  of-both : (n : ℕ) (front back : List (List ℤ)) (trap : Trap) → 1 ≤ length front → length front ≤ n → length back ≤ n →
      Sized elem front → Sized elem back →
      ((ys : List (List ℤ)) → length ys ≤ n → Sized elem ys → scan_of_up_to n operator ys ≡ Err trap → IsOperatorTrap elem operator trap) →
      both operator (scan_of_up_to n operator front) (scan_of_up_to n operator back) ≡ Err trap → IsOperatorTrap elem operator trap
  unfolding Fits
  of-both n front back trap many few_f few_b h k below e =
      by (scan_of_up_to n operator front) refl (scan_of_up_to n operator back) refl
    where
      by : (r : Scanned) → scan_of_up_to n operator front ≡ r → (q : Scanned) → scan_of_up_to n operator back ≡ q →
          IsOperatorTrap elem operator trap
      by (Err t) is q also =
          below front few_f h (is ∙ sym (ap (λ r. both operator r (scan_of_up_to n operator back)) is) ∙ e)
      by (Ok fs) is (Err t) also = below back few_b k (also ∙ sym (ap₂ (both operator) is also) ∙ e)
      by (Ok fs) is (Ok bs) also =
          let fits_f = subst (Fits (length front) elem) is (up_to-fits elem operator keeps n front few_f h) in
          let fits_b = subst (Fits (length back) elem) also (up_to-fits elem operator keeps n back few_b k) in
          of-merged fs bs trap (omega (arith, many, fits_f.0)) fits_f.1 fits_b.1 (sym (ap₂ (both operator) is also) ∙ e)

  of-scan : (n : ℕ) (xs : List (List ℤ)) (trap : Trap) → length xs ≤ n → Sized elem xs →
      scan_of_up_to n operator xs ≡ Err trap → IsOperatorTrap elem operator trap
  unfolding scan_of_up_to
  of-scan n [] trap few h e = cc
  of-scan n (x ∷ []) trap few h e = cc
  of-scan zero (x ∷ (y ∷ xs)) trap few h e = absurd (omega arith)
  of-scan (suc n) (x ∷ (y ∷ xs)) trap few h e =
      let all : List (List ℤ) = x ∷ (y ∷ xs) in
      let short = half_length n all few (omega arith) in
      of-both n (take (length all / 2) all) (drop (length all / 2) all) trap (omega (arith, length-take (length all / 2) all))
      short.0 short.1 (sized-take elem (length all / 2) all h) (sized-drop elem (length all / 2) all h)
      (λ ys less sized is. of-scan n ys trap less sized is) e

  of-step : (s : ℕ) (xs : List (List ℤ)) (trap : Trap) → length xs ≡ 2 ^ s * size → Sized elem xs →
      stepped operator (step_node s) xs ≡ Err trap → IsOperatorTrap elem operator trap
  of-step zero xs trap count h e = of-scan (length xs) xs trap (omega arith) h e
  of-step (suc s) xs trap count h e =
      let half : ℕ = length xs / 2 in
      let late : nat_le (step_node (suc s)) 2 ≡ false = search (arith, nat_tests) in
      let many : 2 ≤ length xs = several size elem some_size some operator keeps s (length xs) count in
      let is : stepped operator (step_node (suc s)) xs ≡ merged_halves operator xs = rw late refl in
      of-merged (take half xs) (drop half xs) trap (omega (arith, length-take half xs, many)) (sized-take elem half xs h)
      (sized-drop elem half xs h) (sym is ∙ e)

  of-words : (r : Scanned) (trap : Trap) → in_words r ≡ Trapped trap → r ≡ Err trap
  of-words (Ok folds) trap e = cc
  of-words (Err t) trap e = let own : t ≡ trap = cc in ap (λ z. Err z) own

  of-block : (s : ℕ) (block : List ℤ) (trap : Trap) → length block ≡ 2 ^ s * words →
      block_outcome elem operator s block ≡ Trapped trap → IsOperatorTrap elem operator trap
  of-block s block trap long e =
      let xs : List (List ℤ) = elements elem block in
      let whole : length block ≡ 2 ^ s * size * elem = long ∙ sym (mul_assoc (2 ^ s) size elem) in
      let are = elements-are (2 ^ s * size) elem block some whole in
      of-step s xs trap (elements-count (2 ^ s * size) elem block some whole) are.1
      (of-words (stepped operator (step_node s) xs) trap e)

  of-stage : (s n b : ℕ) (ws : List ℤ) (trap : Trap) → b ≡ 2 ^ s * words → length ws ≡ n * b →
      stage_outcome elem operator s n b ws ≡ Trapped trap → IsOperatorTrap elem operator trap
  of-stage s n b ws trap wide long e =
      let found = of-row b (block_outcome elem operator s) (pieces n b ws) trap (pieces-sized n b ws long) e in
      of-block s found.0 trap (found.1 ∙ wide) found.2

  of-stages : (more s b : ℕ) (ws : List ℤ) (trap : Trap) → s + more ≡ d → b ≡ 2 ^ s * words → length ws ≡ 2 ^ more * b →
      staged elem operator s more b ws ≡ Trapped trap → IsOperatorTrap elem operator trap
  unfolding staged
  of-stages zero s b ws trap all wide long e = of-stage s 1 b ws trap wide long e
  of-stages (suc more) s b ws trap all wide long e =
      let left : 2 ^ suc more ≡ 2 ^ (d - s) = let rest : suc more ≡ d - s = omega (arith, all) in ap (λ k. 2 ^ k) rest in
      let is = stage-is s (2 ^ suc more) b ws (omega (arith, all)) left wide long in
      let twice : 2 ^ suc more * b ≡ 2 ^ more * (2 * b) = sym (doubled more b) in
      by (stage_outcome elem operator s (2 ^ suc more) b ws) refl
      (λ v fits also. of-stages more (suc s) (2 * b) v trap (omega (arith, all)) (ap (λ z. 2 * z) wide ∙ grown s words) fits also)
      (subst (λ o. HasLength (2 ^ more * (2 * b)) o) is.0 (subst (λ n. HasLength n (part (stage_node s) ws)) twice is.1))
    where
      by : (o : Outcome) → stage_outcome elem operator s (2 ^ suc more) b ws ≡ o →
          ((v : List ℤ) → length v ≡ 2 ^ more * (2 * b) → staged elem operator (suc s) more (2 * b) v ≡ Trapped trap →
          IsOperatorTrap elem operator trap) →
          HasLength (2 ^ more * (2 * b)) (stage_outcome elem operator s (2 ^ suc more) b ws) → IsOperatorTrap elem operator trap
      by (Trapped t) is below fits =
          of-stage s (2 ^ suc more) b ws trap wide long
          (is ∙ sym (ap (on_value (staged elem operator (suc s) more (2 * b))) is) ∙ e)
      by (Value v) is below fits =
          let long_v : length v ≡ 2 ^ more * (2 * b) = subst (HasLength (2 ^ more * (2 * b))) is fits in
          below v long_v (sym (ap (on_value (staged elem operator (suc s) more (2 * b))) is) ∙ e)

  pub traps-as-the-operator : TrapsAsTheOperator d (size * elem) elem (step_leaf elem operator) operator
  traps-as-the-operator ws trap long e =
      let one : words ≡ 2 ^ 0 * words = omega arith in
      of-stages d 0 words ws trap (omega arith) one long (sym (goes-by-stages ws long) ∙ e)
