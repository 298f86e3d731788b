-- A value that a node gives has the node's out words.
use Rattle.std.proofs.Common.{◌≡◌, ℕ, ℤ, zero, suc, ◌+◌, ◌*◌, ◌/◌, ◌<◌, ◌≤◌, Bool, true, false, if◌then◌else◌, Option, Some, None, List, [], ◌∷◌, ◌++◌, take, drop, length, map, refl, arith, ap, sym, ◌∙◌, subst, length-append, length-take, length-drop}
use Rattle.std.proofs.lemmas.List.{length-replicate}
use Rattle.std.specs.List.{range_with_len}
use Rattle.std.proofs.Math.Nat.{mul-div_cancel, mul-zero, mul_comm}
use Rattle.std.proofs.lemmas.List.FromFn.{length-range_with_len}
use Rattle.p3l_base.specs.declared.outcome.Outcome.{Outcome}
use Rattle.p3l_base.specs.declared.outcome.Outcome.TheVariants.{Value, Trapped}
use Rattle.p3l_base.specs.declared.slice.Dim.{Dim}
use Rattle.p3l_base.specs.declared.slice.Slice.{Slice}
use Rattle.p3l_base.specs.Slice.{array_size, cut_size}
use Rattle.p3l_base.specs.Cut.{token_size, array_words, arrays_words, result_word, joined_words, next_first, next_second, next_place}
use Rattle.p3l_base.specs.laws.Slice.{length-flat_map_same}
use Rattle.p3l_skel.specs.declared.tree.Form.{Form}
use Rattle.p3l_skel.specs.declared.tree.Form.TheVariants.{Seq, Comp, Pipe, Farm, Map, Reduce, Loop}
use Rattle.p3l_skel.specs.declared.tree.Tree.{Tree}
use Rattle.p3l_skel.specs.Tree.{node_at, rescue_of, FitsForm, HasFittingLength, HasLength, GivesOuts}
use Rattle.p3l_skel.specs.Fold.{combined, fold_of_up_to, tree_fold}
use Rattle.p3l_skel.specs.Item.{on_value, in_order, gathered, map_outcomes, pieces, reduced, is_done, turned, turns_spent, rescued, rescued_at, item_row, item_to, item}
use Rattle.p3l_skel.specs.Lawful.{IsChain, IsLawfulForm, IsLawfulTree, IsSubtree, AreSubtrees, IsSize}
use Rattle.p3l_skel.proofs.Depth.{item_to-step, lawful_at, subtree_at}

-- the words of an array
length-array_words : (word : ℕ → ℕ → ℕ → ℤ) (dims : List Dim) (i j at : ℕ) → length (array_words word dims i j at) ≡ array_size dims
length-array_words word [] i j at = refl
length-array_words word (d ∷ ds) i j at =
    length-flat_map_same _ (array_size ds) (λ k. length-array_words word ds (next_first d.place k i) (next_second d.place k j) (next_place d.place k (cut_size ds) at)) (range_with_len 0 d.size)
    ∙ ap (λ n. n * array_size ds) (length-range_with_len 0 d.size)

length-arrays_words : (results : List (List ℤ)) (second : ℕ) (slices : List Slice) (at : ℕ) → length (arrays_words results second slices at) ≡ token_size slices
length-arrays_words results second [] at = refl
length-arrays_words results second (s ∷ ss) at =
    omega (arith, length-append (array_words (result_word results second) s.dims 0 0 at) (arrays_words results second ss (at + cut_size s.dims)), length-array_words (result_word results second) s.dims 0 0 at, length-arrays_words results second ss (at + cut_size s.dims))

-- gathered outcomes have n words if each join has n words, whatever the results
gathered-keeps : (join : List (List ℤ) → List ℤ) (n : ℕ) (outcomes : List Outcome) → ((results : List (List ℤ)) → length (join results) ≡ n) → HasLength n (gathered join outcomes)
gathered-keeps join n [] kept = kept []
gathered-keeps join n (Trapped trap ∷ outcomes) kept = tt
gathered-keeps join n (Value words ∷ outcomes) kept =
    gathered-keeps (λ results. join (words ∷ results)) n outcomes (λ results. kept (words ∷ results))

-- each outcome of a list has n words if it is a value
AllLong : ℕ → List Outcome → Type 0
AllLong n [] = Unit {0}
AllLong n (x ∷ xs) = HasLength n x × AllLong n xs

AllLong-take : (n k : ℕ) (xs : List Outcome) → AllLong n xs → AllLong n (take k xs)
unfolding AllLong
AllLong-take n zero xs long = tt
AllLong-take n (suc k) [] long = tt
AllLong-take n (suc k) (x ∷ xs) long = (long.0, AllLong-take n k xs long.1)

AllLong-drop : (n k : ℕ) (xs : List Outcome) → AllLong n xs → AllLong n (drop k xs)
unfolding AllLong
AllLong-drop n zero xs long = long
AllLong-drop n (suc k) [] long = tt
AllLong-drop n (suc k) (x ∷ xs) long = AllLong-drop n k xs long.1

combined-keeps : (operator : List ℤ → Outcome) (n : ℕ) (x y : Outcome) → ((words : List ℤ) → length words ≡ 2 * n → HasLength n (operator words)) → HasLength n x → HasLength n y → HasLength n (combined operator x y)
combined-keeps operator n (Trapped trap) y kept left right = tt
combined-keeps operator n (Value v) (Trapped trap) kept left right = tt
combined-keeps operator n (Value v) (Value w) kept left right = kept (v ++ w) (omega (arith, length-append v w))

fold-keeps : (operator : List ℤ → Outcome) (n m : ℕ) (xs : List Outcome) → ((words : List ℤ) → length words ≡ 2 * n → HasLength n (operator words)) → 1 ≤ length xs → AllLong n xs → HasLength n (fold_of_up_to m operator xs)
unfolding fold_of_up_to AllLong
fold-keeps operator n zero [] kept some long = absurd (omega arith)
fold-keeps operator n zero (x ∷ []) kept some long = long.0
fold-keeps operator n zero (x ∷ (y ∷ xs)) kept some long = long.0
fold-keeps operator n (suc m) [] kept some long = absurd (omega arith)
fold-keeps operator n (suc m) (x ∷ []) kept some long = long.0
fold-keeps operator n (suc m) (x ∷ (y ∷ xs)) kept some long =
    let all : List Outcome = x ∷ (y ∷ xs) in
    let h : ℕ = length all / 2 in
    combined-keeps operator n _ _ kept
    (fold-keeps operator n m (take h all) kept (omega (arith, length-take h all)) (AllLong-take n h all long))
    (fold-keeps operator n m (drop h all) kept (omega (arith, length-drop h all)) (AllLong-drop n h all long))

-- the elements that words are cut into
pieces-long : (k size : ℕ) (words : List ℤ) → length words ≡ k * size → (length (map (λ e. Value e) (pieces k size words)) ≡ k) × AllLong size (map (λ e. Value e) (pieces k size words))
unfolding AllLong
pieces-long zero size words fits = (refl, tt)
pieces-long (suc k) size words fits =
    let rest : length (drop size words) ≡ k * size = omega (arith, length-drop size words, fits) in
    let first : length (take size words) ≡ size = omega (arith, length-take size words, fits) in
    let more = pieces-long k size (drop size words) rest in
    (ap suc more.0, (first, more.1))

after_answer : (n : ℕ) (again : List ℤ → Outcome) (answer : Bool) (result : List ℤ) → length result ≡ n → HasLength n (again result) → HasLength n (if answer then Value result else again result)
after_answer n again true result long more = long
after_answer n again false result long more = more

after_condition : (n : ℕ) (again : List ℤ → Outcome) (answer : Outcome) (result : List ℤ) → length result ≡ n → HasLength n (again result) → HasLength n (on_value (λ a. if is_done a then Value result else again result) answer)
after_condition n again (Trapped trap) result long more = tt
after_condition n again (Value a) result long more = after_answer n again (is_done a) result long more

after_body : (n : ℕ) (again condition : List ℤ → Outcome) (outcome : Outcome) → HasLength n outcome → ((result : List ℤ) → length result ≡ n → HasLength n (again result)) → HasLength n (on_value (λ result. on_value (λ a. if is_done a then Value result else again result) (condition result)) outcome)
after_body n again condition (Trapped trap) long more = tt
after_body n again condition (Value result) long more =
    after_condition n again (condition result) result long (more result long)

turned-keeps : (body condition : List ℤ → Outcome) (spent : Outcome) (n t : ℕ) (words : List ℤ) → HasLength n spent → ((v : List ℤ) → length v ≡ n → HasLength n (body v)) → length words ≡ n → HasLength n (turned body condition spent t words)
turned-keeps body condition spent n zero words last kept fits = last
turned-keeps body condition spent n (suc t) words last kept fits =
    after_body n (turned body condition spent t) condition (body words) (kept words fits)
    (λ result long. turned-keeps body condition spent n t result last kept long)

-- a rescued outcome has the wanted number of words
rescued-keeps : (number : Option ℤ) (outs : ℕ) (outcome : Outcome) → HasLength outs outcome → HasLength outs (rescued number outs outcome)
rescued-keeps None outs outcome long = long
rescued-keeps (Some number) outs (Value words) long = long
rescued-keeps (Some number) outs (Trapped trap) long = length-replicate outs number

-- a factor of a positive product is positive
pub some_factor : (n m product : ℕ) → 1 ≤ product → product ≡ n * m → 0 < m
some_factor n zero product some same = let e : n * zero ≡ 0 = mul-zero n in absurd (omega arith)
some_factor n (suc m) product some same = omega arith

module _ (tree : Tree) (part : ℕ → List ℤ → Outcome) where
  -- a part gives its out words where it takes its in words
  Keeps : ℕ → Type 0
  Keeps p = (words : List ℤ) → length words ≡ (node_at tree p).ins → HasLength (node_at tree p).outs (part p words)

  AllKeep : List ℕ → Type 0
  AllKeep [] = Unit {0}
  AllKeep (p ∷ ps) = Keeps p × AllKeep ps

  on_value-keeps : (p ins : ℕ) (outcome : Outcome) → Keeps p → (node_at tree p).ins ≡ ins → HasLength ins outcome → HasLength (node_at tree p).outs (on_value (part p) outcome)
  unfolding Keeps
  on_value-keeps p ins (Trapped trap) kept same long = tt
  on_value-keeps p ins (Value words) kept same long = kept words (long ∙ sym same)

  in_order-keeps : (ps : List ℕ) (ins outs : ℕ) (outcome : Outcome) → IsChain tree ins outs ps → AllKeep ps → HasLength ins outcome → HasLength outs (in_order part ps outcome)
  unfolding AllKeep
  in_order-keeps [] ins outs outcome chain kept long = subst (λ n. HasLength n outcome) chain long
  in_order-keeps (p ∷ ps) ins outs outcome chain kept long =
      in_order-keeps ps (node_at tree p).outs outs (on_value (part p) outcome) chain.2 kept.1 (on_value-keeps p ins outcome kept.0 chain.1 long)

  -- a node of a lawful form gives its out words
  row-keeps : (rescue : Outcome → Outcome) (leaf : ℕ → List ℤ → Outcome) (home : ℕ) (form : Form) (ins outs : ℕ) (parts : List ℕ) (words : List ℤ) → IsSize ins → IsLawfulForm tree form ins outs parts → AllKeep parts → ((outcome : Outcome) → HasLength outs outcome → HasLength outs (rescue outcome)) → (form ≡ Seq → length words ≡ ins → HasLength outs (leaf home words)) → FitsForm form ins (length words) → HasLength outs (item_row rescue leaf home form parts part words)
  unfolding AllKeep Keeps
  row-keeps rescue leaf home Seq ins outs parts words sized lawful kept rescues own fits = rescues _ (own refl fits)
  row-keeps rescue leaf home Comp ins outs parts words sized lawful kept rescues own fits =
      rescues _ (in_order-keeps parts ins outs (Value words) lawful.1 kept fits)
  row-keeps rescue leaf home Pipe ins outs parts words sized lawful kept rescues own fits =
      in_order-keeps parts ins outs (Value words) lawful.1 kept fits
  row-keeps rescue leaf home (Farm w) ins outs [] words sized lawful kept rescues own fits = absurd lawful
  row-keeps rescue leaf home (Farm w) ins outs (p ∷ []) words sized lawful kept rescues own fits =
      subst (λ n. HasLength n (part p words)) lawful.gives (kept.0 words (fits ∙ sym lawful.takes))
  row-keeps rescue leaf home (Farm w) ins outs (p ∷ (q ∷ ps)) words sized lawful kept rescues own fits = absurd lawful
  row-keeps rescue leaf home (Map w cut) ins outs [] words sized lawful kept rescues own fits = absurd lawful
  row-keeps rescue leaf home (Map w cut) ins outs (p ∷ []) words sized lawful kept rescues own fits =
      gathered-keeps (joined_words cut) outs (map_outcomes cut (part p) words) (λ results. length-arrays_words results cut.second cut.outs 0 ∙ lawful.cuts.outs_end)
  row-keeps rescue leaf home (Map w cut) ins outs (p ∷ (q ∷ ps)) words sized lawful kept rescues own fits = absurd lawful
  row-keeps rescue leaf home (Reduce w len elem) ins outs [] words sized lawful kept rescues own fits = absurd lawful
  row-keeps rescue leaf home (Reduce w len elem) ins outs (p ∷ []) words sized lawful kept rescues own fits =
      let some : 0 < elem = some_factor len elem ins sized.0 lawful.elements in
      let count : length words / elem ≡ fits.0 = ap (λ n. n / elem) fits.2 ∙ mul-div_cancel fits.0 some in
      let cut = pieces-long fits.0 elem words fits.2 in
      let filled : 1 ≤ length (map (λ e. Value e) (pieces fits.0 elem words)) = omega (arith, cut.0, fits.1) in
      let operator : (v : List ℤ) → length v ≡ 2 * elem → HasLength elem (part p v) = (λ v long. subst (λ n. HasLength n (part p v)) lawful.operator.gives (kept.0 v (long ∙ sym lawful.operator.takes))) in
      let folded : HasLength elem (tree_fold (part p) (map (λ e. Value e) (pieces fits.0 elem words))) = fold-keeps (part p) elem _ _ operator filled cut.1 in
      subst (λ n. HasLength n (reduced elem (part p) words)) (sym lawful.result)
      (subst (λ k. HasLength elem (tree_fold (part p) (map (λ e. Value e) (pieces k elem words)))) (sym count) folded)
  row-keeps rescue leaf home (Reduce w len elem) ins outs (p ∷ (q ∷ ps)) words sized lawful kept rescues own fits = absurd lawful
  row-keeps rescue leaf home (Loop turns tokens) ins outs [] words sized lawful kept rescues own fits = absurd lawful
  row-keeps rescue leaf home (Loop turns tokens) ins outs (p ∷ []) words sized lawful kept rescues own fits = absurd lawful
  row-keeps rescue leaf home (Loop turns tokens) ins outs (p ∷ (q ∷ [])) words sized lawful kept rescues own fits =
      let loop = lawful.parts in
      turned-keeps (part p) (part q) (turns_spent home) outs turns words tt
      (λ v long. subst (λ n. HasLength n (part p v)) loop.turned.gives (kept.0 v (long ∙ (sym loop.same_words ∙ sym loop.turned.takes))))
      (fits ∙ loop.same_words)
  row-keeps rescue leaf home (Loop turns tokens) ins outs (p ∷ (q ∷ (r ∷ ps))) words sized lawful kept rescues own fits = absurd lawful

-- a lawful node may take its in words
pub fits-ins : (tree : Tree) (form : Form) (ins outs : ℕ) (parts : List ℕ) (n : ℕ) → IsSize ins → IsLawfulForm tree form ins outs parts → n ≡ ins → FitsForm form ins n
fits-ins tree Seq ins outs parts n sized lawful same = same
fits-ins tree Comp ins outs parts n sized lawful same = same
fits-ins tree Pipe ins outs parts n sized lawful same = same
fits-ins tree (Farm w) ins outs parts n sized lawful same = same
fits-ins tree (Map w cut) ins outs parts n sized lawful same = same
fits-ins tree (Reduce w len elem) ins outs [] n sized lawful same = absurd lawful
fits-ins tree (Reduce w len elem) ins outs (p ∷ []) n sized lawful same =
    let swapped : ins ≡ elem * len = lawful.elements ∙ mul_comm len elem in
    (len, some_factor elem len ins sized.0 swapped, same ∙ lawful.elements)
fits-ins tree (Reduce w len elem) ins outs (p ∷ (q ∷ ps)) n sized lawful same = absurd lawful
fits-ins tree (Loop turns tokens) ins outs parts n sized lawful same = same

IsSubtree-inside : (d : ℕ) (tree : Tree) (k next : ℕ) → IsSubtree d tree k next → k < length tree.nodes
unfolding IsSubtree
IsSubtree-inside zero tree k next subtree = absurd subtree
IsSubtree-inside (suc d) tree k next subtree = subtree.0

module _ (tree : Tree) (leaf : ℕ → List ℤ → Outcome) (lawful : IsLawfulTree tree) (gives : GivesOuts tree leaf) where
  parts-keep : (d : ℕ) → ((k next : ℕ) (words : List ℤ) → IsSubtree d tree k next → FitsForm (node_at tree k).form (node_at tree k).ins (length words) → HasLength (node_at tree k).outs (item_to tree leaf d k words)) → (ps : List ℕ) (from next : ℕ) → AreSubtrees (IsSubtree d tree) ps from next → AllKeep tree (item_to tree leaf d) ps
  unfolding AllKeep Keeps
  parts-keep d kept [] from next subtrees = tt
  parts-keep d kept (p ∷ ps) from next subtrees = (
    λ words long. let node = lawful_at tree lawful p (IsSubtree-inside d tree p subtrees.1.0 subtrees.1.1) in
        kept p subtrees.1.0 words subtrees.1.1 (fits-ins tree (node_at tree p).form (node_at tree p).ins (node_at tree p).outs (node_at tree p).parts (length words) node.ins node.form long),
    parts-keep d kept ps subtrees.1.0 next subtrees.1.2,
  )

  item_to-keeps : (d k next : ℕ) (words : List ℤ) → IsSubtree d tree k next → FitsForm (node_at tree k).form (node_at tree k).ins (length words) → HasLength (node_at tree k).outs (item_to tree leaf d k words)
  unfolding IsSubtree
  item_to-keeps zero k next words subtree fits = absurd subtree
  item_to-keeps (suc d) k next words subtree fits =
      let node = lawful_at tree lawful k subtree.0 in
      subst (λ (m : List ℤ → Outcome). HasLength (node_at tree k).outs (m words)) (sym (item_to-step tree leaf d k))
      (row-keeps tree (item_to tree leaf d) (rescued_at tree k) leaf (node_at tree k).module (node_at tree k).form (node_at tree k).ins (node_at tree k).outs (node_at tree k).parts words node.ins node.form
      (parts-keep d (λ j n w s f. item_to-keeps d j n w s f) (node_at tree k).parts (k + 1) next subtree.1)
      (rescued-keeps (rescue_of tree (node_at tree k).module) (node_at tree k).outs)
      (λ seq long. gives k words subtree.0 seq long) fits)

  -- a value that a node gives has the node's out words
  pub item-keeps : (k : ℕ) (words : List ℤ) → k < length tree.nodes → HasFittingLength tree k (length words) → HasLength (node_at tree k).outs (item tree leaf k words)
  item-keeps k words inside fits =
      let subtree = subtree_at tree lawful k inside in item_to-keeps 6 k subtree.0 words subtree.1 fits
