-- WHAT THE ROOT OF A PLAN MAKES OF AN ITEM: the scan of its elements, or a trap where that is one.
use Rattle.std.proofs.Common.{◌≡◌, ℕ, ℤ, zero, suc, ◌+◌, ◌-◌, ◌*◌, ◌^◌, ◌<◌, ◌≤◌, None, List, [], ◌∷◌, take, length, get_or, map, refl, arith, ap, ap₂, sym, ◌∙◌, subst, append-nil}
use Rattle.std.proofs.Math.Nat.{add-mul, mul-add, mul_assoc, pow-succ', suc-mul}
use Rattle.std.proofs.lemmas.List.{take_all}
use Rattle.p3l_base.specs.declared.outcome.Outcome.{Outcome}
use Rattle.p3l_base.specs.declared.outcome.Outcome.TheVariants.{Value, Trapped}
use Rattle.p3l_skel.specs.declared.tree.Node.{Node}
use Rattle.p3l_skel.specs.declared.tree.Tree.{Tree}
use Rattle.p3l_skel.specs.Item.{in_order, item, item_row, item_to, on_value, pieces, rescued}
use Rattle.p3l_skel.specs.Tree.{HasLength, no_module, rescue_of}
use Rattle.p3l_skel.proofs.Depth.{item_to-step}
use Rattle.p3l_scan.specs.Plan.{infos_of, numbers_of, plan_tree, stage_node, step_node}
use Rattle.p3l_scan.specs.Row.{in_row, with_next}
use Rattle.p3l_scan.specs.Scan.{in_words, scan}
use Rattle.p3l_scan.specs.Step.{step_leaf}
use Rattle.p3l_scan.specs.Value.{Agree}
use Rattle.p3l_scan.proofs.Blocks.{HaveLength, mapped-is}
use Rattle.p3l_scan.specs.laws.Step.{leaf_fits}
use Rattle.p3l_scan.specs.laws.Nodes.{root_is, stage_is, step_is}
use Rattle.p3l_scan.specs.laws.Powers.{grown, power_pos, whole_words}
use Rattle.p3l_scan.proofs.Scans.{Combines}
use Rattle.p3l_scan.proofs.Sized.{Sized, flat, pieces-sized}
use Rattle.p3l_scan.proofs.Halving.{Agree-same, chunks, first-stage, later-agrees, scans, scans-length}

infos-none : (more k : ℕ) → (get_or (infos_of more) k no_module).rescue ≡ None
unfolding infos_of
infos-none zero zero = refl
infos-none zero (suc zero) = refl
infos-none zero (suc (suc k)) = refl
infos-none (suc more) zero = refl
infos-none (suc more) (suc zero) = refl
infos-none (suc more) (suc (suc k)) = infos-none more k

-- no module of a plan has a rescue number
pub no-rescue : (d words home : ℕ) → rescue_of (plan_tree d words) home ≡ None
unfolding plan_tree
no-rescue d words zero = refl
no-rescue d words (suc home) = infos-none d home

same-map : (f g : List ℤ → Outcome) (xs : List (List ℤ)) → ((x : List ℤ) → f x ≡ g x) → map f xs ≡ map g xs
same-map f g [] h = refl
same-map f g (x ∷ xs) h = ap₂ (λ y ys. y ∷ ys) (h x) (same-map f g xs h)

pub all-have : (b : ℕ) (f : List ℤ → Outcome) (xs : List (List ℤ)) → ((x : List ℤ) → length x ≡ b → HasLength b (f x)) → Sized b xs →
    HaveLength b (map f xs)
unfolding HaveLength
all-have b f [] h sized = tt
all-have b f (x ∷ xs) h sized = (h x sized.0, all-have b f xs h sized.1)

module _ (d words elem : ℕ) (operator : List ℤ → Outcome) where
  abbrev tree : Tree
  tree = plan_tree d words

  abbrev leaf : ℕ → List ℤ → Outcome
  leaf = step_leaf elem operator

  abbrev pub row-at : (ℕ → List ℤ → Outcome) → List ℤ → Node → Outcome
  row-at part ws n =
      item_row (rescued (rescue_of (plan_tree d words) n.module) n.outs) (step_leaf elem operator) n.module n.form n.parts part ws

  -- a step
  pub step-item : (e s : ℕ) (ws : List ℤ) → s ≤ d → item_to tree leaf (suc e) (step_node s) ws ≡ leaf (step_node s) ws
  step-item e s ws l =
      ap (λ f. f ws) (item_to-step tree leaf e (step_node s))
      ∙ ap (row-at (item_to tree leaf e) ws) (step_is d words s l)
      ∙ ap (λ r. rescued r (2 ^ s * words) (leaf (step_node s) ws)) (no-rescue d words (step_node s))

  -- a stage
  pub stage-item : (e s : ℕ) (ws : List ℤ) → s ≤ d → length ws ≡ 2 ^ (d - s) * (2 ^ s * words) →
      item_to tree leaf (suc (suc e)) (stage_node s) ws
      ≡ in_row (map (leaf (step_node s)) (pieces (2 ^ (d - s)) (2 ^ s * words) ws))
  stage-item e s ws l long =
      let n : ℕ = 2 ^ (d - s) in
      let b : ℕ = 2 ^ s * words in
      let part : List ℤ → Outcome = item_to tree leaf (suc e) (step_node s) in
      ap (λ f. f ws) (item_to-step tree leaf (suc e) (stage_node s))
      ∙ ap (row-at (item_to tree leaf (suc e)) ws) (stage_is d words s l)
      ∙ mapped-is n b part ws (power_pos (d - s)) long
      (all-have b part (pieces n b ws)
      (λ x h. subst (HasLength b) (sym (step-item e s x l)) (leaf_fits elem operator (step_node s) b x h)) (pieces-sized n b ws long))
      ∙ ap in_row (same-map part (leaf (step_node s)) (pieces n b ws) (λ x. step-item e s x l))

pub times-pos : (a b : ℕ) → 0 < a → 1 ≤ b → 1 ≤ a * b
times-pos (suc a) b l h = omega (arith, suc-mul a b, h)
times-pos zero b l h = absurd (omega arith)

add-both : (a b : ℕ) → (a + a) * b ≡ a * (b + b)
add-both a b = omega (arith, mul-add a b b, add-mul a a b)

next-none : (outcome : Outcome) → with_next outcome (Value []) ≡ outcome
next-none (Trapped trap) = refl
next-none (Value words) = ap Value (append-nil words)

-- the numbers of the stages after one
rest-of : (s more : ℕ) → List ℕ
rest-of s zero = []
rest-of s (suc more) = numbers_of (suc s) more

numbers-first : (s more : ℕ) → numbers_of s more ≡ stage_node s ∷ rest-of s more
unfolding numbers_of rest-of
numbers-first s zero = refl
numbers-first s (suc more) = refl

module _ (d size elem : ℕ) (some_size : 1 ≤ size) (some : 0 < elem) (operator : List ℤ → Outcome)
    (keeps : Combines elem operator) (xs : List (List ℤ)) (sized : Sized elem xs) (long : length xs ≡ 2 ^ d * size) where
  abbrev part : ℕ → List ℤ → Outcome
  part = item_to (plan_tree d (size * elem)) (step_leaf elem operator) 5

  abbrev results : (n b : ℕ) → Outcome
  results n b = scans elem some operator keeps n b xs

  -- the stages that are left
  walk : (more s : ℕ) (outcome : Outcome) → s + more ≡ d → Agree outcome (results (2 ^ more) (2 ^ s * size)) →
      Agree (in_order part (rest-of s more) outcome) (results 1 (2 ^ d * size))
  unfolding rest-of
  walk zero s outcome e agree =
      let same : s ≡ d = omega (arith, e) in subst (λ k. Agree outcome (results 1 (2 ^ k * size))) same agree
  walk (suc more) s outcome e agree =
      let b : ℕ = 2 ^ s * size in
      let home : ℕ = step_node (suc s) in
      let low : suc s ≤ d = omega (arith, e) in
      let left : d - suc s ≡ more = omega (arith, e) in
      let twice : 2 ^ suc s * size ≡ b + b = sym (grown s size) ∙ omega arith in
      let blocks : 2 ^ suc more ≡ 2 ^ more + 2 ^ more = omega (arith, pow-succ' 2 more) in
      let all : length xs ≡ 2 ^ more * (b + b) =
      long ∙ sym (whole_words d (suc s) size low) ∙ ap₂ (λ m w. 2 ^ m * w) left twice in
      let words_are : 2 ^ suc s * (size * elem) ≡ (b + b) * elem =
      sym (mul_assoc (2 ^ suc s) size elem) ∙ ap (λ z. z * elem) twice in
      let next = later-agrees elem some operator keeps home (2 ^ more) b xs (part (stage_node (suc s))) outcome (omega arith)
      (times-pos (2 ^ s) size (power_pos s) some_size) all sized
      (λ words is.
      let many : (2 ^ more + 2 ^ more) * b ≡ 2 ^ more * (b + b) = add-both (2 ^ more) b in
      let fits : length words ≡ 2 ^ more * (b + b) * elem =
      subst (HasLength (2 ^ more * (b + b) * elem)) is
      (subst (λ m. HasLength (m * elem) (results (2 ^ more + 2 ^ more) b)) many
      (scans-length elem some operator keeps (2 ^ more + 2 ^ more) b xs (all ∙ sym many) sized)) in
      stage-item d (size * elem) elem operator 3 (suc s) words low
      (fits ∙ mul_assoc (2 ^ more) (b + b) elem
      ∙ ap₂ (λ m w. 2 ^ m * w) (sym left) (sym words_are))
      ∙ ap₂ (λ m w. in_row (map (step_leaf elem operator home) (pieces (2 ^ m) w words))) left words_are)
      (subst (λ m. Agree outcome (results m b)) blocks agree) in
      subst (λ ns. Agree (in_order part ns outcome) (results 1 (2 ^ d * size))) (sym (numbers-first (suc s) more))
      (walk more (suc s) (on_value (part (stage_node (suc s))) outcome) (omega (arith, e))
      (subst (λ w. Agree (on_value (part (stage_node (suc s))) outcome) (results (2 ^ more) w)) (sym twice) next))

  -- one block is the whole
  whole-scan : results 1 (2 ^ d * size) ≡ in_words (scan operator xs)
  unfolding chunks in_row
  whole-scan = next-none (in_words (scan operator (take (2 ^ d * size) xs)))
      ∙ ap (λ ys. in_words (scan operator ys)) (take_all (2 ^ d * size) xs (omega (arith, long)))

  pub root-agrees : (ws : List ℤ) → flat xs ≡ ws → length ws ≡ 2 ^ d * (size * elem) →
      Agree (item (plan_tree d (size * elem)) (step_leaf elem operator) 0 ws) (in_words (scan operator xs))
  root-agrees ws is count =
      let tree : Tree = plan_tree d (size * elem) in
      let none : d - 0 ≡ d = omega arith in
      let one : 1 * (size * elem) ≡ size * elem = omega arith in
      let same : 1 * size ≡ size = omega arith in
      let first : part (stage_node 0) ws ≡ results (2 ^ d) size =
      stage-item d (size * elem) elem operator 3 0 ws (omega arith)
      (count ∙ ap₂ (λ m w. 2 ^ m * w) (sym none) (sym one))
      ∙ ap₂ (λ m w. in_row (map (step_leaf elem operator 2) (pieces (2 ^ m) w ws))) none one
      ∙ ap (λ zs. in_row (map (step_leaf elem operator 2) (pieces (2 ^ d) (size * elem) zs))) (sym is)
      ∙ ap in_row (first-stage elem some operator keeps (2 ^ d) size xs long sized) in
      let root : item tree (step_leaf elem operator) 0 ws ≡ in_order part (stage_node 0 ∷ rest-of 0 d) (Value ws) =
      ap (λ f. f ws) (item_to-step tree (step_leaf elem operator) 5 0)
      ∙ ap (row-at d (size * elem) elem operator part ws) (root_is d (size * elem))
      ∙ ap (λ ns. in_order part ns (Value ws)) (numbers-first 0 d) in
      subst (λ o. Agree o (in_words (scan operator xs))) (sym root)
      (subst (Agree (in_order part (rest-of 0 d) (part (stage_node 0) ws))) whole-scan
      (walk d 0 (part (stage_node 0) ws) (omega arith)
      (subst (λ w. Agree (part (stage_node 0) ws) (results (2 ^ d) w)) (sym same)
      (subst (λ o. Agree o (results (2 ^ d) size)) (sym first) (Agree-same (results (2 ^ d) size))))))
