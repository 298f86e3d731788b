-- The nodes of a plan, by their numbers.
use Rattle.std.proofs.Common.{◌≡◌, ℕ, zero, suc, ◌+◌, ◌-◌, ◌*◌, ◌^◌, ◌<◌, ◌≤◌, ◌⊎◌, inl, inr, List, [], ◌∷◌, drop, length, get_or, refl, arith, ap, ap₂, sym, ◌∙◌}
use Rattle.p3l_skel.specs.declared.tree.Node.{Node}
use Rattle.p3l_skel.specs.Tree.{node_at, no_node}
use Rattle.p3l_scan.specs.Plan.{numbers_of, plan_tree, root_of, stage_node, stage_of, stages_from, step_node, step_of}
use Rattle.p3l_scan.specs.laws.Powers.{grown}

-- the `more` stages after stage `s`
pub later : (s more words : ℕ) → List Node
later s zero words = []
later s (suc more) words = stages_from (suc s) more (2 * words)

pub stages-first : (s more words : ℕ) →
    stages_from s more words ≡ stage_of s (2 ^ more) words ∷ (step_of s words ∷ later s more words)
unfolding stages_from later
stages-first s zero words = refl
stages-first s (suc more) words = refl

drop-two : {X : Type 0} (k : ℕ) (xs zs : List X) (x y : X) → drop k xs ≡ x ∷ (y ∷ zs) → drop (suc (suc k)) xs ≡ zs
drop-two zero xs zs x y e = ap (drop 2) e
drop-two (suc k) [] zs x y e = cc
drop-two (suc k) (w ∷ xs) zs x y e = drop-two k xs zs x y e

drop-first : {X : Type 0} (k : ℕ) (xs zs : List X) (x d : X) → drop k xs ≡ x ∷ zs → (get_or xs k d ≡ x) × (k < length xs)
drop-first zero (w ∷ xs) zs x d e = (ap (λ ys. get_or ys 0 d) e, omega arith)
drop-first zero [] zs x d e = cc
drop-first (suc k) [] zs x d e = cc
drop-first (suc k) (w ∷ xs) zs x d e = let r = drop-first k xs zs x d e in (r.0, omega (arith, r.1))

drop-one : {X : Type 0} (k : ℕ) (xs zs : List X) (x : X) → drop k xs ≡ x ∷ zs → drop (suc k) xs ≡ zs
drop-one zero xs zs x e = ap (drop 1) e
drop-one (suc k) [] zs x e = cc
drop-one (suc k) (w ∷ xs) zs x e = drop-one k xs zs x e

module _ (d words : ℕ) where
  abbrev nodes : List Node
  nodes = root_of d words ∷ stages_from 0 d words

  pub reached : (s : ℕ) → s ≤ d → drop (stage_node s) nodes ≡ stages_from s (d - s) (2 ^ s * words)
  unfolding later
  reached zero l = let e : d - 0 ≡ d = omega arith in let one : 1 * words ≡ words = omega arith in
      sym (ap₂ (λ m w. stages_from 0 m w) e one)
  reached (suc s) l =
      let before = reached s (omega (arith, l)) ∙ stages-first s (d - s) (2 ^ s * words) in
      let number : suc (suc (stage_node s)) ≡ stage_node (suc s) = omega arith in
      let left : d - s ≡ suc (d - suc s) = omega (arith, l) in
      sym (ap (λ k. drop k nodes) number)
      ∙ drop-two (stage_node s) nodes (later s (d - s) (2 ^ s * words)) (stage_of s (2 ^ (d - s)) (2 ^ s * words))
      (step_of s (2 ^ s * words)) before
      ∙ ap (λ m. later s m (2 ^ s * words)) left ∙ ap (stages_from (suc s) (d - suc s)) (grown s words)

  pub stage_is : (s : ℕ) → s ≤ d → node_at (plan_tree d words) (stage_node s) ≡ stage_of s (2 ^ (d - s)) (2 ^ s * words)
  unfolding plan_tree
  stage_is s l =
      let r = drop-first (stage_node s) nodes _ (stage_of s (2 ^ (d - s)) (2 ^ s * words)) no_node
      (reached s l ∙ stages-first s (d - s) (2 ^ s * words)) in r.0

  pub step_is : (s : ℕ) → s ≤ d → node_at (plan_tree d words) (step_node s) ≡ step_of s (2 ^ s * words)
  unfolding plan_tree
  step_is s l =
      let r = drop-first (step_node s) nodes (later s (d - s) (2 ^ s * words)) (step_of s (2 ^ s * words)) no_node
      (drop-one (stage_node s) nodes _ (stage_of s (2 ^ (d - s)) (2 ^ s * words))
      (reached s l ∙ stages-first s (d - s) (2 ^ s * words))) in r.0

  pub root_is : node_at (plan_tree d words) 0 ≡ root_of d words
  unfolding plan_tree
  root_is = refl

stages-length : (s more words : ℕ) → length (stages_from s more words) ≡ suc (suc (more + more))
unfolding stages_from
stages-length s zero words = refl
stages-length s (suc more) words = let h = stages-length (suc s) more (2 * words) in omega (arith, h)

pub nodes-length : (d words : ℕ) → length (plan_tree d words).nodes ≡ suc (suc (suc (d + d)))
unfolding plan_tree
nodes-length d words = ap suc (stages-length 0 d words)

parity : (k : ℕ) → ((s : ℕ) × (k ≡ s + s)) ⊎ ((s : ℕ) × (k ≡ suc (s + s)))
parity zero = inl (0, refl)
parity (suc k) = elim (parity k) [
  | inl h ↦ inr (h.0, ap suc h.1)
  | inr h ↦ inl (suc h.0, omega (arith, h.1))
]

-- a node of a plan is the root, a stage or a step
pub node-cases : (d k : ℕ) → k < suc (suc (suc (d + d))) →
    (k ≡ 0) ⊎ (((s : ℕ) × (s ≤ d) × (k ≡ stage_node s)) ⊎ ((s : ℕ) × (s ≤ d) × (k ≡ step_node s)))
node-cases d zero l = inl refl
node-cases d (suc k) l = elim (parity k) [
  | inl h ↦ inr (inl (h.0, omega (arith, l, h.1), ap suc h.1))
  | inr h ↦ inr (inr (h.0, omega (arith, l, h.1), ap suc h.1))
]

pub numbers-length : (s more : ℕ) → length (numbers_of s more) ≡ suc more
unfolding numbers_of
numbers-length s zero = refl
numbers-length s (suc more) = ap suc (numbers-length (suc s) more)

pub numbers-at : (s more j : ℕ) → j ≤ more → get_or (numbers_of s more) j 0 ≡ stage_node (s + j)
unfolding numbers_of
numbers-at s zero zero l = omega arith
numbers-at s zero (suc j) l = absurd (omega (arith, l))
numbers-at s (suc more) zero l = omega arith
numbers-at s (suc more) (suc j) l =
    let e : suc s + j ≡ s + suc j = omega arith in numbers-at (suc s) more j (omega (arith, l)) ∙ ap stage_node e
