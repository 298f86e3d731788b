-- Lists that are built one after the other, and what a stage adds to those of a plan.
use Rattle.std.proofs.Common.{◌≡◌, ℕ, zero, suc, ◌+◌, ◌-◌, ◌*◌, ◌^◌, ◌<◌, ◌≤◌, List, [], ◌∷◌, ◌++◌, length, refl, arith, ap, sym, ◌∙◌, append_assoc}
use Rattle.p3l_scan.specs.Plan.{counts_of, infos_of, numbers_of, stage_info, stage_node, stage_of, stages_from, step_info, step_of}

pub one_more : {X : Type 0} (old middle new xs ys : List X) (x : X) → middle ≡ old ++ x ∷ [] → new ≡ middle ++ ys →
    xs ≡ x ∷ ys → new ≡ old ++ xs
one_more old middle new xs ys x a b e =
    b ∙ ap (λ z. z ++ ys) a ∙ append_assoc old (x ∷ []) ys ∙ ap (λ z. old ++ z) (sym e)

pub two_more : {X : Type 0} (old first middle new xs ys : List X) (x y : X) → first ≡ old ++ x ∷ [] →
    middle ≡ first ++ y ∷ [] → new ≡ middle ++ ys → xs ≡ x ∷ (y ∷ ys) → new ≡ old ++ xs
two_more old first middle new xs ys x y a b c e =
    one_more old first new xs (y ∷ ys) x a (one_more first middle new (y ∷ ys) ys y b c refl) e

pub two_last : {X : Type 0} (old first middle xs : List X) (x y : X) → first ≡ old ++ x ∷ [] → middle ≡ first ++ y ∷ [] →
    xs ≡ x ∷ (y ∷ []) → middle ≡ old ++ xs
two_last old first middle xs x y a b e = one_more old first middle xs (y ∷ []) x a b e

pub counts-more : (more : ℕ) → 0 < more → counts_of more ≡ 2 ^ more ∷ counts_of (more - 1)
unfolding counts_of
counts-more zero l = absurd (omega arith)
counts-more (suc m) l = let e : m ≡ suc m - 1 = omega arith in ap (λ k. 2 ^ suc m ∷ counts_of k) e

pub counts-last : (more : ℕ) → more ≤ 0 → counts_of more ≡ 2 ^ more ∷ []
unfolding counts_of
counts-last zero l = refl
counts-last (suc m) l = absurd (omega arith)

pub numbers-more : (s more : ℕ) → 0 < more → numbers_of s more ≡ stage_node s ∷ numbers_of (s + 1) (more - 1)
unfolding numbers_of
numbers-more s zero l = absurd (omega arith)
numbers-more s (suc m) l =
    let e : m ≡ suc m - 1 = omega arith in
    let n : suc s ≡ s + 1 = omega arith in
    ap (λ k. stage_node s ∷ numbers_of (suc s) k) e ∙ ap (λ k. stage_node s ∷ numbers_of k (suc m - 1)) n

pub numbers-last : (s more : ℕ) → more ≤ 0 → numbers_of s more ≡ stage_node s ∷ []
unfolding numbers_of
numbers-last s zero l = refl
numbers-last s (suc m) l = absurd (omega arith)

pub infos-more : (more : ℕ) → 0 < more → infos_of more ≡ stage_info ∷ (step_info ∷ infos_of (more - 1))
unfolding infos_of
infos-more zero l = absurd (omega arith)
infos-more (suc m) l = let e : m ≡ suc m - 1 = omega arith in ap (λ k. stage_info ∷ (step_info ∷ infos_of k)) e

pub infos-last : (more : ℕ) → more ≤ 0 → infos_of more ≡ stage_info ∷ (step_info ∷ [])
unfolding infos_of
infos-last zero l = refl
infos-last (suc m) l = absurd (omega arith)

pub stages-more : (s more words : ℕ) → 0 < more →
    stages_from s more words ≡ stage_of s (2 ^ more) words ∷ (step_of s words ∷ stages_from (s + 1) (more - 1) (2 * words))
unfolding stages_from
stages-more s zero words l = absurd (omega arith)
stages-more s (suc m) words l =
    let e : m ≡ suc m - 1 = omega arith in
    let n : suc s ≡ s + 1 = omega arith in
    ap (λ k. stage_of s (2 ^ suc m) words ∷ (step_of s words ∷ stages_from (suc s) k (2 * words))) e
    ∙ ap (λ k. stage_of s (2 ^ suc m) words ∷ (step_of s words ∷ stages_from k (suc m - 1) (2 * words))) n

pub stages-last : (s more words : ℕ) → more ≤ 0 → stages_from s more words ≡ stage_of s (2 ^ more) words ∷ (step_of s words ∷ [])
unfolding stages_from
stages-last s zero words l = refl
stages-last s (suc m) words l = absurd (omega arith)

pub counts-length : (more : ℕ) → length (counts_of more) ≡ suc more
unfolding counts_of
counts-length zero = refl
counts-length (suc more) = ap suc (counts-length more)
