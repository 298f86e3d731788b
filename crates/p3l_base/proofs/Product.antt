use Rattle.std.proofs.Common.{◌≡◌, ℕ, ◌+◌, ◌*◌, ◌%◌, ◌<◌, List, ◌∷◌, length, get_or, drop, sym, ap, ◌∙◌}
use Rattle.std.proofs.lemmas.List.{drop_more}
use Rattle.std.proofs.lemmas.Nat.{mul-mod_first}
use Rattle.std.proofs.Math.Nat.{mul_assoc}

-- one factor more of a product that wraps
pub product_more : {X : Type 0} (F : List X → ℕ) (g : X → ℕ) → ((x : X) (xs : List X) → F (x ∷ xs) ≡ g x * F xs) → (m p k : ℕ) (xs : List X) (d : X) → k < length xs → (p * g (get_or xs k d) % m * F (drop (k + 1) xs)) % m ≡ (p * F (drop k xs)) % m
product_more F g step m p k xs d h =
    let x = get_or xs k d in
    let rest = drop (k + 1) xs in
    let parts : F (drop k xs) ≡ g x * F rest = ap F (drop_more xs k d h) ∙ step x rest in
    mul-mod_first (p * g x) (F rest) m ∙ ap (λ n. n % m) (mul_assoc p (g x) (F rest) ∙ ap (λ n. p * n) (sym parts))
