-- Properties of the items already visited.
use Rattle.std.proofs.Common.{◌≡◌, ℕ, suc, ◌+◌, ◌<◌, ◌≤◌, List, length, take, get_or, sym, ap, ◌∙◌, subst, arith}
use Rattle.std.specs.List.{All}
use Rattle.std.proofs.Math.Seq.{take-suc}
use Rattle.std.proofs.lemmas.List.{take_all}
use Rattle.std.proofs.lemmas.List.Elements.{All-push}

pub one_more : {A : Type 0} (P : A → Type 0) (xs : List A) (i : ℕ) (d : A) → i < length xs → All P (take i xs) → P (get_or xs i d) →
    All P (take (i + 1) xs)
one_more P xs i d inside seen own =
    let next : i + 1 ≡ suc i = omega arith in
    subst (All P) (sym (ap (λ n. take n xs) next ∙ take-suc xs i d inside)) (All-push P (take i xs) (get_or xs i d) seen own)

pub all_seen : {A : Type 0} (P : A → Type 0) (xs : List A) (i : ℕ) → length xs ≤ i → All P (take i xs) → All P xs
all_seen P xs i ended seen = subst (All P) (take_all i xs ended) seen
