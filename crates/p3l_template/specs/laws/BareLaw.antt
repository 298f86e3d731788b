-- Functions that look at tags alone give the same for tokens without their outcomes.
use Rattle.std.proofs.Common.{◌≡◌, ℕ, zero, suc, ◌+◌, ◌&&◌, inl, inr, nat_eq, nat_le, nat_lt, Bool, true, false, List, [], ◌∷◌, ◌++◌, map, length, refl, sym, ap, ap₂, ◌∙◌}
use Rattle.std.proofs.lemmas.Bool.{cases_Bool, cond-true, cond-false}
use Rattle.std.proofs.lemmas.List.{map-append}
use Rattle.p3l_base.specs.declared.outcome.Outcome.{Outcome}
use Rattle.p3l_firing.specs.State.{State}
use Rattle.p3l_firing.specs.Token.{over, newest_tag, untagged}
use Rattle.p3l_firing.specs.declared.token.Token.{Token}
use Rattle.p3l_template.specs.Bag.{look, read, each_once, all_within, numbered}
use Rattle.p3l_template.specs.Part.{Part, line}
use Rattle.p3l_template.specs.Finding.{bare, bares, pending_of, line_of}

pub bares-bares : (xs : List Token) → bares (bares xs) ≡ bares xs
bares-bares [] = refl
bares-bares (x ∷ xs) = ap (λ z. bare x ∷ z) (bares-bares xs)

pub bares-over : (f : Outcome → Outcome) (xs : List Token) → bares (map (over f) xs) ≡ bares xs
bares-over f [] = refl
bares-over f (x ∷ xs) = ap (λ z. bare x ∷ z) (bares-over f xs)

pub bares-untagged : (xs : List Token) → bares (map untagged xs) ≡ map untagged (bares xs)
bares-untagged [] = refl
bares-untagged (x ∷ xs) = ap (λ z. bare (untagged x) ∷ z) (bares-untagged xs)

pub bares-length : (xs : List Token) → length (bares xs) ≡ length xs
bares-length [] = refl
bares-length (x ∷ xs) = ap suc (bares-length xs)

-- the line of a part
pub bares-line : (s : State) (P : Part) (input output : ℕ) → P.input ≡ input → P.output ≡ output →
    bares (line P s) ≡ line_of s input output (pending_of s P)
unfolding line
bares-line s P input output i o =
    map-append bare (s.tokens P.output) _
    ∙ ap₂ (λ a b. a ++ b) (ap (λ c. bares (s.tokens c)) o)
    (map-append bare (P.pending s) _
    ∙ ap₂ (λ a b. a ++ b) (sym (bares-bares (P.pending s)))
    (bares-over P.meaning (s.tokens P.input) ∙ ap (λ c. bares (s.tokens c)) i))

-- numbered tokens
pub look-bare : (k : ℕ) (xs : List Token) → look k (bares xs) ≡ bares (look k xs)
unfolding look
look-bare k [] = refl
look-bare k (x ∷ xs) =
    elim (cases_Bool (nat_eq (newest_tag x) k)) [
      | inl e ↦ cond-true _ _ _ e ∙ ap (λ z. bare (untagged x) ∷ z) (look-bare k xs) ∙ ap bares (sym (cond-true _ _ _ e))
      | inr e ↦ cond-false _ _ _ e ∙ look-bare k xs ∙ ap bares (sym (cond-false _ _ _ e))
    ]

pub read-bare : (xs : List Token) (c m : ℕ) → read (bares xs) c m ≡ bares (read xs c m)
unfolding read
read-bare xs c zero = refl
read-bare xs c (suc m) =
    ap₂ (λ a b. a ++ b) (look-bare c xs) (read-bare xs (suc c) m) ∙ sym (map-append bare (look c xs) _)

each_once-bare : (xs : List Token) (c m : ℕ) → each_once (bares xs) c m ≡ each_once xs c m
unfolding each_once
each_once-bare xs c zero = refl
each_once-bare xs c (suc m) =
    ap₂ (λ a b. nat_eq a 1 && b) (ap length (look-bare c xs) ∙ bares-length (look c xs)) (each_once-bare xs (suc c) m)

pub all_within-bare : (c d : ℕ) (xs : List Token) → all_within c d (bares xs) ≡ all_within c d xs
unfolding all_within
all_within-bare c d [] = refl
all_within-bare c d (x ∷ xs) =
    ap (λ b. (nat_le c (newest_tag x) && nat_lt (newest_tag x) d) && b) (all_within-bare c d xs)

pub numbered-bare : (xs : List Token) (c : ℕ) → numbered (bares xs) c ≡ numbered xs c
numbered-bare xs c =
    ap₂ (λ m n. each_once (bares xs) c m && all_within c (c + n) (bares xs)) (bares-length xs) (bares-length xs)
    ∙ ap₂ (λ a b. a && b) (each_once-bare xs c (length xs)) (all_within-bare c (c + length xs) xs)

-- truth values
pub and-true : (a : Bool) → (a && true) ≡ a
and-true true = refl
and-true false = refl

pub and-assoc : (a b c : Bool) → ((a && b) && c) ≡ (a && (b && c))
and-assoc true b c = refl
and-assoc false b c = refl

pub and-swap : (a b : Bool) → (a && b) ≡ (b && a)
and-swap true true = refl
and-swap true false = refl
and-swap false true = refl
and-swap false false = refl
