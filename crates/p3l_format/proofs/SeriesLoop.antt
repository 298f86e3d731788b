-- The steps of a loop that reads values up to a text.
use Rattle.std.proofs.Common.{◌≡◌, ℕ, zero, suc, List, [], ◌∷◌, ◌++◌, Some, None, Result, Ok, Err, refl, sym, ap, ◌∙◌}
use Rattle.std.proofs.lemmas.List.{append-nil}
use Rattle.p3l_format.specs.declared.fault.FieldFault.{FieldFault}
use Rattle.p3l_format.specs.declared.fault.ReadError.{ReadError}
use Rattle.p3l_format.specs.declared.fault.ReadError.TheVariants as errors
use Rattle.p3l_format.specs.Format.{Format, Fails}
use Rattle.p3l_format.specs.Text.{after_text}
use Rattle.p3l_format.specs.Series.{read_from}
use Rattle.p3l_format.proofs.Loop.{with_front, regroup}

pub until_stops : {P A : Type 0} (item : P → Format ℕ A) (next : A → P) (stop : List ℕ) (k : ℕ) (p : P) (s rest : List ℕ) (front : List A) (total : Result (List A × List ℕ) FieldFault)
    → after_text stop s ≡ Some rest → with_front front (read_from item next stop k p s) ≡ total → total ≡ Ok (front, rest)
until_stops item next stop zero p s rest front total is so_far = sym so_far ∙ rw is (ap (λ vs. Ok (vs, rest)) (append-nil front))
until_stops item next stop (suc k) p s rest front total is so_far = sym so_far ∙ rw is (ap (λ vs. Ok (vs, rest)) (append-nil front))

pub until_goes_on : {P A : Type 0} (item : P → Format ℕ A) (next : A → P) (stop : List ℕ) (k j : ℕ) (p : P) (s rest : List ℕ) (v : A) (front : List A) (total : Result (List A × List ℕ) FieldFault)
    → k ≡ suc j → after_text stop s ≡ None → (item p).read s ≡ Ok (v, rest) → with_front front (read_from item next stop k p s) ≡ total → with_front (front ++ v ∷ []) (read_from item next stop j (next v) rest) ≡ total
until_goes_on item next stop k j p s rest v front total e is read so_far =
    let one : with_front front (read_from item next stop k p s) ≡ with_front (front ++ v ∷ []) (read_from item next stop j (next v) rest) = rw (e, is, read) (regroup front v (read_from item next stop j (next v) rest)) in
    sym one ∙ so_far

pub until_fails : {P A : Type 0} (item : P → Format ℕ A) (next : A → P) (stop : List ℕ) (k j : ℕ) (p : P) (s : List ℕ) (e : ReadError) (front : List A) (total : Result (List A × List ℕ) FieldFault)
    → k ≡ suc j → after_text stop s ≡ None → Fails e ((item p).read s) → with_front front (read_from item next stop k p s) ≡ total → Fails e total
until_fails item next stop k j p s errors.NoMemory front total n is read so_far = read
until_fails item next stop k j p s (errors.Wrong f) front total n is read so_far =
    let one : with_front front (read_from item next stop k p s) ≡ Err f = rw (n, is, read) refl in
    sym so_far ∙ one
