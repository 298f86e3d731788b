-- Values up to a text that ends them are lawful.
use Rattle.std.proofs.Common.{◌≡◌, ℕ, zero, suc, ◌<◌, ◌≤◌, Bool, true, List, [], ◌∷◌, ◌++◌, length, Option, Some, None, Result, Ok, Err, refl, sym, ap, subst, ◌∙◌, append_assoc, arith}
use Rattle.std.proofs.lemmas.List.{length-append}
use Rattle.p3l_format.specs.declared.fault.FieldFault.{FieldFault}
use Rattle.p3l_format.specs.declared.fault.Cause.TheVariants.{Range}
use Rattle.p3l_format.specs.Format.{Format, fault_at, ◌>>=◌}
use Rattle.p3l_format.specs.Lawful.{IsLawful, IsLawfulBefore}
use Rattle.p3l_format.specs.Text.{after_text}
use Rattle.p3l_format.specs.Series.{fits_from, spell_from, ended_or, read_from, until}
use Rattle.p3l_format.specs.laws.Parts.{bind_ok, ok_is, both_true, first_true, second_true}
use Rattle.p3l_format.specs.laws.Formats.{lawful_from, joined}
use Rattle.p3l_format.specs.laws.Text.{after_again, after_is, taken_before}

-- the conditions for the laws of a series
pub record IsSeries {P A : Type 0} (fine : List ℕ → Bool) (item : P → Format ℕ A) (stop : List ℕ) : Type 0 where
  pub items : (p : P) → IsLawfulBefore fine (item p)
  -- a text that begins with an item is fine
  pub starts : (p : P) (v : A) (rest : List ℕ) → fine ((item p).spell v ++ rest) ≡ true
  pub stops : (rest : List ℕ) → fine (stop ++ rest) ≡ true
  -- no item begins as the end does, and none is empty
  pub differs : (p : P) (v : A) (rest : List ℕ) → after_text stop ((item p).spell v ++ rest) ≡ None
  pub some : (p : P) (v : A) → 0 < length ((item p).spell v)

spelled_fine : {P A : Type 0} (fine : List ℕ → Bool) (item : P → Format ℕ A) (next : A → P) (stop : List ℕ) → IsSeries fine item stop → (p : P) (vs : List A) (rest : List ℕ) → fine ((spell_from item next p vs ++ stop) ++ rest) ≡ true
spelled_fine fine item next stop series p [] rest = series.stops rest
spelled_fine fine item next stop series p (v ∷ vs) rest =
    let one = append_assoc ((item p).spell v ++ spell_from item next (next v) vs) stop rest in
    let two = append_assoc ((item p).spell v) (spell_from item next (next v) vs) (stop ++ rest) in
    rw (one, two) (series.starts p v (spell_from item next (next v) vs ++ (stop ++ rest)))

from_again : {P A : Type 0} (fine : List ℕ → Bool) (item : P → Format ℕ A) (next : A → P) (stop : List ℕ) → IsSeries fine item stop → (n : ℕ) (p : P) (vs : List A) (rest : List ℕ) → length vs ≤ n → fits_from item next p vs ≡ true
    → read_from item next stop n p ((spell_from item next p vs ++ stop) ++ rest) ≡ Ok (vs, rest)
from_again fine item next stop series zero p [] rest le fits = rw (after_again stop rest) refl
from_again fine item next stop series (suc n) p [] rest le fits = rw (after_again stop rest) refl
from_again fine item next stop series zero p (v ∷ vs) rest le fits = absurd (omega arith)
from_again {A = A} fine item next stop series (suc n) p (v ∷ vs) rest le fits =
    let tail : List ℕ = (spell_from item next (next v) vs ++ stop) ++ rest in
    let parts : ((((item p).spell v ++ spell_from item next (next v) vs) ++ stop) ++ rest) ≡ (item p).spell v ++ tail =
    ap (λ (t : List ℕ). t ++ rest) (append_assoc ((item p).spell v) (spell_from item next (next v) vs) stop) ∙ append_assoc ((item p).spell v) (spell_from item next (next v) vs ++ stop) rest in
    let read = (series.items p).again v tail (first_true ((item p).fits v) _ fits) (spelled_fine fine item next stop series (next v) vs rest) in
    let more = from_again fine item next stop series n (next v) vs rest (omega arith) (second_true ((item p).fits v) _ fits) in
    ap (read_from item next stop (suc n) p) parts ∙ rw (series.differs p v tail, read, more) refl

ended_some : {A : Type 0} (o : Option (List ℕ)) (r : Result (List A × List ℕ) FieldFault) (x : List A × List ℕ) (P : Type 0) → ended_or o r ≡ Ok x
    → ((rest : List ℕ) → o ≡ Some rest → ◌≡◌ {A = List A × List ℕ} ([], rest) x → P) → (o ≡ None → r ≡ Ok x → P) → P
ended_some None r x P e done goes = goes refl e
ended_some (Some rest) r x P e done goes = done rest refl (ok_is ([], rest) x e)

-- a series was read: its items fit, and the text is their spelling, the end and the rest
pub record IsTaken {P A : Type 0} (item : P → Format ℕ A) (next : A → P) (stop : List ℕ) (p : P) (s : List ℕ) (x : List A × List ℕ) : Type 0 where
  pub fits : fits_from item next p x.0 ≡ true
  pub is : s ≡ (spell_from item next p x.0 ++ stop) ++ x.1

from_done : {P A : Type 0} (item : P → Format ℕ A) (next : A → P) (stop : List ℕ) (p : P) (s : List ℕ) (x : List A × List ℕ) (rest : List ℕ) → after_text stop s ≡ Some rest → ◌≡◌ {A = List A × List ℕ} ([], rest) x → IsTaken item next stop p s x
from_done item next stop p s x rest o e = subst (λ y. IsTaken item next stop p s y) e (record { fits = refl; is = after_is stop s rest o })

from_takes : {P A : Type 0} (fine : List ℕ → Bool) (item : P → Format ℕ A) (next : A → P) (stop : List ℕ) → IsSeries fine item stop → (n : ℕ) (p : P) (s : List ℕ) (x : List A × List ℕ) → read_from item next stop n p s ≡ Ok x → IsTaken item next stop p s x
from_takes fine item next stop series zero p s x e =
    ended_some (after_text stop s) (Err (fault_at Range s)) x (IsTaken item next stop p s x) e
    (λ rest o done. from_done item next stop p s x rest o done)
    (λ o goes. absurd cc)
from_takes {A = A} fine item next stop series (suc n) p s x e =
    ended_some (after_text stop s) ((item p).read s >>= λ y. read_from item next stop n (next y.0) y.1 >>= λ z. Ok (y.0 ∷ z.0, z.1)) x (IsTaken item next stop p s x) e
    (λ rest o done. from_done item next stop p s x rest o done)
    (λ o goes.
    let a = bind_ok ((item p).read s) (λ y. read_from item next stop n (next y.0) y.1 >>= λ z. Ok (y.0 ∷ z.0, z.1)) x goes in
    let b = bind_ok (read_from item next stop n (next a.0.0) a.0.1) (λ z. Ok (a.0.0 ∷ z.0, z.1)) x a.2 in
    let t = taken_before fine (item p) (series.items p) s a.0 a.1 in
    let u = from_takes fine item next stop series n (next a.0.0) a.0.1 b.0 b.1 in
    let whole = joined s ((item p).spell a.0.0) a.0.1 (spell_from item next (next a.0.0) b.0.0 ++ stop) b.0.1 t.is u.is in
    subst (λ y. IsTaken item next stop p s y) (ok_is (a.0.0 ∷ b.0.0, b.0.1) x b.2) (record {
      fits = both_true ((item p).fits a.0.0) (fits_from item next (next a.0.0) b.0.0) t.fits u.fits;
      is = whole ∙ ap (λ (t : List ℕ). t ++ b.0.1) (sym (append_assoc ((item p).spell a.0.0) (spell_from item next (next a.0.0) b.0.0) stop));
    }))

enough : {P A : Type 0} (fine : List ℕ → Bool) (item : P → Format ℕ A) (next : A → P) (stop : List ℕ) → IsSeries fine item stop → (p : P) (vs : List A) → length vs ≤ length (spell_from item next p vs)
enough fine item next stop series p [] = omega arith
enough fine item next stop series p (v ∷ vs) =
    omega (arith, length-append ((item p).spell v) (spell_from item next (next v) vs), series.some p v, enough fine item next stop series (next v) vs)

pub lawful_until : {P A : Type 0} (fine : List ℕ → Bool) (item : P → Format ℕ A) (next : A → P) (p : P) (stop : List ℕ) → IsSeries fine item stop → IsLawful (until item next p stop)
unfolding until
lawful_until fine item next p stop series = lawful_from (until item next p stop)
    (λ v rest fits. from_again fine item next stop series (suc (length ((spell_from item next p v ++ stop) ++ rest))) p v rest
    (omega (arith, length-append (spell_from item next p v ++ stop) rest, length-append (spell_from item next p v) stop, enough fine item next stop series p v)) fits)
    (λ s x e. let t = from_takes fine item next stop series (suc (length s)) p s x e in record { fits = t.fits; is = t.is })
