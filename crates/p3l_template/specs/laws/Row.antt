-- Elements of rows. There are n numbers from c on, and the one at w is c + w (`numbers_length`,
-- `numbers_at`). If a net has two lists of processes one after the other, it has each of them
-- (`stands_split`); if it has two processes so, it has each of them (`stands_two`). The templates
-- use the first two for the ports of a process, reduce and linker the third for their own
-- processes.
use Rattle.std.proofs.Common.{◌≡◌, ℕ, zero, suc, ◌+◌, ◌<◌, List, [], ◌∷◌, ◌++◌, length, get_or, Some, slice_get, refl, ap, ◌∙◌, subst, arith}
use Rattle.p3l_firing.specs.declared.net.Net.{Net}
use Rattle.p3l_firing.specs.declared.process.Proc.{Proc}
use Rattle.p3l_template.specs.Placed.{AreStanding}
use Rattle.p3l_template.specs.Shape.{numbers_from}

pub numbers_length : (c n : ℕ) → length (numbers_from c n) ≡ n
unfolding numbers_from
numbers_length c zero = refl
numbers_length c (suc n) = ap suc (numbers_length (suc c) n)

pub numbers_at : (c n w : ℕ) → w < n → get_or (numbers_from c n) w 0 ≡ c + w
unfolding numbers_from
numbers_at c zero w l = absurd (omega arith)
numbers_at c (suc n) zero l = omega arith
numbers_at c (suc n) (suc w) l = numbers_at (suc c) n w (omega arith) ∙ omega arith

pub stands_split : (net : Net) (p : ℕ) (xs ys : List Proc) → AreStanding net p (xs ++ ys) →
    AreStanding net p xs × AreStanding net (p + length xs) ys
unfolding AreStanding
stands_split net p [] ys h = (tt, subst (λ q. AreStanding net q ys) (omega arith) h)
stands_split net p (x ∷ xs) ys h =
    let r = stands_split net (suc p) xs ys h.1 in
    ((h.0, r.0), subst (λ q. AreStanding net q ys) (omega arith) r.1)

pub stands_two : (net : Net) (p : ℕ) (x y : Proc) → AreStanding net p (x ∷ (y ∷ [])) →
    (slice_get net.procs p ≡ Some x) × (slice_get net.procs (p + 1) ≡ Some y)
unfolding AreStanding
stands_two net p x y h = let e : p + 1 ≡ suc p = omega arith in (h.0, ap (slice_get net.procs) e ∙ h.1.0)
