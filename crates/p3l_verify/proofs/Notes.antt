-- Depths that are noted.
use Rattle.std.proofs.Common.{◌≡◌, ℕ, zero, suc, ◌⊎◌, inl, inr, ⊎_elim, List, [], ◌∷◌, Option, Some, None, refl, sym, ap, ◌∙◌}
use Rattle.std.specs.Prelude.{slice_get, slice_set}
use Rattle.p3l_verify.specs.Known.{Knows, CanNote, KnowsAt, CanNoteAt, noted_at}

-- a place whose depth may be noted has no known depth, or the same
pub unknown_or_same : (known : List (Option ℕ)) (p d : ℕ) → CanNote known p d → (slice_get known p ≡ Some None) ⊎ Knows known p d
unknown_or_same [] p d can = absurd can
unknown_or_same (None ∷ known) zero d can = inl refl
unknown_or_same (Some x ∷ known) zero d can = inr (ap (λ n. Some (Some n)) can)
unknown_or_same (o ∷ known) (suc p) d can = unknown_or_same known p d can

pub knows_same : (known : List (Option ℕ)) (p d : ℕ) → CanNote known p d → Knows (slice_set known p (Some d)) p d
knows_same [] p d can = absurd can
knows_same (o ∷ known) zero d can = refl
knows_same (o ∷ known) (suc p) d can = knows_same known p d can

pub knows_kept : (known : List (Option ℕ)) (p d q x : ℕ) → CanNote known p d → Knows known q x → Knows (slice_set known p (Some d)) q x
knows_kept [] p d q x can k = absurd can
knows_kept (None ∷ known) zero d zero x can k = absurd cc
knows_kept (Some y ∷ known) zero d zero x can k = ap (λ n. Some (Some n)) (sym can) ∙ k
knows_kept (o ∷ known) zero d (suc q) x can k = k
knows_kept (o ∷ known) (suc p) d zero x can k = k
knows_kept (o ∷ known) (suc p) d (suc q) x can k = knows_kept known p d q x can k

-- a depth known after a note was known before, or is the noted one
pub knows_new : (known : List (Option ℕ)) (p d q x : ℕ) → Knows (slice_set known p (Some d)) q x → Knows known q x ⊎ ((q ≡ p) × (x ≡ d))
knows_new [] p d q x k = inl k
knows_new (o ∷ known) zero d zero x k = let e : x ≡ d = cc in inr (refl, e)
knows_new (o ∷ known) zero d (suc q) x k = inl k
knows_new (o ∷ known) (suc p) d zero x k = inl k
knows_new (o ∷ known) (suc p) d (suc q) x k =
    ⊎_elim (λ h. inl h) (λ e. inr (ap suc e.0, e.1)) (knows_new known p d q x k)

pub knows_at_kept : (known : List (Option ℕ)) (p d x : ℕ) (to : Option ℕ) → CanNote known p d → KnowsAt known x to → KnowsAt (slice_set known p (Some d)) x to
knows_at_kept known p d x None can k = tt
knows_at_kept known p d x (Some q) can k = knows_kept known p d q x can k

-- the same where a jump leads, if it leads anywhere
pub at_same : (known : List (Option ℕ)) (to : Option ℕ) (d : ℕ) → CanNoteAt known to d → KnowsAt (noted_at known to d) d to
at_same known None d can = tt
at_same known (Some p) d can = knows_same known p d can

pub at_kept : (known : List (Option ℕ)) (to : Option ℕ) (d q x : ℕ) → CanNoteAt known to d → Knows known q x → Knows (noted_at known to d) q x
at_kept known None d q x can k = k
at_kept known (Some p) d q x can k = knows_kept known p d q x can k

pub at_at_kept : (known : List (Option ℕ)) (to : Option ℕ) (d x : ℕ) (other : Option ℕ) → CanNoteAt known to d → KnowsAt known x other → KnowsAt (noted_at known to d) x other
at_at_kept known None d x other can k = k
at_at_kept known (Some p) d x other can k = knows_at_kept known p d x other can k
