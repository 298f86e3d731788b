-- ROWS OF WIDTHS: which widths channels carry, one for each channel in order; and lists that are put together.
use Rattle.std.proofs.Common.{◌≡◌, ℕ, zero, suc, ◌+◌, ◌<◌, ◌≤◌, List, [], ◌∷◌, ◌++◌, length, get_or, subst, arith, length-append}
use Rattle.std.specs.List.{AllByRecursion}
use Rattle.std.proofs.lemmas.List.{get_or-append-add, get_or_append_left}
use Rattle.p3l_firing.specs.declared.net.Chan.{Chan}
use Rattle.p3l_firing.specs.State.{no_chan}
use Rattle.p3l_firing.specs.Widths.{Widths, Carries}
use Rattle.p3l_template.specs.Typing.{Carry}
use Rattle.p3l_template.specs.Width.{no_width}
use Rattle.p3l_template.specs.declared.width.Width.{Width}

-- each channel carries its width
unfoldable pub AllRows : (Chan → Width → Type 0) → List Chan → List Width → Type 0
AllRows Fits [] [] = Unit {0}
AllRows Fits [] (w ∷ ws) = ⊥
AllRows Fits (x ∷ xs) [] = ⊥
AllRows Fits (x ∷ xs) (w ∷ ws) = Fits x w × AllRows Fits xs ws

pub rows_from : (Fits : Chan → Width → Type 0) (xs : List Chan) (ws : List Width) → length ws ≡ length xs →
    ((i : ℕ) → i < length xs → Fits (get_or xs i no_chan) (get_or ws i no_width)) → AllRows Fits xs ws
unfolding AllRows
rows_from Fits [] [] long each = tt
rows_from Fits [] (w ∷ ws) long each = absurd (omega arith)
rows_from Fits (x ∷ xs) [] long each = absurd (omega arith)
rows_from Fits (x ∷ xs) (w ∷ ws) long each =
    (each 0 (omega arith), rows_from Fits xs ws (omega arith) (λ i l. each (suc i) (omega arith)))

pub rows_append : (Fits : Chan → Width → Type 0) (xs ys : List Chan) (vs ws : List Width) → AllRows Fits xs vs → AllRows Fits ys ws →
    AllRows Fits (xs ++ ys) (vs ++ ws)
unfolding AllRows
rows_append Fits [] ys [] ws h k = k
rows_append Fits [] ys (v ∷ vs) ws h k = absurd h
rows_append Fits (x ∷ xs) ys [] ws h k = absurd h
rows_append Fits (x ∷ xs) ys (v ∷ vs) ws h k = (h.0, rows_append Fits xs ys vs ws h.1 k)

pub rows_at : (Fits : Chan → Width → Type 0) (xs : List Chan) (ws : List Width) (i : ℕ) → AllRows Fits xs ws → i < length xs →
    Fits (get_or xs i no_chan) (get_or ws i no_width)
unfolding AllRows
rows_at Fits [] ws i h l = absurd (omega arith)
rows_at Fits (x ∷ xs) [] i h l = absurd h
rows_at Fits (x ∷ xs) (w ∷ ws) zero h l = h.0
rows_at Fits (x ∷ xs) (w ∷ ws) (suc i) h l = rows_at Fits xs ws i h.1 (omega arith)

-- all widths have few tags, if all fitting ones have
pub rows_few : (Fits : Chan → Width → Type 0) (most : ℕ) → ((x : Chan) (w : Width) → Fits x w → w.tags ≤ most) →
    (xs : List Chan) (ws : List Width) (i : ℕ) → AllRows Fits xs ws → (get_or ws i no_width).tags ≤ most
unfolding AllRows
rows_few Fits most few xs [] i h = omega arith
rows_few Fits most few [] (w ∷ ws) i h = absurd h
rows_few Fits most few (x ∷ xs) (w ∷ ws) zero h = few x w h.0
rows_few Fits most few (x ∷ xs) (w ∷ ws) (suc i) h = rows_few Fits most few xs ws i h.1

pub carry_left : (w : Widths) (c : ℕ) (vs ws : List Width) → Carry w c (vs ++ ws) → Carry w c vs
unfolding Carry
carry_left w c vs ws h = λ i l.
    subst (λ z. Carries w (c + i) z.words z.tags) (get_or_append_left vs ws no_width i l) (h i (omega (arith, length-append vs ws)))

pub carry_right : (w : Widths) (c : ℕ) (vs ws : List Width) → Carry w c (vs ++ ws) → Carry w (c + length vs) ws
unfolding Carry
carry_right w c vs ws h = λ i l.
    let e : c + (length vs + i) ≡ (c + length vs) + i = omega arith in
    subst (λ z. Carries w z (get_or ws i no_width).words (get_or ws i no_width).tags) e
    (subst (λ z. Carries w (c + (length vs + i)) z.words z.tags) (get_or-append-add vs ws i no_width)
    (h (length vs + i) (omega (arith, length-append vs ws))))

pub all_append : {A : Type 0} (P : A → Type 0) (xs ys : List A) → AllByRecursion P xs → AllByRecursion P ys →
    AllByRecursion P (xs ++ ys)
all_append P [] ys h k = k
all_append P (x ∷ xs) ys h k = (h.0, all_append P xs ys h.1 k)
