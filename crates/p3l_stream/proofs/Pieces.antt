-- A piece that was taken.
use Rattle.std.proofs.Common.{◌≡◌, ◌+◌, ◌≤◌, ℕ, List, ◌∙◌, Bool, true, false, Option, Result, Ok, Err, sym, take, length, ap₂, arith, length-take, refl}
use Rattle.std.specs.Result.{IsErr}
use Rattle.p3l_base.specs.declared.NoMemory.{NoMemory}
use Rattle.p3l_io.specs.Change.{Change}
use Rattle.p3l_io.specs.declared.fault.Failed.{Failed}
use Rattle.p3l_io.specs.Content.{Takes}
use Rattle.p3l_stream.specs.Passing.{RequestsOnce, TakesPiece}
use Rattle.p3l_stream.specs.Seen.{Seen}
use Rattle.p3l_stream.proofs.Takings.{IsTaken-one}

pub not_both : (b : Bool) → b ≡ true → b ≡ false → ⊥
not_both true e f = cc
not_both false e f = cc

-- the first `n` bytes of the buffer were taken, within the room
pub takes_piece : (s : Seen) (source : Change (List ℕ)) (buf : List ℕ) (n room : ℕ) (held held' : List ℕ)
    → s.at_end ≡ false → n ≤ room → room ≤ 4096 → s.taken + room ≤ s.limit → n ≤ length buf → Takes source (Ok n) buf → held' ≡ held
    → TakesPiece s (record s { held = held'; taken = s.taken + n }) source (take n buf) held
takes_piece s source buf n room held held' is_open within most limit all gave same =
    let size : length (take n buf) ≡ n = length-take n buf ∙ omega arith in
    record {
      short = omega arith;
      after = ap₂ (λ (h : List ℕ) (t : ℕ). record s { held = h; taken = s.taken + t }) same (sym size);
      within = omega arith;
      below = λ ends. absurd (not_both s.at_end ends is_open);
      given = IsTaken-one source buf n gave;
      all = λ ends. absurd (not_both s.at_end ends is_open);
    }

-- out of memory for a piece
pub requests_in_vain : (old new : Seen) (source : Change (List ℕ)) (result : Result (Result (Unit {0}) Failed) NoMemory) (piece : List ℕ)
    → IsErr result → TakesPiece old new source piece old.held → RequestsOnce old new source result
requests_in_vain old new source (Ok x) piece err took = absurd (not_both true refl (sym err))
requests_in_vain old new source (Err e) piece err took = (piece, took)
