-- The result of one request, by its answer.
use Rattle.std.proofs.Common.{◌≡◌, ℕ, ◌<◌, true, false, List, ◌++◌, ◌⊎◌, length, Option, Some, None, Result, Ok, Err, refl, is_err}
use Rattle.p3l_io.specs.Change.{Change, HasSameFaults}
use Rattle.p3l_io.specs.declared.fault.Failed.{Failed}
use Rattle.p3l_stream.specs.Answers.{TakeCause}
use Rattle.p3l_stream.specs.Ended.{IsLine}
use Rattle.p3l_stream.specs.Passing.{RequestsOnce, MayPassFilled, PassedBlanks, PassesFilled, TakesPiece}
use Rattle.p3l_stream.specs.Seen.{Seen}
use Rattle.p3l_stream.specs.declared.line.LineContent.{LineContent}
use Rattle.p3l_stream.proofs.Pieces.{not_both}

-- a piece, or the end
pub record Gets (old new : Seen) (source : Change (List ℕ)) : Type 0 where
  pub piece : List ℕ
  pub took : TakesPiece old new source piece (old.held ++ piece)
  pub moves : (0 < length piece) ⊎ (new.at_end ≡ true)

pub gets : (old new : Seen) (source : Change (List ℕ)) (o : Result (Unit {0}) Failed) → RequestsOnce old new source (Ok o) → is_err o ≡ false → Gets old new source
gets old new source (Ok done) requests ok = record { piece = requests.0; took = requests.1; moves = requests.2 }
gets old new source (Err e) requests ok = absurd (not_both true refl ok)

pub no_cause : (o : Result (Unit {0}) Failed) (source : Change (List ℕ)) → TakeCause (Ok o) source → is_err o ≡ false → HasSameFaults source
no_cause (Ok done) source cause ok = cause
no_cause (Err e) source cause ok = absurd (not_both true refl ok)

pub is_filled : (old new : Seen) (o : Option LineContent) (holds : LineContent) → MayPassFilled old new o → o ≡ Some holds → PassesFilled old new holds
is_filled old new None holds passes e = absurd cc
is_filled old new (Some l) holds passes e = let same : l ≡ holds = cc in rw (← same) passes

pub are_passed : (old new : Seen) (o : Option LineContent) → MayPassFilled old new o → o ≡ None → PassedBlanks old new × IsLine new.held
are_passed old new None passes e = passes
are_passed old new (Some l) passes e = absurd cc
