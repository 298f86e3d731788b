-- Ends of runs and of texts.
use Rattle.std.proofs.Common.{◌≡◌, ◌≢◌, ℕ, List, [], ◌++◌, Option, Some, refl, sym, ap, subst, inl, inr, ◌∙◌, append-nil}
use Rattle.std.specs.declared.result.Result.TheVariants.{Ok}
use Rattle.p3l_io.specs.Change.{Becomes, Change, HasSameFaults}
use Rattle.p3l_io.specs.Content.{PutsOf}
use Rattle.p3l_report.specs.Status as status
use Rattle.p3l_report.specs.Verdict.{end_status, ending_status}
use Rattle.p3l_stream.specs.declared.items.Ending.{Ending}
use Rattle.p3l_stream.specs.declared.items.Ending.TheVariants as ending
use Rattle.p3l_stream.specs.Answers.{IsAtEnd}
use Rattle.p3l_stream.specs.Given.{GivenCause}
use Rattle.p3l_stream.specs.Taken.{IsTaken}
use Rattle.p3l_run.specs.declared.end.RunEnd.{RunEnd}
use Rattle.p3l_run.specs.declared.end.RunEnd.TheVariants as ends
use Rattle.p3l_run.specs.Feed.{closed_so}
use Rattle.p3l_run.specs.Write.{HasPut}
use Rattle.p3l_program.specs.Trace.{IsUnrefused}
use Rattle.p3l_program.proofs.SeenSteps.{at_end_left, taken_known}

-- only the end of a stream has its statuses
pub record IsStream (f : RunEnd) (n : ℕ) : Type 0 where
  pub e : Ending
  pub finish_is : f ≡ ends.Stream e
  pub status_is : ending_status e ≡ n

-- statuses 0, 6, 8 and 14 of a run come with the ending of its stream
pub stream_is : (f : RunEnd) (k : ℕ) → end_status f ≡ k → (k ≢ status.stopped) → (k ≢ status.trap) → IsStream f k
stream_is (ends.Stopped fired idle) k h stopped trap = absurd (stopped (sym h))
stream_is (ends.Trapped item kind home) k h stopped trap = absurd (trap (sym h))
stream_is (ends.Stream e) k h stopped trap = record { e = e; finish_is = refl; status_is = h }

-- a text that was written is what the output took
pub put_known : (out : Change (List ℕ)) (taken text : List ℕ) → out.old.content ≡ Some taken → HasPut out text → out.new.content ≡ Some (taken ++ text)
put_known out taken text known put = subst (λ old. Becomes (PutsOf (Ok tt) text) old out.new.content) known put

-- an input that came to its end was taken whole
pub ended_known : (input : Change (List ℕ)) (rest bytes : List ℕ) → input.old.content ≡ Some rest → IsTaken input bytes → IsAtEnd input.new.content →
    (input.new.content ≡ Some []) × (bytes ≡ rest)
ended_known input rest bytes known taken end =
    let read = taken_known input rest bytes known taken in
    let none : read.0 ≡ [] = at_end_left input.new.content read.0 read.1 end in
    (read.1 ∙ ap Some none, sym (read.2 ∙ ap (λ l. bytes ++ l) none ∙ append-nil bytes))

-- an ending that is no fault of reading lets the count of faults stay
pub ended_same_faults : (e : Ending) (input : Change (List ℕ)) → (ending_status e ≡ status.read → ⊥) → GivenCause (Some (Ok e)) input → HasSameFaults input
ended_same_faults ending.End input other cause = cause
ended_same_faults (ending.BadWord line) input other cause = cause
ended_same_faults (ending.WrongCount line had) input other cause = cause
ended_same_faults (ending.OutOfRange line) input other cause = cause
ended_same_faults ending.ReadFault input other cause = absurd (other refl)
ended_same_faults ending.TooLong input other cause = cause

-- and so does a stream that was not refused
pub unrefused_same_faults : (close : Option Ending) (input : Change (List ℕ)) → IsUnrefused close → GivenCause (closed_so close) input → HasSameFaults input
unrefused_same_faults close input (inl none) cause = subst (λ c. GivenCause (closed_so c) input) none cause
unrefused_same_faults close input (inr end) cause = subst (λ c. GivenCause (closed_so c) input) end cause
