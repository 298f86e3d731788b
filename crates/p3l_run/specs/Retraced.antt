-- Ends of a check of a trace against a network.
use Rattle.std.specs.Prelude.{ℕ, ℤ, ◌-◌, List, ◌++◌, length, take, Option, Result, Ok, Err}
use Rattle.p3l_base.specs.declared.NoMemory.{NoMemory}
use Rattle.p3l_io.specs.Change.{Change}
use Rattle.p3l_stream.specs.declared.items.Ending.{Ending}
use Rattle.p3l_stream.specs.Seen.{Seen}
use Rattle.p3l_run.specs.Feed.{Gives, closed_so}
use Rattle.p3l_run.specs.Network.{Network, begun_with, width_of}
pub use Rattle.p3l_run.specs.Requested.{IsRequestedBy, one_waits, sent_before_last}
use Rattle.p3l_run.specs.Run.{MayCome}
use Rattle.p3l_trace.specs.declared.trace.Traced.{Traced}
use Rattle.p3l_trace.specs.Agreement.{Agrees, DiffersAt, picks_of}
use Rattle.p3l_run.specs.declared.retrace.Retraced.{Retraced}
use Rattle.p3l_run.specs.declared.retrace.Retraced.TheVariants as retraced

-- items of the stream were requested before these picks, and it gave these and then ended so, if it did; and this holds of them
-- and whatever may still come after them
pub record HoldsOn (n : Network) (input : Change (List ℕ)) (picks : List ℕ) (close : Option Ending) (P : List (List ℤ) → Type 0) : Type 0 where
  pub stream : Seen
  pub items : List (List ℤ)
  pub gives : Gives (width_of n) input stream items (closed_so close)
  pub request : (later : List (List ℤ)) → MayCome n close later → IsRequestedBy n (items ++ later) picks (length items) close
  pub holds : (later : List (List ℤ)) → MayCome n close later → P (items ++ later)

-- the trace is that of a run of the network
abbrev pub AgreesOn : Network → Traced → (input : Change (List ℕ)) → Option Ending → Type 0
AgreesOn n traced input close =
    HoldsOn n input (picks_of traced.lines) close (λ items. Agrees n.tree n.leaf n.net (begun_with n items) traced)

-- the picks of the lines up to the one of this number; the first line of a trace is its header, and its last is no pick
abbrev pub picks_to : Traced → ℕ → List ℕ
picks_to traced number = picks_of (take (number - 1) traced.lines)

-- the line of this number is the first that differs
abbrev pub DiffersOn : Network → Traced → (input : Change (List ℕ)) → (number : ℕ) → Type 0
DiffersOn n traced input number =
    (close : Option Ending)
    × HoldsOn n input (picks_to traced number) close (λ items. DiffersAt n.tree n.leaf n.net (begun_with n items) traced number)

-- the end of a check
abbrev pub IsRetraced : Network → Traced → (input : Change (List ℕ)) → Result Retraced NoMemory → Type 0
IsRetraced n traced input (Ok (retraced.Agreed close)) = AgreesOn n traced input close
IsRetraced n traced input (Ok (retraced.Differs number)) = DiffersOn n traced input number
IsRetraced n traced input (Err want) = Unit {0}
