-- A trace compared with a machine: one that makes the picks of its lines, on items that come from a stream, and what each step does.
use Rattle.std.specs.Prelude.{◌≡◌, ◌≢◌, ℕ, ℤ, ◌+◌, ◌<◌, ◌^◌, Bool, true, false, List, [], ◌∷◌, ◌++◌, length, Option, Some, None}
use Rattle.p3l_base.specs.declared.outcome.Outcome.{Outcome}
use Rattle.p3l_firing.specs.declared.net.Net.{Net}
use Rattle.p3l_skel.specs.declared.tree.Tree.{Tree}
use Rattle.p3l_firing.specs.NetInvariants.{HaveInWords}
use Rattle.p3l_io.specs.Change.{Change, Observation, change}
use Rattle.p3l_net.specs.Machine as machine
use Rattle.p3l_net.specs.Machine.{Fires, Seen, can_step}
use Rattle.p3l_firing.specs.Nodes.{Leaf}
use Rattle.p3l_net.specs.Offered.{Follows}
use Rattle.p3l_stream.specs.declared.items.Ending.{Ending}
use Rattle.p3l_stream.specs.Seen as stream
use Rattle.p3l_run.specs.Feed.{Gives, closed_so, ending_of, input_limit, most_of_input}
use Rattle.p3l_run.specs.Laws.{Laws, Runs}
use Rattle.p3l_run.specs.Network.{Network, begun_with, course_under, width_of}
use Rattle.p3l_run.specs.Run.{MayCome}
use Rattle.p3l_run.specs.Start.{fresh, most_from}
use Rattle.p3l_trace.specs.declared.trace.TraceLine.{TraceLine}
use Rattle.p3l_trace.specs.Agreement.{AgreesWith, AllAgree, picks_of}
use Rattle.p3l_run.specs.declared.comparison.Comparison.{Comparison}
use Rattle.p3l_run.specs.Retraced.{IsRequestedBy, one_waits}

-- the machine stands where the picks of these lines lead on the items given and those that come later, and each of the lines agrees
pub record IsAt (n : Network) (m : Seen) (items later : List (List ℤ)) (outcomes : List Outcome) (walked : List TraceLine) : Type 0 where
  pub follows : Follows m outcomes later (course_under n items (picks_of walked))
  pub agree : AllAgree n.tree n.leaf n.net (begun_with n items) walked

-- the same, whatever may still come after the items given
pub record Stands (n : Network) (m : Seen) (given : List (List ℤ)) (close : Option Ending) (outcomes : List Outcome) (walked : List TraceLine) : Type 0 where
  pub runs : Runs n m
  pub wide : HaveInWords n.tree given
  pub at : (later : List (List ℤ)) → MayCome n close later → IsAt n m (given ++ later) later outcomes walked

-- a comparison that was just started
abbrev pub started : Tree → Net → ℕ → Comparison
started tree net width = record { machine = machine.started tree net; stream = stream.started width input_limit }

-- these lines of a trace of the network, whose runs begin with nothing fired, were passed, on the items that the stream gave of the
-- input; once that has ended no item waits
pub record HasPassed (n : Network) (input : Change (List ℕ)) (walked : List TraceLine) (w : Comparison) : Type 0 where
  pub laws : Laws n
  pub fresh_is : n.start ≡ fresh
  pub fits : most_from n.start n.firings most_of_input < 2 ^ 63
  pub items : List (List ℤ)
  pub outcomes : List Outcome
  pub gives : Gives (width_of n) input w.stream items (closed_so (ending_of w.stream))
  pub stands : Stands n w.machine items (ending_of w.stream) outcomes walked
  pub empty : (e : Ending) → ending_of w.stream ≡ Some e → w.machine.inbox ≡ None

-- a comparison with a trace of the network is under way: items were requested before the picks of the lines passed, and none after
pub record Walks (n : Network) (input : Change (List ℕ)) (walked : List TraceLine) (w : Comparison) : Type 0 where
  pub passed : HasPassed n input walked w
  pub request : (later : List (List ℤ)) → MayCome n (ending_of w.stream) later →
      IsRequestedBy n (passed.items ++ later) (picks_of walked) (length passed.items) (ending_of w.stream)

-- an item was requested once more, so the inbox is filled, as long as the stream isn't ended, and the machine can fire just where
-- the network can
pub record AwaitsLine (n : Network) (input : Change (List ℕ)) (walked : List TraceLine) (w : Comparison) : Type 0 where
  pub passed : HasPassed n input walked w
  pub filled : ending_of w.stream ≡ None → w.machine.inbox ≢ None
  pub waits : length passed.items ≡ w.machine.sent + one_waits (ending_of w.stream)

-- a comparison with some network is under way, with these bodies of modules
pub record IsUnderWay (leaf : Leaf) (now : Observation (List ℕ)) (w : Comparison) : Type 0 where
  pub network : Network
  pub leaf_is : network.leaf ≡ leaf
  pub first : Observation (List ℕ)
  pub walked : List TraceLine
  pub walks : Walks network (change first now) walked w

-- whatever the network is, a comparison that was fed is under way still
abbrev pub FeedsOn : (input : Change (List ℕ)) → (old new : Comparison) → Type 0
FeedsOn input old new =
    (n : Network) (first : Observation (List ℕ)) (walked : List TraceLine) → HasPassed n (change first input.old) walked old → AwaitsLine n (change first input.new) walked new

-- the effect of a pick of a process, which fires if it can
abbrev pub StepsIf : Bool → Leaf → ℕ → Comparison → Comparison → Type 0
StepsIf true leaf p old new = (handed : Option Outcome) × Fires leaf old.machine new.machine p handed × (new ≡ record old { machine = new.machine })
StepsIf false leaf p old new = new ≡ old

abbrev pub Steps : Leaf → ℕ → Comparison → Comparison → Type 0
Steps leaf p old new = StepsIf (can_step old.machine p) leaf p old new

-- one line more was passed; or it differs, and nothing was done but to feed the machine
abbrev pub Passes : Network → (input : Change (List ℕ)) → (walked : List TraceLine) → (line : TraceLine) → Comparison → Bool → Type 0
Passes n input walked line w true = Walks n input (walked ++ line ∷ []) w
Passes n input walked line w false = AwaitsLine n input walked w × (AgreesWith w.machine line → ⊥)

-- whatever the network is, with these bodies of modules, a comparison passes the next line, if that agrees
abbrev pub PassesOn : Leaf → TraceLine → (input : Change (List ℕ)) → (old new : Comparison) → Bool → Type 0
PassesOn leaf line input old new agrees =
    (n : Network) (first : Observation (List ℕ)) (walked : List TraceLine) → n.leaf ≡ leaf → Walks n (change first input.old) walked old → Passes n (change first input.new) walked line new agrees
