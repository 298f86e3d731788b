-- Agreement of the lines of a trace with a run.
use Rattle.std.specs.Prelude.{◌≡◌, ℕ, ℤ, ◌+◌, ◌<◌, ◌⊎◌, Bool, true, false, not, List, [], ◌∷◌, ◌++◌, ⊤, cond, count_by, length, map, Option, Some, None}
use Rattle.p3l_base.specs.declared.outcome.Outcome.{Outcome}
use Rattle.p3l_skel.specs.declared.tree.Tree.{Tree}
use Rattle.p3l_firing.specs.declared.net.Net.{Net}
use Rattle.p3l_firing.specs.declared.process.ProcKind.{ProcKind}
use Rattle.p3l_firing.specs.Fire.{can_fire}
use Rattle.p3l_net.specs.Machine.{Seen, can_step}
use Rattle.p3l_firing.specs.Process.{kind_at}
use Rattle.p3l_firing.specs.Run.{Course, after_picks, course_from, picked}
use Rattle.p3l_firing.specs.State.{State}
use Rattle.p3l_trace.specs.declared.trace.TraceLine.{TraceLine}
use Rattle.p3l_trace.specs.declared.trace.Traced.{Traced}

-- the entry of a pick: the kind of the process if it can fire, else None, for an idle one
abbrev pub said_if : Bool → Net → ℕ → Option ProcKind
said_if fires net p = cond fires (kind_at net p) None

-- a line names a process, and says of it what is to be said
pub record IsLineOf (fires : Bool) (net : Net) (line : TraceLine) : Type 0 where
  pub there : line.pick < length net.procs
  pub said : line.kind ≡ said_if fires net line.pick

-- a line agrees with a state: the process that it names can fire and is of its kind, or can't fire and the line is idle
abbrev pub AgreesIn : Tree → Net → State → TraceLine → Type 0
AgreesIn tree net s line = IsLineOf (can_fire tree net s line.pick) net line

-- the same of a machine
abbrev pub AgreesWith : Seen → TraceLine → Type 0
AgreesWith m line = IsLineOf (can_step m line.pick) m.net line

-- the picks of lines
abbrev pub picks_of : List TraceLine → List ℕ
picks_of lines = map (λ line. line.pick) lines

-- each line agrees with the state that the picks before it lead to
unfoldable pub AgreeFrom : Tree → (ℕ → List ℤ → Outcome) → Net → Course → List TraceLine → Type 0
AgreeFrom tree leaf net c [] = ⊤
AgreeFrom tree leaf net c (line ∷ lines) = AgreesIn tree net c.state line × AgreeFrom tree leaf net (picked tree leaf net c line.pick) lines

-- each line agrees with the run of the net from a state
abbrev pub AllAgree : Tree → (ℕ → List ℤ → Outcome) → Net → State → List TraceLine → Type 0
AllAgree tree leaf net s lines = AgreeFrom tree leaf net (course_from s) lines

-- a kind is said
abbrev pub is_kind : Option ProcKind → Bool
is_kind None = false
is_kind (Some kind) = true

-- the count of the lines of firings, and that of idle picks
abbrev pub fired_of : List TraceLine → ℕ
fired_of lines = count_by (λ line. is_kind line.kind) lines

abbrev pub idle_of : List TraceLine → ℕ
idle_of lines = count_by (λ line. not (is_kind line.kind)) lines

-- the last line's counts are those of the others
pub record IsCounted (traced : Traced) : Type 0 where
  pub fired : traced.fired ≡ fired_of traced.lines
  pub idle : traced.idle ≡ idle_of traced.lines

-- a trace is that of a run of the net from a state, under its picks
pub record Agrees (tree : Tree) (leaf : ℕ → List ℤ → Outcome) (net : Net) (s : State) (traced : Traced) : Type 0 where
  pub lines : AllAgree tree leaf net s traced.lines
  pub counts : IsCounted traced

-- the first line that doesn't agree is that of a pick, and has this number; the first line of a trace is its header
pub record DiffersInPick (tree : Tree) (leaf : ℕ → List ℤ → Outcome) (net : Net) (s : State) (traced : Traced) (number : ℕ) : Type 0 where
  pub front : List TraceLine
  pub line : TraceLine
  pub after : List TraceLine
  pub lines_are : traced.lines ≡ front ++ line ∷ after
  pub agree : AllAgree tree leaf net s front
  pub other : AgreesIn tree net (after_picks tree leaf net (course_from s) (picks_of front)).state line → ⊥
  pub number_is : number ≡ length front + 2

-- or it is the last line of the trace
pub record DiffersInCounts (tree : Tree) (leaf : ℕ → List ℤ → Outcome) (net : Net) (s : State) (traced : Traced) (number : ℕ) : Type 0 where
  pub agree : AllAgree tree leaf net s traced.lines
  pub other : IsCounted traced → ⊥
  pub number_is : number ≡ length traced.lines + 2

-- the line of this number is the first that differs from the run of the net from a state
abbrev pub DiffersAt : Tree → (ℕ → List ℤ → Outcome) → Net → State → Traced → ℕ → Type 0
DiffersAt tree leaf net s traced number = DiffersInPick tree leaf net s traced number ⊎ DiffersInCounts tree leaf net s traced number
