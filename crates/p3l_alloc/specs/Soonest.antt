-- The soonest service time of a node within a number of processes.
use Rattle.std.specs.Prelude.{◌≡◌, ℕ, ◌≤◌, ◌<◌, ◌-◌, min, max, List, nat_le, if◌then◌else◌, slice_index_or, ⊤}
use Rattle.p3l_model.specs.declared.cost.Sharing.{Sharing}
use Rattle.p3l_model.specs.declared.cost.NodeCost.{NodeCost}
use Rattle.p3l_model.specs.declared.cost.NodeCost.TheVariants.{Unit, Stages, Workers, Segments, Loop}
use Rattle.p3l_model.specs.NodeCost.{never, timed, shared}
use Rattle.p3l_model.specs.Costed.{Costed, HasProcess, IsSharing, run_service, slowest}
use Rattle.p3l_model.specs.Costed as costs
use Rattle.p3l_model.specs.Least.{FitsRun}

-- v is the least service time of any counts that take at most p processes, or never where none do
pub record IsSoonest (a : Costed) (p v : ℕ) : Type 0 where
  pub top : v ≤ never
  pub below : (xs : List ℕ) → FitsRun a p xs → v ≤ run_service a xs
  pub reached : v < never → (xs : List ℕ) × FitsRun a p xs × (run_service a xs ≡ v)

-- a row for a tree: the soonest service time within each number of processes up to the most
abbrev pub IsRow : Costed → ℕ → List ℕ → Type 0
IsRow a most row = (p : ℕ) → p ≤ most → IsSoonest a p (slice_index_or row p never)

-- a node of this cost over its first part; of a pipe no stages
abbrev pub over_part : NodeCost → Costed → Costed
over_part (Unit s) a = costs.Leaf s
over_part Stages a = costs.Empty
over_part (Workers r h e) a = costs.Workers r h e a
over_part (Segments r fold) a = costs.Segments r fold
over_part (Loop t e) a = costs.Loop t e a

-- the part of workers: they have something to share, it takes a process, its service times are counted,
-- and this is its row
pub record IsShared (h : Sharing) (a : Costed) (most : ℕ) (row : List ℕ) : Type 0 where
  pub sharing : IsSharing h
  pub process : HasProcess a
  pub slow : slowest a < never
  pub soonest : IsRow a most row

-- the body of a loop, which turns, and its row
pub record IsTurned (turns : ℕ) (a : Costed) (most : ℕ) (row : List ℕ) : Type 0 where
  pub some : 1 ≤ turns
  pub slow : slowest a < never
  pub soonest : IsRow a most row

-- the first part meets the needs of a node of this cost
abbrev pub HasPart : NodeCost → Costed → ℕ → List ℕ → Type 0
HasPart (Unit s) a most row = ⊤
HasPart Stages a most row = ⊤
HasPart (Workers r h e) a most row = IsShared h a most row
HasPart (Segments r fold) a most row = ⊤
HasPart (Loop t e) a most row = IsTurned t a most row

-- the service time of workers, where their part has this one
abbrev pub shared_time : Sharing → ℕ → ℕ → ℕ → ℕ
shared_time h ends n part = if nat_le never part then never else min (max ends (timed (shared h n part))) never

-- the service time where a stage with the first of these rows gets `given` of p processes, and those that
-- follow it, with the second, the rest
abbrev pub split_time : List ℕ → List ℕ → ℕ → ℕ → ℕ
split_time first others p given = max (slice_index_or first given never) (slice_index_or others (p - given) never)

-- with `given` processes the stage is no later than those that follow it, or there are no more, and with one
-- fewer it is later; where the rows never grow this is the least such number
pub record IsCrossing (first others : List ℕ) (p given : ℕ) : Type 0 where
  pub within : given ≤ p
  pub before : 0 < given → slice_index_or others (p - (given - 1)) never < slice_index_or first (given - 1) never
  pub from : given < p → slice_index_or first given never ≤ slice_index_or others (p - given) never
