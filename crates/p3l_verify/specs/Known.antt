-- The depths of places that a verifier knows, and the rules that follow from them.
use Rattle.std.specs.Prelude.{◌≡◌, ℕ, ◌+◌, ◌<◌, ◌≤◌, ◌⊎◌, List, length, Option, Some, None, slice_get, slice_set, IsSomeAnd}
use Rattle.p3l_code.specs.declared.instr.Instr.{Instr}
use Rattle.p3l_code.specs.declared.instr.Code.{Code}
use Rattle.p3l_code.specs.Safe.{IsWithin, Leads, EndsAt, pops, depth_after, target_of, goes_on, next_of, AreDepths, IsReached}
use Rattle.p3l_base.specs.Limits.{most_budget, most_instructions, most_stack}

-- the rules on the numbers of a code
pub record HasSizes (code : Code) : Type 0 where
  pub few : length code.instrs ≤ most_instructions
  pub ports : code.ins + code.outs ≤ code.memory
  pub small : code.memory ≤ 196608
  pub budget_some : 1 ≤ code.budget
  pub budget_small : code.budget ≤ most_budget

-- the places of a code have depths
abbrev pub HasDepths : Code → Type 0
HasDepths code = (depths : List ℕ) × AreDepths code depths

-- the stack has the words that an instruction pops, and room for those that it pushes
pub record HasRoom (i : Instr) (depth : ℕ) : Type 0 where
  pub pops_enough : pops i ≤ depth
  pub shallow : depth_after depth i ≤ most_stack

-- the rules on one instruction at a place with `depth` words on the stack
pub record IsLocal (code : Code) (place : ℕ) (i : Instr) (depth : ℕ) : Type 0 where
  pub within : IsWithin code.memory i
  pub leads : Leads code.instrs place (target_of i)
  pub room : HasRoom i depth
  pub ends : EndsAt depth i

-- the depth of a place is known to be this one
abbrev pub Knows : List (Option ℕ) → ℕ → ℕ → Type 0
Knows known place depth = slice_get known place ≡ Some (Some depth)

-- the known depth of a place, if any, is this one
abbrev pub IsFree : Option ℕ → ℕ → Type 0
IsFree None depth = Unit {0}
IsFree (Some other) depth = other ≡ depth

-- a depth may be noted at a place: it is there, and no other depth is known of it
abbrev pub CanNote : List (Option ℕ) → ℕ → ℕ → Type 0
CanNote known place depth = IsSomeAnd (slice_get known place) (λ known_here. IsFree known_here depth)

-- the same at the place that is led to, if there is one
abbrev pub CanNoteAt : List (Option ℕ) → Option ℕ → ℕ → Type 0
CanNoteAt known None depth = Unit {0}
CanNoteAt known (Some to) depth = CanNote known to depth

abbrev pub noted_at : List (Option ℕ) → Option ℕ → ℕ → List (Option ℕ)
noted_at known None depth = known
noted_at known (Some to) depth = slice_set known to (Some depth)

-- the place that an instruction leads to, if any, is known to have this depth
abbrev pub KnowsAt : List (Option ℕ) → ℕ → Option ℕ → Type 0
KnowsAt known depth None = Unit {0}
KnowsAt known depth (Some to) = Knows known to depth

-- an instruction keeps the rules, as far as depths are known
pub record IsFineSoFar (code : Code) (known : List (Option ℕ)) (place : ℕ) (i : Instr) (depth : ℕ) : Type 0 where
  pub own : IsLocal code place i depth
  pub next : KnowsAt known (depth_after depth i) (next_of place (goes_on i))
  pub jumps : KnowsAt known (depth_after depth i) (target_of i)

-- a place's depth is known, and its instruction keeps the rules as far as depths are known
abbrev pub IsSettled : Code → List (Option ℕ) → ℕ → Instr → Type 0
IsSettled code known place i = (depth : ℕ) × Knows known place depth × IsFineSoFar code known place i depth

-- the known depths are sound, with the places below this one visited
pub record IsSound (code : Code) (known : List (Option ℕ)) (place : ℕ) : Type 0 where
  pub whole : length known ≡ length code.instrs
  pub start : Knows known 0 0
  pub settled : (p : ℕ) (i : Instr) → p < place → slice_get code.instrs p ≡ Some i → IsSettled code known p i
  -- a place that nothing reaches has depth 0
  pub rooted : (p depth : ℕ) → Knows known p depth → (depth ≡ 0) ⊎ IsReached code.instrs p
  -- no depths that keep the rules differ from what is known
  pub only : (depths : List ℕ) → AreDepths code depths → (p depth : ℕ) → Knows known p depth → slice_get depths p ≡ Some depth
