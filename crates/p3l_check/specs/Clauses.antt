-- The numbers of a module's clauses.
use Rattle.std.specs.Prelude.{ℕ, ℤ, ◌==◌, Bool, List, [], ◌∷◌, Result, Ok, Err, Option, Some, None, min, if◌then◌else◌}
use Rattle.std.specs.List.{list_any}
use Rattle.p3l_base.specs.Limits.{most_workers, most_turns, most_tokens}
use Rattle.p3l_ast.specs.declared.position.Pos.{Pos}
use Rattle.p3l_ast.specs.declared.refusal.Fault.TheVariants.{Expected, BadWorkers}
use Rattle.p3l_ast.specs.declared.refusal.SourceRefusal.{SourceRefusal}
use Rattle.p3l_ast.specs.declared.refusal.SourceRefusal.TheVariants.{At}
use Rattle.p3l_ast.specs.declared.port.Num.{Num}
use Rattle.p3l_ast.specs.declared.module.Kind.{Kind}
use Rattle.p3l_ast.specs.declared.module.Kind.TheVariants as kinds
use Rattle.p3l_ast.specs.declared.module.Rescue.{Rescue}
use Rattle.p3l_ast.specs.declared.module.Clauses.{Clauses}
use Rattle.p3l_types.specs.Verdict.{given}
use Rattle.p3l_types.specs.Constants.{Constants, place_of}
use Rattle.p3l_body.specs.Seq.{limited, budget_of, rescue_of}

-- the workers of a farm or a map: 1 to a bound; none without a clause
abbrev pub workers_upto : ℕ → Constants → Option Num → Result (Option ℕ) SourceRefusal
workers_upto most constants None = Ok None
workers_upto most constants (Some num) = given (limited 1 most constants num) (λ n. Ok (Some n))

-- the workers of a farm
abbrev pub farm_workers : Constants → Option Num → Result (Option ℕ) SourceRefusal
farm_workers = workers_upto most_workers

-- the workers of a map: no more than it has elements
abbrev pub map_workers : ℕ → Constants → Option Num → Result (Option ℕ) SourceRefusal
map_workers elements = workers_upto (min elements most_workers)

-- the powers of two that a number of workers may be
abbrev pub powers : List ℕ
powers = 1 ∷ 2 ∷ 4 ∷ 8 ∷ 16 ∷ 32 ∷ 64 ∷ 128 ∷ 256 ∷ 512 ∷ []

abbrev pub is_power : ℕ → Bool
is_power n = list_any (λ power. power == n) powers

-- a number of workers of a reduce is a power of two
abbrev pub as_power : Num → ℕ → Result (Option ℕ) SourceRefusal
as_power num n = if is_power n then Ok (Some n) else Err (At BadWorkers (place_of num))

-- the workers of a reduce: a power of two, no more than it has elements
abbrev pub reduce_workers : ℕ → Constants → Option Num → Result (Option ℕ) SourceRefusal
reduce_workers len constants None = Ok None
reduce_workers len constants (Some num) = given (limited 1 (min len most_workers) constants num) (λ n. as_power num n)

-- the turns of a loop, whose clause every text gives
abbrev pub turns_of : Pos → Constants → Option Num → Result ℕ SourceRefusal
turns_of pos constants None = Err (At Expected pos)
turns_of pos constants (Some num) = limited 1 most_turns constants num

-- the tokens of a loop, 4 without a clause
abbrev pub tokens_of : Constants → Option Num → Result ℕ SourceRefusal
tokens_of constants None = Ok 4
tokens_of constants (Some num) = limited 1 most_tokens constants num

-- no rescue, which is all that texts spell of modules that are neither `seq` nor `comp`
abbrev pub no_rescue : Pos → Option Rescue → Result (Option ℤ) SourceRefusal
no_rescue pos None = Ok None
no_rescue pos (Some rescue) = Err (At Expected pos)

-- the rescue number of a module at a place, if it has one; the rule of a `seq` module's budget
-- comes before it
abbrev pub rescue_in : Kind → Pos → Constants → Clauses → Result (Option ℤ) SourceRefusal
rescue_in kinds.Seq pos constants clauses =
    given (budget_of constants clauses.budget) (λ budget. rescue_of constants clauses.rescue)
rescue_in kinds.Comp pos constants clauses = rescue_of constants clauses.rescue
rescue_in kinds.Pipe pos constants clauses = no_rescue pos clauses.rescue
rescue_in kinds.Farm pos constants clauses = no_rescue pos clauses.rescue
rescue_in kinds.Map pos constants clauses = no_rescue pos clauses.rescue
rescue_in kinds.Reduce pos constants clauses = no_rescue pos clauses.rescue
rescue_in kinds.Loop pos constants clauses = no_rescue pos clauses.rescue
