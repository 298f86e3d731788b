-- The number of instructions that a run does: the fewest with which it ends.
use Rattle.std.specs.Prelude.{◌≡◌, ℕ, ℤ, zero, suc, ◌+◌, ◌≤◌, Bool, List, [], Some, None, Ok, Err, is_some, if◌then◌else◌}
use Rattle.p3l_code.specs.declared.instr.Instr.{Instr}
use Rattle.p3l_code.specs.declared.instr.Code.{Code}
use Rattle.p3l_code.specs.declared.run.Stepped as steps
use Rattle.p3l_code.specs.declared.run.Stepped.TheVariants as nexts
use Rattle.p3l_code.specs.Machine.{Continuation, act, outs_of, run_by, most_steps, started}

-- the first number from one on that passes a test, or the one after n numbers
abbrev pub first_from : (ℕ → Bool) → ℕ → ℕ → ℕ
first_from test zero n = n
first_from test (suc left) n = if test n then n else first_from test left (suc n)

-- true exactly if a run that begins with this memory has ended after n instructions
abbrev pub has_ended : Code → List ℤ → ℕ → Bool
has_ended code memory n = is_some (run_by code n 0 [] memory 0)

-- the number of instructions of a run that begins with this memory, the last one included
unfoldable pub steps_from : Code → List ℤ → ℕ
steps_from code memory = first_from (has_ended code memory) (most_steps code) 0

-- the number of instructions of a code's run on its in words, the last one included
abbrev pub steps_of : Code → List ℤ → ℕ
steps_of code words = steps_from code (started code words)

-- whatever comes next, the instruction leads there, or ends the run so
abbrev pub Does : Code → Instr → ℕ → List ℤ → List ℤ → ℕ → List ℤ → List ℤ → steps.Stepped → Type 0
Does code i pc stack memory turns stack' memory' (nexts.Goes pc' turns') =
    (next : Continuation) → act code next i pc stack memory turns ≡ next pc' stack' memory' turns'
Does code i pc stack memory turns stack' memory' nexts.Ended =
    (next : Continuation) → act code next i pc stack memory turns ≡ Some (Ok (outs_of code memory'))
Does code i pc stack memory turns stack' memory' (nexts.Stopped trap) =
    (next : Continuation) → act code next i pc stack memory turns ≡ Some (Err trap)

-- a run that began with a memory has done `done` instructions and continues from here: what it does
-- with more of them is what the machine does from here, and it has not ended before
pub record HasDone (code : Code) (start : List ℤ) (done : ℕ) (pc : ℕ) (stack memory : List ℤ) (turns : ℕ) : Type 0 where
  pub rest : (more : ℕ) → run_by code (more + done) 0 [] start 0 ≡ run_by code more pc stack memory turns
  pub going : (n : ℕ) → n ≤ done → run_by code n 0 [] start 0 ≡ None
