-- A run that is counted: how far it has come, and with how many instructions it ends.
use Rattle.std.proofs.Common.{mul-le-mul, ◌≡◌, ◌+◌, ◌^◌, ◌<◌, ◌≤◌, ℕ, ℤ, zero, suc, Bool, true, false, cond, List, [], length, get_or, Some, None, Result, Ok, Err, inl, inr, refl, sym, ap, ◌∙◌, arith}
use Rattle.std.specs.Prelude.{is_some, slice_get}
use Rattle.std.proofs.lemmas.Bool.{cases_lt}
use Rattle.std.proofs.lemmas.Option.{slice_get_within, slice_get-get_or}
use Rattle.p3l_base.specs.declared.outcome.TrapKind.{TrapKind}
use Rattle.p3l_code.specs.declared.instr.Instr.{Instr}
use Rattle.p3l_code.specs.declared.instr.Code.{Code}
use Rattle.p3l_code.specs.Machine.{Continuation, present, act, run_by, most_steps}
use Rattle.p3l_code.specs.Safe.{IsSafe}
use Rattle.p3l_code.specs.Run.{IsAt, LeavesOr, next_after, rank}
use Rattle.p3l_code.specs.Counting.{first_from, has_ended, steps_from, Does, HasDone}
use Rattle.p3l_code.proofs.Unroll.{below_most}
use Rattle.p3l_code.proofs.Fine.{leads_all}

-- an instruction that may trap leads to the next place, or ends the run by its trap
pub does_or : (code : Code) (i : Instr) (pc turns : ℕ) (stack memory stack' memory' : List ℤ) (r : Result (Unit {0}) TrapKind) → LeavesOr i stack memory stack' memory' r → Does code i pc stack memory turns stack' memory' (next_after (pc + 1) turns r)
does_or code i pc turns stack memory stack' memory' (Ok _) leaves = λ next. leaves code next pc turns
does_or code i pc turns stack memory stack' memory' (Err trap) leaves = λ next. leaves code next pc turns

-- the first of `more` + 1 instructions
one_more : (code : Code) (more pc : ℕ) (stack memory : List ℤ) (turns : ℕ) (i : Instr) → slice_get code.instrs pc ≡ Some i → run_by code (suc more) pc stack memory turns ≡ act code (run_by code more) i pc stack memory turns
unfolding run_by
one_more code more pc stack memory turns i at = ap (λ o. present o (λ i. act code (run_by code more) i pc stack memory turns)) at

none_yet : (code : Code) (pc : ℕ) (stack memory : List ℤ) (turns : ℕ) → run_by code 0 pc stack memory turns ≡ None
unfolding run_by
none_yet code pc stack memory turns = refl

-- before the first instruction
pub done_none : (code : Code) (start : List ℤ) → HasDone code start 0 0 [] start 0
done_none code start = record {
  rest = λ more. ap (λ n. run_by code n 0 [] start 0) (let e : more + 0 ≡ more = omega arith in e);
  going = λ n low. ap (λ n. run_by code n 0 [] start 0) (let e : n ≡ 0 = omega arith in e) ∙ none_yet code 0 [] start 0;
}

-- the instruction that leads on is one more
pub done_more : (code : Code) (start : List ℤ) (done pc pc' : ℕ) (stack memory stack' memory' : List ℤ) (turns turns' : ℕ) (i : Instr) → slice_get code.instrs pc ≡ Some i → HasDone code start done pc stack memory turns →
    ((next : Continuation) → act code next i pc stack memory turns ≡ next pc' stack' memory' turns') → HasDone code start (done + 1) pc' stack' memory' turns'
done_more code start done pc pc' stack memory stack' memory' turns turns' i at has leads = record {
  rest = rest;
  going = λ n low. elim (cases_lt done n) as (λ _. run_by code n 0 [] start 0 ≡ None) [
    | inl above ↦ ap (λ n. run_by code n 0 [] start 0) (let e : n ≡ 0 + (done + 1) = omega arith in e) ∙ (rest 0 ∙ none_yet code pc' stack' memory' turns')
    | inr before ↦ has.going n before
  ];
}
  where
    rest : (more : ℕ) → run_by code (more + (done + 1)) 0 [] start 0 ≡ run_by code more pc' stack' memory' turns'
    rest more =
        ap (λ n. run_by code n 0 [] start 0) (let e : more + (done + 1) ≡ suc more + done = omega arith in e)
        ∙ (has.rest (suc more) ∙ (one_more code more pc stack memory turns i at ∙ leads (run_by code more)))

-- the first number that passes is found
found_from : (test : ℕ → Bool) (left n found : ℕ) → n ≤ found → found ≤ left + n → ((m : ℕ) → m < found → test m ≡ false) → test found ≡ true → first_from test left n ≡ found
found_from test zero n found low high before here = omega arith
found_from test (suc left) n found low high before here = elim (cases_lt n found) as (λ _. first_from test (suc left) n ≡ found) [
  | inl below ↦ ap (λ b. cond b n (first_from test left (suc n))) (before n below) ∙ found_from test left (suc n) found below (omega arith) before here
  | inr last ↦ let e : n ≡ found = omega arith in ap (λ b. cond b n (first_from test left (suc n))) (ap test e ∙ here) ∙ e
]

-- the instruction that ends the run is its last one
pub done_all : (code : Code) (start : List ℤ) (done pc : ℕ) (stack memory : List ℤ) (turns : ℕ) (i : Instr) (r : Result (List ℤ) TrapKind) → done < most_steps code → slice_get code.instrs pc ≡ Some i → HasDone code start done pc stack memory turns →
    ((next : Continuation) → act code next i pc stack memory turns ≡ Some r) → done + 1 ≡ steps_from code start
unfolding steps_from
done_all code start done pc stack memory turns i r few at has ends =
    sym (found_from (has_ended code start) (most_steps code) 0 (done + 1) (omega arith) (omega arith)
    (λ m low. ap is_some (has.going m (omega arith)))
    (ap (λ n. is_some (run_by code n 0 [] start 0)) (let e : done + 1 ≡ suc 0 + done = omega arith in e)
    ∙ ap is_some (has.rest (suc 0) ∙ (one_more code 0 pc stack memory turns i at ∙ ends (run_by code 0)))))

-- a run of safe code does fewer instructions than a counter can hold
pub few_steps : (code : Code) → IsSafe code → most_steps code < 2 ^ 64
few_steps code safe =
    let rows : code.budget + 2 ≤ 100000002 = omega (arith, safe.budget_small) in
    let long : length code.instrs + 2 ≤ 4194306 = omega (arith, safe.few) in
    omega (arith, mul-le-mul rows long)

pub starts_low : (code : Code) → IsSafe code → (pc turns : ℕ) → rank code pc turns < most_steps code
starts_low code safe pc turns = below_most code (leads_all code safe) pc turns

-- a place that a run comes to has an instruction
pub inside : (code : Code) (pc depth : ℕ) → IsAt code pc depth → pc < length code.instrs
inside code pc depth at = omega (arith, at.1.whole, slice_get_within at.0 pc depth at.2)

pub instr_there : (code : Code) (instrs : List Instr) (pc depth : ℕ) (other : Instr) → instrs ≡ code.instrs → IsAt code pc depth → slice_get code.instrs pc ≡ Some (get_or instrs pc other)
instr_there code instrs pc depth other same at =
    slice_get-get_or code.instrs pc other (inside code pc depth at) ∙ ap (λ (xs : List Instr). Some (get_or xs pc other)) (sym same)
