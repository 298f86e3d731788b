-- The code of a compilable body is safe, and does what the body means.
use Rattle.std.proofs.Common.{◌≡◌, ℕ, ℤ, pos, ◌+◌, ◌-◌, ◌≤◌, List, ◌++◌, length, replicate, Some, Result, Ok, Err, refl, ap, ◌∙◌, arith, length-append}
use Rattle.std.specs.List.{flat_map}
use Rattle.std.proofs.lemmas.List.{length-replicate}
use Rattle.p3l_base.specs.declared.outcome.TrapKind.{TrapKind}
use Rattle.p3l_ast.specs.declared.meaning.valuation.Valuation.{Valuation}
use Rattle.p3l_ast.specs.Meaning.Statement.{run_of}
use Rattle.p3l_body.specs.declared.var.Var.{Var}
use Rattle.p3l_body.specs.Eval.{words_in, start_of, outcome_of as outcome_in, eval}
use Rattle.p3l_body.specs.Seq.{SeqTree}
use Rattle.p3l_code.specs.declared.instr.Code.{Code}
use Rattle.p3l_code.specs.declared.instr.Instr.{Instr}
use Rattle.p3l_code.specs.Safe.{IsSafe}
use Rattle.p3l_code.specs.Machine.{after, started, outcome_of, exec}
use Rattle.p3l_code.proofs.Unroll.{unrolls}
use Rattle.p3l_code.proofs.Fine.{leads_all}
use Rattle.p3l_compile.specs.Scope.{names_of}
use Rattle.p3l_compile.specs.Condition.{total, IsCompilable, Compiles, body_code, code_of}
use Rattle.p3l_compile.proofs.Correct.{compiled_means}
use Rattle.p3l_compile.proofs.Safety.{compiled_safe}
use Rattle.p3l_compile.proofs.Started.{total_append, starts, outs_taken}
use Rattle.p3l_compile.proofs.Entered.{laid}

-- an ending of the machine is an outcome of the body
ended : (home : ℕ) (outs : List Var) (r : Result Valuation TrapKind) → outcome_of home (after r (λ s. Some (Ok (flat_map (words_in s) outs)))) ≡ outcome_in home outs r
ended home outs (Ok s) = refl
ended home outs (Err trap) = refl

-- the code of these parts
abbrev made : ℕ → ℕ → ℕ → ℕ → List Instr → Code
made budget ins outs memory instrs = record { budget = budget; ins = ins; outs = outs; memory = memory; instrs = instrs }

module _ (seq : SeqTree) (code : Code) (can : IsCompilable seq) (budget : code.budget ≡ seq.budget) (ins : code.ins ≡ total seq.ins) (outs : code.outs ≡ total seq.outs) (memory : code.memory ≡ total ((seq.ins ++ seq.outs) ++ seq.locals)) (whole : code.instrs ≡ body_code seq) where
  ports : code.ins + code.outs ≤ code.memory
  ports = omega (arith, total_append (seq.ins ++ seq.outs) seq.locals, total_append seq.ins seq.outs)

  pub is_safe : IsSafe code
  unfolding ports
  is_safe =
      let small : code.memory ≤ 196608 = omega (arith, total_append (seq.ins ++ seq.outs) seq.locals, total_append seq.ins seq.outs, can.few_ins, can.few_outs, can.few_locals) in
      compiled_safe code (names_of seq) seq.body whole (laid seq can code.memory memory) can.fits can.limits can.few ports small (omega (arith, can.some_budget)) (omega (arith, can.small_budget))

  means : (words : List ℤ) → length words ≡ total seq.ins → exec code seq.home words ≡ eval seq words
  unfolding is_safe ports
  means words fits =
      let place = laid seq can code.memory memory in
      let full : length (started code words) ≡ code.memory =
      omega (arith, length-append words (replicate (code.memory - length words) (pos 0)), length-replicate (code.memory - length words) (pos 0), ports) in
      let ends = compiled_means (names_of seq) seq.body code (λ s. flat_map (words_in s) seq.outs) (unrolls code (leads_all code is_safe)) place can.fits whole
      (λ m t l. outs_taken seq code m t place ins outs l ports) words full in
      ap (outcome_of seq.home) ends
      ∙ ap (λ (s : Valuation). outcome_of seq.home (after (run_of code.budget seq.body s) (λ s. Some (Ok (flat_map (words_in s) seq.outs))))) (starts seq code words memory fits)
      ∙ ap (λ n. outcome_of seq.home (after (run_of n seq.body (start_of seq words)) (λ s. Some (Ok (flat_map (words_in s) seq.outs))))) budget
      ∙ ended seq.home seq.outs (run_of seq.budget seq.body (start_of seq words))

  is : code ≡ code_of seq
  is =
      ap (λ n. made n code.ins code.outs code.memory code.instrs) budget
      ∙ ap (λ n. made seq.budget n code.outs code.memory code.instrs) ins
      ∙ ap (λ n. made seq.budget (total seq.ins) n code.memory code.instrs) outs
      ∙ ap (λ n. made seq.budget (total seq.ins) (total seq.outs) n code.instrs) memory
      ∙ ap (λ l. made seq.budget (total seq.ins) (total seq.outs) (total ((seq.ins ++ seq.outs) ++ seq.locals)) l) whole

  pub compiles : Compiles seq code
  unfolding means is
  compiles = record { is = is; means = means }
