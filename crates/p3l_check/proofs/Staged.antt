-- The calls of a pipe or a comp that pass.
use Rattle.std.proofs.Common.{◌≡◌, ℕ, ◌<◌, ◌≤◌, Bool, true, false, List, [], ◌∷◌, ◌++◌, map, length, Ok, sym, ◌∙◌, subst, arith}
use Rattle.std.specs.Prelude.{◌==◌}
use Rattle.std.specs.List.{AllByRecursion}
use Rattle.std.proofs.Math.Dec.{eqb-suc-zero}
use Rattle.p3l_ast.specs.declared.call.Call.{Call}
use Rattle.p3l_body.specs.declared.var.Var.{Var}
use Rattle.p3l_body.specs.Scope.{Names, named}
use Rattle.p3l_check.specs.Wiring.{module_at, IsCallChain, IsSequentialModule}
use Rattle.p3l_calls.specs.Port.{total}
use Rattle.p3l_calls.specs.Plain.{plain_call}
use Rattle.p3l_calls.specs.Stage.{stage}
use Rattle.p3l_calls.proofs.Kept.{given-taken}
use Rattle.p3l_calls.proofs.Chains.{HasTotals, plain_call-totals, stage-totals}
use Rattle.p3l_check.specs.Modules.{Modules, ports_at}
use Rattle.p3l_check.specs.Environment.{Before}
use Rattle.p3l_check.specs.Callee.{called}
use Rattle.p3l_check.specs.Skeleton.{handed_on, staged}
use Rattle.p3l_check.proofs.Called.{IsCalled, called-is}

-- the ports of each module have its words
abbrev pub HavePorts : Modules → Type 0
HavePorts modules = (k : ℕ) → k < length modules.callables → HasTotals (ports_at modules k) (module_at modules.callables k).ins (module_at modules.callables k).outs

-- the callees of calls that are handed `taken` words
pub record AreStaged (in_process : Bool) (modules : Modules) (taken filled : ℕ) (ks : List ℕ) : Type 0 where
  pub some : 1 ≤ length ks
  pub inside : AllByRecursion (λ c. c < length modules.callables) ks
  pub chain : IsCallChain modules.callables taken filled ks
  pub sequential : in_process ≡ true → AllByRecursion (IsSequentialModule modules.callables) ks

module _ (in_process : Bool) (before : Before) (outs : List Var) (same : length before.modules.callables ≡ length before.modules.infos) (have : HavePorts before.modules) where
  -- the words of a callee that takes and gives these
  words-are : (call : Call) (k ins gives : ℕ) → IsCalled in_process before.modules call k → HasTotals (ports_at before.modules k) ins gives →
      ((module_at before.modules.callables k).ins ≡ ins) × ((module_at before.modules.callables k).outs ≡ gives)
  words-are call k ins gives is totals =
      let own = have k is.runs.inside in (sym own.takes ∙ totals.takes, sym own.gives ∙ totals.gives)

  last-staged : (call : Call) (taken : List Var) (k : ℕ) → IsCalled in_process before.modules call k → plain_call taken outs (ports_at before.modules k) call ≡ Ok tt →
      AreStaged in_process before.modules (total taken) (total outs) (k ∷ [])
  last-staged call taken k is e =
      let words = words-are call k (total taken) (total outs) is (plain_call-totals taken outs (ports_at before.modules k) call tt is.arity.ins is.arity.outs e) in
      record {
        some = omega arith;
        inside = (is.runs.inside, tt);
        chain = (words.0, words.1);
        sequential = λ h. (is.runs.sequential h, tt);
      }

  more-staged : (call : Call) (names : Names) (taken vars : List Var) (k : ℕ) (ks : List ℕ) → IsCalled in_process before.modules call k →
      stage before.constants names taken (ports_at before.modules k) call ≡ Ok vars → AreStaged in_process before.modules (total vars) (total outs) ks →
      AreStaged in_process before.modules (total taken) (total outs) (k ∷ ks)
  more-staged call names taken vars k ks is e rest =
      let words = words-are call k (total taken) (total vars) is (stage-totals before.constants names taken (ports_at before.modules k) call vars is.arity.ins is.arity.outs e) in
      record {
        some = omega arith;
        inside = (is.runs.inside, rest.inside);
        chain = (words.0, subst (λ n. IsCallChain before.modules.callables n (total outs) ks) (sym words.1) rest.chain);
        sequential = λ h. (is.runs.sequential h, rest.sequential h);
      }

  pub staged-are : (calls : List Call) (names : Names) (taken : List Var) (ks : List ℕ) → 1 ≤ length calls →
      staged in_process before names taken outs calls ≡ Ok ks → AreStaged in_process before.modules (total taken) (total outs) ks
  staged-are [] names taken ks some e = absurd (omega (arith, some))
  staged-are (call ∷ []) names taken ks some e =
      let callee = given-taken (called in_process before call) _ ks e in
      let handed = given-taken (handed_on before names taken outs true (ports_at before.modules callee.0) call) _ ks callee.2 in
      let passed = given-taken (plain_call taken outs (ports_at before.modules callee.0) call) _ handed.0 handed.1 in
      let is : callee.0 ∷ [] ≡ ks = cc (handed.2) in
      subst (AreStaged in_process before.modules (total taken) (total outs)) is
      (last-staged call taken callee.0 (called-is in_process before call callee.0 same callee.1) passed.1)
  staged-are (call ∷ (next ∷ more)) names taken ks some e =
      let callee = given-taken (called in_process before call) _ ks e in
      let handed = given-taken (handed_on before names taken outs (length (next ∷ more) == 0) (ports_at before.modules callee.0) call) _ ks callee.2 in
      let others : (length (next ∷ more) == 0) ≡ false = eqb-suc-zero (length more) in
      let passed : stage before.constants names taken (ports_at before.modules callee.0) call ≡ Ok handed.0 =
      subst (λ b. handed_on before names taken outs b (ports_at before.modules callee.0) call ≡ Ok handed.0) others handed.1 in
      let rest = given-taken (staged in_process before (names ++ map (named false) handed.0) handed.0 outs (next ∷ more)) _ ks handed.2 in
      let is : callee.0 ∷ rest.0 ≡ ks = cc (rest.2) in
      let after = staged-are (next ∷ more) (names ++ map (named false) handed.0) handed.0 rest.0 (omega arith) rest.1 in
      subst (AreStaged in_process before.modules (total taken) (total outs)) is
      (more-staged call names taken handed.0 callee.0 rest.0 (called-is in_process before call callee.0 same callee.1) passed after)
