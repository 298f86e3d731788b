use Rattle.std.proofs.Common.{refl, subst, inr}
use Rattle.std.proofs.lemmas.Result.{err_from_is_err_and}
use Rattle.p3l_io.specs.Change.{change}
use Rattle.p3l_alloc.specs.Chosen.{IsRefused}
use Rattle.p3l_program.proofs.FileSteps.{unchanged_faults}
use Rattle.p3l_program.proofs.TreeSteps.{costless_unchosen}
use Rattle.p3l_program.proofs.plan.choose_counts.Goals as goal

pub returns-in_err-costs-clause-refused : goal.returns-in_err-costs-clause-refused
returns-in_err-costs-clause-refused g c =
    let p = err_from_is_err_and c.from_residual.result c.from_residual.ensures.1 in
    rw (p.1, p.2) (costless_unchosen (change (g.F.Files.observed c.args.files.now) (g.F.Files.observed c.load_costs.new.files)) c.args.name c.args.tree.now c.args.processors _ c.in_err-costs.ensures.refused)

pub returns-in-Err-TooFew-clause-refused : goal.returns-in-Err-TooFew-clause-refused
returns-in-Err-TooFew-clause-refused g c = inr (record {
  need = c.in-Err-TooFew.need;
  verdict_is = refl;
  cs = c.in_ok-costs.costs;
  loads = c.in_ok-costs.ensures.loaded;
  short = subst (λ refusal. IsRefused c.args.tree.now c.args.processors refusal) c.in-Err-TooFew.field-0-is c.in-Err-TooFew.ensures.refused;
  same_faults = (unchanged_faults c.in_ok-costs.ensures.unchanged);
})
