use Rattle.std.proofs.Common.{Ok, Some, subst}
use Rattle.p3l_cost.specs.File.{Says}
use Rattle.p3l_program.proofs.plan.costs_in.Goals as goal

pub returns-in-Ok-read_costs-clause-loaded : goal.returns-in-Ok-read_costs-clause-loaded
returns-in-Ok-read_costs-clause-loaded g c = record {
  said = Some c.in-Ok.text;
  says = c.in-Ok.ensures.found;
  costs = subst (λ text. Says c.args.tree.now text (Ok c.in-Ok-read_costs.costs)) c.as_slice.ensures c.in-Ok-read_costs.ensures.read;
  lawful = c.in-Ok-read_costs.ensures.lawful;
}
