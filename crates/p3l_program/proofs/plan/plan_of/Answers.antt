use Rattle.std.proofs.Common.{◌≤◌, subst, sym}
use Rattle.p3l_program.proofs.SoundSteps.{some_words}
use Rattle.p3l_program.proofs.plan.plan_of.Goals as goal

pub returns-clause-wide : goal.returns-clause-wide
returns-clause-wide g c = subst (λ n. 1 ≤ n) (sym c.width_of.ensures) (some_words c.args.tree.now c.requires.lawful)
