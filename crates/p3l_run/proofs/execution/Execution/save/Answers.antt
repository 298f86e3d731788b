use Rattle.std.proofs.Common.{◌+◌, ap, subst, sym}
use Rattle.p3l_firing.specs.Shot.{IsCountable}
use Rattle.p3l_run.proofs.ReplaySteps.{shaped_by}
use Rattle.p3l_run.proofs.execution.Execution.save.Goals as goal

pub returns : goal.returns
returns c =
    let countable : IsCountable c.in_ok-shot.shot = subst IsCountable (sym c.in_ok-shot.ensures.saved) c.requires.countable in
    record {
      shot_is = c.in_ok-shot.ensures.saved;
      shaped = shaped_by c.args.self.now.machine c.in_ok-shot.shot c.in_ok-shot.ensures.saved c.in_ok-shot.ensures.back countable (c.in_ok-shot.ensures.fits countable);
      countable = countable;
      items_are = c.items.ensures;
      picks_are = ap (λ k. k + c.args.self.now.idle) c.fired.ensures;
    }
