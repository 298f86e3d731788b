-- The saved state of a machine that runs a linked net is sound.
use Rattle.std.proofs.Common.{sym, subst}
use Rattle.p3l_firing.specs.State.{first_state}
use Rattle.p3l_firing.specs.Typed.{IsTyped}
use Rattle.p3l_link.specs.Laws.{net_of}
use Rattle.p3l_link.proofs.LinkedLaws.{run_begun}
use Rattle.p3l_resume_laws.specs.Kept.{EverySavedShotIsSound}
use Rattle.p3l_resume_laws.specs.Linked.{IsBalanced}
use Rattle.p3l_resume_laws.proofs.Forced.{net_forced}
use Rattle.p3l_resume_laws.proofs.KeptStates.{IsKept, run_kept}
use Rattle.p3l_resume_laws.proofs.LinkedLaw.{run_balanced, start_balanced}
use Rattle.p3l_resume_laws.proofs.SavedStates.{saved_balanced, saved_fitting, saved_orderly}

pub saved_sound : EverySavedShotIsSound
saved_sound units counts cap items picks m outcomes rest typed l named long of_run small =
    let k = subst (IsKept units counts cap l named typed) (sym of_run.follows.state) (run_kept units counts cap l named typed items picks long) in
    let agrees = λ (t : IsTyped units.tree (net_of units counts cap)). net_forced units.tree counts cap t l.fit in
    let orderly = (run_begun units counts cap items l long).orderly in
    let balanced = run_balanced units counts cap (first_state (net_of units counts cap) items) picks l orderly (start_balanced units counts cap items l long) in
    record {
      fitting = saved_fitting m units counts cap l named typed agrees of_run.net of_run.shaped outcomes rest k small;
      orderly = saved_orderly m units counts cap l named typed agrees of_run.net of_run.shaped outcomes rest k;
      balanced = saved_balanced m units counts cap l named typed agrees of_run.net of_run.shaped outcomes rest k of_run.follows.emitted.count
          (subst (IsBalanced units counts) (sym of_run.follows.state) balanced);
    }
