use Rattle.std.proofs.Common.{◌≡◌, length, ap}
use Rattle.p3l_firing.specs.Fire.{can_fire}
use Rattle.p3l_net.specs.Machine.{can_step}
use Rattle.p3l_sched.specs.Picker.{pick_of, ready_of}
use Rattle.p3l_sched.proofs.laws.a_filled_machine_is_picked_for_as_its_run.Goals as goal

pub returns-clause-ready : goal.returns-clause-ready
returns-clause-ready c = λ m outcomes rest k follows filled.
    let same : can_fire m.tree m.net k.state ≡ can_step m = λ i p. c.a_filled_machine_follows_the_run.ensures.can_fire m outcomes rest k p follows filled i in
    ap (λ can. ready_of can (length m.net.procs)) same

pub returns-clause-pick : goal.returns-clause-pick
returns-clause-pick c = λ m outcomes rest k w follows filled.
    let same : can_fire m.tree m.net k.state ≡ can_step m = λ i p. c.a_filled_machine_follows_the_run.ensures.can_fire m outcomes rest k p follows filled i in
    ap (λ can. pick_of can (length m.net.procs) w) same
