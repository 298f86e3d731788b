use Rattle.std.proofs.Common.{List, false, map, ap, ap₂, ◌∙◌}
use Rattle.p3l_firing.specs.State.{LocalState}
use Rattle.p3l_net.specs.Channel.{Queue}
use Rattle.p3l_net.specs.Machine.{Seen}
use Rattle.p3l_firing.specs.Shot.{own_of}
use Rattle.p3l_net.specs.Shot.{queues_of, restored}
use Rattle.p3l_net.proofs.store.Store.restore.Goals as goal

pub returns : goal.returns
unfolding restored
returns c =
    let with : List Queue → List LocalState → Seen =
    λ queues owns. record { tree = c.args.tree.now; net = c.args.net; queues = queues; owns = owns; inbox = c.args.shot.inbox; fired = 0; sent = c.args.shot.sent; emitted = c.args.shot.emitted; trapped = false } in
    ap₂ with
    (c.in_ok-channels.ensures ∙ ap₂ queues_of c.as_slice.ensures c.as_slice-2.ensures)
    (c.in_ok-locals.ensures ∙ ap (map own_of) c.as_slice-3.ensures)
