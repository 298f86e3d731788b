use Rattle.std.proofs.Common.{◌≤◌, length, arith}
use Rattle.p3l_firing.specs.State.{chan_at}
use Rattle.p3l_net.specs.Channel.{tokens_at}
use Rattle.p3l_net.specs.Machine.{state_of}
use Rattle.p3l_net.proofs.refresh.look_at_writer.Goals as goal

pub overflow_add-load : goal.overflow_add-load
unfolding state_of
overflow_add-load c =
    let small : length (tokens_at c.args.store.now.queues c.args.c) ≤ (chan_at c.args.store.now.net c.args.c).cap = c.requires.known.sound.fitting.rooms c.args.c in
    let load = c.load.ensures in
    let room = c.room.ensures in
    omega (arith, small, load, room)
