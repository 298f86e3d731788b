use Rattle.std.proofs.Common.{slice_set, ap, ◌∙◌}
use Rattle.p3l_net.proofs.Frame.{looked_first, looked_at_reader, looked_at_writer}
use Rattle.p3l_net.proofs.step.Run.{reads_input, writes_output}
use Rattle.p3l_net.proofs.refresh.refresh_run.Goals as goal

pub returns : goal.returns
returns c =
    let can = c.requires.can in
    let run = c.requires.run in
    let reads = can.sides.read c.args.p c.args.descriptor.now.input run.described.process run.described.stands (reads_input can.sound run) in
    let writes = can.sides.written c.args.p c.args.descriptor.now.output run.described.process run.described.stands (writes_output can.sound run) in
    let looked = c.put.ensures ∙ ap (slice_set c.args.ready.now c.args.p) c.can_run.ensures in
    let before = looked_at_writer can.sides (looked_first can looked) c.look_at_writer.ensures.known reads c.look_at_writer.ensures.looked in
    record { sound = can.sound; agrees = looked_at_reader can.sides before c.look_at_reader.ensures.known writes c.look_at_reader.ensures.looked; sides = can.sides }
