use Rattle.std.proofs.Common.{length, ap, ◌∙◌, arith, length-set}
use Rattle.p3l_timed.specs.Price.{price_at}
use Rattle.p3l_timed.proofs.Round.{ends_looked}
use Rattle.p3l_timed.proofs.look.look_at_ends.Goals as goal

pub returns-clause-way : goal.returns-clause-way
returns-clause-way c = λ p cs before way.
    let can = c.requires.can in
    let size = can.size in
    let room = can.room in
    let w = c.writer-writer.ensures.there in
    let d = c.reader-reader.ensures.there in
    let long = ap length c.look.ensures ∙ length-set c.args.moments.now c.writer-writer.result _ in
    ends_looked c.args.machine.now (price_at c.args.prices.now) c.args.moment p before c.args.c c.writer-writer.result c.reader-reader.result cs
    c.args.moments.now c.look.new.moments c.look-2.new.moments c.writer-writer.ensures.writes c.reader-reader.ensures.reads
    (omega (arith, w, size, room)) (omega (arith, d, size, room, long)) c.look.ensures c.look-2.ensures way
