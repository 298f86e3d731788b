use Rattle.std.proofs.Common.{arith, sym, ◌∙◌}
use Rattle.p3l_net.proofs.Choosing.{better-first, better-full, better-here, better-kept}
use Rattle.p3l_net.proofs.Standing.{room-seen}
use Rattle.p3l_net.proofs.store.Store.better.Goals as goal

pub returns-in-None-clause-better : goal.returns-in-None-clause-better
returns-in-None-clause-better c = better-first c.args.self.now c.args.channel c.args.best c.in-None.is (sym (room-seen c.args.self.now c.requires.sound c.args.channel) ∙ (sym c.has_room.ensures ∙ c.if-has_room.true))

pub returns-then-load-clause-better : goal.returns-then-load-clause-better
returns-then-load-clause-better c =
    better-here c.args.self.now c.args.channel c.args.best c.in-Some.other c.in-Some.is (sym (room-seen c.args.self.now c.requires.sound c.args.channel) ∙ (sym c.has_room.ensures ∙ c.if-has_room.true)) (omega (arith, c.if-load.true, c.load.ensures, c.load-in-Some.ensures))

pub returns-else-load-clause-better : goal.returns-else-load-clause-better
returns-else-load-clause-better c =
    better-kept c.args.self.now c.args.channel c.args.best c.in-Some.other c.in-Some.is (sym (room-seen c.args.self.now c.requires.sound c.args.channel) ∙ (sym c.has_room.ensures ∙ c.if-has_room.true)) (omega (arith, c.if-load.false, c.load.ensures, c.load-in-Some.ensures))

pub returns-else-has_room-clause-better : goal.returns-else-has_room-clause-better
returns-else-has_room-clause-better c = better-full c.args.self.now c.args.channel c.args.best (sym (room-seen c.args.self.now c.requires.sound c.args.channel) ∙ (sym c.has_room.ensures ∙ c.if-has_room.false))
