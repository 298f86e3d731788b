use Rattle.std.proofs.Common.{length, arith}
use Rattle.p3l_ready.specs.Flags.{flag_at}
use Rattle.p3l_ready.proofs.Counting.{count-parts}
use Rattle.p3l_ready.proofs.ready.ReadySet.nth.Goals as goal

pub nth_from-requires-clause-there : goal.nth_from-requires-clause-there
nth_from-requires-clause-there c =
    let parts = count-parts (flag_at c.args.self.now) c.block_of-start.result.0 (length c.args.self.now) c.block_of-start.ensures.inside in
    omega (arith, parts, c.block_of-start.ensures.left, c.requires.there)

pub returns-clause-before : goal.returns-clause-before
returns-clause-before c =
    let parts = count-parts (flag_at c.args.self.now) c.block_of-start.result.0 c.nth_from.result c.nth_from.ensures.there.0 in
    omega (arith, parts, c.block_of-start.ensures.left, c.nth_from.ensures.before)
