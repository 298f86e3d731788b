use Rattle.std.proofs.Common.{arith}
use Rattle.p3l_ready.specs.Flags.{count_from}
use Rattle.p3l_ready.proofs.Counting.{blocks-more, blocks-end}
use Rattle.p3l_ready.proofs.ready.ReadySet.block_of.Goals as goal

pub loop-b-init : goal.loop-b-init
unfolding count_from
loop-b-init c = omega arith

pub loop-b-preserved : goal.loop-b-preserved
loop-b-preserved c =
    blocks-more _ _ _ _ c.self.view_is c.self.invariant c.args.k c.loop-b.left c.loop-b.b _ (omega (arith, c.len-b-end.ensures, c.loop-b-test.true)) c.loop-b.invariant c.index-count.ensures c.if-left-count.false

pub unreachable-requires : goal.unreachable-requires
unreachable-requires c =
    blocks-end _ _ _ _ c.self.view_is c.self.invariant c.args.k c.loop-b.left c.loop-b.b c.len-b-end.result (omega (arith, c.len-b-end.ensures)) c.loop-b-test.false c.loop-b.auto.b-end c.loop-b.invariant c.requires
