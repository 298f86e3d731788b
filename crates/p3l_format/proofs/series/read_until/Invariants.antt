use Rattle.std.proofs.Common.{◌≡◌, suc, ◌+◌, ◌-◌, ◌≤◌, length}
use Rattle.p3l_format.specs.Series.{read_from, until}
use Rattle.p3l_format.proofs.Loop.{with_front}
use Rattle.p3l_format.proofs.series.read_until.Given as goal

abbrev pub invariant-loop-after : goal.invariant-loop-after
invariant-loop-after g l =
    let item = g.I.Item.format in
    let next = g.I.Item.next in
    record {
      so_far : with_front l.values (read_from item next l.stop (suc (length l.bytes) - length l.values) l.kind l.rest) ≡ (until item next l.fn.first l.stop).read l.bytes;
      room : length l.values + length l.rest ≤ length l.bytes;
    }

abbrev pub decreases-loop-after : goal.decreases-loop-after
decreases-loop-after g l = length l.rest
