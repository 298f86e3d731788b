use Rattle.std.proofs.Common.{◌≡◌, ◌≤◌, ◌+◌, ◌-◌, ◌++◌, length}
use Rattle.p3l_reduce.specs.Reduce.{join_procs}
use Rattle.p3l_reduce.proofs.tree.place_joins.Given as goal

abbrev pub invariant-loop-q : goal.invariant-loop-q
invariant-loop-q l = record {
  first : 1 ≤ l.q;
  procs : l.builder.procs ++ join_procs l.node l.output l.from l.q (l.m - l.q)
      ≡ l.fn.builder.procs ++ join_procs l.node l.output l.from 1 (l.m - 1);
  chans : l.builder.chans ≡ l.fn.builder.chans;
  count : length l.builder.procs ≡ length l.fn.builder.procs + (l.q - 1);
}
