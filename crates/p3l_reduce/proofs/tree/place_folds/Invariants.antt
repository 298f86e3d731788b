use Rattle.std.proofs.Common.{◌≡◌, ◌+◌, ◌++◌, length, drop}
use Rattle.p3l_reduce.specs.Reduce.{fold_procs}
use Rattle.p3l_reduce.proofs.tree.place_folds.Given as goal

abbrev pub invariant-loop-s : goal.invariant-loop-s
invariant-loop-s l = record {
  procs : l.builder.procs ++ fold_procs l.node (length l.lengths) l.output l.first l.from l.s (drop l.s l.lengths)
      ≡ l.fn.builder.procs ++ fold_procs l.node (length l.lengths) l.output l.first l.from 0 l.lengths;
  chans : l.builder.chans ≡ l.fn.builder.chans;
  count : length l.builder.procs ≡ length l.fn.builder.procs + l.s;
}
