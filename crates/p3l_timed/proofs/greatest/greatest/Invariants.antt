use Rattle.std.proofs.Common.{◌<◌, ◌≤◌, ℕ, length, slice_index}
use Rattle.p3l_timed.proofs.greatest.greatest.Given as goal

-- the first of the greatest so far
abbrev pub invariant-loop-p : goal.invariant-loop-p
invariant-loop-p l =
    record {
      some : 1 ≤ l.p;
      there : l.best < l.p;
      inside : l.p ≤ length l.totals;
      most : (q : ℕ) → q < l.p → slice_index l.totals q ≤ slice_index l.totals l.best;
      first : (q : ℕ) → q < l.best → slice_index l.totals q < slice_index l.totals l.best;
    }
