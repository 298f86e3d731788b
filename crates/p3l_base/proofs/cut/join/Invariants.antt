use Rattle.std.proofs.Common.{◌≡◌, ◌+◌, ◌++◌, drop}
use Rattle.p3l_base.specs.Cut.{element_size, arrays_words, joined_words}
use Rattle.p3l_base.proofs.cut.join.Given as goal

abbrev pub invariant-loop-slice : goal.invariant-loop-slice
invariant-loop-slice l = record {
  so_far : l.token.items ++ arrays_words l.results l.cut.second (drop l.slice-index l.cut.outs) l.at ≡ joined_words l.cut l.results;
  within : l.at + element_size (drop l.slice-index l.cut.outs) ≡ element_size l.cut.outs;
}
