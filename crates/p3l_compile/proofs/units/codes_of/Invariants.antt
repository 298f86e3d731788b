use Rattle.std.proofs.Common.{map, take}
use Rattle.p3l_body.specs.Seq.{seq_tree}
use Rattle.p3l_compile.specs.Leaves.{AreCodes}
use Rattle.p3l_compile.proofs.units.codes_of.Given as goal

-- the bodies so far have codes
abbrev pub invariant-loop-seq : goal.invariant-loop-seq
invariant-loop-seq l = AreCodes (map seq_tree (take l.seq-index l.seqs)) l.codes
