use Rattle.std.proofs.Common.{◌≡◌, ◌++◌, drop, map}
use Rattle.p3l_body.specs.Seq.{seq_tree}
use Rattle.p3l_c_print.specs.Bodies.{functions_text}
use Rattle.p3l_c_print.proofs.bodies.put_functions.Given as goal

abbrev pub invariant-loop-seq : goal.invariant-loop-seq
invariant-loop-seq l =
    l.out.items ++ functions_text l.tree (map seq_tree (drop l.seq-index l.seqs)) ≡ l.initial.out.items ++ functions_text l.tree (map seq_tree l.seqs)
