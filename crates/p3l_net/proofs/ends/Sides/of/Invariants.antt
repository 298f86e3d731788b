use Rattle.std.proofs.Common.{length}
use Rattle.p3l_firing.specs.declared.process.Proc.{Proc}
use Rattle.p3l_net.proofs.Sides.{Entered}
use Rattle.p3l_net.proofs.ends.Sides.of.Given as goal

abbrev pub invariant-loop-p : goal.invariant-loop-p
invariant-loop-p l =
    record {
      writers : Entered (λ (q : Proc). q.outs) l.net.procs (length l.net.chans) l.p l.writers.items;
      readers : Entered (λ (q : Proc). q.ins) l.net.procs (length l.net.chans) l.p l.readers.items;
    }
