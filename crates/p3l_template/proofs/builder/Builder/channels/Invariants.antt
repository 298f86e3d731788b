-- The channels so far are there, and their numbers with those to come are all.
use Rattle.std.proofs.Common.{◌≡◌, ◌-◌, ◌++◌, length, replicate}
use Rattle.p3l_template.specs.Shape.{empty_chan, numbers_from}
use Rattle.p3l_template.proofs.builder.Builder.channels.Given as goal

abbrev pub invariant-loop-done : goal.invariant-loop-done
invariant-loop-done l = record {
  procs : l.self.procs ≡ l.initial.self.procs;
  chans : l.self.chans ≡ l.initial.self.chans ++ replicate l._done (empty_chan l.cap);
  numbers : l.numbers ++ numbers_from (length l.self.chans) (l.count - l._done)
      ≡ numbers_from (length l.initial.self.chans) l.count;
}
