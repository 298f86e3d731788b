use Rattle.std.proofs.Common.{◌≡◌, ◌+◌, ◌-◌, List, ℕ, true, if◌then◌else◌}
use Rattle.p3l_io.specs.Change.{HasSameFaults, change}
use Rattle.p3l_stream.specs.Part.{FitsIn, StandsFor}
use Rattle.p3l_stream.proofs.Reading.{IsOnWay}
use Rattle.p3l_stream.proofs.lines.Lines.read_on.Given as goal

abbrev pub invariant-loop-self : goal.invariant-loop-self
invariant-loop-self g l = record {
  so_far : List ℕ;
  way : IsOnWay l.fn.self (record l.self { held = so_far }) (change (g.S.Source.observed l.fn.source) (g.S.Source.observed l.source));
  stands : StandsFor l.part l.self.held so_far;
  fits : FitsIn l.part l.self;
  same : HasSameFaults (change (g.S.Source.observed l.fn.source) (g.S.Source.observed l.source));
  still : l.fn.self.at_end ≡ true → l.source ≡ l.fn.source;
}

abbrev pub decreases-loop-self : goal.decreases-loop-self
decreases-loop-self g l = (l.self.limit - l.self.taken) + (if l.self.at_end then 0 else 1)
