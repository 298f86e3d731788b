-- The channels so far are there, and the ports with those to come are all.
use Rattle.std.proofs.Common.{◌≡◌, ◌-◌, ◌++◌, length, replicate}
use Rattle.p3l_template.specs.Built.{all_ports}
use Rattle.p3l_template.specs.Pipe.{stage_slots}
use Rattle.p3l_template.specs.Shape.{empty_chan}
use Rattle.p3l_template.proofs.pipe.PipeTemplateTemplate.place.Given as goal

abbrev pub invariant-loop-stage : goal.invariant-loop-stage
invariant-loop-stage l = record {
  procs : l.builder.procs ≡ l.initial.builder.procs;
  chans : l.builder.chans ≡ l.initial.builder.chans ++ replicate l._stage (empty_chan l.cap);
  ports : l.ports
      ++ all_ports (stage_slots l._stage l.input (length l.builder.chans) l.at.output ((l.self.stages - 1) - l._stage))
      ≡ all_ports (stage_slots 0 l.initial.input (length l.initial.builder.chans) l.at.output (l.self.stages - 1));
}
