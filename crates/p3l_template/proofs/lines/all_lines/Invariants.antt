use Rattle.std.proofs.Common.{◌≡◌, ◌++◌, ◌+◌, ◌-◌, drop}
use Rattle.p3l_template.specs.Shape.{fan_slots}
use Rattle.p3l_template.specs.Lines.{lines_by}
use Rattle.p3l_firing.specs.Shot.{state_of}
use Rattle.p3l_template.proofs.lines.all_lines.Given as goal

-- with the lines that are left they are all
abbrev pub invariant-loop-worker : goal.invariant-loop-worker
invariant-loop-worker l =
    l.lines
    ++ lines_by (state_of l.shot) (fan_slots (l.chan + l.worker) ((l.chan + l.workers) + l.worker) (l.workers - l.worker)) (drop l.worker l.inner)
    ≡ lines_by (state_of l.shot) (fan_slots l.chan (l.chan + l.workers) l.workers) l.inner
