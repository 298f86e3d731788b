use Rattle.std.proofs.Common.{◌≡◌, ◌++◌, ◌-◌, length, take}
use Rattle.p3l_template.specs.PipeKind.{in_stages}
use Rattle.p3l_firing.specs.Shot.{state_of}
use Rattle.p3l_template.proofs.pipe.in_pipe.Given as goal

-- with what is pending in the stages before it is the whole
abbrev pub invariant-loop-later : goal.invariant-loop-later
invariant-loop-later l =
    l.list ++ in_stages (state_of l.shot) l.chan (take (length l.inner - l.later) l.inner) ≡ in_stages (state_of l.shot) l.chan l.inner
