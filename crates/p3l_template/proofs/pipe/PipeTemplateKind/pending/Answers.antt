use Rattle.std.proofs.Common.{Some, ap, ◌∙◌}
use Rattle.p3l_template.specs.Shape.{Base}
use Rattle.p3l_template.specs.Finding.{if_orderly}
use Rattle.p3l_template.specs.PipeKind.{in_stages, pipe_finds}
use Rattle.p3l_firing.specs.Shot.{state_of}
use Rattle.p3l_template.proofs.pipe.PipeTemplateKind.pending.Goals as goal

pub returns : goal.returns
unfolding if_orderly pipe_finds
returns c =
    ap Some (c.in_ok-pending.ensures ∙ ap (λ (x : Base). in_stages (state_of c.args.shot.now) x.chan c.args.inner.now) c.place.view_is)
