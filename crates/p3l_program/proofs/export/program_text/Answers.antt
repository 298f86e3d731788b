use Rattle.std.proofs.Common.{map, ap, ◌∙◌}
use Rattle.p3l_body.specs.Seq.{seq_tree}
use Rattle.p3l_c_print.specs.Bodies.{bodies_text}
use Rattle.p3l_program.proofs.ExportSteps.{text_given}
use Rattle.p3l_program.proofs.export.program_text.Goals as goal

pub returns-clause-text : goal.returns-clause-text
returns-clause-text c =
    let found = c.in-Ok.resolved in
    text_given c.args.priced.now c.args.capacity (record { tree = found.tree; seqs = map seq_tree found.seqs }) c.as_slice-2.result.now c.export_program.result c.in-Ok.ensures.resolved
    (c.as_slice-2.ensures ∙ c.in_ok-bodies.ensures ∙ ap (λ seqs. bodies_text found.tree (map seq_tree seqs)) c.as_slice.ensures) c.export_program.ensures
