use Rattle.std.proofs.Common.{◌∙◌, ◌++◌, ℕ, List, ap, append_assoc}
use Rattle.std.specs.Prelude.{codes, string_bytes}
use Rattle.p3l_advise.specs.Lines.{indent}
use Rattle.p3l_advise.proofs.Nodes.{indent_more}
use Rattle.p3l_advise.proofs.lines.put_indent.Goals as goal

pub loop-level-preserved : goal.loop-level-preserved
loop-level-preserved c =
    let text : List ℕ = string_bytes c.args.text.now in
    rw (indent_more c.loop-level._level)
    (c.in_ok-push_str.ensures.bytes ∙ ap (λ (xs : List ℕ). xs ++ codes "  ") c.loop-level.invariant ∙ append_assoc text (indent c.loop-level._level) (codes "  "))
