use Rattle.std.proofs.Common.{sym, ◌∙◌}
use Rattle.p3l_tree_format.proofs.Names.{name_is_text}
use Rattle.p3l_tree_format.proofs.module.NameFieldField.read.Goals as goal

pub returns-in-Err : goal.returns-in-Err
returns-in-Err c = absurd (c.in-Err.ensures.cases.0 (name_is_text c.in_ok-name.name.now (sym c.is_name.ensures ∙ c.if-not-is_name.false)))
