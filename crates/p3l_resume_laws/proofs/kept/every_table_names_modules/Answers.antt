use Rattle.p3l_resume_laws.proofs.Tables.{tables_named}
use Rattle.p3l_resume_laws.proofs.kept.every_table_names_modules.Goals as goal

pub returns : goal.returns
returns c = tables_named
