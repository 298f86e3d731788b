use Rattle.std.proofs.Common.{refl}
use Rattle.p3l_cost.specs.Wanted.{toml_wanted}
use Rattle.p3l_cost.proofs.read.read_document.Goals as goal

pub returns-in-Err-table_from_str-clause-refused : goal.returns-in-Err-table_from_str-clause-refused
returns-in-Err-table_from_str-clause-refused c = toml_wanted c.in-Err-table_from_str.error (c.if-is_memory.ensures.0 refl)
