use Rattle.p3l_export.proofs.Wider.{exported_typed}
use Rattle.p3l_export.proofs.laws.exported_nets_are_typed.Goals as goal

pub returns : goal.returns
returns c = λ tree costs net ends widths chosen typed. exported_typed tree costs net ends widths chosen typed
