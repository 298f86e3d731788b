use Rattle.std.proofs.Common.{arith}
use Rattle.std.specs.Prelude.{bytes_eq}
use Rattle.indexmap.proofs.CallerLemmas.{insert_entry-new}
use Rattle.p3l_calls.proofs.located.PortTable.add.Goals as goal

pub returns : goal.returns
returns c = grind (arith, insert_entry-new bytes_eq c.self.inside.ports c.in_ok-name.name c.in_ok-port.port)
