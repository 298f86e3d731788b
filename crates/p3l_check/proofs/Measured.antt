-- Ports that were given are sized.
use Rattle.std.proofs.Common.{List, Result, Ok, Err}
use Rattle.std.specs.Prelude.{IfOk}
use Rattle.p3l_ast.specs.declared.port.Port.{Port}
use Rattle.p3l_ast.specs.declared.refusal.SourceRefusal.{SourceRefusal}
use Rattle.p3l_types.specs.Verdict.{Gives}
use Rattle.p3l_types.specs.Constants.{Constants}
use Rattle.p3l_body.specs.declared.ports.Ports.{Ports}
use Rattle.p3l_body.specs.Seq.{ports_of}
use Rattle.p3l_calls.specs.Port.{AreSized}
use Rattle.p3l_calls.proofs.Declares.{ports-sized}

pub given-ins : (r : Result Ports SourceRefusal) (constants : Constants) (ins outs : List Port) → Gives r (ports_of constants ins outs) → IfOk r (λ (ports : Ports). AreSized ports.ins)
given-ins (Ok ports) constants ins outs g = (ports-sized constants ins outs ports g).0
given-ins (Err refusal) constants ins outs g = tt

pub given-outs : (r : Result Ports SourceRefusal) (constants : Constants) (ins outs : List Port) → Gives r (ports_of constants ins outs) → IfOk r (λ (ports : Ports). AreSized ports.outs)
given-outs (Ok ports) constants ins outs g = (ports-sized constants ins outs ports g).1
given-outs (Err refusal) constants ins outs g = tt
