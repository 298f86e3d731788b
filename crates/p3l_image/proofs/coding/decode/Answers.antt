use Rattle.std.proofs.Common.{refl}
use Rattle.p3l_image.proofs.FirstFault.{at_first, refusal_at_first}
use Rattle.p3l_image.specs.laws.Image.{capacity_in_range}
use Rattle.p3l_image.proofs.OldText.{written_anew}
use Rattle.p3l_image.proofs.coding.decode.Goals as goal

pub returns-in-Ok-clause-some : goal.returns-in-Ok-clause-some
returns-in-Ok-clause-some c = (capacity_in_range c.in-Ok._version c.in-Ok.image c.in-Ok.ensures.found.0).0

pub returns-in-Ok-clause-few : goal.returns-in-Ok-clause-few
returns-in-Ok-clause-few c = (capacity_in_range c.in-Ok._version c.in-Ok.image c.in-Ok.ensures.found.0).1

pub returns-in-Ok-clause-found : goal.returns-in-Ok-clause-found
returns-in-Ok-clause-found c = record { version = c.in-Ok._version; fits = c.in-Ok.ensures.found.0; spelled = c.in-Ok.ensures.found.1 }

pub returns-in-Ok-clause-again : goal.returns-in-Ok-clause-again
returns-in-Ok-clause-again c = written_anew c.in-Ok._version c.in-Ok.image c.in-Ok.ensures.found.0

pub returns-in-Ok-clause-place : goal.returns-in-Ok-clause-place
returns-in-Ok-clause-place c = at_first _ _ (rw c.in-Ok.ensures.exact refl)

pub returns-in-Err-Wrong-clause-place : goal.returns-in-Err-Wrong-clause-place
returns-in-Err-Wrong-clause-place c =
    let fails = rw c.in-Err-Wrong.field-0-is at c.in-Err-Wrong.ensures.exact in
    refusal_at_first c.args.bytes.now c.in-Err-Wrong.fault c.refusal.result (rw fails refl) c.refusal.ensures
