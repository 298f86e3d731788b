use Rattle.std.proofs.Common.{refl}
use Rattle.p3l_resume.proofs.FirstFault.{at_first, refusal_at_first}
use Rattle.p3l_resume.proofs.coding.read_shot.Goals as goal

pub returns-in-Ok-clause-place : goal.returns-in-Ok-clause-place
returns-in-Ok-clause-place c = at_first _ _ (rw c.in-Ok.ensures.exact refl)

pub returns-in-Err-Wrong-clause-place : goal.returns-in-Err-Wrong-clause-place
returns-in-Err-Wrong-clause-place c =
    let fails = rw c.in-Err-Wrong.field-0-is at c.in-Err-Wrong.ensures.exact in
    refusal_at_first c.args.bytes.now c.in-Err-Wrong.fault c.refusal.result (rw fails refl) c.refusal.ensures
