use Rattle.std.proofs.Common.{ℕ, List, Ok, subst}
use Rattle.p3l_resume.specs.declared.saved.Saved.{Saved}
use Rattle.p3l_resume.specs.Refusal.{Answers}
use Rattle.p3l_resume.specs.Saved.{IsSpelling}
use Rattle.p3l_program.proofs.SnapshotSteps.{same_saved}
use Rattle.p3l_program.proofs.snapshot.read_snapshot.Goals as goal

pub returns-in-Ok-read_shot-clause-read : goal.returns-in-Ok-read_shot-clause-read
returns-in-Ok-read_shot-clause-read g c =
    let bytes = c.in-Ok.bytes in
    let saved = c.in-Ok-read_shot.saved in
    record {
      bytes = bytes;
      has = c.in-Ok.ensures.found;
      spelled = subst (λ (b : List ℕ). IsSpelling saved b) c.as_slice.ensures c.in-Ok-read_shot.ensures.found;
      only = same_saved bytes saved (subst (λ (b : List ℕ). (other : Saved) → IsSpelling other b → Answers b (Ok saved) (Ok other)) c.as_slice.ensures c.in-Ok-read_shot.ensures.only);
    }
