use Rattle.std.proofs.Common.{ℕ, List, [], ◌∷◌, Ok, Err, subst, sym}
use Rattle.p3l_io.specs.Change.{change}
use Rattle.p3l_image.specs.declared.image.Image.{Image}
use Rattle.p3l_image.specs.Image.{image_in}
use Rattle.p3l_image.specs.Refusal.{Answers}
use Rattle.p3l_program.specs.Image.{IsImage}
use Rattle.p3l_program.specs.Load.{IsNotLoaded}
use Rattle.p3l_program.specs.Stage.{migratable, migrate_stages}
use Rattle.p3l_program.proofs.FileSteps.{unchanged_faults}
use Rattle.p3l_program.proofs.ImageSteps.{not_decoded, not_migrated, same_image, undecoded}
use Rattle.p3l_program.proofs.image.migrate_image.Goals as goal

pub returns-in-Err-decode-clause-refused : goal.returns-in-Err-decode-clause-refused
returns-in-Err-decode-clause-refused g c =
    let files = change (g.F.Files.observed c.args.files.now) (g.F.Files.observed c.find_text.new.files) in
    let bytes = c.in-Ok.bytes in
    let r = c.in-Err-decode.refusal in
    let only = subst (λ (b : List ℕ). (i : Image) → IsImage i b → Answers b (Err r) (Ok i)) c.as_slice.ensures c.in-Err-decode.ensures.only in
    let exact = subst (λ (b : List ℕ). Answers b (Err r) (image_in b)) c.as_slice.ensures c.in-Err-decode.ensures.exact in
    subst (λ v. IsNotLoaded files (migrate_stages c.args.name) v) (sym c.from-in-Err-decode.ensures)
    (not_decoded files c.args.name bytes c.in-Ok.ensures.found (unchanged_faults c.in-Ok.ensures.unchanged) (migratable c.args.name ∷ []) _ (undecoded bytes r only exact))

pub returns-clause-refused : goal.returns-clause-refused
returns-clause-refused g c =
    let files = change (g.F.Files.observed c.args.files.now) (g.F.Files.observed c.find_text.new.files) in
    let bytes = c.in-Ok.bytes in
    let i = c.in-Ok-decode.image in
    let found = subst (λ (b : List ℕ). IsImage i b) c.as_slice.ensures c.in-Ok-decode.ensures.found in
    let only = subst (λ (b : List ℕ). (other : Image) → IsImage other b → Answers b (Ok i) (Ok other)) c.as_slice.ensures c.in-Ok-decode.ensures.only in
    subst (λ v. IsNotLoaded files (migrate_stages c.args.name) v) (sym c.from-in-Err-migrate.ensures)
    (not_migrated files c.args.name bytes c.in-Ok.ensures.found (unchanged_faults c.in-Ok.ensures.unchanged) i found (same_image bytes i only) c.in-Err-migrate.refusal c.in-Err-migrate.ensures.refused)

pub returns-in-Ok-migrate-clause-migrated : goal.returns-in-Ok-migrate-clause-migrated
returns-in-Ok-migrate-clause-migrated g c =
    let bytes = c.in-Ok.bytes in
    let i = c.in-Ok-decode.image in
    let only = subst (λ (b : List ℕ). (other : Image) → IsImage other b → Answers b (Ok i) (Ok other)) c.as_slice.ensures c.in-Ok-decode.ensures.only in
    record {
      i = i;
      bytes = bytes;
      has = c.in-Ok.ensures.found;
      is = subst (λ (b : List ℕ). IsImage i b) c.as_slice.ensures c.in-Ok-decode.ensures.found;
      only = same_image bytes i only;
      migrated_is = c.in-Ok-migrate.ensures.migrated;
      runs = c.in-Ok-migrate.ensures.runs;
    }
