use Rattle.std.proofs.Common.{refl, subst, ap}
use Rattle.std.specs.declared.result.Result.TheVariants.{Ok, Err}
use Rattle.p3l_io.specs.Change.{change}
use Rattle.p3l_program.specs.Certificate.{IsCertificate}
use Rattle.p3l_program.specs.Explain.{IsExplained}
use Rattle.p3l_program.specs.Saved.{SaveCause}
use Rattle.p3l_program.specs.Stage.{build_stages}
use Rattle.p3l_program.specs.Text.{IsWritten}
use Rattle.p3l_program.proofs.LoadSteps.{certified, explained, loaded_passes}
use Rattle.p3l_program.proofs.SavedSteps.{saving_expected, saving_failed}
use Rattle.p3l_program.proofs.certify.certify.Goals as goal

pub returns-in-Ok-save-clause-expected : goal.returns-in-Ok-save-clause-expected
returns-in-Ok-save-clause-expected g c =
    let loads = c.in-Ok.ensures.loaded in
    let loaded = c.in-Ok.loaded in
    let observed = g.F.Files.observed in
    let end = observed c.save.new.files in
    let files = change (observed c.args.files.now) end in
    let out = change (g.K.Sink.observed c.args.out.now) (g.K.Sink.observed c.write_text.new.out) in
    let text = c.in-Ok-allocation_text.text in
    let cert = c.in-Ok-certify.cert in
    let bytes = c.in-Ok-cert_text.certificate in
    let claims = c.in-Ok-certify.ensures.claims in
    let same = ap (λ o. change o end) c.in-Ok.ensures.unchanged in
    let written = subst (λ b. SaveCause (change (observed c.allot.new.files) end) c.args.name b (Ok tt)) c.as_slice.ensures c.in-Ok-save.ensures.saved.by in
    let save = subst (λ f. SaveCause f c.args.name bytes (Ok tt)) same written in
    saving_expected files out (build_stages c.args.build) (IsExplained (observed c.args.files.now).content c.args.build) c.args.name (IsCertificate (observed c.args.files.now).content c.args.build) text bytes
    (loaded_passes c.args.build loads.r loaded files loads.is)
    (explained c.args.build loads.r loaded (observed c.args.files.now).content text loads.is c.in-Ok-allocation_text.ensures)
    (certified c.args.build loads.r loaded (observed c.args.files.now).content cert bytes loads.is claims.0 claims.1 c.in-Ok-certify.ensures.holds c.in-Ok-certify.ensures.rows claims.2 c.in-Ok-cert_text.ensures)
    c.write_text.result save.0 save.1 (subst (λ t. IsWritten out t c.write_text.result) c.as_slice-in-Ok-save.ensures c.write_text.ensures.written)

pub returns-clause-expected : goal.returns-clause-expected
returns-clause-expected g c =
    let loads = c.in-Ok.ensures.loaded in
    let loaded = c.in-Ok.loaded in
    let observed = g.F.Files.observed in
    let end = observed c.save.new.files in
    let files = change (observed c.args.files.now) end in
    let out = change (g.K.Sink.observed c.args.out.now) (g.K.Sink.observed c.args.out.now) in
    let text = c.in-Ok-allocation_text.text in
    let cert = c.in-Ok-certify.cert in
    let bytes = c.in-Ok-cert_text.certificate in
    let claims = c.in-Ok-certify.ensures.claims in
    let v = c.in-Err-save.verdict in
    let same = ap (λ o. change o end) c.in-Ok.ensures.unchanged in
    let written = subst (λ b. SaveCause (change (observed c.allot.new.files) end) c.args.name b (Err v)) c.as_slice.ensures c.in-Err-save.ensures.saved.by in
    saving_failed files out (build_stages c.args.build) (IsExplained (observed c.args.files.now).content c.args.build) c.args.name (IsCertificate (observed c.args.files.now).content c.args.build) text bytes
    (loaded_passes c.args.build loads.r loaded files loads.is)
    (explained c.args.build loads.r loaded (observed c.args.files.now).content text loads.is c.in-Ok-allocation_text.ensures)
    (certified c.args.build loads.r loaded (observed c.args.files.now).content cert bytes loads.is claims.0 claims.1 c.in-Ok-certify.ensures.holds c.in-Ok-certify.ensures.rows claims.2 c.in-Ok-cert_text.ensures)
    v (record { same_content = refl; same_faults = refl }) (subst (λ f. SaveCause f c.args.name bytes (Err v)) same written)

pub returns-in-Ok-save-clause-wants : goal.returns-in-Ok-save-clause-wants
returns-in-Ok-save-clause-wants g c = c.write_text.ensures.wants g.F.Files.may_want
