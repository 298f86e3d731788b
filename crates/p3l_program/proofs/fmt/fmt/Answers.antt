use Rattle.std.proofs.Common.{refl, subst}
use Rattle.p3l_io.specs.Change.{change}
use Rattle.p3l_report.specs.declared.verdict.Refusal.TheVariants as refusal
use Rattle.p3l_report.specs.declared.verdict.Verdict.TheVariants as verdict
use Rattle.p3l_program.specs.Fmt.{HasNoCanonical, IsFormatted, fmt_stages}
use Rattle.p3l_program.proofs.FileSteps.{unchanged_faults}
use Rattle.p3l_program.proofs.TextSteps.{not_formatted, text_refused}
use Rattle.p3l_program.proofs.fmt.fmt.Goals as goal

pub returns-in-Err-At-clause-expected : goal.returns-in-Err-At-clause-expected
returns-in-Err-At-clause-expected g c =
    let files = change (g.F.Files.observed c.args.files.now) (g.F.Files.observed c.find_text.new.files) in
    let known = subst (λ text. HasNoCanonical text c.in-Err-At.field-0) c.as_slice.ensures c.in-Err-At.ensures.refused in
    let faulty = subst (λ refusal. HasNoCanonical c.in-Ok.text refusal) c.in-Err-At.field-0-is known in
    text_refused files (change (g.K.Sink.observed c.args.out.now) (g.K.Sink.observed c.args.out.now)) (fmt_stages c.args.name) (IsFormatted (g.F.Files.observed c.args.files.now).content c.args.name)
    (verdict.Refused (refusal.Source c.in-Err-At.fault c.in-Err-At.pos)) (record { same_content = refl; same_faults = refl })
    (not_formatted files c.args.name c.in-Ok.text c.in-Err-At.fault c.in-Err-At.pos c.in-Ok.ensures.found faulty (unchanged_faults c.in-Ok.ensures.unchanged))

pub returns-clause-wants : goal.returns-clause-wants
returns-clause-wants g c = c.write_text.ensures.wants g.F.Files.may_want
