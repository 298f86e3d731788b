use Rattle.std.proofs.Common.{subst}
use Rattle.p3l_io.specs.Change.{change}
use Rattle.p3l_program.specs.Advise.{IsAdvised}
use Rattle.p3l_program.specs.Stage.{build_stages}
use Rattle.p3l_program.specs.Text.{IsWritten}
use Rattle.p3l_program.proofs.FileSteps.{unchanged_faults}
use Rattle.p3l_program.proofs.LoadSteps.{advised, loaded_passes}
use Rattle.p3l_program.proofs.TextSteps.{text_expected}
use Rattle.p3l_program.proofs.advise.write_advice.Goals as goal

pub returns-clause-expected : goal.returns-clause-expected
returns-clause-expected g c =
    let loads = c.in-Ok.ensures.loaded in
    let files = change (g.F.Files.observed c.args.files.now) (g.F.Files.observed c.allot.new.files) in
    let out = change (g.K.Sink.observed c.args.out.now) (g.K.Sink.observed c.write_text.new.out) in
    let text = c.in-Ok-advice_text.text in
    text_expected files out (build_stages c.args.build) (IsAdvised (g.F.Files.observed c.args.files.now).content c.args.build) text c.write_text.result (unchanged_faults c.in-Ok.ensures.unchanged)
    (loaded_passes c.args.build loads.r c.in-Ok.loaded files loads.is)
    (advised c.args.build loads.r c.in-Ok.loaded (g.F.Files.observed c.args.files.now).content text loads.is c.in-Ok-advice_text.ensures.text)
    (subst (λ written. IsWritten out written c.write_text.result) c.as_slice.ensures c.write_text.ensures.written)

pub returns-clause-wants : goal.returns-clause-wants
returns-clause-wants g c = c.write_text.ensures.wants g.F.Files.may_want
