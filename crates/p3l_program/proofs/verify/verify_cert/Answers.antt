use Rattle.std.proofs.Common.{◌≡◌}
use Rattle.p3l_io.specs.Change.{change}
use Rattle.p3l_program.specs.Stage.{verify_stages}
use Rattle.p3l_program.specs.Verify.{IsVerified, holds_line}
use Rattle.p3l_program.proofs.FileSteps.{unchanged_faults}
use Rattle.p3l_program.proofs.CertSteps.{verified, verified_passes}
use Rattle.p3l_program.proofs.TextSteps.{text_expected}
use Rattle.p3l_program.proofs.verify.verify_cert.Goals as goal

pub returns-clause-expected : goal.returns-clause-expected
returns-clause-expected g c =
    let args = c.args in
    let old = g.F.Files.observed args.files.now in
    let files = change old (g.F.Files.observed c.load_cert.new.files) in
    let out = change (g.K.Sink.observed args.out.now) (g.K.Sink.observed c.write_text.new.out) in
    let cert = c.in-Ok.cert in
    let loads = c.in-Ok.ensures.loaded in
    let bytes = c.as_bytes.ensures in
    let text = c.as_str.ensures in
    let line = c.in-Ok-holds_line.ensures in
    let is : c.as_bytes.result.now ≡ holds_line cert.processors cert.used cert.service = cc in
    text_expected files out (verify_stages args.program args.name args.costs) (IsVerified old.content args.program args.costs args.name) c.as_bytes.result.now c.write_text.result (unchanged_faults c.in-Ok.ensures.unchanged)
    (verified_passes files args.program args.costs args.name cert loads) (verified files args.program args.costs args.name cert loads c.as_bytes.result.now is) c.write_text.ensures.written

pub returns-clause-wants : goal.returns-clause-wants
returns-clause-wants g c = c.write_text.ensures.wants g.F.Files.may_want
