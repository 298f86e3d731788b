use Rattle.std.proofs.Common.{◌≡◌, ℕ, true, List, Ok, Err, subst, sym}
use Rattle.p3l_io.specs.Change.{change}
use Rattle.p3l_trace.specs.declared.trace.Traced.{Traced}
use Rattle.p3l_trace.specs.Text.{trace_format}
use Rattle.p3l_trace.specs.Answers.{Answers, ReportsFirst}
use Rattle.p3l_program.specs.Trace.{IsUntraced}
use Rattle.p3l_program.proofs.FileSteps.{unchanged_faults}
use Rattle.p3l_program.proofs.TraceSteps.{untraced}
use Rattle.p3l_program.proofs.check_trace.load_trace.Goals as goal

pub returns-clause-refused : goal.returns-clause-refused
returns-clause-refused g c =
    let files = change (g.F.Files.observed c.args.files.now) (g.F.Files.observed c.find_text.new.files) in
    let text = c.in-Ok.text in
    let why = c.in-Err-read_trace.refusal in
    let only = subst (λ (b : List ℕ). (t : Traced) → trace_format.fits t ≡ true → b ≡ trace_format.spell t → Answers b (Err why) (Ok t)) c.as_slice.ensures c.in-Err-read_trace.ensures.only in
    let first = subst (λ (b : List ℕ). ReportsFirst b (Err why)) c.as_slice.ensures c.in-Err-read_trace.ensures.first in
    subst (λ v. IsUntraced files c.args.name v) (sym c.from-in-Err-read_trace.ensures) (untraced files c.args.name text why c.in-Ok.ensures.found (unchanged_faults c.in-Ok.ensures.unchanged) only first)
