use Rattle.std.proofs.Common.{Some, ap, sym, ◌∙◌, ◌++◌, subst}
use Rattle.p3l_io.specs.Change.{change}
use Rattle.p3l_report.specs.Report.{PutsFront, optional_text}
use Rattle.p3l_report.proofs.Puts.{front_said, put_said}
use Rattle.p3l_report.proofs.report.put_line.Goals as goal

pub returns-in-Some-clause-known : goal.returns-in-Some-clause-known
returns-in-Some-clause-known g c = λ said known kept.
    put_said _ said _ _ known c.put.ensures.bytes c.put.ensures.cause kept
    ∙ ap (λ t. Some (said ++ t)) (c.as_bytes.ensures ∙ ap optional_text (sym c.in-Some.is))

pub returns-in-Some-clause-begun : goal.returns-in-Some-clause-begun
returns-in-Some-clause-begun g c = λ said known.
    let sink = change (g.E.Sink.observed c.args.err.now) (g.E.Sink.observed c.put.new.self) in
    subst (PutsFront said sink.new.content) (c.as_bytes.ensures ∙ ap optional_text (sym c.in-Some.is)) (front_said sink said _ _ known c.put.ensures.bytes)
