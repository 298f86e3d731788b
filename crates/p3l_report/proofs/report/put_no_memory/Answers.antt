use Rattle.p3l_io.specs.Change.{change}
use Rattle.p3l_report.proofs.Puts.{front_none, front_said, fronts_said, put_said}
use Rattle.p3l_report.proofs.report.put_no_memory.Goals as goal

pub returns-clause-known : goal.returns-clause-known
returns-clause-known g c = λ said known kept. put_said _ said _ _ known c.put.ensures.bytes c.put.ensures.cause kept

pub returns-clause-begun : goal.returns-clause-begun
returns-clause-begun g c = λ said known.
    let sink = change (g.E.Sink.observed c.args.err.now) (g.E.Sink.observed c.put.new.self) in
    fronts_said _ _ _ said _ _ known (λ before is. front_none _ before is) (λ before is. front_said sink before _ _ is c.put.ensures.bytes)
