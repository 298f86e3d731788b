use Rattle.std.proofs.Common.{None, subst, sym, ap}
use Rattle.p3l_io.specs.Change.{change}
use Rattle.p3l_run.specs.Network.{Network, network, resumed}
use Rattle.p3l_program.specs.Run.{IsClosed, IsRunOf}
use Rattle.p3l_program.specs.Scheduled.{HasSchedule}
use Rattle.p3l_program.proofs.FileSteps.{unchanged_faults}
use Rattle.p3l_program.proofs.RecordSteps.{closed_kept, closed_run, early_run}
use Rattle.p3l_program.proofs.resume.resume_plan.Goals as goal

pub returns-in-Ok-resume-clause-ran : goal.returns-in-Ok-resume-clause-ran
returns-in-Ok-resume-clause-ran g c = λ r by.
    let n : Network = resumed r (network c.args.plan.tree.now (g.U.Units.leaf c.args.plan.units.now) c.args.plan.net c.args.plan.firings) in
    let observed = g.F.Files.observed in
    let end = observed c.close.new.files in
    let files = change (observed c.args.files.now) end in
    let input = change (g.S.Source.observed c.args.input.now) (g.S.Source.observed c.resume.new.input) in
    let out = change (g.K.Sink.observed c.args.out.now) (g.K.Sink.observed c.resume.new.out) in
    let same = ap (λ o. change o end) c.in-Ok.ensures.unchanged in
    let closed = subst (λ f. IsClosed f c.in-Ok-resume.ran None c.args.reported c.close.result) same c.close.ensures.closed in
    let request = subst (λ k. HasSchedule (observed c.args.files.now).content k c.args.request c.in-Ok.schedule) c.len-count.ensures c.in-Ok.ensures.request in
    closed_run n c.in-Ok.schedule files input out c.args.request c.in-Ok-resume.ran request c.in-Ok-resume.ensures.output None c.args.reported (c.in-Ok-resume.ensures.ends r by) c.close.result closed

pub returns-in-Ok-resume-clause-kept : goal.returns-in-Ok-resume-clause-kept
returns-in-Ok-resume-clause-kept g c = λ r by.
    let n : Network = resumed r (network c.args.plan.tree.now (g.U.Units.leaf c.args.plan.units.now) c.args.plan.net c.args.plan.firings) in
    let observed = g.F.Files.observed in
    let end = observed c.close.new.files in
    let files = change (observed c.args.files.now) end in
    let input = change (g.S.Source.observed c.args.input.now) (g.S.Source.observed c.resume.new.input) in
    let out = change (g.K.Sink.observed c.args.out.now) (g.K.Sink.observed c.resume.new.out) in
    let same = ap (λ o. change o end) c.in-Ok.ensures.unchanged in
    let closed = subst (λ f. IsClosed f c.in-Ok-resume.ran None c.args.reported c.close.result) same c.close.ensures.closed in
    let request = subst (λ k. HasSchedule (observed c.args.files.now).content k c.args.request c.in-Ok.schedule) c.len-count.ensures c.in-Ok.ensures.request in
    closed_kept n c.in-Ok.schedule files input out c.args.request c.in-Ok-resume.ran request c.in-Ok-resume.ensures.output None c.args.reported (c.in-Ok-resume.ensures.ends r by) c.close.result closed

pub returns-in-Err-resume-clause-ran : goal.returns-in-Err-resume-clause-ran
returns-in-Err-resume-clause-ran g c = λ r by.
    let n : Network = resumed r (network c.args.plan.tree.now (g.U.Units.leaf c.args.plan.units.now) c.args.plan.net c.args.plan.firings) in
    let observed = g.F.Files.observed in
    let files = change (observed c.args.files.now) (observed c.load_schedule.new.files) in
    let input = change (g.S.Source.observed c.args.input.now) (g.S.Source.observed c.resume.new.input) in
    let out = change (g.K.Sink.observed c.args.out.now) (g.K.Sink.observed c.resume.new.out) in
    let request = subst (λ k. HasSchedule (observed c.args.files.now).content k c.args.request c.in-Ok.schedule) c.len-count.ensures c.in-Ok.ensures.request in
    subst (IsRunOf n files input out c.args.request None c.args.reported) (sym c.fault_verdict.ensures)
    (early_run n c.in-Ok.schedule files input out c.args.request None c.args.reported request (unchanged_faults c.in-Ok.ensures.unchanged) c.in-Err-resume.fault (c.in-Err-resume.ensures.ends r by) c.in-Err-resume.ensures.output)
