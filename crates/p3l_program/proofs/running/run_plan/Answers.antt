use Rattle.std.proofs.Common.{subst, ap}
use Rattle.p3l_io.specs.Change.{change}
use Rattle.p3l_run.specs.Network.{Network, network_named}
use Rattle.p3l_run.specs.Run.{Finishes}
use Rattle.p3l_program.specs.Run.{IsClosed}
use Rattle.p3l_program.specs.Scheduled.{HasSchedule}
use Rattle.p3l_program.proofs.RecordSteps.{closed_kept, closed_run}
use Rattle.p3l_program.proofs.WantSteps.{wants_more}
use Rattle.p3l_program.proofs.running.run_plan.Goals as goal

pub returns-in-Ok-run_named-clause-ran : goal.returns-in-Ok-run_named-clause-ran
returns-in-Ok-run_named-clause-ran g c =
    let n : Network = network_named c.args.named.now c.args.plan.tree.now (g.U.Units.leaf c.args.plan.units.now) c.args.plan.net c.args.plan.firings in
    let observed = g.F.Files.observed in
    let end = observed c.close.new.files in
    let files = change (observed c.args.files.now) end in
    let input = change (g.S.Source.observed c.args.input.now) (g.S.Source.observed c.run_named.new.input) in
    let out = change (g.K.Sink.observed c.args.out.now) (g.K.Sink.observed c.run_named.new.out) in
    let same = ap (λ o. change o end) c.in-Ok.ensures.unchanged in
    let closed = subst (λ f. IsClosed f c.in-Ok-run_named.ran c.args.trace c.args.reported c.close.result) same c.close.ensures.closed in
    let ends = subst (λ k. Finishes n c.in-Ok.schedule k input out c.in-Ok-run_named.ran) c.keeping_for-keeping.ensures c.in-Ok-run_named.ensures.ends in
    let request = subst (λ k. HasSchedule (observed c.args.files.now).content k c.args.request c.in-Ok.schedule) c.len-count.ensures c.in-Ok.ensures.request in
    closed_run n c.in-Ok.schedule files input out c.args.request c.in-Ok-run_named.ran request c.in-Ok-run_named.ensures.output c.args.trace c.args.reported ends c.close.result closed

pub returns-in-Ok-run_named-clause-kept : goal.returns-in-Ok-run_named-clause-kept
returns-in-Ok-run_named-clause-kept g c =
    let n : Network = network_named c.args.named.now c.args.plan.tree.now (g.U.Units.leaf c.args.plan.units.now) c.args.plan.net c.args.plan.firings in
    let observed = g.F.Files.observed in
    let end = observed c.close.new.files in
    let files = change (observed c.args.files.now) end in
    let input = change (g.S.Source.observed c.args.input.now) (g.S.Source.observed c.run_named.new.input) in
    let out = change (g.K.Sink.observed c.args.out.now) (g.K.Sink.observed c.run_named.new.out) in
    let same = ap (λ o. change o end) c.in-Ok.ensures.unchanged in
    let closed = subst (λ f. IsClosed f c.in-Ok-run_named.ran c.args.trace c.args.reported c.close.result) same c.close.ensures.closed in
    let ends = subst (λ k. Finishes n c.in-Ok.schedule k input out c.in-Ok-run_named.ran) c.keeping_for-keeping.ensures c.in-Ok-run_named.ensures.ends in
    let request = subst (λ k. HasSchedule (observed c.args.files.now).content k c.args.request c.in-Ok.schedule) c.len-count.ensures c.in-Ok.ensures.request in
    closed_kept n c.in-Ok.schedule files input out c.args.request c.in-Ok-run_named.ran request c.in-Ok-run_named.ensures.output c.args.trace c.args.reported ends c.close.result closed

pub returns-in-Ok-run_named-clause-wants : goal.returns-in-Ok-run_named-clause-wants
returns-in-Ok-run_named-clause-wants g c = wants_more g.U.Units.may_want g.F.Files.may_want c.close.result c.close.ensures.wants
