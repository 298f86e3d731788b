use Rattle.std.proofs.Common.{None, refl, subst, ◌∙◌}
use Rattle.p3l_io.specs.Change.{change}
use Rattle.p3l_run.specs.Network.{resumed}
use Rattle.p3l_skel.specs.Numbers.{firings}
use Rattle.p3l_program.specs.Run.{IsRunOf, KeepsRun}
use Rattle.p3l_program.proofs.ResumeSteps.{resumable, resumed_by_same, resumption}
use Rattle.p3l_program.proofs.SoundSteps.{loaded_network}
use Rattle.p3l_program.proofs.resume.resume_network.Goals as goal

pub resume_plan-requires-clause-resumable : goal.resume_plan-requires-clause-resumable
resume_plan-requires-clause-resumable g c =
    let loaded = c.args.snapshot.network in
    let same = c.plan_of-plan.ensures.network ∙ loaded_network loaded c.requires.ready.image c.in-Ok.units c.in-Ok.ensures (firings loaded.tree loaded.counts.list) refl in
    resumable c.args.snapshot c.requires.ready c.every_linked_net_has_invariants.ensures c.every_orderly_shot_goes_on.ensures c.every_resumed_run_can_be_counted.ensures.counted _ same

pub returns-clause-ran : goal.returns-clause-ran
returns-clause-ran g c =
    let files = change (g.F.Files.observed c.args.files.now) (g.F.Files.observed c.resume_plan.new.files) in
    let input = change (g.S.Source.observed c.args.input.now) (g.S.Source.observed c.resume_plan.new.input) in
    let out = change (g.K.Sink.observed c.args.out.now) (g.K.Sink.observed c.resume_plan.new.out) in
    let loaded = c.args.snapshot.network in
    let r = resumption c.args.snapshot c.requires.ready in
    let same = c.plan_of-plan.ensures.network ∙ loaded_network loaded c.requires.ready.image c.in-Ok.units c.in-Ok.ensures (firings loaded.tree loaded.counts.list) refl in
    let by = resumed_by_same c.args.snapshot c.requires.ready c.every_linked_net_has_invariants.ensures c.every_orderly_shot_goes_on.ensures c.every_resumed_run_can_be_counted.ensures.counted _ same in
    subst (λ n. IsRunOf (resumed r n) files input out c.args.request None c.args.reported c.resume_plan.result) same (c.resume_plan.ensures.ran r by)

pub returns-clause-kept : goal.returns-clause-kept
returns-clause-kept g c =
    let files = change (g.F.Files.observed c.args.files.now) (g.F.Files.observed c.resume_plan.new.files) in
    let input = change (g.S.Source.observed c.args.input.now) (g.S.Source.observed c.resume_plan.new.input) in
    let out = change (g.K.Sink.observed c.args.out.now) (g.K.Sink.observed c.resume_plan.new.out) in
    let loaded = c.args.snapshot.network in
    let r = resumption c.args.snapshot c.requires.ready in
    let same = c.plan_of-plan.ensures.network ∙ loaded_network loaded c.requires.ready.image c.in-Ok.units c.in-Ok.ensures (firings loaded.tree loaded.counts.list) refl in
    let by = resumed_by_same c.args.snapshot c.requires.ready c.every_linked_net_has_invariants.ensures c.every_orderly_shot_goes_on.ensures c.every_resumed_run_can_be_counted.ensures.counted _ same in
    subst (λ n. KeepsRun (resumed r n) files input out c.args.request None c.resume_plan.result) same (c.resume_plan.ensures.kept r by)
