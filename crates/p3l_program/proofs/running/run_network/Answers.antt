use Rattle.std.proofs.Common.{refl, subst, sym, ap, ◌∙◌}
use Rattle.p3l_program.specs.Run.{IsRunOf, KeepsRun}
use Rattle.p3l_io.specs.Change.{change}
use Rattle.p3l_run.specs.Network.{IsSound, Network}
use Rattle.p3l_skel.specs.Numbers.{firings}
use Rattle.p3l_program.proofs.SoundSteps.{loaded_network, loaded_sound}
use Rattle.p3l_program.proofs.running.run_network.Goals as goal

pub run_plan-requires-clause-sound : goal.run_plan-requires-clause-sound
run_plan-requires-clause-sound g c =
    let bound = firings c.args.loaded.tree c.args.loaded.counts.list in
    subst IsSound (sym c.plan_of-plan.ensures.network) (loaded_sound c.args.loaded c.requires.ready c.in-Ok.units c.in-Ok.ensures bound refl c.every_linked_net_has_invariants.ensures)

pub returns-clause-ran : goal.returns-clause-ran
returns-clause-ran g c =
    let files = change (g.F.Files.observed c.args.files.now) (g.F.Files.observed c.run_plan.new.files) in
    let input = change (g.S.Source.observed c.args.input.now) (g.S.Source.observed c.run_plan.new.input) in
    let out = change (g.K.Sink.observed c.args.out.now) (g.K.Sink.observed c.run_plan.new.out) in
    let bound = firings c.args.loaded.tree c.args.loaded.counts.list in
    let same = ap (λ (n : Network). record n { named = c.args.loaded.tree }) c.plan_of-plan.ensures.network ∙ loaded_network c.args.loaded c.requires.ready c.in-Ok.units c.in-Ok.ensures bound refl in
    subst (λ n. IsRunOf n files input out c.args.request c.args.trace c.args.reported c.run_plan.result) same c.run_plan.ensures.ran

pub returns-clause-kept : goal.returns-clause-kept
returns-clause-kept g c =
    let files = change (g.F.Files.observed c.args.files.now) (g.F.Files.observed c.run_plan.new.files) in
    let input = change (g.S.Source.observed c.args.input.now) (g.S.Source.observed c.run_plan.new.input) in
    let out = change (g.K.Sink.observed c.args.out.now) (g.K.Sink.observed c.run_plan.new.out) in
    let bound = firings c.args.loaded.tree c.args.loaded.counts.list in
    let same = ap (λ (n : Network). record n { named = c.args.loaded.tree }) c.plan_of-plan.ensures.network ∙ loaded_network c.args.loaded c.requires.ready c.in-Ok.units c.in-Ok.ensures bound refl in
    subst (λ n. KeepsRun n files input out c.args.request c.args.trace c.run_plan.result) same c.run_plan.ensures.kept
