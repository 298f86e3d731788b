use Rattle.std.proofs.Common.{refl, subst, sym, ◌∙◌}
use Rattle.p3l_program.specs.Trace.{IsCheckOf}
use Rattle.p3l_io.specs.Change.{change}
use Rattle.p3l_run.specs.Network.{IsSound}
use Rattle.p3l_skel.specs.Numbers.{firings}
use Rattle.p3l_program.proofs.SoundSteps.{loaded_network, loaded_sound}
use Rattle.p3l_program.proofs.check_trace.check_network.Goals as goal

pub check_plan-requires-clause-sound : goal.check_plan-requires-clause-sound
check_plan-requires-clause-sound g c =
    let bound = firings c.args.loaded.tree c.args.loaded.counts.list in
    subst IsSound (sym c.plan_of-plan.ensures.network) (loaded_sound c.args.loaded c.requires.ready c.in-Ok.units c.in-Ok.ensures bound refl c.every_linked_net_has_invariants.ensures)

pub returns-clause-checked : goal.returns-clause-checked
returns-clause-checked g c =
    let files = change (g.F.Files.observed c.args.files.now) (g.F.Files.observed c.check_plan.new.files) in
    let input = change (g.S.Source.observed c.args.input.now) (g.S.Source.observed c.check_plan.new.input) in
    let out = change (g.K.Sink.observed c.args.out.now) (g.K.Sink.observed c.check_plan.new.out) in
    let bound = firings c.args.loaded.tree c.args.loaded.counts.list in
    let same = c.plan_of-plan.ensures.network ∙ loaded_network c.args.loaded c.requires.ready c.in-Ok.units c.in-Ok.ensures bound refl in
    subst (λ n. IsCheckOf n files input out c.args.name c.check_plan.result) same c.check_plan.ensures.checked
