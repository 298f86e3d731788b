use Rattle.std.proofs.Common.{refl, subst, sym, ◌∙◌}
use Rattle.p3l_program.specs.Time.{IsTimeOf, KeepsTime}
use Rattle.p3l_io.specs.Change.{change}
use Rattle.p3l_run.specs.Network.{IsSound, Network}
use Rattle.p3l_skel.specs.Numbers.{firings}
use Rattle.p3l_timed.specs.Price.{HasSmallPrices, prices_of}
use Rattle.p3l_program.proofs.SoundSteps.{loaded_network, loaded_sound}
use Rattle.p3l_program.proofs.time.time_linked.Goals as goal

pub time_plan-requires-clause-sound : goal.time_plan-requires-clause-sound
time_plan-requires-clause-sound g c =
    let loaded = c.args.linked.network in
    let bound = firings loaded.tree loaded.counts.list in
    subst IsSound (sym c.plan_of-plan.ensures.network) (loaded_sound loaded c.requires.ready c.in-Ok.units c.in-Ok.ensures bound refl c.every_linked_net_has_invariants.ensures)

pub time_plan-requires-clause-small : goal.time_plan-requires-clause-small
time_plan-requires-clause-small g c = subst (λ (n : Network). HasSmallPrices n.tree c.args.linked.costs n.net) (sym c.plan_of-plan.ensures.network) c.requires.small

pub returns-clause-ran : goal.returns-clause-ran
returns-clause-ran g c =
    let loaded = c.args.linked.network in
    let files = change (g.F.Files.observed c.args.files.now) (g.F.Files.observed c.time_plan.new.files) in
    let input = change (g.S.Source.observed c.args.input.now) (g.S.Source.observed c.time_plan.new.input) in
    let out = change (g.K.Sink.observed c.args.out.now) (g.K.Sink.observed c.time_plan.new.out) in
    let bound = firings loaded.tree loaded.counts.list in
    let same = c.plan_of-plan.ensures.network ∙ loaded_network loaded c.requires.ready c.in-Ok.units c.in-Ok.ensures bound refl in
    subst (λ (n : Network). IsTimeOf n (prices_of n.tree c.args.linked.costs n.net) files input out c.args.picks c.time_plan.result) same c.time_plan.ensures.ran

pub returns-clause-kept : goal.returns-clause-kept
returns-clause-kept g c =
    let loaded = c.args.linked.network in
    let files = change (g.F.Files.observed c.args.files.now) (g.F.Files.observed c.time_plan.new.files) in
    let input = change (g.S.Source.observed c.args.input.now) (g.S.Source.observed c.time_plan.new.input) in
    let out = change (g.K.Sink.observed c.args.out.now) (g.K.Sink.observed c.time_plan.new.out) in
    let bound = firings loaded.tree loaded.counts.list in
    let same = c.plan_of-plan.ensures.network ∙ loaded_network loaded c.requires.ready c.in-Ok.units c.in-Ok.ensures bound refl in
    subst (λ (n : Network). KeepsTime n (prices_of n.tree c.args.linked.costs n.net) files input out c.args.picks c.time_plan.result) same c.time_plan.ensures.kept
