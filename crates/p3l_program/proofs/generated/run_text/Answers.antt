use Rattle.std.proofs.Common.{refl, subst, sym, ◌∙◌, arith}
use Rattle.p3l_skel.specs.Counts.{HasLawfulCounts}
use Rattle.p3l_skel.specs.Lawful.{IsLawfulTree}
use Rattle.p3l_skel.specs.Tree.{GivesOuts}
use Rattle.p3l_compile.specs.Leaves.{AreBodies}
use Rattle.p3l_run.specs.Network.{IsSound, network}
use Rattle.p3l_skel.specs.Numbers.{firings}
use Rattle.p3l_units.specs.Table.{leaf}
use Rattle.p3l_units.specs.laws.Leaf.{gives_outs}
use Rattle.p3l_program.specs.Generated.{IsRanOn, gen_capacity}
use Rattle.p3l_program.proofs.GenSteps.{ran_on}
use Rattle.p3l_program.proofs.SoundSteps.{compiled_network, sound}
use Rattle.p3l_program.proofs.generated.run_text.Goals as goal

pub run-requires-clause-sound : goal.run-requires-clause-sound
run-requires-clause-sound c =
    let ready = c.requires.ready in
    let tree = c.args.loaded.program.tree in
    let counts = c.args.loaded.choice.counts.list in
    let lawful = subst (λ t. IsLawfulTree t) (sym ready.compiled.tree_is) ready.compiled.lawful in
    let fit = subst (λ t. HasLawfulCounts t counts) (sym ready.compiled.tree_is) ready.fit in
    let gives = subst (λ t. GivesOuts t (leaf c.in-Ok.units)) c.in-Ok.ensures.tree (gives_outs c.in-Ok.units) in
    subst IsSound (sym c.plan_of-plan.ensures.network)
    (sound c.every_linked_net_has_invariants.ensures tree (leaf c.in-Ok.units) counts gen_capacity c.in-Ok-link.net (firings tree counts) lawful fit (omega arith) gives
    c.in-Ok-link.ensures.net c.in-Ok-link.ensures.typed refl)

pub returns-in-Ok-run-clause-ran : goal.returns-in-Ok-run-clause-ran
returns-in-Ok-run-clause-ran c = λ r compiled.
    let tree = c.args.loaded.program.tree in
    let counts = c.args.loaded.choice.counts.list in
    let s = c.schedule_of.result in
    let ran = c.in-Ok-run.ran in
    let plan = c.plan_of-plan.result in
    let here = network plan.tree.now (leaf plan.units.now) plan.net plan.firings in
    let bodies = subst (λ t. AreBodies t r.seqs) (sym compiled.tree_is) compiled.bodies in
    let same =
    c.plan_of-plan.ensures.network
    ∙ compiled_network r tree (leaf c.in-Ok.units) c.in-Ok-link.net (firings tree counts) counts gen_capacity compiled.tree_is (c.in-Ok.ensures.leaf r.seqs bodies compiled.codes)
    c.in-Ok-link.ensures.net refl in
    let on : IsRanOn here s c.args.text ran.finish ran.stats ran.sum = ran_on here refl s c.args.text _ _ _ ran c.new-input.ensures c.requires.short c.in-Ok-run.ensures.ends in
    record { s = s; picked = c.schedule_of.ensures; on = subst (λ n. IsRanOn n s c.args.text ran.finish ran.stats ran.sum) same on }
