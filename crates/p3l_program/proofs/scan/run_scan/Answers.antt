use Rattle.std.proofs.Common.{None, subst, sym, ap, ◌∙◌}
use Rattle.p3l_compile.specs.Leaves.{AreBodies}
use Rattle.p3l_io.specs.Change.{change}
use Rattle.p3l_run.specs.Network.{IsSound, Network}
use Rattle.p3l_scan.specs.Planned.{IsPlanOf}
use Rattle.p3l_skel.specs.Lawful.{IsLawfulTree}
use Rattle.p3l_program.specs.Run.{IsRunOf, KeepsRun}
use Rattle.p3l_program.proofs.ScanSteps.{scan_sound, units_network}
use Rattle.p3l_program.proofs.scan.run_scan.Goals as goal

pub new-requires-clause-lawful : goal.new-requires-clause-lawful
new-requires-clause-lawful g c =
    let compiled = c.requires.ready.compiled in
    subst (λ t. IsLawfulTree t) (sym (c.in-Ok-table_of.ensures.tree ∙ compiled.tree_is)) compiled.lawful

pub new-requires-clause-planned : goal.new-requires-clause-planned
new-requires-clause-planned g c =
    let compiled = c.requires.ready.compiled in
    let plan = c.args.loaded.plan in
    subst (λ t. IsPlanOf t plan.segments plan) (sym (c.in-Ok-table_of.ensures.tree ∙ compiled.tree_is)) c.requires.ready.planned

pub run_plan-requires-clause-sound : goal.run_plan-requires-clause-sound
run_plan-requires-clause-sound g c =
    subst IsSound (sym c.plan_of-run.ensures.network)
    (scan_sound c.args.loaded.plan c.requires.ready.runs c.args.capacity c.requires.capacity.0 c.in-Ok-new.units c.in-Ok-new.ensures.tree c.in-Ok.net c.in-Ok.ensures.net c.every_linked_net_has_invariants.ensures c.in-Ok.ensures.typed)

pub returns-clause-ran : goal.returns-clause-ran
returns-clause-ran g c = λ r compiled.
    let files = change (g.F.Files.observed c.args.files.now) (g.F.Files.observed c.run_plan.new.files) in
    let input = change (g.S.Source.observed c.args.input.now) (g.S.Source.observed c.run_plan.new.input) in
    let out = change (g.K.Sink.observed c.args.out.now) (g.K.Sink.observed c.run_plan.new.out) in
    let plan = c.args.loaded.plan in
    let tree = c.args.loaded.program.tree in
    let bodies = subst (λ t. AreBodies t r.seqs) (sym compiled.tree_is) compiled.bodies in
    let same =
    ap (λ (n : Network). record n { named = tree }) c.plan_of-run.ensures.network
    ∙ units_network plan c.requires.ready.runs c.args.capacity c.requires.capacity.0 c.in-Ok-new.units c.in-Ok-new.ensures.tree c.in-Ok.net c.in-Ok.ensures.net r tree c.in-Ok-table_of.table compiled.tree_is
    c.in-Ok-table_of.ensures.tree (c.in-Ok-table_of.ensures.leaf r.seqs bodies compiled.codes) c.in-Ok-new.ensures.elem c.in-Ok-new.ensures.op c.in-Ok-new.ensures.inner in
    subst (λ n. IsRunOf n files input out c.args.request None c.args.reported c.run_plan.result) same c.run_plan.ensures.ran

pub returns-clause-kept : goal.returns-clause-kept
returns-clause-kept g c = λ r compiled.
    let files = change (g.F.Files.observed c.args.files.now) (g.F.Files.observed c.run_plan.new.files) in
    let input = change (g.S.Source.observed c.args.input.now) (g.S.Source.observed c.run_plan.new.input) in
    let out = change (g.K.Sink.observed c.args.out.now) (g.K.Sink.observed c.run_plan.new.out) in
    let plan = c.args.loaded.plan in
    let tree = c.args.loaded.program.tree in
    let bodies = subst (λ t. AreBodies t r.seqs) (sym compiled.tree_is) compiled.bodies in
    let same =
    ap (λ (n : Network). record n { named = tree }) c.plan_of-run.ensures.network
    ∙ units_network plan c.requires.ready.runs c.args.capacity c.requires.capacity.0 c.in-Ok-new.units c.in-Ok-new.ensures.tree c.in-Ok.net c.in-Ok.ensures.net r tree c.in-Ok-table_of.table compiled.tree_is
    c.in-Ok-table_of.ensures.tree (c.in-Ok-table_of.ensures.leaf r.seqs bodies compiled.codes) c.in-Ok-new.ensures.elem c.in-Ok-new.ensures.op c.in-Ok-new.ensures.inner in
    subst (λ n. KeepsRun n files input out c.args.request None c.run_plan.result) same c.run_plan.ensures.kept
