use Rattle.std.proofs.Common.{refl, sym, ◌∙◌, subst, arith}
use Rattle.p3l_cert.specs.Certified.{AreNeededRows}
use Rattle.p3l_cert.proofs.Whole.{early, certified, formed}
use Rattle.p3l_cert.proofs.certifier.certify.Goals as goal

pub needed_rows-requires-clause-service : goal.needed_rows-requires-clause-service
needed_rows-requires-clause-service c =
    let small = early c.args.tree.now c.args.costs.now c.requires.tree c.requires.costs c.args.processors c.args.counts.now.list c.requires.optimal in omega (arith, c.requires.service, small)

pub returns-clause-form : goal.returns-clause-form
returns-clause-form c =
    let needs = subst (λ t. AreNeededRows c.args.tree.now c.args.costs.now t c.args.processors c.from_vec.result) c.requires.service (subst (AreNeededRows c.args.tree.now c.args.costs.now c.args.service c.args.processors) (sym c.from_vec.ensures) c.in_ok-rows.ensures) in
    formed c.args.tree.now c.args.costs.now c.requires.tree c.requires.costs c.args.processors c.args.counts.now.list c.requires.optimal _ refl (c.in_ok-list.ensures ∙ c.as_slice.ensures) c.requires.service c.requires.used needs c.requires.some c.requires.few

pub returns-clause-holds : goal.returns-clause-holds
returns-clause-holds c =
    let needs = subst (λ t. AreNeededRows c.args.tree.now c.args.costs.now t c.args.processors c.from_vec.result) c.requires.service (subst (AreNeededRows c.args.tree.now c.args.costs.now c.args.service c.args.processors) (sym c.from_vec.ensures) c.in_ok-rows.ensures) in
    certified c.args.tree.now c.args.costs.now c.requires.tree c.requires.costs c.args.processors c.args.counts.now.list c.requires.optimal _ refl (c.in_ok-list.ensures ∙ c.as_slice.ensures) c.requires.service c.requires.used needs
