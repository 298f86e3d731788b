use Rattle.std.proofs.Common.{subst}
use Rattle.p3l_cert.specs.Checker.{Answers}
use Rattle.p3l_cert.proofs.Faults.{holds_from, none_from, only_memory, ok_holds}
use Rattle.p3l_cert.proofs.Form.{form_from}
use Rattle.p3l_cert.proofs.Optimal.{cert_optimal}
use Rattle.p3l_cert.proofs.checker.check.Goals as goal

pub check_lawful-requires-clause-rows : goal.check_lawful-requires-clause-rows
check_lawful-requires-clause-rows c = (form_from c.args.cert.now c.requires.form).1

pub check_lawful-requires-clause-processors : goal.check_lawful-requires-clause-processors
check_lawful-requires-clause-processors c = (form_from c.args.cert.now c.requires.form).0

pub returns-clause-answer : goal.returns-clause-answer
returns-clause-answer c = record {
  lawful = λ lawful. c.check_lawful.ensures;
  unlawful = λ unlawful. absurd (unlawful (c.lawful_counts.ensures.0 c.if-not-lawful_counts.false));
}

pub returns-clause-holds : goal.returns-clause-holds
returns-clause-holds c =
    ok_holds c.check_lawful.result _ c.check_lawful.ensures (holds_from c.args.tree.now c.args.costs.now c.args.cert.now (c.lawful_counts.ensures.0 c.if-not-lawful_counts.false))

pub returns-clause-optimal : goal.returns-clause-optimal
returns-clause-optimal c =
    ok_holds c.check_lawful.result _ c.check_lawful.ensures (λ none. cert_optimal c.args.tree.now c.args.costs.now c.args.cert.now c.requires.tree c.requires.costs (form_from c.args.cert.now c.requires.form).1.range
    (holds_from c.args.tree.now c.args.costs.now c.args.cert.now (c.lawful_counts.ensures.0 c.if-not-lawful_counts.false) none))

pub returns-clause-accepts : goal.returns-clause-accepts
returns-clause-accepts c = λ holds. only_memory c.check_lawful.result (subst (λ o. Answers c.check_lawful.result o) (none_from c.args.tree.now c.args.costs.now c.args.cert.now holds) c.check_lawful.ensures)
