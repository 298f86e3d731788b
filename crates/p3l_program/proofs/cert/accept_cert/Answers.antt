use Rattle.p3l_program.proofs.CertSteps.{cert_fails, cert_unread}
use Rattle.p3l_program.proofs.cert.accept_cert.Goals as goal

pub returns-in-Err-clause-refused : goal.returns-in-Err-clause-refused
returns-in-Err-clause-refused c =
    cert_unread c.args.tree.now c.args.costs.now c.args.text.now c.in-Err.refusal c.in-Err.ensures.only c.in-Err.ensures.first c.in-Err.ensures.exact

pub returns-in-Err-check-clause-refused : goal.returns-in-Err-check-clause-refused
returns-in-Err-check-clause-refused c =
    let found = c.in-Ok.ensures.found in
    cert_fails c.args.tree.now c.args.costs.now c.args.text.now c.in-Ok.cert (record { fits = found.0; text_is = found.1 }) c.lawful_counts-lawful.result c.lawful_counts-lawful.ensures c.in-Err-check.refusal c.in-Err-check.ensures.answer c.in-Err-check.ensures.accepts

pub returns-in-Ok-check-clause-accepted : goal.returns-in-Ok-check-clause-accepted
returns-in-Ok-check-clause-accepted c =
    let found = c.in-Ok.ensures.found in
    record {
      is = record { spelled = record { fits = found.0; text_is = found.1 }; holds = c.in-Ok-check.ensures.holds };
      optimal = c.in-Ok-check.ensures.optimal;
    }
