use Rattle.std.proofs.Common.{subst, sym}
use Rattle.p3l_io.specs.Change.{change}
use Rattle.p3l_program.specs.LoadCert.{AcceptsCert, IsCertless}
use Rattle.p3l_program.proofs.CertSteps.{cert_unreadable}
use Rattle.p3l_program.proofs.cert.cert_in.Goals as goal

pub returns-in-Err-clause-refused : goal.returns-in-Err-clause-refused
returns-in-Err-clause-refused g c =
    let files = change (g.F.Files.observed c.args.files.now) (g.F.Files.observed c.find_text.new.files) in
    subst (λ v. IsCertless files c.args.name c.args.tree.now c.args.costs.now v) (sym c.from.ensures) (cert_unreadable files c.args.name c.args.tree.now c.args.costs.now c.in-Err.refusal c.in-Err.ensures.refused)

pub returns-in-Ok-accept_cert-clause-loaded : goal.returns-in-Ok-accept_cert-clause-loaded
returns-in-Ok-accept_cert-clause-loaded g c = record {
  written = c.in-Ok.text;
  held = c.in-Ok.ensures.found;
  accepts = subst (λ text. AcceptsCert c.args.tree.now c.args.costs.now text c.in-Ok-accept_cert.cert) c.as_slice.ensures c.in-Ok-accept_cert.ensures.accepted;
}
