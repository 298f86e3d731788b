-- The certificate of the counts that are chosen for a program.
use Rattle.std.specs.Prelude.{◌≡◌, ℕ, List, Option}
use Rattle.p3l_io.specs.Content.{Held}
use Rattle.p3l_cost.specs.declared.costs.Costs.{Costs}
use Rattle.p3l_cert.specs.declared.cert.Cert.{Cert}
use Rattle.p3l_cert.specs.Certified.{AreNeededRows}
use Rattle.p3l_cert.specs.Checker.{CertHolds}
use Rattle.p3l_cert.specs.Text.{cert_format}
use Rattle.p3l_opts.specs.declared.command.Build.{Build}
use Rattle.p3l_check.specs.Resolving.{ResolvedTree}
use Rattle.p3l_program.specs.Plan.{HasCounts}

-- the text of the certificate of these counts, which holds and has exactly the rows that it needs
pub record IsCertificate (files : Option Held) (build : Build) (text : List ℕ) : Type 0 where
  pub r : ResolvedTree
  pub cs : Costs
  pub counts : List ℕ
  pub has : HasCounts files build r cs counts
  pub cert : Cert
  pub processors_are : cert.processors ≡ build.processors
  pub counts_are : cert.counts.list ≡ counts
  pub holds : CertHolds r.tree cs cert
  pub rows : AreNeededRows r.tree cs cert.service cert.processors cert.rows
  pub text_is : text ≡ cert_format.spell cert
