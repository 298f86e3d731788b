-- Certificates that are loaded from files, and why none is.
use Rattle.std.specs.Prelude.{ℕ, List, Option, ◌⊎◌}
use Rattle.p3l_io.specs.Change.{Change, HasSameFaults}
use Rattle.p3l_io.specs.Content.{Held}
use Rattle.p3l_skel.specs.declared.tree.Tree.{Tree}
use Rattle.p3l_cost.specs.declared.costs.Costs.{Costs}
use Rattle.p3l_model.specs.Optimal.{IsOptimal}
use Rattle.p3l_cert.specs.declared.cert.Cert.{Cert}
use Rattle.p3l_cert.specs.declared.cert.CertRefusal.{CertRefusal}
use Rattle.p3l_cert.specs.declared.cert.CertRefusal.TheVariants as refusals
use Rattle.p3l_report.specs.declared.evidence.Evidence.TheVariants as evidence
use Rattle.p3l_report.specs.declared.verdict.Refusal.{Refusal}
use Rattle.p3l_report.specs.declared.verdict.Refusal.TheVariants as refusal
use Rattle.p3l_report.specs.declared.verdict.Verdict.{Verdict}
use Rattle.p3l_report.specs.declared.verdict.Verdict.TheVariants as verdict
use Rattle.p3l_check.specs.Resolving.{ResolvedTree}
use Rattle.p3l_program.specs.Certified.{HasCert, IsCertOf, IsNoCert, IsRefuted, cert_limit}
use Rattle.p3l_program.specs.File.{HasText}
use Rattle.p3l_program.specs.Stage.{FilesCause, Refuses, readable}
use Rattle.p3l_base.specs.Memory.{Refused}

-- a text spells a certificate that holds, so its counts are the best
pub record AcceptsCert (tree : Tree) (costs : Costs) (text : List ℕ) (cert : Cert) : Type 0 where
  pub is : IsCertOf tree costs text cert
  pub optimal : IsOptimal tree costs cert.processors cert.counts.list

-- a text is refused, or memory ran out
abbrev pub IsCertRefused : Tree → Costs → List ℕ → CertRefusal → Type 0
IsCertRefused tree costs text refusals.NoMemory = Refused
IsCertRefused tree costs text refused = IsRefuted tree costs text refused

-- the certificate of a file, for a tree and its costs
pub record LoadsCert (files : Option Held) (name : List ℕ) (tree : Tree) (costs : Costs) (cert : Cert) : Type 0 where
  pub written : List ℕ
  pub held : HasText files cert_limit name written
  pub accepts : AcceptsCert tree costs written cert

-- a text is no certificate of a tree and its costs
abbrev pub IsEvidence : Tree → Costs → List ℕ → Refusal → Type 0
IsEvidence tree costs written (refusal.Evidence (evidence.Cert why)) = IsNoCert tree costs written why
IsEvidence tree costs written refused = ⊥

-- why no certificate is loaded
pub record HasWrongCert (files : Change Held) (name : List ℕ) (tree : Tree) (costs : Costs) (refused : Refusal) : Type 0 where
  pub written : List ℕ
  pub held : HasText files.old.content cert_limit name written
  pub no_cert : IsEvidence tree costs written refused
  pub same_faults : HasSameFaults files

abbrev pub IsCertless : Change Held → List ℕ → Tree → Costs → Verdict → Type 0
IsCertless files name tree costs (verdict.Refused refused) =
    (Refuses files (readable cert_limit name) refused × FilesCause refused files) ⊎ HasWrongCert files name tree costs refused
IsCertless files name tree costs verdict.NoMemory = HasSameFaults files
IsCertless files name tree costs v = ⊥

-- a certificate that holds for a program and its costs, by the files of these names
pub record LoadsVerified (files : Option Held) (program : List ℕ) (costs : Option (List ℕ)) (name : List ℕ) (cert : Cert) : Type 0 where
  pub r : ResolvedTree
  pub cs : Costs
  pub has : HasCert files program costs name r cs cert
  pub optimal : IsOptimal r.tree cs cert.processors cert.counts.list
