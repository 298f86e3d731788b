-- Certificates of files, which hold for a program and its costs or don't.
use Rattle.std.specs.Prelude.{◌≡◌, ◌≢◌, ℕ, List, Err, Option, ◌⊎◌, true}
use Rattle.p3l_format.specs.FirstLine.{IsFirstBadLine}
use Rattle.p3l_io.specs.Content.{Held}
use Rattle.p3l_skel.specs.declared.tree.Tree.{Tree}
use Rattle.p3l_cost.specs.declared.costs.Costs.{Costs}
use Rattle.p3l_cert.specs.declared.cert.Cert.{Cert}
use Rattle.p3l_cert.specs.declared.cert.CertRefusal.{CertRefusal}
use Rattle.p3l_cert.specs.declared.cert.CertRefusal.TheVariants as refusals
use Rattle.p3l_cert.specs.Checker.{CertHolds, IsAnswer}
use Rattle.p3l_cert.specs.Text.{cert_format}
use Rattle.p3l_check.specs.Resolving.{ResolvedTree}
use Rattle.p3l_program.specs.Plan.{HasCostText, IsPriced}
use Rattle.p3l_program.specs.File.{HasText, text_limit}

-- the most bytes of a file of a certificate
abbrev pub cert_limit : ℕ
cert_limit = 268435456

-- a text spells this certificate
pub record SpellsCert (text : List ℕ) (cert : Cert) : Type 0 where
  pub fits : cert_format.fits cert ≡ true
  pub text_is : text ≡ cert_format.spell cert

-- it spells this certificate, which holds for a tree and its costs
pub record IsCertOf (tree : Tree) (costs : Costs) (text : List ℕ) (cert : Cert) : Type 0 where
  pub spelled : SpellsCert text cert
  pub holds : CertHolds tree costs cert

-- it spells a certificate, and this is the first of its tests that fails
pub record FailsTest (tree : Tree) (costs : Costs) (text : List ℕ) (refused : CertRefusal) : Type 0 where
  pub cert : Cert
  pub spelled : SpellsCert text cert
  pub answer : IsAnswer {A = Unit {0}} tree costs cert (Err refused)

-- it spells no certificate, and the line of this number is the first that isn't of its form
abbrev pub IsNoText : List ℕ → CertRefusal → Type 0
IsNoText text (refusals.BadText line) = IsFirstBadLine cert_format text line
IsNoText text refused = ⊥

-- it spells no certificate of a tree and its costs that holds: it is no certificate's text, by its first bad line, or a test fails
pub record IsRefuted (tree : Tree) (costs : Costs) (text : List ℕ) (refused : CertRefusal) : Type 0 where
  pub why : IsNoText text refused ⊎ FailsTest tree costs text refused
  pub never : (cert : Cert) → IsCertOf tree costs text cert → ⊥

-- a text is refused for this reason; running out of memory is none
pub record IsNoCert (tree : Tree) (costs : Costs) (text : List ℕ) (why : CertRefusal) : Type 0 where
  pub refuted : IsRefuted tree costs text why
  pub named : why ≢ refusals.NoMemory

-- a program with its costs, and a text of a certificate of them
pub record IsCertified (text : List ℕ) (said : Option (List ℕ)) (written : List ℕ) (r : ResolvedTree) (cs : Costs) (cert : Cert) : Type 0 where
  pub priced : IsPriced text said r cs
  pub is : IsCertOf r.tree cs written cert

-- a text is no certificate of the program and its costs, for this reason
pub record IsUncertified (text : List ℕ) (said : Option (List ℕ)) (written : List ℕ) (why : CertRefusal) : Type 0 where
  pub r : ResolvedTree
  pub cs : Costs
  pub priced : IsPriced text said r cs
  pub no_cert : IsNoCert r.tree cs written why
  pub never : (other : ResolvedTree) (others : Costs) (cert : Cert) → IsCertified text said written other others cert → ⊥

-- the file of the last name has a certificate of the program and the costs of the others
pub record HasCert (files : Option Held) (program : List ℕ) (costs : Option (List ℕ)) (name : List ℕ) (r : ResolvedTree) (cs : Costs) (cert : Cert) : Type 0 where
  pub text : List ℕ
  pub has : HasText files text_limit program text
  pub said : Option (List ℕ)
  pub says : HasCostText files costs said
  pub written : List ℕ
  pub held : HasText files cert_limit name written
  pub certified : IsCertified text said written r cs cert

-- it has none, for this reason
pub record HasNoCert (files : Option Held) (program : List ℕ) (costs : Option (List ℕ)) (name : List ℕ) (why : CertRefusal) : Type 0 where
  pub text : List ℕ
  pub has : HasText files text_limit program text
  pub said : Option (List ℕ)
  pub says : HasCostText files costs said
  pub written : List ℕ
  pub held : HasText files cert_limit name written
  pub refused : IsUncertified text said written why
