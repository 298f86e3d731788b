-- The command `verify-cert`: a certificate that holds for a program and its costs.
use Rattle.std.specs.Prelude.{◌≡◌, ℕ, List, ◌++◌, Option, codes}
use Rattle.std.specs.Fmt.{decimal}
use Rattle.p3l_io.specs.Content.{Held}
use Rattle.p3l_cost.specs.declared.costs.Costs.{Costs}
use Rattle.p3l_model.specs.Optimal.{IsOptimal}
use Rattle.p3l_cert.specs.declared.cert.Cert.{Cert}
use Rattle.p3l_check.specs.Resolving.{ResolvedTree}
use Rattle.p3l_program.specs.Certified.{HasCert}

-- certificate holds: processors P used U service T
abbrev pub holds_line : (processors used service : ℕ) → List ℕ
holds_line processors used service =
    codes "certificate holds: processors " ++ (decimal processors ++ (codes " used " ++ (decimal used ++ (codes " service " ++ (decimal service ++ codes "\n")))))

-- the line of the certificate that the file has, and that holds: so its counts are the best for its processors
pub record IsVerified (files : Option Held) (program : List ℕ) (costs : Option (List ℕ)) (name text : List ℕ) : Type 0 where
  pub r : ResolvedTree
  pub cs : Costs
  pub cert : Cert
  pub has : HasCert files program costs name r cs cert
  pub optimal : IsOptimal r.tree cs cert.processors cert.counts.list
  pub text_is : text ≡ holds_line cert.processors cert.used cert.service
