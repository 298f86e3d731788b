-- From the stages of loading to what was loaded.
use Rattle.std.proofs.Common.{◌≡◌, ℕ, List, ◌++◌, Option, Some, refl, sym, inl, inr, subst}
use Rattle.std.specs.declared.result.Result.TheVariants.{Err}
use Rattle.p3l_ast.specs.declared.position.Pos.{Pos}
use Rattle.p3l_ast.specs.declared.refusal.Fault.{Fault}
use Rattle.p3l_io.specs.Change.{Change, HasSameFaults}
use Rattle.p3l_io.specs.Content.{Held}
use Rattle.p3l_skel.specs.declared.tree.Tree.{Tree}
use Rattle.p3l_skel.specs.Numbers.{procs}
use Rattle.p3l_cost.specs.declared.costs.Costs.{Costs}
use Rattle.p3l_cost.specs.declared.refusal.CostRefusal.{CostRefusal}
use Rattle.p3l_cost.specs.declared.refusal.CostRefusal.TheVariants as costs
use Rattle.p3l_cost.specs.File.{IsRead}
use Rattle.p3l_cert.specs.declared.cert.Cert.{Cert}
use Rattle.p3l_cert.specs.Certified.{AreNeededRows}
use Rattle.p3l_cert.specs.Checker.{CertHolds}
use Rattle.p3l_cert.specs.Text.{cert_format}
use Rattle.p3l_alloc.specs.Explanation.{allocation_text}
use Rattle.p3l_opts.specs.declared.command.Build.{Build}
use Rattle.p3l_report.specs.declared.verdict.Refusal.TheVariants as refusal
use Rattle.p3l_report.specs.declared.verdict.Verdict.{Verdict}
use Rattle.p3l_report.specs.declared.verdict.Verdict.TheVariants as verdict
use Rattle.p3l_report.specs.Verdict.{verdict_of}
use Rattle.p3l_check.specs.Resolving.{ResolvedTree}
use Rattle.p3l_program.specs.declared.plan.Accepted.{Accepted}
use Rattle.p3l_program.specs.declared.plan.Allotted.{Allotted}
use Rattle.p3l_program.specs.Plan.{AreSaid, ComesTo, HasCostText, IsBuilt, IsNotAccepted, IsPriced, network_of}
use Rattle.p3l_advise.specs.Advice.{IsAdvice}
use Rattle.p3l_program.specs.Advise.{IsAdvised}
use Rattle.p3l_program.specs.Certificate.{IsCertificate}
use Rattle.p3l_program.specs.Explain.{IsExplained}
use Rattle.p3l_program.specs.File.{HasText, text_limit}
use Rattle.p3l_program.specs.Load.{IsCostless, IsLoaded, IsNotLoaded, IsUnchosen}
use Rattle.p3l_program.specs.Source.{ComesToTree}
use Rattle.p3l_program.specs.Stage.{AllPass, Stage, build_stages, cost_stages, program_stages}
use Rattle.p3l_program.proofs.StageSteps.{refused_front}
use Rattle.p3l_program.proofs.TreeSteps as trees

-- if stages don't load a value, more stages don't either
pub not_loaded_front : (files : Change Held) (stages more : List Stage) (v : Verdict) → IsNotLoaded files stages v → IsNotLoaded files (stages ++ more) v
not_loaded_front files stages more (verdict.Refused r) h = (refused_front files stages more r h.0, h.1)
not_loaded_front files stages more verdict.NoMemory h = h
not_loaded_front files stages more v h = absurd h

-- a text that is refused stops the stages of a program at their second
pub refused_text : (files : Change Held) (name text : List ℕ) (fault : Fault) (pos : Pos) → HasText files.old.content text_limit name text → IsNotAccepted text fault pos → HasSameFaults files →
    IsNotLoaded files (program_stages name) (verdict.Refused (refusal.Source fault pos))
refused_text files name text fault pos has refused same_faults = (inr ((text, has), inl (record { text = text; has = has; refused = refused })), same_faults)

-- a text of costs that is refused
pub unsaid : (files : Change Held) (name : List ℕ) (tree : Tree) (said : List ℕ) (r : CostRefusal) → HasText files.old.content text_limit name said → IsRead tree said (Err r) → HasSameFaults files →
    IsCostless files (Some name) tree (verdict_of (refusal.Costs r))
unsaid files name tree said costs.NotToml has read same_faults = inr (record { said = said; has = has; no_costs = record { read = read; named = λ e. absurd cc }; same_faults = same_faults })
unsaid files name tree said (costs.BadKey key) has read same_faults = inr (record { said = said; has = has; no_costs = record { read = read; named = λ e. absurd cc }; same_faults = same_faults })
unsaid files name tree said (costs.BadValue key) has read same_faults = inr (record { said = said; has = has; no_costs = record { read = read; named = λ e. absurd cc }; same_faults = same_faults })
unsaid files name tree said (costs.Missing key) has read same_faults = inr (record { said = said; has = has; no_costs = record { read = read; named = λ e. absurd cc }; same_faults = same_faults })
unsaid files name tree said costs.NoMemory has read same_faults = same_faults

-- the tree of an accepted program
its_tree : (text : List ℕ) (r : ResolvedTree) (program : Accepted) → ComesTo text r program → ComesToTree text r program.tree
its_tree text r program comes = record { accepted = comes.accepted; only = comes.only; tree_is = comes.compiled.tree_is; lawful = comes.compiled.lawful }

module _ (files : Change Held) (name : List ℕ) (r : ResolvedTree) (program : Accepted) (text : List ℕ) (has : HasText files.old.content text_limit name text) (comes : ComesTo text r program) where
  pub program_passes : AllPass files (program_stages name)
  program_passes = trees.program_passes files name r program.tree text has (its_tree text r program comes)

  -- costs of a tree that is the program's are the program's, and no other ones are
  pub priced_here : (said : Option (List ℕ)) (cs : Costs) → AreSaid program.tree said cs → IsPriced text said r cs
  priced_here = trees.priced_here files name r program.tree text has (its_tree text r program comes)

  -- if no costs are loaded, their stages don't pass, whatever stages come after
  pub costless : (costs : Option (List ℕ)) (more : List Stage) (v : Verdict) → IsCostless files costs program.tree v → IsNotLoaded files (program_stages name ++ (cost_stages name costs ++ more)) v
  costless = trees.costless files name r program.tree text has (its_tree text r program comes)

  pub costs_pass : (costs said : Option (List ℕ)) (cs : Costs) → HasCostText files.old.content costs said → AreSaid program.tree said cs → AllPass files (cost_stages name costs)
  costs_pass = trees.costs_pass files name r program.tree text has (its_tree text r program comes)

module _ (files : Change Held) (build : Build) (r : ResolvedTree) (program : Accepted) (text : List ℕ) (has : HasText files.old.content text_limit build.program text) (comes : ComesTo text r program) where
  -- if no counts are chosen, the stages of a build don't pass
  pub unchosen : (v : Verdict) → IsUnchosen files build.costs program.tree build.processors v → IsNotLoaded files (build_stages build) v
  unchosen = trees.unchosen files build r program.tree text has (its_tree text r program comes)

module _ (build : Build) (r : ResolvedTree) (loaded : Allotted) where
  -- if all is loaded, all stages of a build pass
  pub loaded_passes : (files : Change Held) → IsLoaded files.old.content build r loaded → AllPass files (build_stages build)
  loaded_passes files is =
      trees.counts_pass files build r loaded.costs loaded.choice.counts.list (record { text = is.text; has = is.has; said = is.said; says = is.says; allotted = is.allotted })

  -- and the text of the counts is that of the program's
  pub explained : (files : Option Held) (text : List ℕ) → IsLoaded files build r loaded →
      text ≡ allocation_text loaded.program.tree loaded.costs build.processors loaded.choice.counts.list loaded.choice.used loaded.choice.service → IsExplained files build text
  explained files text is text_is = record {
    r = r;
    cs = loaded.costs;
    counts = loaded.choice.counts.list;
    has = record { text = is.text; has = is.has; said = is.said; says = is.says; allotted = is.allotted };
    text_is =
        (let tree = subst (λ t. text ≡ allocation_text t loaded.costs build.processors loaded.choice.counts.list loaded.choice.used loaded.choice.service) is.comes.compiled.tree_is text_is in
        let used = subst (λ n. text ≡ allocation_text r.tree loaded.costs build.processors loaded.choice.counts.list n loaded.choice.service) is.used_is tree in
        subst (λ n. text ≡ allocation_text r.tree loaded.costs build.processors loaded.choice.counts.list (procs r.tree loaded.choice.counts.list 0) n) is.service_is used);
  }

  -- and advice on the tree is advice on the program's
  pub advised : (files : Option Held) (text : List ℕ) → IsLoaded files build r loaded →
      IsAdvice loaded.program.tree loaded.costs build.processors text → IsAdvised files build text
  advised files text is advice = record {
    r = r;
    cs = loaded.costs;
    counts = loaded.choice.counts.list;
    has = record { text = is.text; has = is.has; said = is.said; says = is.says; allotted = is.allotted };
    advice = subst (λ t. IsAdvice t loaded.costs build.processors text) is.comes.compiled.tree_is advice;
  }

  -- a certificate of them is that of the program's
  pub certified : (files : Option Held) (cert : Cert) (text : List ℕ) → IsLoaded files build r loaded → cert.processors ≡ build.processors → cert.counts.list ≡ loaded.choice.counts.list →
      CertHolds loaded.program.tree loaded.costs cert → AreNeededRows loaded.program.tree loaded.costs loaded.choice.service build.processors cert.rows → cert.service ≡ loaded.choice.service →
      text ≡ cert_format.spell cert → IsCertificate files build text
  certified files cert text is processors counts holds rows service_is text_is = record {
    r = r;
    cs = loaded.costs;
    counts = loaded.choice.counts.list;
    has = record { text = is.text; has = is.has; said = is.said; says = is.says; allotted = is.allotted };
    cert = cert;
    processors_are = processors;
    counts_are = counts;
    holds = subst (λ t. CertHolds t loaded.costs cert) is.comes.compiled.tree_is holds;
    rows =
        (let request = subst (λ t. AreNeededRows t loaded.costs loaded.choice.service build.processors cert.rows) is.comes.compiled.tree_is rows in
        let served = subst (λ n. AreNeededRows r.tree loaded.costs n build.processors cert.rows) (sym service_is) request in
        subst (λ n. AreNeededRows r.tree loaded.costs cert.service n cert.rows) (sym processors) served);
    text_is = text_is;
  }

  -- and its network is the one that is requested
  pub is_built : (files : Option Held) → (is : IsLoaded files build r loaded) → IsBuilt build (record { text = is.text; said = is.said }) (network_of r loaded.choice.counts.list build.capacity)
  is_built files is = record { r = r; cs = loaded.costs; counts = loaded.choice.counts.list; allotted = is.allotted; network_is = refl }
