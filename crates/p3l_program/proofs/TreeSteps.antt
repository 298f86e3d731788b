-- From an accepted text with its tree to the stages of its costs and its counts.
use Rattle.std.proofs.Common.{◌≡◌, ℕ, List, [], ◌∷◌, ◌++◌, ◌⊎◌, Option, Some, None, refl, ap, ◌∙◌, inl, inr, subst, sym}
use Rattle.std.specs.declared.result.Result.TheVariants.{Ok, Err}
use Rattle.p3l_io.specs.Change.{Change, HasSameFaults}
use Rattle.p3l_io.specs.Content.{Held}
use Rattle.p3l_skel.specs.declared.tree.Tree.{Tree}
use Rattle.p3l_skel.specs.Numbers.{Fits}
use Rattle.p3l_cost.specs.declared.costs.Costs.{Costs}
use Rattle.p3l_cost.specs.declared.refusal.CostRefusal.{CostRefusal}
use Rattle.p3l_cost.specs.declared.refusal.CostRefusal.TheVariants as costs
use Rattle.p3l_cost.specs.File.{Says, costs_in}
use Rattle.p3l_alloc.specs.Chosen.{IsShort}
use Rattle.p3l_opts.specs.declared.command.Build.{Build}
use Rattle.p3l_report.specs.declared.verdict.Refusal.{Refusal}
use Rattle.p3l_report.specs.declared.verdict.Refusal.TheVariants as refusal
use Rattle.p3l_report.specs.declared.verdict.Verdict.{Verdict}
use Rattle.p3l_report.specs.declared.verdict.Verdict.TheVariants as verdict
use Rattle.p3l_check.specs.Resolving.{ResolvedTree}
use Rattle.p3l_program.specs.Plan.{AreSaid, HasCostText, HasCounts, IsPriced, IsUnsaid}
use Rattle.p3l_program.specs.File.{HasText, text_limit}
use Rattle.p3l_program.specs.Load.{IsCostless, IsNotLoaded, IsUnchosen, IsUnfit}
use Rattle.p3l_program.specs.Source.{ComesToTree}
use Rattle.p3l_program.specs.Stage.{AllPass, FilesCause, IsRefusedBy, Stage, build_stages, cost_stages, fitting, program_stages}
use Rattle.p3l_program.proofs.StageSteps.{passed_both, refused_after}

-- a text that says costs is not refused
pub said_once : (tree : Tree) (said : List ℕ) (cs : Costs) (why : CostRefusal) → Says tree said (Ok cs) → IsUnsaid tree said why → ⊥
said_once tree said cs costs.NotToml says none = none.read says.document says.is
said_once tree said cs (costs.BadKey key) says none = two says none.read
  where
    two : Says tree said (Ok cs) → Says tree said (Err (costs.BadKey key)) → ⊥
    two a b = let p = a.is.parsed in let q = b.is.parsed in let one : a.document ≡ b.document = cc in let x = a.says in let y = ap (costs_in tree) one ∙ b.says in absurd cc
said_once tree said cs (costs.BadValue key) says none = two says none.read
  where
    two : Says tree said (Ok cs) → Says tree said (Err (costs.BadValue key)) → ⊥
    two a b = let p = a.is.parsed in let q = b.is.parsed in let one : a.document ≡ b.document = cc in let x = a.says in let y = ap (costs_in tree) one ∙ b.says in absurd cc
said_once tree said cs costs.NoMemory says none = none.named refl
said_once tree said cs (costs.Missing key) says none = two says none.read
  where
    two : Says tree said (Ok cs) → Says tree said (Err (costs.Missing key)) → ⊥
    two a b = let p = a.is.parsed in let q = b.is.parsed in let one : a.document ≡ b.document = cc in let x = a.says in let y = ap (costs_in tree) one ∙ b.says in absurd cc

module _ (files : Change Held) (name : List ℕ) (r : ResolvedTree) (tree : Tree) (text : List ℕ) (has : HasText files.old.content text_limit name text) (comes : ComesToTree text r tree) where
  pub program_passes : AllPass files (program_stages name)
  program_passes = ((text, has), ((r, record { text = text; has = has; accepted = comes.accepted }), tt))

  -- costs of a tree that is the program's are the program's, and no other ones are
  pub priced_here : (said : Option (List ℕ)) (cs : Costs) → AreSaid tree said cs → IsPriced text said r cs
  priced_here said cs are = record { accepted = comes.accepted; costs = subst (λ t. AreSaid t said cs) comes.tree_is are }

  costless_some : (costs : List ℕ) (more : List Stage) (refused : Refusal) → IsCostless files (Some costs) tree (verdict.Refused refused) →
      IsRefusedBy files (cost_stages name (Some costs) ++ more) refused × FilesCause refused files
  costless_some costs more refused (inl h) = (inl h.0, h.1)
  costless_some costs more (refusal.Costs why) (inr h) = (
    inr (
      (h.said, h.has),
      inl (record {
        text = text;
        has = has;
        said = h.said;
        says = h.has;
        refused = record {
          r = r;
          accepted = comes.accepted;
          refused = here;
          never = λ other cs p. said_once r.tree h.said cs why (subst (λ t. Says t.tree h.said (Ok cs)) (comes.only other p.accepted) p.costs) here;
        };
      }),
    ),
    h.same_faults,
  )
    where
      here : IsUnsaid r.tree h.said why
      here = subst (λ t. IsUnsaid t h.said why) comes.tree_is h.no_costs
  costless_some costs more refused (inr h) = absurd (h.no_costs)

  -- if no costs are loaded, their stages don't pass, whatever stages come after
  pub costless : (costs : Option (List ℕ)) (more : List Stage) (v : Verdict) → IsCostless files costs tree v → IsNotLoaded files (program_stages name ++ (cost_stages name costs ++ more)) v
  costless None more (verdict.Refused refused) h = absurd h
  costless (Some costs) more (verdict.Refused refused) h =
      let s = costless_some costs more refused h in
      (refused_after files (program_stages name) (cost_stages name (Some costs) ++ more) refused program_passes s.0, s.1)
  costless None more verdict.NoMemory h = h
  costless (Some costs) more verdict.NoMemory h = h
  costless None more (verdict.Ended finish stats) h = absurd h
  costless (Some costs) more (verdict.Ended finish stats) h = absurd h
  costless None more verdict.WriteFault h = absurd h
  costless (Some costs) more verdict.WriteFault h = absurd h

  pub costs_pass : (costs said : Option (List ℕ)) (cs : Costs) → HasCostText files.old.content costs said → AreSaid tree said cs → AllPass files (cost_stages name costs)
  costs_pass None said cs says are = tt
  costs_pass (Some costs) None cs says are = absurd says
  costs_pass (Some costs) (Some t) cs says are = ((t, says), ((r, cs, record { text = text; has = has; said = Some t; says = says; priced = priced_here (Some t) cs are }), tt))

module _ (files : Change Held) (build : Build) (r : ResolvedTree) (tree : Tree) (text : List ℕ) (has : HasText files.old.content text_limit build.program text) (comes : ComesToTree text r tree) where
  module _ (said : Option (List ℕ)) (says : HasCostText files.old.content build.costs said) (cs : Costs) (are : AreSaid tree said cs) where
    pub too_few : (need : ℕ) → IsShort tree build.processors need → HasSameFaults files → IsNotLoaded files (build_stages build) (verdict.Refused (refusal.TooFew need))
    too_few need short same_faults =
        let here : IsShort r.tree build.processors need = subst (λ t. IsShort t build.processors need) comes.tree_is short in (
          refused_after files (program_stages build.program) (cost_stages build.program build.costs ++ fitting build ∷ []) (refusal.TooFew need) (program_passes files build.program r tree text has comes)
              (refused_after files (cost_stages build.program build.costs) (fitting build ∷ []) (refusal.TooFew need) (costs_pass files build.program r tree text has comes build.costs said cs says are)
              (inl (record {
                text = text;
                has = has;
                said = said;
                says = says;
                refused = record {
                  r = r;
                  cs = cs;
                  priced = priced_here files build.program r tree text has comes said cs are;
                  short = here;
                  never = λ other others counts p.
                      let fits = p.chosen.optimal.fit in
                      here.none counts (subst (λ t. Fits t.tree build.processors counts) (comes.only other p.priced.accepted) fits);
                };
              }))),
          same_faults,
        )

  not_chosen : (v : Verdict) → IsCostless files build.costs tree v ⊎ IsUnfit files build.costs tree build.processors v → IsNotLoaded files (build_stages build) v
  not_chosen v (inl h) = costless files build.program r tree text has comes build.costs (fitting build ∷ []) v h
  not_chosen v (inr h) = subst (λ v. IsNotLoaded files (build_stages build) v) (sym h.verdict_is) (too_few h.loads.said h.loads.says h.cs h.loads.costs h.need h.short h.same_faults)

  -- if no counts are chosen, the stages of a build don't pass
  pub unchosen : (v : Verdict) → IsUnchosen files build.costs tree build.processors v → IsNotLoaded files (build_stages build) v
  unchosen (verdict.Refused refused) h = not_chosen (verdict.Refused refused) h
  unchosen (verdict.Ended finish stats) h = not_chosen (verdict.Ended finish stats) h
  unchosen verdict.WriteFault h = not_chosen verdict.WriteFault h
  unchosen verdict.NoMemory h = h

-- costs that aren't loaded are a cause of their own
pub costless_unchosen : (files : Change Held) (costs : Option (List ℕ)) (tree : Tree) (processors : ℕ) (v : Verdict) → IsCostless files costs tree v → IsUnchosen files costs tree processors v
costless_unchosen files costs tree processors (verdict.Refused refused) h = inl h
costless_unchosen files costs tree processors (verdict.Ended finish stats) h = inl h
costless_unchosen files costs tree processors verdict.WriteFault h = inl h
costless_unchosen files None tree processors verdict.NoMemory h = h
costless_unchosen files (Some name) tree processors verdict.NoMemory h = h

module _ (files : Change Held) (build : Build) (r : ResolvedTree) (cs : Costs) (counts : List ℕ) (has : HasCounts files.old.content build r cs counts) where
  priced_pass : (costs said : Option (List ℕ)) → HasCostText files.old.content costs said → IsPriced has.text said r cs → AllPass files (cost_stages build.program costs)
  priced_pass None said says priced = tt
  priced_pass (Some costs) None says priced = absurd says
  priced_pass (Some costs) (Some t) says priced = ((t, says), ((r, cs, record { text = has.text; has = has.has; said = Some t; says = says; priced = priced }), tt))

  -- if counts are chosen, all stages of a build pass
  pub counts_pass : AllPass files (build_stages build)
  counts_pass =
      let accepted = has.allotted.priced.accepted in
      passed_both files (program_stages build.program) (cost_stages build.program build.costs ++ fitting build ∷ []) ((has.text, has.has), ((r, record { text = has.text; has = has.has; accepted = accepted }), tt))
      (passed_both files (cost_stages build.program build.costs) (fitting build ∷ []) (priced_pass build.costs has.said has.says has.allotted.priced) ((r, cs, counts, has), tt))
