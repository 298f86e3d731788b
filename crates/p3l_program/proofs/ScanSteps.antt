-- From the loading of a program to the network of its scan.
use Rattle.std.proofs.Common.{◌≡◌, ℕ, ℤ, ◌*◌, ◌/◌, ◌≤◌, List, [], ◌∷◌, Option, None, refl, sym, ap, ◌∙◌, inl, subst, arith}
use Rattle.p3l_base.specs.declared.outcome.Outcome.{Outcome}
use Rattle.p3l_check.specs.Resolving.{ResolvedTree}
use Rattle.p3l_compile.specs.Leaves.{body_leaf}
use Rattle.p3l_firing.specs.declared.net.Net.{Net}
use Rattle.p3l_io.specs.Change.{Change, HasSameFaults, change}
use Rattle.p3l_io.specs.Content.{Held}
use Rattle.p3l_link.specs.Laws.{EveryNetHasInvariants}
use Rattle.p3l_link.specs.Net.{linked_net}
use Rattle.p3l_firing.specs.Typed.{IsTyped}
use Rattle.p3l_report.specs.declared.verdict.Refusal.TheVariants as refusal
use Rattle.p3l_report.specs.declared.verdict.Verdict.TheVariants as verdict
use Rattle.p3l_run.specs.Network.{IsSound, Network, network, network_named}
use Rattle.p3l_scan.specs.declared.plan.ScanPlan.{ScanPlan}
use Rattle.p3l_scan.specs.declared.refusal.ScanRefusal.{ScanRefusal}
use Rattle.p3l_scan.specs.Plan.{plan_tree, counts_of}
use Rattle.p3l_scan.specs.Planned.{IsPlanOf, IsRunnable, IsUnscannable}
use Rattle.p3l_scan.specs.Step.{Scanning, step_leaf}
use Rattle.p3l_scan.specs.laws.Powers.{power_pos}
use Rattle.p3l_scan.specs.laws.Step.{gives_outs}
use Rattle.p3l_scan.proofs.Scannable.{log_is, one_reduce, size_is}
use Rattle.p3l_skel.specs.declared.tree.Tree.{Tree}
use Rattle.p3l_skel.specs.Item.{item}
use Rattle.p3l_skel.specs.Lawful.{IsLawfulTree}
use Rattle.p3l_skel.specs.Numbers.{firings}
use Rattle.p3l_skel.specs.Tree.{GivesOuts}
use Rattle.p3l_units.specs.Table.{Served, leaf}
use Rattle.p3l_program.specs.declared.plan.Accepted.{Accepted}
use Rattle.p3l_program.specs.declared.scan.Planned.{Planned}
use Rattle.p3l_program.specs.File.{HasText, text_limit}
use Rattle.p3l_program.specs.Load.{IsNotLoaded, LoadsNetwork}
use Rattle.p3l_program.specs.Origin.{scanned}
use Rattle.p3l_program.specs.Plan.{ComesTo, IsScanned, scan_network}
use Rattle.p3l_program.specs.Scan.{IsPlanned, IsReadyScan}
use Rattle.p3l_program.specs.Stage.{AllPass, program_stages, scan_stages, scannable}
use Rattle.p3l_program.proofs.LoadSteps.{program_passes}
use Rattle.p3l_program.proofs.SoundSteps.{sound}
use Rattle.p3l_program.proofs.StageSteps.{passed_both, refused_after}

-- the network of these parts of a plan
abbrev parted : ResolvedTree → (capacity : ℕ) → Tree → List ℕ → (elem op : ℕ) → Network
parted r capacity tree counts elem op =
    network_named r.tree tree (step_leaf elem (item r.tree (body_leaf r.tree r.seqs) op)) (linked_net tree counts capacity) (firings tree counts)

-- a lawful tree has one plan in this number of segments
module _ (r : ResolvedTree) (lawful : IsLawfulTree r.tree) (segments capacity : ℕ) (p q : ScanPlan) (a : IsPlanOf r.tree segments p) (b : IsPlanOf r.tree segments q) where
  same_levels : a.can.levels ≡ b.can.levels
  same_levels = log_is r.tree lawful segments a.can b.can.levels (omega (arith, b.can.power)) (omega (arith, b.can.power, power_pos b.can.levels))

  same_reduce : (a.can.len ≡ b.can.len) × (a.can.elem ≡ b.can.elem)
  same_reduce = one_reduce a.can.clause b.can.clause a.can.len b.can.len a.can.elem b.can.elem (sym a.can.form ∙ b.can.form)

  same_size : a.can.size ≡ b.can.size
  same_size = sym (size_is r.tree lawful segments a.can) ∙ ap (λ z. z / segments) same_reduce.0 ∙ size_is r.tree lawful segments b.can

  same_tree : p.tree ≡ q.tree
  same_tree =
      a.tree_is ∙ ap (λ k. plan_tree k (a.can.size * a.can.elem)) same_levels ∙ ap (λ k. plan_tree b.can.levels (k * a.can.elem)) same_size
      ∙ ap (λ k. plan_tree b.can.levels (b.can.size * k)) same_reduce.1 ∙ sym b.tree_is

  same_counts : p.counts.list ≡ q.counts.list
  same_counts = a.counts_are ∙ ap counts_of same_levels ∙ sym b.counts_are

  pub same_network : scan_network r p capacity ≡ scan_network r q capacity
  same_network =
      ap (λ t. parted r capacity t p.counts.list p.elem p.op) same_tree
      ∙ ap (λ c. parted r capacity q.tree c p.elem p.op) same_counts
      ∙ ap (λ e. parted r capacity q.tree q.counts.list e p.op) (a.elem_is ∙ same_reduce.1 ∙ sym b.elem_is)
      ∙ ap (λ o. parted r capacity q.tree q.counts.list q.elem o) (a.op_is ∙ sym b.op_is)

module _ (name : List ℕ) (segments : ℕ) (r : ResolvedTree) where
  -- a program that can't be scanned stops the stages of a scan at their last
  pub not_scanned : (files : Change Held) (program : Accepted) (text : List ℕ) → HasText files.old.content text_limit name text → ComesTo text r program → (why : ScanRefusal) →
      IsUnscannable program.tree segments why → HasSameFaults files → IsNotLoaded files (scan_stages name segments) (verdict.Refused (refusal.Scan why))
  not_scanned files program text has comes why refuses same_faults =
      let here : IsUnscannable r.tree segments why = subst (λ t. IsUnscannable t segments why) comes.compiled.tree_is refuses in (
        refused_after files (program_stages name) (scannable name segments ∷ []) (refusal.Scan why) (program_passes files name r program text has comes)
            (inl (record { text = text; has = has; refused = record { r = r; accepted = comes.accepted; only = comes.only; refused = here } })),
        same_faults,
      )

  module _ (capacity : ℕ) (loaded : Planned) where
    scan_passes : (files : Change Held) → IsPlanned files.old.content name segments r loaded → AllPass files (scan_stages name segments)
    scan_passes files is =
        let program = is.program in
        passed_both files (program_stages name) (scannable name segments ∷ []) (program_passes files name r loaded.program program.text program.has program.comes)
        ((r, record { has = record { text = program.text; has = program.has; accepted = program.comes.accepted }; can = is.planned.can }), tt)

    module _ (files : Option Held) (is : IsPlanned files name segments r loaded) where
      -- a loaded scan can be run
      pub scan_ready : IsReadyScan loaded
      scan_ready = record {
        r = r;
        compiled = is.program.comes.compiled;
        planned = subst (λ m. IsPlanOf r.tree m loaded.plan) (sym is.planned.segments_are) is.planned;
        runs = is.runs;
      }

      -- the network of the plan is the only one
      only_scanned : (other : Network) → IsScanned segments capacity (record { text = is.program.text; said = None }) other → other ≡ scan_network r loaded.plan capacity
      only_scanned other o =
          let same : o.r ≡ r = is.program.comes.only o.r o.accepted in
          let planned : IsPlanOf r.tree segments o.plan = subst (λ t. IsPlanOf t.tree segments o.plan) same o.planned in
          o.network_is ∙ ap (λ t. scan_network t o.plan capacity) same
          ∙ same_network r is.program.comes.compiled.lawful segments capacity o.plan loaded.plan planned is.planned

      -- and it was loaded
      pub scan_loaded : LoadsNetwork files (scanned name segments capacity) (scan_network r loaded.plan capacity)
      scan_loaded = record {
        texts = record { text = is.program.text; said = None };
        have = (is.program.has, refl);
        is = record { r = r; accepted = is.program.comes.accepted; plan = loaded.plan; planned = is.planned; network_is = refl };
        only = only_scanned;
        passed = λ change known. scan_passes change (subst (λ f. IsPlanned f name segments r loaded) (sym known) is);
      }

-- the units of a plan on the codes of a program: the net that is linked for the plan is sound on them, and its network is the scan's
module _ (plan : ScanPlan) (runs : IsRunnable plan) (capacity : ℕ) (room : 1 ≤ capacity) (units : Scanning Served) (tree_is : plan_tree units.levels units.words ≡ plan.tree) (net : Net) (linked : net ≡ linked_net plan.tree plan.counts.list capacity) where
  abbrev steps : ℕ → List ℤ → Outcome
  steps = step_leaf units.elem (item units.inner.tree (leaf units.inner) units.op)

  pub scan_sound : EveryNetHasInvariants → IsTyped plan.tree net → IsSound (network plan.tree steps net (firings plan.tree plan.counts.list))
  scan_sound has_invariants typed =
      let gives : GivesOuts plan.tree steps = subst (λ t. GivesOuts t steps) tree_is (gives_outs units.levels units.words units.elem (item units.inner.tree (leaf units.inner) units.op)) in
      sound has_invariants plan.tree steps plan.counts.list capacity net (firings plan.tree plan.counts.list) runs.tree runs.counts room gives linked typed refl

  pub units_network : (r : ResolvedTree) (tree : Tree) (table : Served) → tree ≡ r.tree → table.tree ≡ tree → leaf table ≡ body_leaf tree r.seqs → units.elem ≡ plan.elem → units.op ≡ plan.op → units.inner ≡ table →
      network_named tree plan.tree steps net (firings plan.tree plan.counts.list) ≡ scan_network r plan capacity
  units_network r tree table same served leaves elem op inner =
      let bound = firings plan.tree plan.counts.list in
      ap (λ u. network_named tree plan.tree (step_leaf units.elem (item u.tree (leaf u) units.op)) net bound) inner
      ∙ ap (λ t. network_named tree plan.tree (step_leaf units.elem (item t (leaf table) units.op)) net bound) served
      ∙ ap (λ l. network_named tree plan.tree (step_leaf units.elem (item tree l units.op)) net bound) leaves
      ∙ ap (λ e. network_named tree plan.tree (step_leaf e (item tree (body_leaf tree r.seqs) units.op)) net bound) elem
      ∙ ap (λ o. network_named tree plan.tree (step_leaf plan.elem (item tree (body_leaf tree r.seqs) o)) net bound) op
      ∙ ap (λ n. network_named tree plan.tree (step_leaf plan.elem (item tree (body_leaf tree r.seqs) plan.op)) n bound) linked
      ∙ ap (λ t. network_named t plan.tree (step_leaf plan.elem (item t (body_leaf t r.seqs) plan.op)) (linked_net plan.tree plan.counts.list capacity) bound) same
