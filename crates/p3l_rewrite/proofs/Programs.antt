-- A program whose pipe `main` is written otherwise means the same.
use Rattle.std.proofs.Common.{◌≡◌, ℕ, ℤ, ◌<◌, ◌⊎◌, inl, inr, List, ◌∷◌, ◌++◌, map, length, slice_index_or, Some, Ok, ap, sym, ◌∙◌, subst, arith, append_assoc}
use Rattle.std.specs.Prelude.{slice_get}
use Rattle.std.proofs.lemmas.List.{get_or_append_left}
use Rattle.p3l_base.specs.declared.outcome.Outcome.{Outcome}
use Rattle.p3l_ast.specs.Tree.{EntryTree, ProgramTree, defined}
use Rattle.p3l_skel.specs.declared.tree.Tree.{Tree}
use Rattle.p3l_skel.specs.declared.tree.ModuleInfo.{ModuleInfo}
use Rattle.p3l_skel.specs.Tree as tree_specs
use Rattle.p3l_skel.specs.Tree.{node_at}
use Rattle.p3l_skel.specs.Item.{meaning}
use Rattle.p3l_check.specs.Wiring.{no_module, module_at}
use Rattle.p3l_check.specs.declared.callables.Callable.{Callable}
use Rattle.p3l_check.specs.Unfolding.{tree_of}
use Rattle.p3l_check.proofs.Instances.{instance-step}
use Rattle.p3l_units.specs.Table.{item_of}
use Rattle.p3l_compile.specs.Leaves as leaves
use Rattle.p3l_compile.specs.Leaves.{body_leaf}
use Rattle.p3l_check.specs.Modules.{number_of}
use Rattle.p3l_check.specs.Entry.{Checked, none_checked, checked_entries}
use Rattle.p3l_check.specs.Resolving.{ResolvedTree, main_name}
use Rattle.p3l_check.proofs.Sound.{program-callables}
use Rattle.p3l_rewrite.specs.Meant.{rescue_at, AreAlike}
use Rattle.p3l_rewrite.specs.Trees.{IsRewritten}
use Rattle.p3l_rewrite.proofs.Trees.{trees_mean}
use Rattle.p3l_rewrite.specs.Programs.{IsFarmedProgram, IsFusedProgram, IsRewrittenProgram, AreRewritten, RewrittenProgramsResolve, HaveOneMeaning, ModulesStay, RewrittenProgramsMean}
use Rattle.p3l_rewrite.proofs.Ahead.{AreParted, parted}
use Rattle.p3l_rewrite.proofs.Added.{ok_same, adds}
use Rattle.p3l_rewrite.proofs.Numbers.{get_left, item_left}
use Rattle.p3l_rewrite.proofs.Entries.{IsWhole, whole_of, has_tree, count_all}
use Rattle.p3l_rewrite.proofs.Wirings.{one_number, was_number, fused, farmed}

-- the tree of what entries come to
abbrev tree_at : Checked → ℕ → Tree
tree_at all root = tree_of all.modules.infos all.modules.callables root

-- the leaf of what entries come to
abbrev leaf_at : Checked → ℕ → ℕ → List ℤ → Outcome
leaf_at all root = body_leaf (tree_at all root) all.seqs

module _ (front : List EntryTree) (middle : Checked) (is_front : checked_entries none_checked front ≡ Ok middle) where
  even : length middle.modules.callables ≡ length middle.modules.infos
  even = (program-callables front middle is_front).count

  -- the bodies up to the middle are unchanged by the entries after it
  body_stays : (all : Checked) (tail : List EntryTree) (k : ℕ) → checked_entries middle tail ≡ Ok all → k < length middle.modules.callables
      → item_of all.modules.infos all.seqs k ≡ item_of middle.modules.infos middle.seqs k
  body_stays all tail k e low =
      let a = adds middle all tail e in
      let inside : k < length middle.modules.infos = omega (arith, low, even) in
      ap (λ l. item_of l all.seqs k) a.infos_are
      ∙ ap (λ l. item_of (middle.modules.infos ++ a.infos) l k) a.seqs_are
      ∙ item_left middle.modules.infos a.infos middle.seqs a.seqs k inside (count_all middle front is_front)

  callables_stay : (all : Checked) (tail : List EntryTree) (k : ℕ) → checked_entries middle tail ≡ Ok all → k < length middle.modules.callables
      → module_at all.modules.callables k ≡ module_at middle.modules.callables k
  callables_stay all tail k e low =
      let a = adds middle all tail e in
      ap (λ l. module_at l k) a.callables_are ∙ get_or_append_left middle.modules.callables a.callables no_module k low

  rescue_stays : (all : Checked) (tail : List EntryTree) (k : ℕ) → checked_entries middle tail ≡ Ok all → k < length middle.modules.callables
      → rescue_at all.modules.infos k ≡ rescue_at middle.modules.infos k
  rescue_stays all tail k e low =
      let a = adds middle all tail e in
      ap (λ l. rescue_at l k) a.infos_are
      ∙ ap (λ (i : ModuleInfo). i.rescue) (get_or_append_left middle.modules.infos a.infos tree_specs.no_module k (omega (arith, low, even)))

  info_stays : (all : Checked) (tail : List EntryTree) (k : ℕ) → checked_entries middle tail ≡ Ok all → k < length middle.modules.callables
      → slice_get all.modules.infos k ≡ slice_get middle.modules.infos k
  info_stays all tail k e low =
      let a = adds middle all tail e in
      ap (λ l. slice_get l k) a.infos_are ∙ get_left middle.modules.infos a.infos k (omega (arith, low, even))

  -- two programs with this front
  module _ (one two : Checked) (tail its_tail : List EntryTree) (e : checked_entries middle tail ≡ Ok one) (f : checked_entries middle its_tail ≡ Ok two) where
    alike : (root its_root : ℕ) → AreAlike (length middle.modules.callables) one.modules.infos two.modules.infos one.modules.callables two.modules.callables (leaf_at one root) (leaf_at two its_root)
    unfolding body_leaf
    alike root its_root = record {
      modules = λ k low. callables_stay two its_tail k f low ∙ sym (callables_stay one tail k e low);
      rescues = λ k low. rescue_stays two its_tail k f low ∙ sym (rescue_stays one tail k e low);
      leaves = λ k ws low. ap (leaves.meaning k ws) (body_stays two its_tail k f low ∙ sym (body_stays one tail k e low));
    }

    infos_stay : (k : ℕ) → k < length middle.modules.callables → slice_get two.modules.infos k ≡ slice_get one.modules.infos k
    infos_stay k low = info_stays two its_tail k f low ∙ sym (info_stays one tail k e low)

-- one whole program and one that is written otherwise
record AreSo (one two : Checked) (root its_root : ℕ) : Type 0 where
  front : List EntryTree
  middle : Checked
  is_front : checked_entries none_checked front ≡ Ok middle
  tail : List EntryTree
  its_tail : List EntryTree
  first : checked_entries middle tail ≡ Ok one
  second : checked_entries middle its_tail ≡ Ok two
  root_is : root ≡ length middle.modules.callables
  rewritten : IsRewritten one.modules.callables (length middle.modules.callables) two.modules.infos two.modules.callables its_root

are_so : (program other : ProgramTree) (one two : Checked) (root its_root : ℕ) → checked_entries none_checked program.entries ≡ Ok one → checked_entries none_checked other.entries ≡ Ok two
    → number_of one.modules main_name ≡ Some root → number_of two.modules main_name ≡ Some its_root → IsRewrittenProgram program other → AreSo one two root its_root
are_so program other one two root its_root e f number its_number is = by is.is
  where
    tail : List EntryTree
    tail = defined is.main_is.pipe ∷ is.main_is.back

    parts : AreParted none_checked one is.front tail
    parts = parted none_checked one is.front tail (ap (checked_entries none_checked) (sym is.main_is.entries_are) ∙ e)

    even_there : length parts.middle.modules.callables ≡ length parts.middle.modules.infos
    even_there = (program-callables is.front parts.middle parts.before).count

    root_is : root ≡ length parts.middle.modules.callables
    root_is =
        one_number (number_of one.modules main_name) root (length parts.middle.modules.callables) number
        (ap (number_of one.modules) (sym is.main_is.name_is) ∙ was_number parts.middle one two is.cs is.main_is.pipe is.main_is.back even_there parts.after is.main_is.is_written)

    -- the other's tail after the same middle
    its_after : (its_tail : List EntryTree) → other.entries ≡ is.front ++ its_tail → checked_entries parts.middle its_tail ≡ Ok two
    its_after its_tail are =
        let its = parted none_checked two is.front its_tail (ap (checked_entries none_checked) (sym are) ∙ f) in
        subst (λ m. checked_entries m its_tail ≡ Ok two) (ok_same its.middle parts.middle (sym its.before ∙ parts.before)) its.after

    make : (its_tail : List EntryTree) → checked_entries parts.middle its_tail ≡ Ok two → (j : ℕ) → number_of two.modules main_name ≡ Some j → IsRewritten one.modules.callables (length parts.middle.modules.callables) two.modules.infos two.modules.callables j → AreSo one two root its_root
    make its_tail after j named rewritten = record {
      front = is.front;
      middle = parts.middle;
      is_front = parts.before;
      tail = tail;
      its_tail = its_tail;
      first = parts.after;
      second = after;
      root_is = root_is;
      rewritten = subst (λ n. IsRewritten one.modules.callables (length parts.middle.modules.callables) two.modules.infos two.modules.callables n) (one_number (number_of two.modules main_name) j its_root named its_number) rewritten;
    }

    by : IsFarmedProgram is.front is.cs other ⊎ IsFusedProgram is.front is.cs other → AreSo one two root its_root
    by (inl way) =
        let its_tail : List EntryTree = map (λ m. defined m) way.farms ++ defined way.its_main.pipe ∷ way.its_main.back in
        let after = its_after its_tail (way.its_main.entries_are ∙ append_assoc is.front (map (λ m. defined m) way.farms) (defined way.its_main.pipe ∷ way.its_main.back)) in
        let done = farmed parts.middle one two is.cs is.main_is.pipe is.main_is.back even_there parts.after is.main_is.is_written way.farms way.its_calls way.its_main.pipe way.its_main.back after way.its_main.is_written way.farmed in
        make its_tail after done.0 (ap (number_of two.modules) (sym way.its_main.name_is) ∙ done.1) (inl done.2)
    by (inr way) =
        let its_tail : List EntryTree = defined way.work ∷ (defined way.farm ∷ way.back) in
        let after = its_after its_tail way.entries_are in
        let done = fused parts.middle one two is.cs is.main_is.pipe is.main_is.back even_there parts.after is.main_is.is_written way.work way.farm way.back after way.work_is way.plain way.farm_is in
        make its_tail after done.0 (ap (number_of two.modules) (sym way.name_is) ∙ done.1) (inr done.2)

pub programs_resolve : RewrittenProgramsResolve
programs_resolve program other r s e f lawful its_lawful is =
    let w : IsWhole program r = whole_of program r e in
    let v : IsWhole other s = whole_of other s f in
    let so : AreSo w.all v.all w.root v.root = are_so program other w.all v.all w.root v.root w.entries v.entries w.number v.number is in
    let leaf : body_leaf r.tree r.seqs ≡ leaf_at w.all w.root = ap (λ (x : ResolvedTree). body_leaf x.tree x.seqs) w.is in
    let its_leaf : body_leaf s.tree s.seqs ≡ leaf_at v.all v.root = ap (λ (x : ResolvedTree). body_leaf x.tree x.seqs) v.is in
    let Alike = AreAlike w.root w.all.modules.infos v.all.modules.infos w.all.modules.callables v.all.modules.callables in
    record {
      infos = w.all.modules.infos;
      its_infos = v.all.modules.infos;
      callables = w.all.modules.callables;
      other = v.all.modules.callables;
      root = w.root;
      its_root = v.root;
      tree_is = ap (λ (x : ResolvedTree). x.tree) w.is;
      its_tree_is = ap (λ (x : ResolvedTree). x.tree) v.is;
      has = has_tree program r w lawful;
      its = has_tree other s v its_lawful;
      alike =
          subst (λ l. Alike l (body_leaf s.tree s.seqs)) (sym leaf) (subst (Alike (leaf_at w.all w.root)) (sym its_leaf)
          (subst (λ n. AreAlike n w.all.modules.infos v.all.modules.infos w.all.modules.callables v.all.modules.callables (leaf_at w.all w.root) (leaf_at v.all v.root)) (sym so.root_is)
          (alike so.front so.middle so.is_front w.all v.all so.tail so.its_tail so.first so.second w.root v.root)));
      stay = λ k low. infos_stay so.front so.middle so.is_front w.all v.all so.tail so.its_tail so.first so.second k (subst (λ n. k < n) so.root_is low);
      rewritten = subst (λ n. IsRewritten w.all.modules.callables n v.all.modules.infos v.all.modules.callables v.root) (sym so.root_is) so.rewritten;
    }

-- the first node of a module's tree is of the module
pub root_module : (infos : List ModuleInfo) (callables : List Callable) (root : ℕ) → (node_at (tree_of infos callables root) 0).module ≡ root
root_module infos callables root =
    ap (λ ns. (slice_index_or ns 0 tree_specs.no_node).module) (instance-step callables 5 root 0)

pub programs_mean : RewrittenProgramsMean
programs_mean program other r s e f lawful its_lawful is = (means, stays)
  where
    a : AreRewritten r s
    a = programs_resolve program other r s e f lawful its_lawful is

    means : HaveOneMeaning r s
    means items =
        ap (λ t. meaning t (body_leaf s.tree s.seqs) items) a.its_tree_is
        ∙ trees_mean a.infos a.its_infos a.callables a.other (body_leaf r.tree r.seqs) (body_leaf s.tree s.seqs) a.root a.its_root items a.has a.its a.alike a.rewritten
        ∙ sym (ap (λ t. meaning t (body_leaf r.tree r.seqs) items) a.tree_is)

    root_is : (node_at r.tree 0).module ≡ a.root
    root_is = ap (λ t. (node_at t 0).module) a.tree_is ∙ root_module a.infos a.callables a.root

    stays : ModulesStay r s
    stays k low =
        ap (λ (t : Tree). slice_get t.modules k) a.its_tree_is
        ∙ a.stay k (subst (λ n. k < n) root_is low)
        ∙ sym (ap (λ (t : Tree). slice_get t.modules k) a.tree_is)
