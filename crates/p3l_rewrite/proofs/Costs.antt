-- The costs of a program's tree are costs of the trees of all ways to write it, once those of the added modules are there.
use Rattle.std.proofs.Common.{◌≡◌, ℕ, zero, suc, ◌+◌, ◌-◌, ◌<◌, ◌≤◌, cond, List, [], ◌∷◌, ◌++◌, map, length, replicate, Option, Some, None, Ok, refl, ap, sym, ◌∙◌, subst, arith, codes, length-append}
use Rattle.std.specs.Prelude.{slice_index, IfSome}
use Rattle.std.specs.List.{AllByRecursion, list_all}
use Rattle.std.proofs.lemmas.List.Elements.{All-from_recursion, recursion_from_All}
use Rattle.p3l_ast.specs.declared.call.Call.{Call}
use Rattle.p3l_ast.specs.declared.module.Kind.{Kind}
use Rattle.p3l_ast.specs.declared.module.Kind.TheVariants as kinds
use Rattle.p3l_ast.specs.Tree.{ModuleTree, EntryTree, ProgramTree, InsideTree, body, calls, turning, constant, defined}
use Rattle.p3l_skel.specs.declared.tree.Form.{Form}
use Rattle.p3l_skel.specs.declared.tree.Form.TheVariants.{Seq, Comp, Pipe, Farm, Map, Reduce, Loop}
use Rattle.p3l_skel.specs.declared.tree.ModuleInfo.{ModuleInfo}
use Rattle.p3l_skel.specs.declared.tree.Node.{Node}
use Rattle.p3l_skel.specs.declared.tree.Tree.{Tree}
use Rattle.p3l_skel.specs.Tree.{node_at, is_sequential, nesting}
use Rattle.p3l_skel.specs.Lawful.{IsLawfulTree}
use Rattle.p3l_check.specs.declared.callables.Callable.{Callable}
use Rattle.p3l_check.specs.Wiring.{module_at}
use Rattle.p3l_check.specs.Unfolding.{instance, tree_of}
use Rattle.p3l_check.specs.Entry.{Checked, none_checked, checked_entry, checked_entries, with_constant, info_of}
use Rattle.p3l_check.specs.Entry as entry_specs
use Rattle.p3l_check.specs.Places.{defines}
use Rattle.p3l_check.specs.Resolving.{ResolvedTree, resolved}
use Rattle.p3l_cost.specs.declared.costs.Costs.{Costs}
use Rattle.p3l_cost.specs.Costs.{most_cost, IsTurns, IsWithinTurns, AreCostsOf}
use Rattle.p3l_rewrite.specs.Trees.{HasRoot, IsRewritten}
use Rattle.p3l_rewrite.specs.Programs.{IsRewrittenProgram, AreRewritten}
use Rattle.p3l_rewrite.specs.Candidates.{Around, around_main, longer, farm_with, farm_called, farms_of, with_calls, work_of, farmed_entries, fused_entries, is_pipe, has_name, ended, farmed_of, fused_of, ways_of, others_around, others}
use Rattle.p3l_rewrite.specs.Rewriting.{with_added, with_modules, costs_for}
use Rattle.p3l_rewrite.specs.Costs.{KeepsCosts, OthersKeepCosts}
use Rattle.p3l_rewrite.proofs.Added.{given_of, ok_same, accepted}
use Rattle.p3l_rewrite.proofs.Entries.{IsWhole, whole_of}
use Rattle.p3l_rewrite.proofs.Nodes.{IsAdded, all_nodes}
use Rattle.p3l_rewrite.proofs.Programs.{programs_resolve, root_module}
use Rattle.p3l_rewrite.proofs.Candidates.{IsAround, is_around, all_both, if_all, others_are}

-- numbers where some are added

length_behind : (n x : ℕ) (ys : List ℕ) → length (replicate n x ++ ys) ≡ length ys + n
length_behind zero x ys = omega arith
length_behind (suc n) x ys = let h = length_behind n x ys in omega (arith, h)

added_length : (r n x : ℕ) (xs : List ℕ) → length (with_added r n x xs) ≡ length xs + n
added_length zero n x xs = length_behind n x xs
added_length (suc r) n x [] = length_behind n x []
added_length (suc r) n x (y ∷ ys) = let h = added_length r n x ys in omega (arith, h)

all_behind : (P : ℕ → Type 0) (n x : ℕ) (ys : List ℕ) → P x → AllByRecursion P ys → AllByRecursion P (replicate n x ++ ys)
all_behind P zero x ys one all = all
all_behind P (suc n) x ys one all = (one, all_behind P n x ys one all)

added_all : (P : ℕ → Type 0) (r n x : ℕ) (xs : List ℕ) → P x → AllByRecursion P xs → AllByRecursion P (with_added r n x xs)
added_all P zero n x xs one all = all_behind P n x xs one all
added_all P (suc r) n x [] one all = all_behind P n x [] one all
added_all P (suc r) n x (y ∷ ys) one all = (all.0, added_all P r n x ys one all.1)

added_before : (r n x : ℕ) (xs : List ℕ) (k : ℕ) → k < r → k < length xs → slice_index (with_added r n x xs) k ≡ slice_index xs k
added_before zero n x xs k low inside = absurd (omega (arith, low))
added_before (suc r) n x [] k low inside = absurd (omega (arith, inside))
added_before (suc r) n x (y ∷ ys) zero low inside = refl
added_before (suc r) n x (y ∷ ys) (suc k) low inside = added_before r n x ys k (omega (arith, low)) (omega (arith, inside))

-- an added form is within any number of turns
any_turns : (n m : ℕ) (form : Form) → IsAdded form → IsWithinTurns form n
any_turns n m Seq is = tt
any_turns n m Comp is = tt
any_turns n m Pipe is = tt
any_turns n m (Farm w) is = tt
any_turns n m (Map w cut) is = tt
any_turns n m (Reduce w len elem) is = tt
any_turns n m (Loop turns tokens) is = absurd is

-- costs of a tree, where the pipe is written otherwise
module _ (infos its_infos : List ModuleInfo) (callables other : List Callable) (root its_root : ℕ) (costs : Costs) (has : HasRoot infos callables root) (alike : (m : ℕ) → m < root → module_at other m ≡ module_at callables m)
    (rewritten : IsRewritten callables root its_infos other its_root) (no_fewer : length infos ≤ length its_infos) (are : AreCostsOf (tree_of infos callables root) costs) where
  added : ℕ
  added = length its_infos - length infos

  turns : List ℕ
  turns = with_added root added 1 costs.turns

  Was : Form → ℕ → Type 0
  Was form m = IsWithinTurns form (slice_index costs.turns m)

  Is : Form → ℕ → Type 0
  Is form m = IsWithinTurns form (slice_index turns m)

  turns_stay : (m : ℕ) → m < root → Was (module_at callables m).form m → Is (module_at callables m).form m
  unfolding Was Is turns
  turns_stay m low was =
      let count = has.wiring.count in
      let there = has.there in
      let each = are.turns_each in
      let inside : m < length costs.turns = omega (arith, low, there, count, each) in
      subst (IsWithinTurns (module_at callables m).form) (sym (added_before root added 1 costs.turns m low inside)) was

  nodes_within : AllByRecursion (λ (node : Node). IsWithinTurns node.form (slice_index turns node.module)) (instance other nesting its_root 0)
  unfolding Was Is
  nodes_within =
      all_nodes infos callables other Was Is has.wiring root has.there alike turns_stay (λ m form is. any_turns (slice_index turns m) m form is) its_infos its_root rewritten has.nested
      (recursion_from_All (λ (node : Node). IsWithinTurns node.form (slice_index costs.turns node.module)) (instance callables nesting root 0) are.within)

  costs_shifted : AreCostsOf (tree_of its_infos other its_root) (with_modules root (length its_infos - length infos) costs)
  unfolding turns added
  costs_shifted = record {
    setup = are.setup;
    word = are.word;
    ticks_each = (let p = added_length root added 0 costs.ticks in let q = are.ticks_each in omega (arith, p, q, no_fewer));
    ticks = All-from_recursion (λ n. n ≤ most_cost) (with_added root added 0 costs.ticks) (added_all (λ n. n ≤ most_cost) root added 0 costs.ticks (omega arith) (recursion_from_All (λ n. n ≤ most_cost) costs.ticks are.ticks));
    turns_each = (let p = added_length root added 1 costs.turns in let q = are.turns_each in omega (arith, p, q, no_fewer));
    turns = All-from_recursion IsTurns (with_added root added 1 costs.turns) (added_all IsTurns root added 1 costs.turns (omega arith, omega arith) (recursion_from_All IsTurns costs.turns are.turns));
    within = All-from_recursion (λ (node : Node). IsWithinTurns node.form (slice_index turns node.module)) (instance other nesting its_root 0) nodes_within;
  }

-- the number of modules

modules_in : List EntryTree → ℕ
modules_in [] = 0
modules_in (constant at value ∷ entries) = modules_in entries
modules_in (defined m ∷ entries) = suc (modules_in entries)

modules_both : (xs ys : List EntryTree) → modules_in (xs ++ ys) ≡ modules_in xs + modules_in ys
unfolding modules_in
modules_both [] ys = omega arith
modules_both (constant at value ∷ xs) ys = modules_both xs ys
modules_both (defined m ∷ xs) ys = let h = modules_both xs ys in omega (arith, h)

counted : (checked last : Checked) (entries : List EntryTree) → checked_entries checked entries ≡ Ok last → length last.modules.infos ≡ length checked.modules.infos + modules_in entries
unfolding modules_in
counted checked last [] e =
    let same : checked ≡ last = ok_same checked last e in
    subst (λ (c : Checked). length c.modules.infos ≡ length checked.modules.infos + 0) same (omega arith)
counted checked last (constant at value ∷ entries) e =
    let g = given_of (checked_entry checked (defines (constant at value ∷ entries)) (constant at value)) (λ next. checked_entries next entries) last e in
    let h = given_of (entry_specs.new_name checked at) (λ x. Ok (with_constant checked at.name value)) g.value g.is in
    let same : with_constant checked at.name value ≡ g.value = ok_same (with_constant checked at.name value) g.value h.then_is in
    counted g.value last entries g.then_is ∙ ap (λ (c : Checked). length c.modules.infos + modules_in entries) (sym same)
counted checked last (defined m ∷ entries) e =
    let ahead = defines (defined m ∷ entries) in
    let g = given_of (checked_entry checked ahead (defined m)) (λ next. checked_entries next entries) last e in
    let acc = accepted checked g.value ahead m g.is in
    let more : length g.value.modules.infos ≡ length checked.modules.infos + 1 = ap (length {A = ModuleInfo}) acc.infos_are ∙ length-append checked.modules.infos (info_of m acc.rescue ∷ []) in
    let rest = counted g.value last entries g.then_is in
    omega (arith, more, rest)

modules_are : (program : ProgramTree) (r : ResolvedTree) → resolved program ≡ Ok r → length r.tree.modules ≡ modules_in program.entries
modules_are program r e =
    let w : IsWhole program r = whole_of program r e in
    ap (λ (x : ResolvedTree). length x.tree.modules) w.is ∙ counted none_checked w.all program.entries w.entries ∙ none_before
  where
    none_before : 0 + modules_in program.entries ≡ modules_in program.entries
    none_before = omega arith

-- a program that is written otherwise, with no fewer modules
keeps : (program other : ProgramTree) (r : ResolvedTree) (costs : Costs) → resolved program ≡ Ok r → IsLawfulTree r.tree → AreCostsOf r.tree costs
    → IsRewrittenProgram program other → modules_in program.entries ≤ modules_in other.entries → KeepsCosts r.tree costs other
keeps program other r costs e lawful are is no_fewer s f its_lawful =
    let a : AreRewritten r s = programs_resolve program other r s e f lawful its_lawful is in
    let count = ap (λ (t : Tree). length t.modules) (sym a.tree_is) ∙ modules_are program r e in
    let its_count = ap (λ (t : Tree). length t.modules) (sym a.its_tree_is) ∙ modules_are other s f in
    let shifted = costs_shifted a.infos a.its_infos a.callables a.other a.root a.its_root costs a.has a.alike.modules a.rewritten (omega (arith, count, its_count, no_fewer)) (subst (λ t. AreCostsOf t costs) a.tree_is are) in
    let own : AreCostsOf (tree_of a.its_infos a.other a.its_root) (costs_for (tree_of a.infos a.callables a.root) costs (tree_of a.its_infos a.other a.its_root)) =
    subst (λ n. AreCostsOf (tree_of a.its_infos a.other a.its_root) (with_modules n (length a.its_infos - length a.infos) costs)) (sym (root_module a.infos a.callables a.root)) shifted in
    subst (λ t. AreCostsOf s.tree (costs_for t costs s.tree)) (sym a.tree_is)
    (subst (λ t. AreCostsOf t (costs_for (tree_of a.infos a.callables a.root) costs t)) (sym a.its_tree_is) own)

-- none of the ways to write a program has fewer modules

HasNoFewer : ProgramTree → ProgramTree → Type 0
HasNoFewer program other = modules_in program.entries ≤ modules_in other.entries

module _ (program : ProgramTree) (tree : Tree) (s : Around) (around : IsAround program.entries s) where
  there : modules_in program.entries ≡ modules_in s.front + suc (modules_in s.back)
  unfolding modules_in
  there = ap modules_in around.whole ∙ modules_both s.front (defined s.main ∷ s.back)

  farmed_more : (farms : List ModuleTree) (cs : List Call) → HasNoFewer program (ended program (farmed_entries s farms cs))
  unfolding modules_in HasNoFewer
  farmed_more farms cs =
      let a = modules_both (s.front ++ map (λ m. defined m) farms) (defined (with_calls s.main (map (farm_called farms) cs)) ∷ s.back) in
      let b = modules_both s.front (map (λ m. defined m) farms) in
      let c = there in
      omega (arith, a, b, c)

  fused_more : (cs : List Call) → HasNoFewer program (ended program (fused_entries s cs))
  unfolding modules_in HasNoFewer
  fused_more cs =
      let a = modules_both s.front (defined (work_of s.main cs) ∷ (defined (farm_with s.main.at (longer (codes "_work") s.main.at) s.main.ins s.main.outs) ∷ s.back)) in
      let c = there in
      omega (arith, a, c)

  ways_more : (inside : InsideTree) → AllByRecursion (HasNoFewer program) (ways_of program tree s inside)
  ways_more (body ports statements) = tt
  ways_more (turning c d) = tt
  ways_more (calls cs) =
      all_both (HasNoFewer program) (farmed_of program tree s cs) (fused_of program tree s cs)
      (if_all (HasNoFewer program) (list_all has_name farms) _ (farmed_more farms cs))
      (if_all (HasNoFewer program) (list_all (is_sequential tree) (node_at tree 0).parts) _ (fused_more cs))
    where
      farms : List ModuleTree
      farms = farms_of s.front tree [] cs (node_at tree 0).parts

  kind_more : (kind : Kind) → AllByRecursion (HasNoFewer program) (cond (is_pipe kind) (ways_of program tree s s.main.inside) [])
  kind_more kinds.Pipe = ways_more s.main.inside
  kind_more kinds.Seq = tt
  kind_more kinds.Comp = tt
  kind_more kinds.Farm = tt
  kind_more kinds.Map = tt
  kind_more kinds.Reduce = tt
  kind_more kinds.Loop = tt

others_more : (program : ProgramTree) (tree : Tree) → AllByRecursion (HasNoFewer program) (others program tree)
unfolding others
others_more program tree = by (around_main program.entries) (is_around program.entries)
  where
    by : (o : Option Around) → IfSome o (IsAround program.entries) → AllByRecursion (HasNoFewer program) (others_around program tree o)
    by None h = tt
    by (Some s) h = kind_more program tree s h s.main.kind

pub others_keep_costs : OthersKeepCosts
unfolding HasNoFewer
others_keep_costs program r costs e lawful are = all (others program r.tree) (others_are program r.tree) (others_more program r.tree)
  where
    all : (ps : List ProgramTree) → AllByRecursion (IsRewrittenProgram program) ps → AllByRecursion (HasNoFewer program) ps → AllByRecursion (KeepsCosts r.tree costs) ps
    all [] is more = tt
    all (p ∷ ps) is more = (keeps program p r costs e lawful are is.0 more.0, all ps is.1 more.1)
