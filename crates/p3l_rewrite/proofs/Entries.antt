-- An accepted module among accepted entries, and the modules of a whole program.
use Rattle.std.proofs.Common.{◌≡◌, ℕ, ℤ, ◌+◌, ◌<◌, Bool, true, IfSome, List, [], ◌∷◌, ◌++◌, length, Option, Some, None, Ok, refl, ap, sym, ◌∙◌, subst, arith, append_assoc, length-append}
use Rattle.std.proofs.Math.Seq.{get_or-append_seam}
use Rattle.p3l_ast.specs.declared.refusal.Fault.TheVariants.{TooDeep}
use Rattle.p3l_ast.specs.Tree.{ModuleTree, EntryTree, ProgramTree, defined}
use Rattle.p3l_body.specs.declared.ports.Ports.{Ports}
use Rattle.p3l_body.specs.Seq.{SeqTree}
use Rattle.p3l_skel.specs.declared.tree.ModuleInfo.{ModuleInfo}
use Rattle.p3l_skel.specs.Tree.{nesting}
use Rattle.p3l_skel.specs.Tree as tree_specs
use Rattle.p3l_skel.specs.Lawful.{IsLawfulTree}
use Rattle.p3l_check.specs.declared.callables.Callable.{Callable}
use Rattle.p3l_check.specs.Wiring.{no_module, module_at}
use Rattle.p3l_check.specs.Unfolding.{tree_of}
use Rattle.p3l_check.specs.Refusing.{is_nested_within}
use Rattle.p3l_units.specs.Table.{seqs_before}
use Rattle.p3l_calls.proofs.Kept.{kept-true, first_of-first}
use Rattle.p3l_check.specs.declared.skeleton.Skeleton.{Skeleton}
use Rattle.p3l_check.specs.Clauses.{rescue_in}
use Rattle.p3l_check.specs.Modules.{number_of}
use Rattle.p3l_check.specs.Places.{defines}
use Rattle.p3l_check.specs.Entry.{Checked, none_checked, info_of, defined_as, before_in, checked_entry, checked_entries}
use Rattle.p3l_check.specs.Skeleton.{skeleton_of}
use Rattle.p3l_check.specs.Resolving.{ResolvedTree, main_name, main_place, root_of, limits_rule, whole, resolved}
use Rattle.p3l_check.specs.Callables.{AreCallables}
use Rattle.p3l_check.proofs.Sound.{program-callables}
use Rattle.p3l_check.proofs.Numbers.{number-below}
use Rattle.p3l_rewrite.specs.Meant.{rescue_at}
use Rattle.p3l_rewrite.specs.Trees.{HasRoot}
use Rattle.p3l_rewrite.proofs.Numbers.{number_kept, number_new}
use Rattle.p3l_rewrite.proofs.Added.{given_of, ok_same, IsAccepted, accepted, adds}
use Rattle.p3l_rewrite.proofs.Made.{some_number}

-- a module that was accepted first of some entries
pub record IsFirst (checked all : Checked) (m : ModuleTree) (back : List EntryTree) : Type 0 where
  pub next : Checked
  pub is_ahead : List ℕ → Bool
  pub ports : Ports
  pub skeleton : Skeleton
  pub made : skeleton_of m.kind (before_in checked is_ahead) m ports ≡ Ok skeleton
  pub rescue : Option ℤ
  pub rescues : rescue_in m.kind m.at.pos checked.constants m.clauses ≡ Ok rescue
  pub entries : checked_entries checked (defined m ∷ back) ≡ Ok all
  pub rest : checked_entries next back ≡ Ok all
  pub even : length next.modules.callables ≡ length next.modules.infos
  pub number : number_of all.modules m.at.name ≡ Some (length checked.modules.callables)
  pub form : (module_at all.modules.callables (length checked.modules.callables)).form ≡ skeleton.form
  pub calls : (module_at all.modules.callables (length checked.modules.callables)).calls ≡ skeleton.calls
  pub rescue_is : rescue_at all.modules.infos (length checked.modules.callables) ≡ rescue
  pub there : length checked.modules.callables < length all.modules.callables
  pub one_more : length next.modules.callables ≡ length checked.modules.callables + 1

-- a number stays
pub number_stays : (checked all : Checked) (entries : List EntryTree) (name : List ℕ) (n : ℕ) → checked_entries checked entries ≡ Ok all → number_of checked.modules name ≡ Some n → number_of all.modules name ≡ Some n
number_stays checked all entries name n e is =
    let a = adds checked all entries e in
    subst (λ (l : List ModuleInfo). number_of (record { infos = l; ports = []; callables = [] }) name ≡ Some n) (sym a.infos_are) (number_kept name 0 checked.modules.infos a.infos n is)

pub first_of_them : (checked all : Checked) (m : ModuleTree) (back : List EntryTree) → length checked.modules.callables ≡ length checked.modules.infos → checked_entries checked (defined m ∷ back) ≡ Ok all → IsFirst checked all m back
first_of_them checked all m back even e =
    let ahead = defines (defined m ∷ back) in
    let g = given_of (checked_entry checked ahead (defined m)) (λ next. checked_entries next back) all e in
    let acc : IsAccepted checked g.value ahead m = accepted checked g.value ahead m g.is in
    let a = adds g.value all back g.then_is in
    let w : Callable = (defined_as (info_of m acc.rescue) acc.ports acc.skeleton).callables in
    let callables : all.modules.callables ≡ checked.modules.callables ++ w ∷ a.callables =
    a.callables_are ∙ ap (λ l. l ++ a.callables) acc.callables_are ∙ append_assoc checked.modules.callables (w ∷ []) a.callables in
    let infos : all.modules.infos ≡ checked.modules.infos ++ info_of m acc.rescue ∷ a.infos =
    a.infos_are ∙ ap (λ l. l ++ a.infos) acc.infos_are ∙ append_assoc checked.modules.infos (info_of m acc.rescue ∷ []) a.infos in
    let at : module_at all.modules.callables (length checked.modules.callables) ≡ w =
    ap (λ l. module_at l (length checked.modules.callables)) callables ∙ get_or-append_seam checked.modules.callables w a.callables no_module in
    let long : length all.modules.callables ≡ length checked.modules.callables + length (w ∷ a.callables) = ap (length {A = Callable}) callables ∙ length-append checked.modules.callables (w ∷ a.callables) in
    let more : length g.value.modules.callables ≡ length checked.modules.callables + 1 = ap (length {A = Callable}) acc.callables_are ∙ length-append checked.modules.callables (w ∷ []) in
    let named : length g.value.modules.infos ≡ length checked.modules.infos + 1 = ap (length {A = ModuleInfo}) acc.infos_are ∙ length-append checked.modules.infos (info_of m acc.rescue ∷ []) in
    let count : 0 + length checked.modules.infos ≡ length checked.modules.callables = omega (arith, even) in
    record {
      next = g.value;
      is_ahead = ahead;
      ports = acc.ports;
      skeleton = acc.skeleton;
      made = acc.made;
      rescue = acc.rescue;
      rescues = acc.rescues;
      entries = e;
      rest = g.then_is;
      even = more ∙ ap (λ n. n + 1) even ∙ sym named;
      number =
          subst (λ (l : List ModuleInfo). number_of (record { infos = l; ports = []; callables = [] }) m.at.name ≡ Some (length checked.modules.callables)) (sym infos)
          (number_new m.at.name 0 checked.modules.infos a.infos (info_of m acc.rescue) refl acc.fresh ∙ ap Some count);
      form = ap (λ (x : Callable). x.form) at;
      calls = ap (λ (x : Callable). x.calls) at;
      rescue_is =
          ap (λ n. rescue_at all.modules.infos n) even ∙ ap (λ l. rescue_at l (length checked.modules.infos)) infos
          ∙ ap (λ (i : ModuleInfo). i.rescue) (get_or-append_seam checked.modules.infos (info_of m acc.rescue) a.infos tree_specs.no_module);
      there = omega (arith, long);
      one_more = more;
    }

-- a whole program that keeps the rules
pub record IsWhole (program : ProgramTree) (r : ResolvedTree) : Type 0 where
  pub all : Checked
  pub root : ℕ
  pub entries : checked_entries none_checked program.entries ≡ Ok all
  pub number : number_of all.modules main_name ≡ Some root
  pub nested : is_nested_within all.modules.callables nesting root ≡ true
  pub is : r ≡ record { tree = tree_of all.modules.infos all.modules.callables root; seqs = all.seqs }

pub whole_of : (program : ProgramTree) (r : ResolvedTree) → resolved program ≡ Ok r → IsWhole program r
whole_of program r e =
    let g = given_of (checked_entries none_checked program.entries) (whole program) r e in
    let h = given_of (root_of program.end g.value.modules) _ r g.then_is in
    let i = given_of (limits_rule (main_place program.end program.entries) g.value.modules h.value) _ r h.then_is in
    record {
      all = g.value;
      root = h.value;
      entries = g.is;
      number = some_number (number_of g.value.modules main_name) _ h.value h.is;
      nested = kept-true (is_nested_within g.value.modules.callables nesting h.value) TooDeep (main_place program.end program.entries) i.value (first_of-first _ _ i.value i.is);
      is = sym (ok_same _ r i.then_is);
    }

-- some number is below what all are
below_of : (o : Option ℕ) (n k : ℕ) → o ≡ Some k → IfSome o (λ j. j < n) → k < n
below_of None n k e h = absurd cc
below_of (Some j) n k e h = let same : j ≡ k = cc in subst (λ i. i < n) same h

pub has_tree : (program : ProgramTree) (r : ResolvedTree) (w : IsWhole program r) → IsLawfulTree r.tree → HasRoot w.all.modules.infos w.all.modules.callables w.root
has_tree program r w lawful =
    let are : AreCallables w.all.modules.infos w.all.modules.callables = program-callables program.entries w.all w.entries in
    let fair : IsLawfulTree (tree_of w.all.modules.infos w.all.modules.callables w.root) = subst (λ (x : ResolvedTree). IsLawfulTree x.tree) w.is lawful in
    record {
      wiring = record { count = are.count; few = fair.few_modules; rescues = fair.rescues; each = are.each };
      there = below_of (number_of w.all.modules main_name) (length w.all.modules.callables) w.root w.number (number-below main_name w.all.modules.infos (length w.all.modules.callables) are.count);
      nested = w.nested;
    }

-- there are as many bodies as `seq` modules
pub count_all : (all : Checked) (entries : List EntryTree) → checked_entries none_checked entries ≡ Ok all → length all.seqs ≡ seqs_before all.modules.infos (length all.modules.infos)
count_all all entries e =
    let a = adds none_checked all entries e in
    ap (length {A = SeqTree}) a.seqs_are ∙ a.count ∙ ap (λ l. seqs_before l (length l)) (sym a.infos_are)
