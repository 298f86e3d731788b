-- Results of the entries of a program: modules with names, and a body for each `seq` module.
use Rattle.std.proofs.Common.{◌≡◌, ℕ, ℤ, ◌+◌, Bool, cond, List, [], ◌∷◌, ◌++◌, length, Option, Some, None, Result, Ok, refl, sym, ap, ◌∙◌, subst, arith, length-append}
use Rattle.std.specs.List.{All, AllByRecursion}
use Rattle.std.proofs.lemmas.List.Elements.{All-from_recursion}
use Rattle.std.proofs.lemmas.List.Sums.{sum_by-append}
use Rattle.p3l_ast.specs.declared.module.Kind.{Kind}
use Rattle.p3l_ast.specs.declared.module.Kind.TheVariants as kinds
use Rattle.p3l_ast.specs.declared.refusal.SourceRefusal.{SourceRefusal}
use Rattle.p3l_ast.specs.Tree.{ModuleTree, EntryTree, constant, defined, ProgramTree}
use Rattle.p3l_types.specs.Constants.{Constants}
use Rattle.p3l_body.specs.Seq.{SeqTree, checked_seq}
use Rattle.p3l_skel.specs.declared.tree.ModuleKind.{ModuleKind}
use Rattle.p3l_skel.specs.declared.tree.ModuleKind.TheVariants as skeletons
use Rattle.p3l_skel.specs.declared.tree.ModuleInfo.{ModuleInfo}
use Rattle.p3l_units.specs.Table.{is_seq_kind, one_if_seq}
use Rattle.p3l_calls.proofs.Kept.{given-taken}
use Rattle.p3l_check.specs.declared.defined.Defined.{Defined}
use Rattle.p3l_check.specs.Environment.{Before}
use Rattle.p3l_check.specs.Clauses.{rescue_in}
use Rattle.p3l_check.specs.Skeleton.{skeleton_of}
use Rattle.p3l_check.specs.Entry.{Checked, none_checked, new_name, ports_in, body_in, with_body, kind_in, info_of, defined_as, defined_in, before_in, with_checked, checked_module, with_constant, checked_entry, checked_entries}
use Rattle.p3l_check.specs.Places.{defines}
use Rattle.p3l_check.specs.Resolving.{ResolvedTree, root_of, limits_rule, main_place, whole, resolved, resolved_as}
use Rattle.p3l_load.specs.Codes.{seqs_in}
use Rattle.p3l_load.specs.Written.{HasName, HasNameOf}

abbrev good : {A : Type 0} → A → Result A SourceRefusal
good x = Ok x

ok_same : {A : Type 0} (x y : A) → good x ≡ good y → x ≡ y
ok_same x y e = cc

-- the modules have names, and there are as many bodies as `seq` modules
pub record AreNamed (checked : Checked) : Type 0 where
  pub names : AllByRecursion HasName checked.modules.infos
  pub bodies : length checked.seqs ≡ seqs_in checked.modules.infos

names_more : (infos : List ModuleInfo) (info : ModuleInfo) → AllByRecursion HasName infos → HasName info → AllByRecursion HasName (infos ++ info ∷ [])
names_more [] info all has = (has, tt)
names_more (i ∷ infos) info all has = (all.0, names_more infos info all.1 has)

one_more : (kind : ModuleKind) → 0 + cond (is_seq_kind kind) 1 0 ≡ one_if_seq kind
one_more skeletons.Seq = refl
one_more skeletons.Comp = refl
one_more skeletons.Pipe = refl
one_more skeletons.Farm = refl
one_more skeletons.Map = refl
one_more skeletons.Reduce = refl
one_more skeletons.Loop = refl

seqs_more : (infos : List ModuleInfo) (info : ModuleInfo) → seqs_in (infos ++ info ∷ []) ≡ seqs_in infos + one_if_seq info.kind
seqs_more infos info = sum_by-append (λ (m : ModuleInfo). cond (is_seq_kind m.kind) 1 0) infos (info ∷ []) ∙ ap (λ n. seqs_in infos + n) (one_more info.kind)

abbrev the_none : Option SeqTree
the_none = None

none_more : (seqs : List SeqTree) (seq : Option SeqTree) → good (the_none) ≡ Ok seq → length (with_body seqs seq) ≡ length seqs + 0
none_more seqs seq e = ap (λ s. length (with_body seqs s)) (sym (ok_same the_none seq e)) ∙ omega arith

-- a body more, for a `seq` module alone
bodies_more : (seqs : List SeqTree) (kind : Kind) (constants : Constants) (home : ℕ) (m : ModuleTree) (seq : Option SeqTree) → body_in kind constants home m ≡ Ok seq →
    length (with_body seqs seq) ≡ length seqs + one_if_seq (kind_in kind)
bodies_more seqs kinds.Seq constants home m seq e =
    let body = given-taken (checked_seq constants home m) (λ s. Ok (Some s)) seq e in
    ap (λ s. length (with_body seqs s)) (sym (ok_same (Some body.0) seq body.2)) ∙ length-append seqs (body.0 ∷ [])
bodies_more seqs kinds.Comp constants home m seq e = none_more seqs seq e
bodies_more seqs kinds.Pipe constants home m seq e = none_more seqs seq e
bodies_more seqs kinds.Farm constants home m seq e = none_more seqs seq e
bodies_more seqs kinds.Map constants home m seq e = none_more seqs seq e
bodies_more seqs kinds.Reduce constants home m seq e = none_more seqs seq e
bodies_more seqs kinds.Loop constants home m seq e = none_more seqs seq e

-- a module's definition has its name, its kind and some rescue number or none
record HasInfoOf (m : ModuleTree) (d : Defined) : Type 0 where
  rescue : Option ℤ
  info_is : info_of m rescue ≡ d.info

info_of_defined : (before : Before) (m : ModuleTree) (d : Defined) → defined_in before m ≡ Ok d → HasInfoOf m d
info_of_defined before m d e =
    let ports = given-taken (ports_in before.constants m) _ d e in
    let rescue = given-taken (rescue_in m.kind m.at.pos before.constants m.clauses) _ d ports.2 in
    let skeleton = given-taken (skeleton_of m.kind before m ports.0) _ d rescue.2 in
    record {
      rescue = rescue.0;
      info_is = ap (λ (x : Defined). x.info) (ok_same (defined_as (info_of m rescue.0) ports.0 skeleton.0) d skeleton.2);
    }

module_named : (checked next : Checked) (is_ahead : List ℕ → Bool) (m : ModuleTree) → AreNamed checked → HasNameOf (defined m) →
    checked_module checked is_ahead m ≡ Ok next → AreNamed next
module_named checked next is_ahead m are has e =
    let d = given-taken (defined_in (before_in checked is_ahead) m) _ next e in
    let seq = given-taken (body_in m.kind checked.constants (length checked.modules.infos) m) _ next d.2 in
    let info = (info_of_defined (before_in checked is_ahead) m d.0 d.1).info_is in
    let count = bodies_more checked.seqs m.kind checked.constants (length checked.modules.infos) m seq.0 seq.1 in
    subst AreNamed (ok_same (with_checked checked d.0 seq.0) next seq.2)
    (record {
      names = names_more checked.modules.infos d.0.info are.names (subst HasName info has);
      bodies = count ∙ (ap (λ n. n + one_if_seq (kind_in m.kind)) are.bodies
          ∙ (ap (λ (i : ModuleInfo). seqs_in checked.modules.infos + one_if_seq i.kind) info
          ∙ sym (seqs_more checked.modules.infos d.0.info)));
    })

entry_named : (checked next : Checked) (is_ahead : List ℕ → Bool) (entry : EntryTree) → AreNamed checked → HasNameOf entry →
    checked_entry checked is_ahead entry ≡ Ok next → AreNamed next
entry_named checked next is_ahead (constant at value) are has e =
    let fresh = given-taken (new_name checked at) _ next e in
    subst AreNamed (ok_same (with_constant checked at.name value) next fresh.2) (record { names = are.names; bodies = are.bodies })
entry_named checked next is_ahead (defined m) are has e =
    let fresh = given-taken (new_name checked m.at) _ next e in
    module_named checked next is_ahead m are has fresh.2

entries_named : (checked all : Checked) (entries : List EntryTree) → AreNamed checked → AllByRecursion HasNameOf entries →
    checked_entries checked entries ≡ Ok all → AreNamed all
entries_named checked all [] are have e = subst AreNamed (ok_same checked all e) are
entries_named checked all (entry ∷ entries) are have e =
    let next = given-taken (checked_entry checked (defines (entry ∷ entries)) entry) _ all e in
    entries_named next.0 all entries (entry_named checked next.0 (defines (entry ∷ entries)) entry are have.0 next.1) have.1 next.2

-- the same of the tree and the bodies that a program comes to
pub record IsNamed (r : ResolvedTree) : Type 0 where
  pub names : All HasName r.tree.modules
  pub bodies : length r.seqs ≡ seqs_in r.tree.modules

pub program_named : (program : ProgramTree) (r : ResolvedTree) → AllByRecursion HasNameOf program.entries → resolved program ≡ Ok r → IsNamed r
program_named program r have e =
    let all = given-taken (checked_entries none_checked program.entries) (whole program) r e in
    let root = given-taken (root_of program.end all.0.modules) _ r all.2 in
    let light = given-taken (limits_rule (main_place program.end program.entries) all.0.modules root.0) _ r root.2 in
    let are = entries_named none_checked all.0 program.entries (record { names = tt; bodies = refl }) have all.1 in
    subst IsNamed (ok_same (resolved_as all.0 root.0) r light.2)
    (record { names = All-from_recursion HasName all.0.modules.infos are.names; bodies = are.bodies })
