-- The bodies of a program are checked one after the other, each with the constants before it.
use Rattle.std.proofs.Common.{◌≡◌, ℕ, ℤ, Bool, List, [], ◌∷◌, ◌++◌, length, Option, Some, None, Result, Ok, Err, refl, subst}
use Rattle.std.specs.Prelude.{IfSome, FitsSigned}
use Rattle.std.specs.List.{AllByRecursion}
use Rattle.std.specs.Int.{w64}
use Rattle.p3l_ast.specs.declared.module.Kind.{Kind}
use Rattle.p3l_ast.specs.declared.module.Kind.TheVariants as kinds
use Rattle.p3l_ast.specs.declared.refusal.SourceRefusal.{SourceRefusal}
use Rattle.p3l_ast.specs.Tree.{ModuleTree, EntryTree, constant, defined}
use Rattle.p3l_types.specs.Verdict.{given}
use Rattle.p3l_types.specs.Constants.{Constants}
use Rattle.p3l_body.specs.Seq.{SeqTree, checked_seq}
use Rattle.p3l_check.specs.Entry.{Checked, none_checked, new_name, body_in, with_body, before_in, defined_in, with_checked, checked_module, with_constant, checked_entry, checked_entries}
use Rattle.p3l_check.specs.Places.{defines}
use Rattle.p3l_check.specs.Resolving.{ResolvedTree, root_of, limits_rule, main_place, resolved_as, whole}
use Rattle.p3l_c.specs.Condition.{ConstantsFit, IsWritable}
use Rattle.p3l_c.specs.Checked.{InsideFits}
use Rattle.p3l_c.proofs.Checked.{checked_writes}
use Rattle.p3l_c.proofs.Meant.{c_means}
use Rattle.p3l_body_laws.specs.Numbers.{EntryFits}
use Rattle.p3l_body_laws.specs.Programs.{BodiesWrite, FunctionMeans, BodiesMean}
use Rattle.p3l_body_laws.proofs.Numbers.{numbers_are_small}

-- a value that is given, and its continuation
record IsGiven (A B : Type 0) (r : Result A SourceRefusal) (go : A → Result B SourceRefusal) (b : B) : Type 0 where
  value : A
  is : r ≡ Ok value
  then_is : go value ≡ Ok b

given_of : {A B : Type 0} (r : Result A SourceRefusal) (go : A → Result B SourceRefusal) (b : B) → given r go ≡ Ok b → IsGiven A B r go b
given_of (Ok a) go b e = record { value = a; is = refl; then_is = e }
given_of (Err f) go b e = absurd cc

abbrev good : {A : Type 0} → A → Result A SourceRefusal
good x = Ok x

ok_same : {A : Type 0} (x y : A) → good x ≡ good y → x ≡ y
ok_same x y e = cc

all_append : {A : Type 0} (P : A → Type 0) (xs : List A) (y : A) → AllByRecursion P xs → P y → AllByRecursion P (xs ++ y ∷ [])
all_append P [] y h k = (k, tt)
all_append P (x ∷ xs) y h k = (h.0, all_append P xs y h.1 k)

-- the body of a module, if it has one
body_writes : (kind : Kind) (constants : Constants) (home : ℕ) (m : ModuleTree) (o : Option SeqTree) → ConstantsFit constants → InsideFits m.inside → body_in kind constants home m ≡ Ok o → IfSome o IsWritable
body_writes kinds.Seq constants home m o k h e =
    let g = given_of (checked_seq constants home m) (λ seq. Ok (Some seq)) o e in
    subst (λ p. IfSome p IsWritable) (ok_same (Some g.value) o g.then_is) (checked_writes constants home m g.value k h g.is)
body_writes kinds.Comp constants home m o k h e = subst (λ p. IfSome p IsWritable) (ok_same None o e) tt
body_writes kinds.Pipe constants home m o k h e = subst (λ p. IfSome p IsWritable) (ok_same None o e) tt
body_writes kinds.Farm constants home m o k h e = subst (λ p. IfSome p IsWritable) (ok_same None o e) tt
body_writes kinds.Map constants home m o k h e = subst (λ p. IfSome p IsWritable) (ok_same None o e) tt
body_writes kinds.Reduce constants home m o k h e = subst (λ p. IfSome p IsWritable) (ok_same None o e) tt
body_writes kinds.Loop constants home m o k h e = subst (λ p. IfSome p IsWritable) (ok_same None o e) tt

one_more : (seqs : List SeqTree) (o : Option SeqTree) → AllByRecursion IsWritable seqs → IfSome o IsWritable → AllByRecursion IsWritable (with_body seqs o)
one_more seqs None h k = h
one_more seqs (Some seq) h k = all_append IsWritable seqs seq h k

-- entries so far
record Keeps (checked : Checked) : Type 0 where
  constants : ConstantsFit checked.constants
  seqs : AllByRecursion IsWritable checked.seqs

module_keeps : (checked next : Checked) (is_ahead : List ℕ → Bool) (m : ModuleTree) → Keeps checked → InsideFits m.inside → checked_module checked is_ahead m ≡ Ok next → Keeps next
module_keeps checked next is_ahead m k h e =
    let g = given_of (defined_in (before_in checked is_ahead) m) _ next e in
    let i = given_of (body_in m.kind checked.constants (length checked.modules.infos) m) _ next g.then_is in
    subst Keeps (ok_same (with_checked checked g.value i.value) next i.then_is) (record {
      constants = k.constants;
      seqs = one_more checked.seqs i.value k.seqs (body_writes m.kind checked.constants (length checked.modules.infos) m i.value k.constants h i.is);
    })

entries_keep : (checked last : Checked) (entries : List EntryTree) → AllByRecursion EntryFits entries → Keeps checked → checked_entries checked entries ≡ Ok last → Keeps last
entries_keep checked last [] h k e = subst Keeps (ok_same checked last e) k
entries_keep checked last (constant at value ∷ entries) h k e =
    let g = given_of (checked_entry checked (defines (constant at value ∷ entries)) (constant at value)) (λ next. checked_entries next entries) last e in
    let i = given_of (new_name checked at) (λ x. Ok (with_constant checked at.name value)) g.value g.is in
    let one : Keeps (with_constant checked at.name value) = record {
      constants = all_append (λ (c : List ℕ × ℤ). FitsSigned w64 c.1) checked.constants (at.name, value) k.constants h.0;
      seqs = k.seqs;
    } in
    entries_keep g.value last entries h.1 (subst Keeps (ok_same (with_constant checked at.name value) g.value i.then_is) one) g.then_is
entries_keep checked last (defined m ∷ entries) h k e =
    let is_ahead = defines (defined m ∷ entries) in
    let g = given_of (checked_entry checked is_ahead (defined m)) (λ next. checked_entries next entries) last e in
    let i = given_of (new_name checked m.at) (λ x. checked_module checked is_ahead m) g.value g.is in
    entries_keep g.value last entries h.1 (module_keeps checked g.value is_ahead m k h.0 i.then_is) g.then_is

pub bodies_write : BodiesWrite
bodies_write bytes program r s e =
    let g = given_of (checked_entries none_checked program.entries) (whole program) r e in
    let h = given_of (root_of program.end g.value.modules) _ r g.then_is in
    let i = given_of (limits_rule (main_place program.end program.entries) g.value.modules h.value) _ r h.then_is in
    let keeps = entries_keep none_checked g.value program.entries (numbers_are_small bytes program s) (record { constants = tt; seqs = tt }) g.is in
    subst (λ (x : ResolvedTree). AllByRecursion IsWritable x.seqs) (ok_same (resolved_as g.value h.value) r i.then_is) keeps.seqs

all_mean : (seqs : List SeqTree) → AllByRecursion IsWritable seqs → AllByRecursion FunctionMeans seqs
all_mean [] h = tt
all_mean (seq ∷ seqs) h = (λ words fuel whole fits more. c_means seq words fuel h.0 whole fits more, all_mean seqs h.1)

pub bodies_mean : BodiesMean
bodies_mean bytes program r s e = all_mean r.seqs (bodies_write bytes program r s e)
