-- Additions of accepted entries to the entries before them, for all entries that come after.
use Rattle.std.proofs.Common.{◌≡◌, ℕ, ℤ, ◌+◌, Bool, true, false, ◌||◌, List, [], ◌∷◌, ◌++◌, length, Option, Some, None, Result, Ok, Err, refl, sym, ap, ◌∙◌, append_assoc, append-nil, length-append}
use Rattle.std.specs.Prelude.{is_some}
use Rattle.p3l_ast.specs.declared.refusal.SourceRefusal.{SourceRefusal}
use Rattle.p3l_ast.specs.declared.refusal.Fault.TheVariants.{Twice}
use Rattle.p3l_ast.specs.declared.module.Kind.{Kind}
use Rattle.p3l_ast.specs.declared.module.Kind.TheVariants as kinds
use Rattle.p3l_ast.specs.Tree.{ModuleTree, EntryTree, constant, defined}
use Rattle.p3l_types.specs.Verdict.{given}
use Rattle.p3l_types.specs.Constants.{Constants}
use Rattle.p3l_body.specs.declared.ports.Ports.{Ports}
use Rattle.p3l_body.specs.Seq.{SeqTree, checked_seq}
use Rattle.p3l_skel.specs.declared.tree.ModuleInfo.{ModuleInfo}
use Rattle.p3l_check.specs.declared.callables.Callable.{Callable}
use Rattle.p3l_units.specs.Table.{one_if_seq, seqs_before}
use Rattle.p3l_calls.proofs.Kept.{kept-false}
use Rattle.p3l_check.specs.declared.skeleton.Skeleton.{Skeleton}
use Rattle.p3l_check.specs.declared.defined.Defined.{Defined}
use Rattle.p3l_check.specs.Clauses.{rescue_in}
use Rattle.p3l_check.specs.Modules.{number_of}
use Rattle.p3l_check.specs.Places.{defines}
use Rattle.p3l_check.specs.Skeleton.{skeleton_of}
use Rattle.p3l_check.specs.Entry.{Checked, ports_in, new_name, body_in, kind_in, info_of, defined_as, before_in, defined_in, with_checked, with_constant, with_body, checked_entry, checked_entries}

-- a value that is given, and what comes of it
pub record IsGiven (A B : Type 0) (r : Result A SourceRefusal) (go : A → Result B SourceRefusal) (b : B) : Type 0 where
  pub value : A
  pub is : r ≡ Ok value
  pub then_is : go value ≡ Ok b

pub given_of : {A B : Type 0} (r : Result A SourceRefusal) (go : A → Result B SourceRefusal) (b : B) → given r go ≡ Ok b → IsGiven A B r go b
given_of (Ok a) go b e = record { value = a; is = refl; then_is = e }
given_of (Err f) go b e = absurd cc

abbrev pub good : {A : Type 0} → A → Result A SourceRefusal
good x = Ok x

pub ok_same : {A : Type 0} (x y : A) → good x ≡ good y → x ≡ y
ok_same x y e = cc

-- the bodies that a module of a kind adds
record HasBodies (kind : Kind) (before after : List SeqTree) : Type 0 where
  more : List SeqTree
  are : after ≡ before ++ more
  count : length more ≡ one_if_seq (kind_in kind)

no_body : (kind : Kind) (before : List SeqTree) (seq : Option SeqTree) → one_if_seq (kind_in kind) ≡ 0 → None ≡ seq → HasBodies kind before (with_body before seq)
no_body kind before seq none e = record {
  more = [];
  are = ap (with_body before) (sym e) ∙ sym (append-nil before);
  count = sym none;
}

bodies : (kind : Kind) (constants : Constants) (home : ℕ) (m : ModuleTree) (before : List SeqTree) (seq : Option SeqTree) → body_in kind constants home m ≡ Ok seq → HasBodies kind before (with_body before seq)
bodies kinds.Seq constants home m before seq e =
    let g = given_of (checked_seq constants home m) (λ s. Ok (Some s)) seq e in record {
      more = g.value ∷ [];
      are = ap (with_body before) (sym (ok_same (Some g.value) seq g.then_is));
      count = refl;
    }
bodies kinds.Comp constants home m before seq e = no_body kinds.Comp before seq refl (ok_same None seq e)
bodies kinds.Pipe constants home m before seq e = no_body kinds.Pipe before seq refl (ok_same None seq e)
bodies kinds.Farm constants home m before seq e = no_body kinds.Farm before seq refl (ok_same None seq e)
bodies kinds.Map constants home m before seq e = no_body kinds.Map before seq refl (ok_same None seq e)
bodies kinds.Reduce constants home m before seq e = no_body kinds.Reduce before seq refl (ok_same None seq e)
bodies kinds.Loop constants home m before seq e = no_body kinds.Loop before seq refl (ok_same None seq e)

-- a module that was accepted
pub record IsAccepted (checked next : Checked) (is_ahead : List ℕ → Bool) (m : ModuleTree) : Type 0 where
  pub ports : Ports
  pub rescue : Option ℤ
  pub skeleton : Skeleton
  pub seqs : List SeqTree
  pub rescues : rescue_in m.kind m.at.pos checked.constants m.clauses ≡ Ok rescue
  pub made : skeleton_of m.kind (before_in checked is_ahead) m ports ≡ Ok skeleton
  pub infos_are : next.modules.infos ≡ checked.modules.infos ++ info_of m rescue ∷ []
  pub callables_are : next.modules.callables ≡ checked.modules.callables ++ (defined_as (info_of m rescue) ports skeleton).callables ∷ []
  pub seqs_are : next.seqs ≡ checked.seqs ++ seqs
  pub count : length seqs ≡ one_if_seq (kind_in m.kind)
  pub fresh : number_of checked.modules m.at.name ≡ None

not_some : (a : Bool) (o : Option ℕ) → a || is_some o ≡ false → o ≡ None
not_some true o e = absurd cc
not_some false None e = refl
not_some false (Some n) e = absurd cc

pub accepted : (checked next : Checked) (is_ahead : List ℕ → Bool) (m : ModuleTree) → checked_entry checked is_ahead (defined m) ≡ Ok next → IsAccepted checked next is_ahead m
accepted checked next is_ahead m e =
    let n = given_of (new_name checked m.at) _ next e in
    let g = given_of (defined_in (before_in checked is_ahead) m) _ next n.then_is in
    let h = given_of (ports_in checked.constants m) _ g.value g.is in
    let k = given_of (rescue_in m.kind m.at.pos checked.constants m.clauses) _ g.value h.then_is in
    let i = given_of (skeleton_of m.kind (before_in checked is_ahead) m h.value) _ g.value k.then_is in
    let j = given_of (body_in m.kind checked.constants (length checked.modules.infos) m) _ next g.then_is in
    let info = info_of m k.value in
    let d : defined_as info h.value i.value ≡ g.value = ok_same _ g.value i.then_is in
    let is : next ≡ with_checked checked (defined_as info h.value i.value) j.value = sym (ok_same _ next j.then_is) ∙ ap (λ (x : Defined). with_checked checked x j.value) (sym d) in
    let own : HasBodies m.kind checked.seqs (with_body checked.seqs j.value) = bodies m.kind checked.constants (length checked.modules.infos) m checked.seqs j.value j.is in
    record {
      ports = h.value;
      rescue = k.value;
      skeleton = i.value;
      seqs = own.more;
      rescues = k.is;
      made = i.is;
      infos_are = ap (λ (c : Checked). c.modules.infos) is;
      callables_are = ap (λ (c : Checked). c.modules.callables) is;
      seqs_are = ap (λ (c : Checked). c.seqs) is ∙ own.are;
      count = own.count;
      fresh = not_some _ (number_of checked.modules m.at.name) (kept-false _ Twice m.at.pos n.value n.is);
    }

-- the modules and bodies that entries add
pub record Adds (checked last : Checked) : Type 0 where
  pub infos : List ModuleInfo
  pub callables : List Callable
  pub seqs : List SeqTree
  pub infos_are : last.modules.infos ≡ checked.modules.infos ++ infos
  pub callables_are : last.modules.callables ≡ checked.modules.callables ++ callables
  pub seqs_are : last.seqs ≡ checked.seqs ++ seqs
  pub count : length seqs ≡ seqs_before infos (length infos)

none_added : (checked last : Checked) → checked ≡ last → Adds checked last
none_added checked last same = record {
  infos = [];
  callables = [];
  seqs = [];
  infos_are = ap (λ (c : Checked). c.modules.infos) (sym same) ∙ sym (append-nil checked.modules.infos);
  callables_are = ap (λ (c : Checked). c.modules.callables) (sym same) ∙ sym (append-nil checked.modules.callables);
  seqs_are = ap (λ (c : Checked). c.seqs) (sym same) ∙ sym (append-nil checked.seqs);
  count = refl;
}

one_added : (checked next last : Checked) (is_ahead : List ℕ → Bool) (m : ModuleTree) → IsAccepted checked next is_ahead m → Adds next last → Adds checked last
one_added checked next last is_ahead m one rest = record {
  infos = info_of m one.rescue ∷ rest.infos;
  callables = w ∷ rest.callables;
  seqs = one.seqs ++ rest.seqs;
  infos_are = rest.infos_are ∙ ap (λ l. l ++ rest.infos) one.infos_are ∙ append_assoc checked.modules.infos (info_of m one.rescue ∷ []) rest.infos;
  callables_are = rest.callables_are ∙ ap (λ l. l ++ rest.callables) one.callables_are ∙ append_assoc checked.modules.callables (w ∷ []) rest.callables;
  seqs_are = rest.seqs_are ∙ ap (λ l. l ++ rest.seqs) one.seqs_are ∙ append_assoc checked.seqs one.seqs rest.seqs;
  count = length-append one.seqs rest.seqs ∙ ap (λ n. n + length rest.seqs) one.count ∙ ap (λ n. one_if_seq (kind_in m.kind) + n) rest.count;
}
  where
    w : Callable
    w = (defined_as (info_of m one.rescue) one.ports one.skeleton).callables

pub adds : (checked last : Checked) (entries : List EntryTree) → checked_entries checked entries ≡ Ok last → Adds checked last
adds checked last [] e = none_added checked last (ok_same checked last e)
adds checked last (constant at value ∷ entries) e =
    let g = given_of (checked_entry checked (defines (constant at value ∷ entries)) (constant at value)) (λ next. checked_entries next entries) last e in
    let h = given_of (new_name checked at) (λ x. Ok (with_constant checked at.name value)) g.value g.is in
    let same : with_constant checked at.name value ≡ g.value = ok_same (with_constant checked at.name value) g.value h.then_is in
    let r = adds g.value last entries g.then_is in record {
      infos = r.infos;
      callables = r.callables;
      seqs = r.seqs;
      infos_are = r.infos_are ∙ ap (λ (c : Checked). c.modules.infos ++ r.infos) (sym same);
      callables_are = r.callables_are ∙ ap (λ (c : Checked). c.modules.callables ++ r.callables) (sym same);
      seqs_are = r.seqs_are ∙ ap (λ (c : Checked). c.seqs ++ r.seqs) (sym same);
      count = r.count;
    }
adds checked last (defined m ∷ entries) e =
    let ahead = defines (defined m ∷ entries) in
    let g = given_of (checked_entry checked ahead (defined m)) (λ next. checked_entries next entries) last e in
    one_added checked g.value last ahead m (accepted checked g.value ahead m g.is) (adds g.value last entries g.then_is)
