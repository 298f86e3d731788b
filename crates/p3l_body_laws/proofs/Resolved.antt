-- Results of the entries of a program: their modules, the words that these take and give, and their bodies.
use Rattle.std.proofs.Common.{◌≡◌, ℕ, ℤ, zero, suc, ◌+◌, Bool, cond, List, [], ◌∷◌, ◌++◌, length, map, get_or, Option, Some, None, Result, Ok, Err, refl, sym, ap, ◌∙◌, subst, arith, append_assoc, append-nil, length-append}
use Rattle.std.specs.Prelude.{IsSomeAnd, slice_get}
use Rattle.std.specs.List.{All, AllByRecursion}
use Rattle.std.proofs.lemmas.List.Elements.{All-from_recursion}
use Rattle.p3l_ast.specs.declared.position.Pos.{Pos}
use Rattle.p3l_ast.specs.declared.module.Kind.{Kind}
use Rattle.p3l_ast.specs.declared.module.Kind.TheVariants as kinds
use Rattle.p3l_ast.specs.declared.refusal.SourceRefusal.{SourceRefusal}
use Rattle.p3l_ast.specs.Tree.{InsideTree, body, calls, turning, ModuleTree, EntryTree, constant, defined}
use Rattle.p3l_types.specs.Verdict.{given}
use Rattle.p3l_types.specs.Constants.{Constants}
use Rattle.p3l_body.specs.declared.var.Var.{Var}
use Rattle.p3l_body.specs.declared.ports.Ports.{Ports}
use Rattle.p3l_body.specs.Seq.{SeqTree, ports_of, port_names, budget_of, rescue_of, checked_locals, checked_body, checked_seq}
use Rattle.p3l_skel.specs.declared.tree.Form.TheVariants as forms
use Rattle.p3l_skel.specs.declared.tree.ModuleKind.TheVariants as module_kinds
use Rattle.p3l_skel.specs.declared.tree.ModuleInfo.{ModuleInfo}
use Rattle.p3l_skel.specs.declared.tree.Node.{Node}
use Rattle.p3l_skel.specs.declared.tree.Tree.{Tree}
use Rattle.p3l_skel.specs.Tree.{nesting}
use Rattle.p3l_skel.specs.Lawful as lawful
use Rattle.p3l_skel.specs.Lawful.{HasKind, IsLawfulTree}
use Rattle.p3l_check.specs.declared.callables.Callable.{Callable}
use Rattle.p3l_check.specs.Wiring.{module_at}
use Rattle.p3l_check.specs.Unfolding.{instances_of, instance, tree_of}
use Rattle.p3l_check.proofs.Instances.{instance-step, instance-none}
use Rattle.p3l_calls.specs.Port as ports
use Rattle.p3l_check.specs.declared.skeleton.Skeleton.{Skeleton}
use Rattle.p3l_check.specs.declared.defined.Defined.{Defined}
use Rattle.p3l_check.specs.Clauses.{rescue_in}
use Rattle.p3l_check.specs.Skeleton.{skeleton_of}
use Rattle.p3l_check.specs.Entry.{Checked, none_checked, new_name, ports_in, body_in, kind_in, info_of, defined_as, before_in, with_checked, checked_module, with_constant, checked_entry, checked_entries}
use Rattle.p3l_check.specs.Places.{defines}
use Rattle.p3l_check.specs.Resolving.{ResolvedTree, root_of, limits_rule, main_place, whole}
use Rattle.p3l_units.specs.Table.{is_seq_kind, one_if_seq, seqs_before, if_seq, item_of}
use Rattle.p3l_compile.specs.Condition.{total}
use Rattle.p3l_compile.specs.Leaves.{body_of, FitsNode, AreBodies}
use Rattle.p3l_body_laws.specs.Checked.{AreChecked, checked_first, kind_of, kinds_of}
use Rattle.p3l_body_laws.specs.Served as served
use Rattle.p3l_body_laws.proofs.Ordered.{bodies_serve}

-- a value that is given, and what comes of it
record IsGiven (A B : Type 0) (r : Result A SourceRefusal) (go : A → Result B SourceRefusal) (b : B) : Type 0 where
  value : A
  is : r ≡ Ok value
  then_is : go value ≡ Ok b

given_of : {A B : Type 0} (r : Result A SourceRefusal) (go : A → Result B SourceRefusal) (b : B) → given r go ≡ Ok b → IsGiven A B r go b
given_of (Ok a) go b e = record { value = a; is = refl; then_is = e }
given_of (Err f) go b e = absurd cc

abbrev good : {A : Type 0} → A → Result A SourceRefusal
good x = Ok x

ok_same : {A : Type 0} (x y : A) → good x ≡ good y → x ≡ y
ok_same x y e = cc

-- the ports of a checked body are those of its module
body_ports : (constants : Constants) (home : ℕ) (p : Ports) (budget : ℕ) (pos : Pos) (inside : InsideTree) (seq : SeqTree) →
    checked_body constants home p budget pos inside ≡ Ok seq → (seq.ins ≡ p.ins) × (seq.outs ≡ p.outs)
body_ports constants home p budget pos (calls cs) seq e = absurd cc
body_ports constants home p budget pos (turning b c) seq e = absurd cc
body_ports constants home p budget pos (body local_ports statements) seq e =
    let g = given_of (checked_locals constants (port_names p) local_ports statements) _ seq e in
    let same = ok_same _ seq g.then_is in
    (ap (λ (s : SeqTree). s.ins) (sym same), ap (λ (s : SeqTree). s.outs) (sym same))

seq_ports : (constants : Constants) (home : ℕ) (m : ModuleTree) (p : Ports) (seq : SeqTree) → ports_of constants m.ins m.outs ≡ Ok p →
    checked_seq constants home m ≡ Ok seq → (seq.ins ≡ p.ins) × (seq.outs ≡ p.outs)
seq_ports constants home m p seq are e =
    let g = given_of (ports_of constants m.ins m.outs) _ seq e in
    let h = given_of (budget_of constants m.clauses.budget) _ seq g.then_is in
    let same : g.value ≡ p = ok_same g.value p (sym g.is ∙ are) in
    let i = given_of (rescue_of constants m.clauses.rescue) _ seq h.then_is in
    let own = body_ports constants home g.value h.value m.at.pos m.inside seq i.then_is in
    (own.0 ∙ ap (λ (q : Ports). q.ins) same, own.1 ∙ ap (λ (q : Ports). q.outs) same)

same_total : (vars : List Var) → ports.total vars ≡ total vars
same_total [] = refl
same_total (var ∷ vars) = omega (arith, same_total vars)

same_kind : (kind : Kind) → kind_in kind ≡ kind_of kind
same_kind kinds.Seq = refl
same_kind kinds.Comp = refl
same_kind kinds.Pipe = refl
same_kind kinds.Farm = refl
same_kind kinds.Map = refl
same_kind kinds.Reduce = refl
same_kind kinds.Loop = refl

-- a body takes and gives the words of a module
record HasWordsOf (w : Callable) (seq : SeqTree) : Type 0 where
  takes : total seq.ins ≡ w.ins
  gives : total seq.outs ≡ w.outs

-- each `seq` module has a body with its words
HaveBodies : List ModuleInfo → List Callable → List SeqTree → Type 0
HaveBodies infos callables seqs =
    (k : ℕ) → HasKind infos k module_kinds.Seq → IsSomeAnd (item_of infos seqs k) (HasWordsOf (module_at callables k))

-- the modules and bodies that entries add
record Adds (checked last : Checked) (entries : List EntryTree) : Type 0 where
  infos : List ModuleInfo
  callables : List Callable
  seqs : List SeqTree
  infos_are : last.modules.infos ≡ checked.modules.infos ++ infos
  callables_are : last.modules.callables ≡ checked.modules.callables ++ callables
  seqs_are : last.seqs ≡ checked.seqs ++ seqs
  are : AreChecked checked.constants (length checked.modules.infos) entries seqs
  kinds_are : map (λ (info : ModuleInfo). info.kind) infos ≡ kinds_of entries
  have : HaveBodies infos callables seqs

-- a module of this kind in front
record AddsOne (checked next : Checked) (m : ModuleTree) (entries : List EntryTree) (kind : Kind) : Type 0 where
  rescue : Option ℤ
  w : Callable
  seqs : List SeqTree
  constants_are : next.constants ≡ checked.constants
  infos_are : next.modules.infos ≡ checked.modules.infos ++ info_of m rescue ∷ []
  callables_are : next.modules.callables ≡ checked.modules.callables ++ w ∷ []
  seqs_are : next.seqs ≡ checked.seqs ++ seqs
  are : (rest : List SeqTree) → AreChecked checked.constants (length checked.modules.infos + 1) entries rest →
      checked_first kind (checked_seq checked.constants (length checked.modules.infos) m) (AreChecked checked.constants (length checked.modules.infos + 1) entries) (seqs ++ rest)
  count : length seqs ≡ one_if_seq (kind_in kind)
  first : (rest : List SeqTree) → kind_in kind ≡ module_kinds.Seq → IsSomeAnd (slice_get (seqs ++ rest) 0) (HasWordsOf w)

module _ (checked next : Checked) (m : ModuleTree) (entries : List EntryTree) (p : Ports) (rescue : Option ℤ) (skeleton : Skeleton) (are_ports : ports_of checked.constants m.ins m.outs ≡ Ok p) where
  after : Option SeqTree → Checked
  after seq = with_checked checked (defined_as (info_of m rescue) p skeleton) seq

  -- a module of another kind has no body
  bodiless : (kind : Kind) → ((rest : List SeqTree) → AreChecked checked.constants (length checked.modules.infos + 1) entries rest →
      checked_first kind (checked_seq checked.constants (length checked.modules.infos) m) (AreChecked checked.constants (length checked.modules.infos + 1) entries) rest) →
      0 ≡ one_if_seq (kind_in kind) → (kind_in kind ≡ module_kinds.Seq → ⊥) → next ≡ after None → AddsOne checked next m entries kind
  unfolding after
  bodiless kind are count other is = record {
    rescue = rescue;
    w = (defined_as (info_of m rescue) p skeleton).callables;
    seqs = [];
    constants_are = ap (λ (c : Checked). c.constants) is;
    infos_are = ap (λ (c : Checked). c.modules.infos) is;
    callables_are = ap (λ (c : Checked). c.modules.callables) is;
    seqs_are = ap (λ (c : Checked). c.seqs) is ∙ sym (append-nil checked.seqs);
    are = are;
    count = count;
    first = λ rest e. absurd (other e);
  }

  bodied : (seq : SeqTree) → checked_seq checked.constants (length checked.modules.infos) m ≡ Ok seq → next ≡ after (Some seq) → AddsOne checked next m entries kinds.Seq
  unfolding after
  bodied seq e is =
      let own = seq_ports checked.constants (length checked.modules.infos) m p seq are_ports e in record {
        rescue = rescue;
        w = (defined_as (info_of m rescue) p skeleton).callables;
        seqs = seq ∷ [];
        constants_are = ap (λ (c : Checked). c.constants) is;
        infos_are = ap (λ (c : Checked). c.modules.infos) is;
        callables_are = ap (λ (c : Checked). c.modules.callables) is;
        seqs_are = ap (λ (c : Checked). c.seqs) is;
        are = λ rest h. (e, h);
        count = refl;
        first = λ rest k. record {
          takes = ap total own.0 ∙ sym (same_total p.ins);
          gives = ap total own.1 ∙ sym (same_total p.outs);
        };
      }

  one_more : (kind : Kind) (seq : Option SeqTree) → body_in kind checked.constants (length checked.modules.infos) m ≡ Ok seq → next ≡ after seq → AddsOne checked next m entries kind
  one_more kinds.Seq seq e is =
      let g = given_of (checked_seq checked.constants (length checked.modules.infos) m) (λ s. Ok (Some s)) seq e in
      bodied g.value g.is (is ∙ ap after (sym (ok_same (Some g.value) seq g.then_is)))
  one_more kinds.Comp seq e is = bodiless kinds.Comp (λ rest h. h) refl (λ k. absurd cc) (is ∙ ap after (sym (ok_same None seq e)))
  one_more kinds.Pipe seq e is = bodiless kinds.Pipe (λ rest h. h) refl (λ k. absurd cc) (is ∙ ap after (sym (ok_same None seq e)))
  one_more kinds.Farm seq e is = bodiless kinds.Farm (λ rest h. h) refl (λ k. absurd cc) (is ∙ ap after (sym (ok_same None seq e)))
  one_more kinds.Map seq e is = bodiless kinds.Map (λ rest h. h) refl (λ k. absurd cc) (is ∙ ap after (sym (ok_same None seq e)))
  one_more kinds.Reduce seq e is = bodiless kinds.Reduce (λ rest h. h) refl (λ k. absurd cc) (is ∙ ap after (sym (ok_same None seq e)))
  one_more kinds.Loop seq e is = bodiless kinds.Loop (λ rest h. h) refl (λ k. absurd cc) (is ∙ ap after (sym (ok_same None seq e)))

-- a module by all its rules
module_adds : (checked next : Checked) (is_ahead : List ℕ → Bool) (m : ModuleTree) (entries : List EntryTree) → checked_module checked is_ahead m ≡ Ok next → AddsOne checked next m entries m.kind
unfolding after
module_adds checked next is_ahead m entries e =
    let g = given_of _ _ next e in
    let h = given_of (ports_in checked.constants m) _ g.value g.is in
    let k = given_of (rescue_in m.kind m.at.pos checked.constants m.clauses) _ g.value h.then_is in
    let i = given_of (skeleton_of m.kind (before_in checked is_ahead) m h.value) _ g.value k.then_is in
    let j = given_of (body_in m.kind checked.constants (length checked.modules.infos) m) _ next g.then_is in
    let there = given_of _ (λ x. ports_of checked.constants m.ins m.outs) h.value h.is in
    let d : defined_as (info_of m k.value) h.value i.value ≡ g.value = ok_same _ g.value i.then_is in
    one_more checked next m entries h.value k.value i.value there.then_is m.kind j.value j.is (sym (ok_same _ next j.then_is) ∙ ap (λ (x : Defined). with_checked checked x j.value) (sym d))

-- an element n of the back lies n places after the front
get_after : (front back : List SeqTree) (n k : ℕ) → k ≡ length front + n → slice_get (front ++ back) k ≡ slice_get back n
get_after [] back n k e = let f : k ≡ n = omega (arith, e) in ap (slice_get back) f
get_after (x ∷ front) back n zero e = absurd (omega (arith, e))
get_after (x ∷ front) back n (suc k) e = get_after front back n k (omega (arith, e))

have_more : (checked next : Checked) (m : ModuleTree) (entries : List EntryTree) (one : AddsOne checked next m entries m.kind) (infos : List ModuleInfo) (callables : List Callable) (seqs : List SeqTree) →
    HaveBodies infos callables seqs → HaveBodies (info_of m one.rescue ∷ infos) (one.w ∷ callables) (one.seqs ++ seqs)
unfolding HaveBodies
have_more checked next m entries one infos callables seqs have zero seq =
    subst (λ t. IsSomeAnd (cond (is_seq_kind t) (slice_get (one.seqs ++ seqs) 0) None) (HasWordsOf one.w)) (sym seq) (one.first seqs seq)
have_more checked next m entries one infos callables seqs have (suc k) seq =
    let at = get_after one.seqs seqs (seqs_before infos k) (one_if_seq (kind_in m.kind) + seqs_before infos k) (omega (arith, one.count)) in
    subst (λ o. IsSomeAnd (if_seq (slice_get infos k) o) (HasWordsOf (module_at callables k))) (sym at) (have k seq)

adds : (checked last : Checked) (entries : List EntryTree) → checked_entries checked entries ≡ Ok last → Adds checked last entries
unfolding HaveBodies
adds checked last [] e =
    let same = sym (ok_same checked last e) in record {
      infos = [];
      callables = [];
      seqs = [];
      infos_are = ap (λ (c : Checked). c.modules.infos) same ∙ sym (append-nil checked.modules.infos);
      callables_are = ap (λ (c : Checked). c.modules.callables) same ∙ sym (append-nil checked.modules.callables);
      seqs_are = ap (λ (c : Checked). c.seqs) same ∙ sym (append-nil checked.seqs);
      are = tt;
      kinds_are = refl;
      have = λ k h. absurd h;
    }
adds checked last (constant at value ∷ entries) e =
    let g = given_of (checked_entry checked (defines (constant at value ∷ entries)) (constant at value)) (λ next. checked_entries next entries) last e in
    let h = given_of (new_name checked at) (λ x. Ok (with_constant checked at.name value)) g.value g.is in
    let next = with_constant checked at.name value in
    let same : g.value ≡ next = sym (ok_same next g.value h.then_is) in
    let r = adds next last entries (subst (λ c. checked_entries c entries ≡ Ok last) same g.then_is) in record {
      infos = r.infos;
      callables = r.callables;
      seqs = r.seqs;
      infos_are = r.infos_are;
      callables_are = r.callables_are;
      seqs_are = r.seqs_are;
      are = r.are;
      kinds_are = r.kinds_are;
      have = r.have;
    }
adds checked last (defined m ∷ entries) e =
    let is_ahead = defines (defined m ∷ entries) in
    let g = given_of (checked_entry checked is_ahead (defined m)) (λ next. checked_entries next entries) last e in
    let h = given_of (new_name checked m.at) (λ x. checked_module checked is_ahead m) g.value g.is in
    let one = module_adds checked g.value is_ahead m entries h.then_is in
    let r = adds g.value last entries g.then_is in
    let home = length checked.modules.infos in
    let next_home : length g.value.modules.infos ≡ home + 1 = ap (length {A = ModuleInfo}) one.infos_are ∙ length-append checked.modules.infos (info_of m one.rescue ∷ []) in
    let are : AreChecked checked.constants (home + 1) entries r.seqs =
    subst (λ n. AreChecked checked.constants n entries r.seqs) next_home
    (subst (λ c. AreChecked c (length g.value.modules.infos) entries r.seqs) one.constants_are r.are) in record {
      infos = info_of m one.rescue ∷ r.infos;
      callables = one.w ∷ r.callables;
      seqs = one.seqs ++ r.seqs;
      infos_are = r.infos_are ∙ ap (λ l. l ++ r.infos) one.infos_are ∙ append_assoc checked.modules.infos (info_of m one.rescue ∷ []) r.infos;
      callables_are = r.callables_are ∙ ap (λ l. l ++ r.callables) one.callables_are ∙ append_assoc checked.modules.callables (one.w ∷ []) r.callables;
      seqs_are = r.seqs_are ∙ ap (λ l. l ++ r.seqs) one.seqs_are ∙ append_assoc checked.seqs one.seqs r.seqs;
      are = one.are r.seqs are;
      kinds_are = ap (λ k. k ∷ map (λ (info : ModuleInfo). info.kind) r.infos) (same_kind m.kind) ∙ ap (λ l. kind_of m.kind ∷ l) r.kinds_are;
      have = have_more checked g.value m entries one r.infos r.callables r.seqs r.have;
    }

-- each node takes and gives the words of its module
record IsOfModule (callables : List Callable) (node : Node) : Type 0 where
  takes : node.ins ≡ (module_at callables node.module).ins
  gives : node.outs ≡ (module_at callables node.module).outs

module _ (callables : List Callable) where
  all_append : (front back : List Node) → AllByRecursion (IsOfModule callables) front → AllByRecursion (IsOfModule callables) back → AllByRecursion (IsOfModule callables) (front ++ back)
  all_append [] back f b = b
  all_append (n ∷ front) back f b = (f.0, all_append front back f.1 b)

  calls_are : (below : ℕ → ℕ → List Node) → ((k at : ℕ) → AllByRecursion (IsOfModule callables) (below k at)) → (ks : List ℕ) (at : ℕ) → AllByRecursion (IsOfModule callables) (instances_of below ks at)
  calls_are below all [] at = tt
  calls_are below all (k ∷ ks) at = all_append (below k at) _ (all k at) (calls_are below all ks (at + length (below k at)))

  nodes_are : (d k at : ℕ) → AllByRecursion (IsOfModule callables) (instance callables d k at)
  nodes_are zero k at = subst (AllByRecursion (IsOfModule callables)) (sym (instance-none callables k at)) tt
  nodes_are (suc d) k at =
      subst (AllByRecursion (IsOfModule callables)) (sym (instance-step callables d k at))
      (record { takes = refl; gives = refl }, calls_are (instance callables d) (nodes_are d) (module_at callables k).calls (at + 1))

some_then : {A : Type 0} (o : Option A) (P Q : A → Type 0) → ((x : A) → P x → Q x) → IsSomeAnd o P → IsSomeAnd o Q
some_then None P Q go h = h
some_then (Some x) P Q go h = go x h

module _ (infos : List ModuleInfo) (callables : List Callable) (seqs : List SeqTree) (root : ℕ) (have : HaveBodies infos callables seqs) (good : IsLawfulTree (tree_of infos callables root)) where
  tree : Tree
  tree = tree_of infos callables root

  words : All (λ (node : Node). node.form ≡ forms.Seq → IsSomeAnd (body_of tree seqs node.module) (FitsNode node)) (tree_of infos callables root).nodes
  unfolding HaveBodies tree
  words i d inside form =
      let node = get_or (instance callables nesting root 0) i d in
      let own : IsOfModule callables node = All-from_recursion (IsOfModule callables) (instance callables nesting root 0) (nodes_are callables nesting root 0) i d inside in
      let kind : HasKind infos node.module module_kinds.Seq = subst (λ f. HasKind infos node.module (lawful.kind_of f)) form (good.nodes i d inside).kind in
      some_then (item_of infos seqs node.module) (HasWordsOf (module_at callables node.module)) (FitsNode node)
      (λ seq h. record { takes = h.takes ∙ sym own.takes; gives = h.gives ∙ sym own.gives }) (have node.module kind)

pub resolved_serve : served.ResolvedServe
unfolding HaveBodies tree
resolved_serve bytes program r source e good =
    let g = given_of (checked_entries none_checked program.entries) (whole program) r e in
    let h = given_of (root_of program.end g.value.modules) _ r g.then_is in
    let i = given_of (limits_rule (main_place program.end program.entries) g.value.modules h.value) _ r h.then_is in
    let a = adds none_checked g.value program.entries g.is in
    let t = tree_of a.infos a.callables h.value in
    let same : r ≡ record { tree = t; seqs = a.seqs } =
    sym (ok_same _ r i.then_is)
    ∙ ap (λ l. record { tree = tree_of l g.value.modules.callables h.value; seqs = g.value.seqs }) a.infos_are
    ∙ ap (λ l. record { tree = tree_of a.infos l h.value; seqs = g.value.seqs }) a.callables_are
    ∙ ap (λ l. record { tree = t; seqs = l }) a.seqs_are in
    let fair : IsLawfulTree t = subst (λ (x : ResolvedTree). IsLawfulTree x.tree) same good in
    subst (λ (x : ResolvedTree). AreBodies x.tree x.seqs) (sym same)
    (bodies_serve bytes program a.seqs t source a.are (record {
      same_kinds = a.kinds_are;
      words = words a.infos a.callables a.seqs h.value a.have fair;
    }))
