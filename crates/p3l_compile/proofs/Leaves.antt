-- The codes of bodies do what the bodies mean, module by module.
use Rattle.std.proofs.Common.{◌≡◌, ℕ, ℤ, zero, suc, ◌+◌, ◌<◌, Bool, true, false, cond, ◌&&◌, List, [], ◌∷◌, ◌++◌, length, map, take, get_or, Option, Some, None, refl, sym, ap, ◌∙◌, subst, arith}
use Rattle.std.specs.Prelude.{nat_eq, slice_get, IfSome, IsSomeAnd}
use Rattle.std.specs.List.{All, AllByRecursion}
use Rattle.std.proofs.lemmas.Bool.Decides.{nat_tests}
use Rattle.p3l_skel.specs.declared.tree.ModuleInfo.{ModuleInfo}
use Rattle.p3l_skel.specs.declared.tree.Node.{Node}
use Rattle.p3l_skel.specs.declared.tree.Tree.{Tree}
use Rattle.p3l_skel.specs.Tree.{node_at, no_node}
use Rattle.p3l_code.specs.declared.instr.Code.{Code}
use Rattle.p3l_code.specs.Machine.{exec}
use Rattle.p3l_units.specs.Table.{Served, is_seq_kind, if_seq, seqs_before, HasWordsOf, HasCode, agrees, unfit, if_fits, run_of, leaf}
use Rattle.p3l_units.specs.laws.Leaf.{all_agree}
use Rattle.p3l_body.specs.Eval.{eval}
use Rattle.p3l_body.specs.Seq.{SeqTree}
use Rattle.p3l_compile.specs.Condition.{total, IsCompilable, Compiles, code_of}
use Rattle.p3l_compile.specs.Leaves.{body_of, meaning, body_leaf, FitsNode, AreBodies, LeavesAreEvals, AreCodes}

-- a body and its code, or neither
Paired : Option SeqTree → Option Code → Type 0
Paired None None = Unit {0}
Paired None (Some code) = ⊥
Paired (Some seq) None = ⊥
Paired (Some seq) (Some code) = Compiles seq code

paired_at : (seqs : List SeqTree) (codes : List Code) (k : ℕ) → AreCodes seqs codes → Paired (slice_get seqs k) (slice_get codes k)
unfolding Paired
paired_at [] [] k are = tt
paired_at [] (code ∷ codes) k are = absurd are
paired_at (seq ∷ seqs) [] k are = absurd are
paired_at (seq ∷ seqs) (code ∷ codes) zero are = are.0
paired_at (seq ∷ seqs) (code ∷ codes) (suc k) are = paired_at seqs codes k are.1

paired_if : (info : Option ModuleInfo) (s : Option SeqTree) (c : Option Code) → Paired s c → Paired (if_seq info s) (if_seq info c)
unfolding Paired
paired_if None s c p = tt
paired_if (Some info) s c p = by (is_seq_kind info.kind)
  where
    by : (b : Bool) → Paired (cond b s None) (cond b c None)
    by true = p
    by false = tt

eq_holds : (m n : ℕ) → nat_eq m n ≡ true → m ≡ n
eq_holds m n h = grind (arith, nat_tests)

eq_same : (m n : ℕ) → m ≡ n → nat_eq m n ≡ true
eq_same m n h = grind (arith, nat_tests)

module _ (tree : Tree) (seqs : List SeqTree) (codes : List Code) (bodies : AreBodies tree seqs) (are : AreCodes seqs codes) where
  served : Served
  served = record { tree = tree; codes = codes }

  paired : (m : ℕ) → Paired (body_of tree seqs m) (if_seq (slice_get tree.modules m) (slice_get codes (seqs_before tree.modules m)))
  paired m = paired_if (slice_get tree.modules m) _ _ (paired_at seqs codes (seqs_before tree.modules m) are)

  -- the nodes of a module have its body's words
  agree : (m : ℕ) (seq : SeqTree) → body_of tree seqs m ≡ Some seq → agrees m (total seq.ins) (total seq.outs) tree.nodes ≡ true
  agree m seq found =
      all_agree m (total seq.ins) (total seq.outs) tree.nodes
      (λ j low form own.
      let node = get_or tree.nodes j no_node in
      let there : body_of tree seqs node.module ≡ Some seq = ap (body_of tree seqs) own ∙ found in
      let fits : FitsNode node seq = subst (λ o. IsSomeAnd o (FitsNode node)) there (bodies.words j no_node low form) in
      (fits.takes, fits.gives))

  same_run : (m : ℕ) (words : List ℤ) (s : Option SeqTree) (c : Option Code) → body_of tree seqs m ≡ s → Paired s c → IfSome s (λ seq. seq.home ≡ m) → run_of served m words c ≡ meaning m words s
  unfolding Paired served
  same_run m words None None found p home = refl
  same_run m words None (Some code) found p home = absurd p
  same_run m words (Some seq) None found p home = absurd p
  same_run m words (Some seq) (Some code) found p home =
      ap (λ (c : Code). if_fits tree m c.ins code.outs words (exec code m words)) p.is
      ∙ ap (λ (c : Code). if_fits tree m (total seq.ins) c.outs words (exec code m words)) p.is
      ∙ by (nat_eq (length words) (total seq.ins)) refl
    where
      by : (b : Bool) → nat_eq (length words) (total seq.ins) ≡ b → cond (b && agrees m (total seq.ins) (total seq.outs) tree.nodes) (exec code m words) (unfit m) ≡ cond b (eval seq words) (unfit m)
      by true e =
          ap (λ b. cond b (exec code m words) (unfit m)) (agree m seq found)
          ∙ ap (λ n. exec code n words) (sym home)
          ∙ p.means words (eq_holds (length words) (total seq.ins) e)
      by false e = refl

  pub same_leaf : leaf (record { tree = tree; codes = codes }) ≡ body_leaf tree seqs
  unfolding leaf body_leaf served
  same_leaf = λ i m words. same_run m words (body_of tree seqs m) _ refl (paired m) (bodies.numbered m) i

  code_there : (node : Node) (s : Option SeqTree) (c : Option Code) → Paired s c → IsSomeAnd s (FitsNode node) → IsSomeAnd c (HasWordsOf node)
  unfolding Paired
  code_there node None c p fits = absurd fits
  code_there node (Some seq) None p fits = absurd p
  code_there node (Some seq) (Some code) p fits = record { takes = ap (λ (c : Code). c.ins) p.is ∙ fits.takes; gives = ap (λ (c : Code). c.outs) p.is ∙ fits.gives }

  pub have_codes : All (HasCode (record { tree = tree; codes = codes })) tree.nodes
  unfolding paired
  have_codes i d inside form =
      code_there (get_or tree.nodes i d) (body_of tree seqs (get_or tree.nodes i d).module) _ (paired (get_or tree.nodes i d).module) (bodies.words i d inside form)

-- the body of a `seq` node, on the words that the node takes
eval_at : (tree : Tree) (seqs : List SeqTree) (node : Node) (s : Option SeqTree) → body_of tree seqs node.module ≡ s → IsSomeAnd s (FitsNode node)
    → IsSomeAnd s (λ seq. (words : List ℤ) → length words ≡ node.ins → body_leaf tree seqs node.module words ≡ eval seq words)
unfolding body_leaf
eval_at tree seqs node None found fits = absurd fits
eval_at tree seqs node (Some seq) found fits = λ words size.
    ap (meaning node.module words) found
    ∙ ap (λ b. cond b (eval seq words) (unfit node.module)) (eq_same (length words) (total seq.ins) (size ∙ sym fits.takes))

pub leaves_are_evals : LeavesAreEvals
leaves_are_evals tree seqs k bodies inside form =
    eval_at tree seqs (node_at tree k) (body_of tree seqs (node_at tree k).module) refl (bodies.words k no_node inside form)

-- codes of bodies are their codes
pub all_codes : (seqs : List SeqTree) (codes : List Code) → AreCodes seqs codes → codes ≡ map code_of seqs
all_codes [] [] are = refl
all_codes [] (code ∷ codes) are = absurd are
all_codes (seq ∷ seqs) [] are = absurd are
all_codes (seq ∷ seqs) (code ∷ codes) are = ap (λ c. c ∷ codes) are.0.is ∙ ap (λ l. code_of seq ∷ l) (all_codes seqs codes are.1)

-- one code more
pub codes_more : (seqs : List SeqTree) (codes : List Code) (seq : SeqTree) (code : Code) → AreCodes seqs codes → Compiles seq code → AreCodes (seqs ++ seq ∷ []) (codes ++ code ∷ [])
codes_more [] [] seq code are more = (more, tt)
codes_more [] (c ∷ codes) seq code are more = absurd are
codes_more (s ∷ seqs) [] seq code are more = absurd are
codes_more (s ∷ seqs) (c ∷ codes) seq code are more = (are.0, codes_more seqs codes seq code are.1 more)

pub compilable_at : {A : Type 0} (f : A → SeqTree) (xs : List A) (i : ℕ) (x : A) → i < length xs → x ≡ get_or xs i x → AllByRecursion IsCompilable (map f xs) → IsCompilable (f x)
compilable_at f [] i x inside is all = absurd (omega arith)
compilable_at f (y ∷ xs) zero x inside is all = subst (λ z. IsCompilable (f z)) (sym is) all.0
compilable_at f (y ∷ xs) (suc i) x inside is all = compilable_at f xs i x (omega arith) is all.1

pub take_next : {A : Type 0} (xs : List A) (i : ℕ) (x : A) → i < length xs → x ≡ get_or xs i x → take (i + 1) xs ≡ take i xs ++ x ∷ []
take_next [] i x inside is = absurd (omega arith)
take_next (y ∷ xs) zero x inside is =
    let e : 0 + 1 ≡ suc 0 = omega arith in ap (λ n. take n (y ∷ xs)) e ∙ ap (λ z. z ∷ []) (sym is)
take_next (y ∷ xs) (suc i) x inside is =
    let e : suc i + 1 ≡ suc (i + 1) = omega arith in
    ap (λ n. take n (y ∷ xs)) e ∙ ap (λ l. y ∷ l) (take_next xs i x (omega arith) is)
