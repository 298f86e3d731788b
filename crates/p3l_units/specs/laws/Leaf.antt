-- Results of a tree's codes on words.
use Rattle.std.proofs.Common.{◌≡◌, ℕ, ℤ, zero, suc, ◌<◌, Bool, true, false, cond, ◌&&◌, List, [], ◌∷◌, length, get_or, Option, Some, None, refl, ap, ◌∙◌, subst, arith}
use Rattle.std.specs.Prelude.{nat_eq, IsSomeAnd}
use Rattle.std.proofs.lemmas.Bool.Decides.{nat_tests}
use Rattle.p3l_base.specs.declared.outcome.Outcome.{Outcome}
use Rattle.p3l_skel.specs.declared.tree.Form.{Form}
use Rattle.p3l_skel.specs.declared.tree.Form.TheVariants as forms
use Rattle.p3l_skel.specs.declared.tree.Node.{Node}
use Rattle.p3l_skel.specs.Tree.{node_at, no_node, HasLength, GivesOuts}
use Rattle.p3l_code.specs.declared.instr.Code.{Code}
use Rattle.p3l_code.specs.Machine.{exec}
use Rattle.p3l_code.proofs.Outs.{exec_gives}
use Rattle.p3l_units.specs.Table.{Served, code_of, HasWordsOf, is_seq, agrees, unfit, if_fits, run_of, leaf, LeavesAreRuns}

and_both : (a b : Bool) → a && b ≡ true → (a ≡ true) × (b ≡ true)
and_both true true h = (refl, refl)
and_both true false h = absurd cc
and_both false b h = absurd cc

eq_holds : (m n : ℕ) → nat_eq m n ≡ true → m ≡ n
eq_holds m n h = grind (arith, nat_tests)

eq_same : (m n : ℕ) → m ≡ n → nat_eq m n ≡ true
eq_same m n h = grind (arith, nat_tests)

own_agrees : (b : Bool) (t : Bool) → b ≡ true → cond b t true ≡ true → t ≡ true
own_agrees true t e h = h
own_agrees false t e h = absurd cc

-- if a module's nodes take `ins` words and give `outs`, each does
agrees_at : (m ins outs : ℕ) (nodes : List Node) (k : ℕ) → agrees m ins outs nodes ≡ true → k < length nodes → (get_or nodes k no_node).form ≡ forms.Seq → (get_or nodes k no_node).module ≡ m → outs ≡ (get_or nodes k no_node).outs
agrees_at m ins outs [] k h inside seq own = absurd (omega arith)
agrees_at m ins outs (node ∷ nodes) zero h inside seq own =
    let both = and_both (cond (nat_eq node.module m && is_seq node.form) (nat_eq ins node.ins && nat_eq outs node.outs) true) (agrees m ins outs nodes) h in
    let is_own : nat_eq node.module m && is_seq node.form ≡ true = ap (λ b. b && is_seq node.form) (eq_same node.module m own) ∙ ap is_seq seq in
    let words = own_agrees (nat_eq node.module m && is_seq node.form) (nat_eq ins node.ins && nat_eq outs node.outs) is_own both.0 in
    eq_holds outs node.outs (and_both (nat_eq ins node.ins) (nat_eq outs node.outs) words).1
agrees_at m ins outs (node ∷ nodes) (suc k) h inside seq own =
    let both = and_both (cond (nat_eq node.module m && is_seq node.form) (nat_eq ins node.ins && nat_eq outs node.outs) true) (agrees m ins outs nodes) h in
    agrees_at m ins outs nodes k both.1 (omega arith) seq own

run_gives : (served : Served) (m k : ℕ) (words : List ℤ) (o : Option Code) → k < length served.tree.nodes → (node_at served.tree k).form ≡ forms.Seq → (node_at served.tree k).module ≡ m → HasLength (node_at served.tree k).outs (run_of served m words o)
run_gives served m k words None inside seq own = tt
run_gives served m k words (Some code) inside seq own =
    by (nat_eq (length words) code.ins && agrees m code.ins code.outs served.tree.nodes) refl
  where
    by : (b : Bool) → nat_eq (length words) code.ins && agrees m code.ins code.outs served.tree.nodes ≡ b → HasLength (node_at served.tree k).outs (cond b (exec code m words) (unfit m))
    by true e =
        let both = and_both (nat_eq (length words) code.ins) (agrees m code.ins code.outs served.tree.nodes) e in
        subst (λ n. HasLength n (exec code m words)) (agrees_at m code.ins code.outs served.tree.nodes k both.1 inside seq own) (exec_gives code m words)
    by false e = tt

-- a value that a module gives has the out words of its nodes
pub gives_outs : (served : Served) → GivesOuts served.tree (leaf served)
unfolding leaf
gives_outs served k words inside seq fits =
    run_gives served (node_at served.tree k).module k words (code_of served (node_at served.tree k).module) inside seq refl

-- the words of a module's nodes are those of what belongs to it
pub all_agree : (m ins outs : ℕ) (nodes : List Node) → ((j : ℕ) → j < length nodes → (get_or nodes j no_node).form ≡ forms.Seq → (get_or nodes j no_node).module ≡ m → (ins ≡ (get_or nodes j no_node).ins) × (outs ≡ (get_or nodes j no_node).outs)) → agrees m ins outs nodes ≡ true
all_agree m ins outs [] has = refl
all_agree m ins outs (node ∷ nodes) has =
    ap (λ b. b && agrees m ins outs nodes) (own (nat_eq node.module m) refl node.form refl)
    ∙ all_agree m ins outs nodes (λ j inside. has (suc j) (omega arith))
  where
    same : node.module ≡ m → node.form ≡ forms.Seq → nat_eq ins node.ins && nat_eq outs node.outs ≡ true
    same own seq =
        let some : 0 < length (node ∷ nodes) = omega arith in
        let words = has 0 some seq own in
        ap (λ b. b && nat_eq outs node.outs) (eq_same ins node.ins words.0) ∙ eq_same outs node.outs words.1

    own : (b : Bool) → nat_eq node.module m ≡ b → (f : Form) → node.form ≡ f → cond (nat_eq node.module m && is_seq node.form) (nat_eq ins node.ins && nat_eq outs node.outs) true ≡ true
    own false e f form = ap (λ b. cond (b && is_seq node.form) (nat_eq ins node.ins && nat_eq outs node.outs) true) e
    own true e forms.Seq form =
        ap (λ b. cond (b && is_seq node.form) (nat_eq ins node.ins && nat_eq outs node.outs) true) e
        ∙ ap (λ g. cond (is_seq g) (nat_eq ins node.ins && nat_eq outs node.outs) true) form
        ∙ same (eq_holds node.module m e) form
    own true e f form =
        ap (λ b. cond (b && is_seq node.form) (nat_eq ins node.ins && nat_eq outs node.outs) true) e
        ∙ ap (λ g. cond (is_seq g) (nat_eq ins node.ins && nat_eq outs node.outs) true) form

-- words that a module takes
pub fitting : (served : Served) (m ins outs : ℕ) (words : List ℤ) (outcome : Outcome) → length words ≡ ins → agrees m ins outs served.tree.nodes ≡ true → if_fits served.tree m ins outs words outcome ≡ outcome
fitting served m ins outs words outcome fits agree =
    ap (λ b. cond (b && agrees m ins outs served.tree.nodes) outcome (unfit m)) (eq_same (length words) ins fits)
    ∙ ap (λ b. cond b outcome (unfit m)) agree

pub leaves_are_runs : LeavesAreRuns
unfolding leaf
leaves_are_runs served k code words has inside seq found fits =
    let m = (node_at served.tree k).module in
    let agree = all_agree m code.ins code.outs served.tree.nodes (λ j low form own.
    let node = get_or served.tree.nodes j no_node in
    let there : code_of served node.module ≡ Some code = ap (code_of served) own ∙ found in
    let words : HasWordsOf node code = subst (λ o. IsSomeAnd o (HasWordsOf node)) there (has j no_node low form) in
    (words.takes, words.gives)) in
    ap (run_of served m words) found ∙ fitting served m code.ins code.outs words (exec code m words) fits agree
