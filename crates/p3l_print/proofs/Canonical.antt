-- A program as its canonical text writes it: parentheses exactly where the grouping needs them.
use Rattle.std.proofs.Common.{◌≡◌, ℕ, suc, ◌≤◌, Bool, true, false, List, [], ◌∷◌, refl, ap, ◌∙◌, arith}
use Rattle.std.specs.Prelude.{nat_le, map, if◌then◌else◌}
use Rattle.std.proofs.lemmas.Bool.Decides.{nat_tests}
use Rattle.p3l_ast.specs.declared.module.Kind.TheVariants.{Seq}
use Rattle.p3l_ast.specs.Tree.{Phrase, unary, binary, read, body}
use Rattle.p3l_ast.specs.Notation.{level}
use Rattle.p3l_grammar.specs.Written.{Formula, numeral, place, prefix, infix_, paren, Formulas, no_index, index, Script, stop, set, if_, if_else, while_, for_, Passage, fixed, bodied, chained, spread, turned, tight, IsGrouped, AreGrouped, IsScript, IsPassage, IsText, tree, trees, script_tree, body_filling, module_of, passage_tree, text_tree}
use Rattle.p3l_grammar.proofs.Complete.{level_small}
use Rattle.p3l_print.specs.Expression.{tightness}

-- in parentheses where it binds less tight than is required
abbrev pub around : ℕ → Formula → Formula
around least e = if nat_le least (tight e) then e else paren e

abbrev mutual
  pub canonical_formula : Formula → Formula
  canonical_formula (numeral v p) = numeral v p
  canonical_formula (place x is) = place x (canonical_formulas is)
  canonical_formula (prefix o e) = prefix o (around 10 (canonical_formula e))
  canonical_formula (infix_ o a b) = infix_ o (around (level o) (canonical_formula a)) (around (suc (level o)) (canonical_formula b))
  canonical_formula (paren e) = canonical_formula e

  pub canonical_formulas : Formulas → Formulas
  canonical_formulas no_index = no_index
  canonical_formulas (index e is) = index (canonical_formula e) (canonical_formulas is)

abbrev pub canonical_script : Script → Script
canonical_script stop = stop
canonical_script (set x is e c) = set x (canonical_formulas is) (canonical_formula e) (canonical_script c)
canonical_script (if_ e t c) = if_ (canonical_formula e) (canonical_script t) (canonical_script c)
canonical_script (if_else e t f c) = if_else (canonical_formula e) (canonical_script t) (canonical_script f) (canonical_script c)
canonical_script (while_ e b c) = while_ (canonical_formula e) (canonical_script b) (canonical_script c)
canonical_script (for_ x is e w y js f b c) =
    for_ x (canonical_formulas is) (canonical_formula e) (canonical_formula w) y (canonical_formulas js) (canonical_formula f) (canonical_script b) (canonical_script c)

abbrev pub canonical_passage : Passage → Passage
canonical_passage (fixed x v p) = fixed x v p
canonical_passage (bodied h b x ls c) = bodied h b x ls (canonical_script c)
canonical_passage (chained k h x cs) = chained k h x cs
canonical_passage (spread k h w c) = spread k h w c
canonical_passage (turned h t n b c) = turned h t n b c

abbrev pub canonical_passages : List Passage → List Passage
canonical_passages is = map canonical_passage is

-- it is grouped, and has the same tree

le_of : (m n : ℕ) → nat_le m n ≡ true → m ≤ n
le_of m n h = grind (arith, nat_tests)

pub record IsFormula (least : ℕ) (written : Formula) (e : Phrase) : Type 0 where
  pub tight_enough : least ≤ tight written
  pub grouped : IsGrouped written
  pub same : tree written ≡ e

around_is : (n : ℕ) (e : Formula) → n ≤ 10 → IsGrouped e → IsFormula n (around n e) (tree e)
around_is n e l g = go (nat_le n (tight e)) refl
  where
    go : (b : Bool) → nat_le n (tight e) ≡ b → IsFormula n (if b then e else paren e) (tree e)
    go true h = record { tight_enough = le_of n (tight e) h; grouped = g; same = refl }
    go false h = record { tight_enough = l; grouped = g; same = refl }

mutual
  pub formula_is : (e : Formula) → IsGrouped (canonical_formula e) × (tree (canonical_formula e) ≡ tree e)
  formula_is (numeral v p) = (tt, refl)
  formula_is (place x is) = let h = formulas_are is in (h.0, ap (read x) h.1)
  formula_is (prefix o e) =
      let h = formula_is e in
      let a = around_is 10 (canonical_formula e) (omega arith) h.0 in
      ((a.tight_enough, a.grouped), ap (unary o) (a.same ∙ h.1))
  formula_is (infix_ o a b) =
      let h = formula_is a in
      let k = formula_is b in
      let x = around_is (level o) (canonical_formula a) (omega (arith, level_small o)) h.0 in
      let y = around_is (suc (level o)) (canonical_formula b) (omega (arith, level_small o)) k.0 in
      ((x.tight_enough, y.tight_enough, x.grouped, y.grouped), ap (λ q. binary o q (tree (around (suc (level o)) (canonical_formula b)))) (x.same ∙ h.1) ∙ ap (binary o (tree a)) (y.same ∙ k.1))
  formula_is (paren e) = formula_is e

  pub formulas_are : (is : Formulas) → AreGrouped (canonical_formulas is) × (trees (canonical_formulas is) ≡ trees is)
  formulas_are no_index = (tt, refl)
  formulas_are (index e is) =
      let h = formula_is e in
      let k = formulas_are is in
      ((h.0, k.0), (let p = h.1 in let q = k.1 in cc))

pub script_is : (c : Script) → IsScript (canonical_script c) × (script_tree (canonical_script c) ≡ script_tree c)
script_is stop = (tt, refl)
script_is (set x is e c) =
    let h = formulas_are is in let i = formula_is e in let k = script_is c in
    ((h.0, i.0, k.0), (let p = h.1 in let q = i.1 in let r = k.1 in cc))
script_is (if_ e t c) =
    let h = formula_is e in let j = script_is t in let k = script_is c in
    ((h.0, j.0, k.0), (let p = h.1 in let q = j.1 in let r = k.1 in cc))
script_is (if_else e t f c) =
    let h = formula_is e in let i = script_is t in let j = script_is f in let k = script_is c in
    ((h.0, i.0, j.0, k.0), (let p = h.1 in let q = i.1 in let r = j.1 in let s = k.1 in cc))
script_is (while_ e b c) =
    let h = formula_is e in let j = script_is b in let k = script_is c in
    ((h.0, j.0, k.0), (let p = h.1 in let q = j.1 in let r = k.1 in cc))
script_is (for_ x is e w y js f b c) =
    let h = formulas_are is in let i = formula_is e in let j = formula_is w in let k = formulas_are js in let l = formula_is f in let m = script_is b in let n = script_is c in
    ((h.0, i.0, j.0, k.0, l.0, m.0, n.0), (let p = h.1 in let q = i.1 in let r = j.1 in let s = k.1 in let t = l.1 in let u = m.1 in let v = n.1 in cc))

pub passage_is : (i : Passage) → IsPassage i → IsPassage (canonical_passage i) × (passage_tree (canonical_passage i) ≡ passage_tree i)
passage_is (fixed x v p) h = (tt, refl)
passage_is (bodied g b x ls c) h = let k = script_is c in ((h.0, k.0), ap (λ d. module_of Seq g (body_filling b x (body ls d))) k.1)
passage_is (chained k g x cs) h = (h, refl)
passage_is (spread k g w c) h = (h, refl)
passage_is (turned g t n b c) h = (h, refl)

pub passages_are : (is : List Passage) → IsText is → IsText (canonical_passages is) × (text_tree (canonical_passages is) ≡ text_tree is)
passages_are [] h = (tt, refl)
passages_are (i ∷ is) h =
    let a = passage_is i h.0 in
    let b = passages_are is h.1 in
    ((a.0, b.0), (let p = a.1 in let q = b.1 in cc))

-- the tree determines how tight an expression binds
pub tight_is : (e : Formula) → tight (canonical_formula e) ≡ tightness (tree e)
tight_is (numeral v p) = refl
tight_is (place x is) = refl
tight_is (prefix o e) = refl
tight_is (infix_ o a b) = refl
tight_is (paren e) = tight_is e
