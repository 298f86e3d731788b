-- The canonical form of a text passes no limit if the text passes none.
use Rattle.std.proofs.Common.{◌≡◌, ℕ, suc, ◌≤◌, Bool, true, false, List, [], ◌∷◌, Option, Some, None, refl, sym, ap, ◌∙◌, subst, arith}
use Rattle.std.specs.Prelude.{nat_le, if◌then◌else◌}
use Rattle.std.proofs.lemmas.Bool.Decides.{nat_tests}
use Rattle.p3l_ast.specs.declared.position.Spot.{Spot}
use Rattle.p3l_ast.specs.declared.port.Num.{Num}
use Rattle.p3l_ast.specs.declared.port.Num.TheVariants.{Digits, Named}
use Rattle.p3l_ast.specs.declared.port.Port.{Port}
use Rattle.p3l_ast.specs.declared.call.Sub.{Sub}
use Rattle.p3l_ast.specs.declared.call.Sub.TheVariants.{Whole, Free}
use Rattle.p3l_ast.specs.declared.call.Arg.{Arg}
use Rattle.p3l_ast.specs.declared.call.OutArg.{OutArg}
use Rattle.p3l_ast.specs.declared.call.OutArg.TheVariants.{Fresh, Old}
use Rattle.p3l_ast.specs.declared.call.Call.{Call}
use Rattle.p3l_ast.specs.declared.expression.UnOp.{UnOp}
use Rattle.p3l_ast.specs.declared.expression.UnOp.TheVariants.{Neg, Not, Flip}
use Rattle.p3l_ast.specs.declared.expression.BinOp.{BinOp}
use Rattle.p3l_ast.specs.declared.expression.BinOp.TheVariants as ops
use Rattle.p3l_ast.specs.declared.module.Kind.{Kind}
use Rattle.p3l_ast.specs.declared.module.Kind.TheVariants as kinds
use Rattle.p3l_ast.specs.declared.module.Rescue.{Rescue}
use Rattle.p3l_lexer.specs.declared.mark.Mark.{Mark}
use Rattle.p3l_lexer.specs.declared.mark.Mark.TheVariants as marks
use Rattle.p3l_ast.specs.Notation.{level}
use Rattle.p3l_grammar.specs.Symbol.{Symbol, word, digits, sign, unary_mark, kind_mark}
use Rattle.p3l_grammar.specs.declared.nest.Nest.{Nest}
use Rattle.p3l_grammar.specs.Limits.{at_rest, at_statement, after_symbol, IsKept, IsWithin}
use Rattle.p3l_grammar.specs.Written.{Formula, numeral, place, prefix, infix_, paren, Formulas, no_index, index, Script, stop, set, if_, if_else, while_, for_, Signature, Passage, fixed, bodied, chained, spread, turned, tight, IsGrouped, AreGrouped, IsScript, IsPassage, IsText, each, after_comma, separated, num_symbol, spell_size, spell_port, spell_sub, spell_arg, spell_out, spell_call, spell, spell_index, spell_set, spell_script, spell_signature, spell_clause, spell_signed, spell_rescue_clause, spell_local, spell_end, spell_passage, spell_text}
use Rattle.p3l_grammar.proofs.Complete.{le_true}
use Rattle.p3l_print.proofs.Canonical.{around, canonical_formula, canonical_formulas, canonical_script, canonical_passage, canonical_passages}

-- the place of an expression: in a term, or in the index of a target; with the brackets that were open
-- where the term or the target began

data Where : Type 0 where
  in_term : ℕ → Where
  in_index : ℕ → Where

abbrev is_term : Where → Bool
is_term (in_term base) = true
is_term (in_index base) = false

abbrev base_of : Where → ℕ
base_of (in_term base) = base
base_of (in_index base) = base

abbrev nest : Where → ℕ → ℕ → ℕ → Nest
nest at brackets wanted operators = record {
  in_body = true;
  brackets = brackets;
  wanted = wanted;
  in_term = is_term at;
  base = base_of at;
  operators = operators;
}

-- an index has more brackets open than its target had
IsDeep : Where → ℕ → Type 0
IsDeep (in_term base) b = Unit {0}
IsDeep (in_index base) b = nat_le b base ≡ false

deep_more : (p : Where) (b : ℕ) → IsDeep p b → IsDeep p (suc b)
unfolding IsDeep
deep_more (in_term base) b h = tt
deep_more (in_index base) b h = grind (arith, nat_tests)

-- the nest after each symbol of an expression

after_open_bracket : (p : Where) (b w o : ℕ) → IsDeep p b → after_symbol (nest p b w o) (sign marks.OpenBracket) ≡ nest p (suc b) w o
unfolding IsDeep
after_open_bracket (in_term base) b w o d = refl
after_open_bracket (in_index base) b w o d = rw d refl

after_close_bracket : (p : Where) (b w o : ℕ) → after_symbol (nest p (suc b) w o) (sign marks.CloseBracket) ≡ nest p b w o
after_close_bracket p b w o = refl

after_open_paren : (p : Where) (b w o : ℕ) → after_symbol (nest p b w o) (sign marks.OpenParen) ≡ nest p (suc b) w o
after_open_paren p b w o = refl

after_close_paren : (p : Where) (b w o : ℕ) → after_symbol (nest p (suc b) w o) (sign marks.CloseParen) ≡ nest p b w o
after_close_paren p b w o = refl

after_prefix : (u : UnOp) (p : Where) (b w o : ℕ) → after_symbol (nest p b w o) (sign (unary_mark u)) ≡ nest p b w (suc o)
after_prefix Neg p b w o = refl
after_prefix Not p b w o = refl
after_prefix Flip p b w o = refl

after_operator : (u : BinOp) (p : Where) (b w o : ℕ) → after_symbol (nest p b w o) (sign (marks.Operator u)) ≡ nest p b w (suc o)
after_operator u p b w o = refl

-- one symbol, taken off or put in front

off : (n m : Nest) (t : Symbol) (r : List Symbol) → after_symbol n t ≡ m → IsWithin n (t ∷ r) → IsKept m × IsWithin m r
off n m t r e h = (subst IsKept e h.0, subst (λ k. IsWithin k r) e h.1)

on : (n m : Nest) (t : Symbol) (r : List Symbol) → after_symbol n t ≡ m → IsKept m → IsWithin m r → IsWithin n (t ∷ r)
on n m t r e k h = (subst IsKept (sym e) k, subst (λ q. IsWithin q r) (sym e) h)

-- the operators after an expression

abbrev mutual
  counted : ℕ → Formula → ℕ
  counted o (numeral v p) = o
  counted o (place x is) = counted_all o is
  counted o (prefix u e) = counted (suc o) e
  counted o (infix_ u a b) = counted (suc (counted o a)) b
  counted o (paren e) = counted o e

  counted_all : ℕ → Formulas → ℕ
  counted_all o no_index = o
  counted_all o (index e is) = counted_all (counted o e) is

mutual
  counted_more : (o : ℕ) (e : Formula) → o ≤ counted o e
  counted_more o (numeral v p) = omega arith
  counted_more o (place x is) = counted_all_more o is
  counted_more o (prefix u e) = let h = counted_more (suc o) e in omega arith
  counted_more o (infix_ u a b) = let h = counted_more o a in let k = counted_more (suc (counted o a)) b in omega arith
  counted_more o (paren e) = counted_more o e

  counted_all_more : (o : ℕ) (is : Formulas) → o ≤ counted_all o is
  counted_all_more o no_index = omega arith
  counted_all_more o (index e is) = let h = counted_more o e in let k = counted_all_more (counted o e) is in omega arith

-- parentheses change nothing in it
around_counted : (least o : ℕ) (e : Formula) → counted o (around least e) ≡ counted o e
around_counted least o e = go (nat_le least (tight e))
  where
    go : (b : Bool) → counted o (if b then e else paren e) ≡ counted o e
    go true = refl
    go false = refl

mutual
  canonical_counted : (o : ℕ) (e : Formula) → counted o (canonical_formula e) ≡ counted o e
  canonical_counted o (numeral v p) = refl
  canonical_counted o (place x is) = canonical_all_counted o is
  canonical_counted o (prefix u e) = around_counted 10 (suc o) (canonical_formula e) ∙ canonical_counted (suc o) e
  canonical_counted o (infix_ u a b) =
      around_counted (suc (level u)) (suc (counted o (around (level u) (canonical_formula a)))) (canonical_formula b) ∙ canonical_counted (suc (counted o (around (level u) (canonical_formula a)))) b
      ∙ ap (λ q. counted (suc q) b) (around_counted (level u) o (canonical_formula a) ∙ canonical_counted o a)
  canonical_counted o (paren e) = canonical_counted o e

  canonical_all_counted : (o : ℕ) (is : Formulas) → counted_all o (canonical_formulas is) ≡ counted_all o is
  canonical_all_counted o no_index = refl
  canonical_all_counted o (index e is) =
      canonical_all_counted (counted o (canonical_formula e)) is ∙ ap (λ q. counted_all q is) (canonical_counted o e)

-- with so many brackets open outside, no bracket of the expression is one too many
abbrev mutual
  Allows : ℕ → Formula → Type 0
  Allows b (numeral v p) = Unit {0}
  Allows b (place x is) = AllowsAll b is
  Allows b (prefix u e) = Allows b e
  Allows b (infix_ u x y) = Allows b x × Allows b y
  Allows b (paren e) = (suc b ≤ 64) × Allows (suc b) e

  AllowsAll : ℕ → Formulas → Type 0
  AllowsAll b no_index = Unit {0}
  AllowsAll b (index e is) = (suc b ≤ 64) × Allows (suc b) e × AllowsAll b is

mutual
  shallower : (b : ℕ) (e : Formula) → Allows (suc b) e → Allows b e
  shallower b (numeral v p) h = tt
  shallower b (place x is) h = all_shallower b is h
  shallower b (prefix u e) h = shallower b e h
  shallower b (infix_ u x y) h = (shallower b x h.0, shallower b y h.1)
  shallower b (paren e) h = (omega (arith, h.0), shallower (suc b) e h.1)

  all_shallower : (b : ℕ) (is : Formulas) → AllowsAll (suc b) is → AllowsAll b is
  all_shallower b no_index h = tt
  all_shallower b (index e is) h = (omega (arith, h.0), shallower (suc b) e h.1, all_shallower b is h.2)

record IsAllowed (b : ℕ) (e : Formula) : Type 0 where
  plain : Allows b (canonical_formula e)
  enclosed : (least : ℕ) → least ≤ tight e → Allows b (around least (canonical_formula e))

-- an expression that keeps how tight it binds is not enclosed
kept_open : (b : ℕ) (e : Formula) → tight (canonical_formula e) ≡ tight e → Allows b (canonical_formula e) → IsAllowed b e
kept_open b e same h = record { plain = h; enclosed = λ least k. go (nat_le least (tight (canonical_formula e))) (le_true least (tight (canonical_formula e)) (subst (λ q. least ≤ q) (sym same) k)) }
  where
    go : (c : Bool) → c ≡ true → Allows b (if c then canonical_formula e else paren (canonical_formula e))
    go true p = h
    go false p = absurd cc

paren_allowed : (b : ℕ) (e : Formula) → suc b ≤ 64 → Allows (suc b) (canonical_formula e) → IsAllowed b (paren e)
paren_allowed b e k h = record { plain = shallower b (canonical_formula e) h; enclosed = λ least _. go (nat_le least (tight (canonical_formula e))) }
  where
    go : (c : Bool) → Allows b (if c then canonical_formula e else paren (canonical_formula e))
    go true = shallower b (canonical_formula e) h
    go false = (k, h)

mutual
  canonical_allowed : (b : ℕ) (e : Formula) → IsGrouped e → Allows b e → IsAllowed b e
  canonical_allowed b (numeral v p) g h = kept_open b (numeral v p) refl tt
  canonical_allowed b (place x is) g h = kept_open b (place x is) refl (canonical_all_allowed b is g h)
  canonical_allowed b (prefix u e) g h = kept_open b (prefix u e) refl ((canonical_allowed b e g.1 h).enclosed 10 g.0)
  canonical_allowed b (infix_ u x y) g h =
      kept_open b (infix_ u x y) refl ((canonical_allowed b x g.2 h.0).enclosed (level u) g.0, (canonical_allowed b y g.3 h.1).enclosed (suc (level u)) g.1)
  canonical_allowed b (paren e) g h = paren_allowed b e h.0 (canonical_allowed (suc b) e g h.1).plain

  canonical_all_allowed : (b : ℕ) (is : Formulas) → AreGrouped is → AllowsAll b is → AllowsAll b (canonical_formulas is)
  canonical_all_allowed b no_index g h = tt
  canonical_all_allowed b (index e is) g h = (h.0, (canonical_allowed (suc b) e g.0 h.1).plain, canonical_all_allowed b is g.1 h.2)

-- the limits that an expression keeps, if its symbols pass none

record FormKeeps (p : Where) (b w o : ℕ) (e : Formula) (r : List Symbol) : Type 0 where
  allows : Allows b e
  small : counted o e ≤ 256
  goes_on : IsWithin (nest p b w (counted o e)) r

record FormsKeep (p : Where) (b w o : ℕ) (is : Formulas) (r : List Symbol) : Type 0 where
  allows : AllowsAll b is
  small : counted_all o is ≤ 256
  goes_on : IsWithin (nest p b w (counted_all o is)) r

mutual
  formula_keeps : (p : Where) (b w o : ℕ) (d : IsDeep p b) (e : Formula) (r : List Symbol) → IsWithin (nest p b w o) (spell e r) → FormKeeps p b w o e r
  formula_keeps p b w o d (numeral v q) r h = record { allows = tt; small = h.0.1; goes_on = h.1 }
  formula_keeps p b w o d (place x is) r h =
      let k = formulas_keep p b w o d is r h.0.1 h.1 in
      record { allows = k.allows; small = k.small; goes_on = k.goes_on }
  formula_keeps p b w o d (prefix u e) r h =
      let a = off (nest p b w o) (nest p b w (suc o)) (sign (unary_mark u)) (spell e r) (after_prefix u p b w o) h in
      let k = formula_keeps p b w (suc o) d e r a.1 in
      record { allows = k.allows; small = k.small; goes_on = k.goes_on }
  formula_keeps p b w o d (infix_ u x y) r h =
      let k = formula_keeps p b w o d x (sign (marks.Operator u) ∷ spell y r) h in
      let a = off (nest p b w (counted o x)) (nest p b w (suc (counted o x))) (sign (marks.Operator u)) (spell y r) (after_operator u p b w (counted o x)) k.goes_on in
      let l = formula_keeps p b w (suc (counted o x)) d y r a.1 in
      record { allows = (k.allows, l.allows); small = l.small; goes_on = l.goes_on }
  formula_keeps p b w o d (paren e) r h =
      let a = off (nest p b w o) (nest p (suc b) w o) (sign marks.OpenParen) (spell e (sign marks.CloseParen ∷ r)) (after_open_paren p b w o) h in
      let k = formula_keeps p (suc b) w o (deep_more p b d) e (sign marks.CloseParen ∷ r) a.1 in
      let c = off (nest p (suc b) w (counted o e)) (nest p b w (counted o e)) (sign marks.CloseParen) r (after_close_paren p b w (counted o e)) k.goes_on in
      record { allows = (a.0.0, k.allows); small = k.small; goes_on = c.1 }

  formulas_keep : (p : Where) (b w o : ℕ) (d : IsDeep p b) (is : Formulas) (r : List Symbol) → o ≤ 256 → IsWithin (nest p b w o) (spell_index is r) → FormsKeep p b w o is r
  formulas_keep p b w o d no_index r l h = record { allows = tt; small = l; goes_on = h }
  formulas_keep p b w o d (index e is) r l h =
      let a = off (nest p b w o) (nest p (suc b) w o) (sign marks.OpenBracket) (spell e (sign marks.CloseBracket ∷ spell_index is r)) (after_open_bracket p b w o d) h in
      let k = formula_keeps p (suc b) w o (deep_more p b d) e (sign marks.CloseBracket ∷ spell_index is r) a.1 in
      let c = off (nest p (suc b) w (counted o e)) (nest p b w (counted o e)) (sign marks.CloseBracket) (spell_index is r) (after_close_bracket p b w (counted o e)) k.goes_on in
      let m = formulas_keep p b w (counted o e) d is r k.small c.1 in
      record { allows = (a.0.0, k.allows, m.allows); small = m.small; goes_on = m.goes_on }

-- and what an expression needs

mutual
  formula_within : (p : Where) (b w o : ℕ) (d : IsDeep p b) (e : Formula) (r : List Symbol) → b ≤ 64 → Allows b e → counted o e ≤ 256 → IsWithin (nest p b w (counted o e)) r → IsWithin (nest p b w o) (spell e r)
  formula_within p b w o d (numeral v q) r k a s h = ((k, s), h)
  formula_within p b w o d (place x is) r k a s h =
      let l = counted_all_more o is in
      ((k, omega arith), formulas_within p b w o d is r k a s h)
  formula_within p b w o d (prefix u e) r k a s h =
      let l = counted_more (suc o) e in
      on (nest p b w o) (nest p b w (suc o)) (sign (unary_mark u)) (spell e r) (after_prefix u p b w o) (k, omega arith) (formula_within p b w (suc o) d e r k a s h)
  formula_within p b w o d (infix_ u x y) r k a s h =
      let l = counted_more (suc (counted o x)) y in
      formula_within p b w o d x (sign (marks.Operator u) ∷ spell y r) k a.0 (omega arith)
      (on (nest p b w (counted o x)) (nest p b w (suc (counted o x))) (sign (marks.Operator u)) (spell y r) (after_operator u p b w (counted o x)) (k, omega arith) (formula_within p b w (suc (counted o x)) d y r k a.1 s h))
  formula_within p b w o d (paren e) r k a s h =
      let l = counted_more o e in
      on (nest p b w o) (nest p (suc b) w o) (sign marks.OpenParen) (spell e (sign marks.CloseParen ∷ r)) (after_open_paren p b w o) (a.0, omega arith)
      (formula_within p (suc b) w o (deep_more p b d) e (sign marks.CloseParen ∷ r) a.0 a.1 s
      (on (nest p (suc b) w (counted o e)) (nest p b w (counted o e)) (sign marks.CloseParen) r (after_close_paren p b w (counted o e)) (k, s) h))

  formulas_within : (p : Where) (b w o : ℕ) (d : IsDeep p b) (is : Formulas) (r : List Symbol) → b ≤ 64 → AllowsAll b is → counted_all o is ≤ 256 → IsWithin (nest p b w (counted_all o is)) r → IsWithin (nest p b w o) (spell_index is r)
  formulas_within p b w o d no_index r k a s h = h
  formulas_within p b w o d (index e is) r k a s h =
      let l = counted_more o e in
      let m = counted_all_more (counted o e) is in
      on (nest p b w o) (nest p (suc b) w o) (sign marks.OpenBracket) (spell e (sign marks.CloseBracket ∷ spell_index is r)) (after_open_bracket p b w o d) (a.0, omega arith)
      (formula_within p (suc b) w o (deep_more p b d) e (sign marks.CloseBracket ∷ spell_index is r) a.0 a.1 (omega arith)
      (on (nest p (suc b) w (counted o e)) (nest p b w (counted o e)) (sign marks.CloseBracket) (spell_index is r) (after_close_bracket p b w (counted o e)) (k, omega arith)
      (formulas_within p b w (counted o e) d is r k a.2 s h)))

-- targets that are assigned: each index is an expression of its own

abbrev target : ℕ → ℕ → ℕ → Nest
target brackets wanted operators = record {
  in_body = true;
  brackets = brackets;
  wanted = wanted;
  in_term = false;
  base = brackets;
  operators = operators;
}

-- the start of an index of a target

le_self : (b : ℕ) → nat_le b b ≡ true
le_self b = grind (arith, nat_tests)

after_target : (b w o : ℕ) → after_symbol (target b w o) (sign marks.OpenBracket) ≡ nest (in_index b) (suc b) w 0
after_target b w o = let h = le_self b in rw h refl

index_deep : (b : ℕ) → IsDeep (in_index b) (suc b)
unfolding IsDeep
index_deep b = grind (arith, nat_tests)

term_deep : (base b : ℕ) → IsDeep (in_term base) b
unfolding IsDeep
term_deep base b = tt

record KeepsFormula (b : ℕ) (e : Formula) : Type 0 where
  allows : Allows b e
  small : counted 0 e ≤ 256

abbrev KeepsTarget : ℕ → Formulas → Type 0
KeepsTarget b no_index = Unit {0}
KeepsTarget b (index e is) = (suc b ≤ 64) × KeepsFormula (suc b) e × KeepsTarget b is

-- the operators of the last index
abbrev left_over : ℕ → Formulas → ℕ
left_over o no_index = o
left_over o (index e is) = left_over (counted 0 e) is

target_keeps : (b w o : ℕ) (is : Formulas) (r : List Symbol) → IsWithin (target b w o) (spell_index is r) → KeepsTarget b is × IsWithin (target b w (left_over o is)) r
target_keeps b w o no_index r h = (tt, h)
target_keeps b w o (index e is) r h =
    let inner = off (target b w o) (nest (in_index b) (suc b) w 0) (sign marks.OpenBracket) (spell e (sign marks.CloseBracket ∷ spell_index is r)) (after_target b w o) h in
    let k = formula_keeps (in_index b) (suc b) w 0 (index_deep b) e (sign marks.CloseBracket ∷ spell_index is r) inner.1 in
    let l = target_keeps b w (counted 0 e) is r k.goes_on.1 in
    ((inner.0.0, record { allows = k.allows; small = k.small }, l.0), l.1)

target_within : (b w o : ℕ) (is : Formulas) (r : List Symbol) → b ≤ 64 → KeepsTarget b is → IsWithin (target b w (left_over o is)) r → IsWithin (target b w o) (spell_index is r)
target_within b w o no_index r k a h = h
target_within b w o (index e is) r k a h =
    let l = target_within b w (counted 0 e) is r k a.2 h in
    on (target b w o) (nest (in_index b) (suc b) w 0) (sign marks.OpenBracket) (spell e (sign marks.CloseBracket ∷ spell_index is r)) (after_target b w o) (a.0, omega arith)
    (formula_within (in_index b) (suc b) w 0 (index_deep b) e (sign marks.CloseBracket ∷ spell_index is r) a.0 a.1.allows a.1.small ((k, a.1.small), l))

record KeepsSet (b : ℕ) (is : Formulas) (e : Formula) : Type 0 where
  at_index : KeepsTarget b is
  value : KeepsFormula b e

set_keeps : (b w o : ℕ) (x : Spot) (is : Formulas) (e : Formula) (r : List Symbol) → IsWithin (target b w o) (spell_set x is e r) → KeepsSet b is e × IsWithin (nest (in_term b) b w (counted 0 e)) r
set_keeps b w o x is e r h =
    let k = target_keeps b w o is (sign marks.Assign ∷ spell e r) h.1 in
    let l = formula_keeps (in_term b) b w 0 (term_deep b b) e r k.1.1 in
    (record { at_index = k.0; value = record { allows = l.allows; small = l.small } }, l.goes_on)

set_within : (b w : ℕ) (x : Spot) (is : Formulas) (e : Formula) (r : List Symbol) → b ≤ 64 → KeepsSet b is e → IsWithin (nest (in_term b) b w (counted 0 e)) r → IsWithin (target b w 0) (spell_set x is e r)
set_within b w x is e r k a h =
    let value = formula_within (in_term b) b w 0 (term_deep b b) e r k a.value.allows a.value.small h in
    ((k, omega arith), target_within b w 0 is (sign marks.Assign ∷ spell e r) k a.at_index ((k, omega arith), value))

-- a condition in parentheses, with a block after it

abbrev spelled_test : Formula → List Symbol → List Symbol
spelled_test e r = sign marks.OpenParen ∷ spell e (sign marks.CloseParen ∷ sign marks.OpenBrace ∷ r)

record KeepsTest (b : ℕ) (e : Formula) : Type 0 where
  room : suc b ≤ 64
  condition : KeepsFormula (suc b) e

test_keeps : (b : ℕ) (e : Formula) (r : List Symbol) → IsWithin (nest (in_term b) b 0 0) (spelled_test e r) → KeepsTest b e × IsWithin (at_statement (suc b)) r
test_keeps b e r h =
    let k = formula_keeps (in_term b) (suc b) 0 0 (term_deep b (suc b)) e (sign marks.CloseParen ∷ sign marks.OpenBrace ∷ r) h.1 in
    (record { room = h.0.0; condition = record { allows = k.allows; small = k.small } }, k.goes_on.1.1)

test_within : (b : ℕ) (e : Formula) (r : List Symbol) → b ≤ 64 → KeepsTest b e → IsWithin (at_statement (suc b)) r → IsWithin (nest (in_term b) b 0 0) (spelled_test e r)
test_within b e r k a h =
    ((a.room, omega arith), formula_within (in_term b) (suc b) 0 0 (term_deep b (suc b)) e (sign marks.CloseParen ∷ sign marks.OpenBrace ∷ r) a.room a.condition.allows a.condition.small ((k, a.condition.small), ((a.room, omega arith), h)))

-- statements

abbrev Keeps : ℕ → Script → Type 0
Keeps b stop = Unit {0}
Keeps b (set x is e c) = KeepsSet b is e × Keeps b c
Keeps b (if_ e t c) = KeepsTest b e × Keeps (suc b) t × Keeps b c
Keeps b (if_else e t u c) = KeepsTest b e × Keeps (suc b) t × Keeps (suc b) u × Keeps b c
Keeps b (while_ e t c) = KeepsTest b e × Keeps (suc b) t × Keeps b c
Keeps b (for_ x is e w y js f t c) = (suc b ≤ 64) × KeepsSet (suc b) is e × KeepsFormula (suc b) w × KeepsSet (suc b) js f × Keeps (suc b) t × Keeps b c

script_keeps : (c : Script) (b : ℕ) (r : List Symbol) → IsWithin (at_statement b) (spell_script c r) → Keeps b c × IsWithin (at_statement b) r
script_keeps stop b r h = (tt, h)
script_keeps (set x is e c) b r h =
    let k = set_keeps b 0 0 x is e (sign marks.Semicolon ∷ spell_script c r) h in
    let l = script_keeps c b r k.1.1 in
    ((k.0, l.0), l.1)
script_keeps (if_ e t c) b r h =
    let k = test_keeps b e (spell_script t (sign marks.CloseBrace ∷ spell_script c r)) h.1 in
    let l = script_keeps t (suc b) (sign marks.CloseBrace ∷ spell_script c r) k.1 in
    let m = script_keeps c b r l.1.1 in
    ((k.0, l.0, m.0), m.1)
script_keeps (if_else e t u c) b r h =
    let r2 = sign marks.CloseBrace ∷ spell_script c r in
    let r4 = sign marks.CloseBrace ∷ sign marks.Else ∷ sign marks.OpenBrace ∷ spell_script u r2 in
    let k = test_keeps b e (spell_script t r4) h.1 in
    let l = script_keeps t (suc b) r4 k.1 in
    let m = script_keeps u (suc b) r2 l.1.1.1.1 in
    let n = script_keeps c b r m.1.1 in
    ((k.0, l.0, m.0, n.0), n.1)
script_keeps (while_ e t c) b r h =
    let k = test_keeps b e (spell_script t (sign marks.CloseBrace ∷ spell_script c r)) h.1 in
    let l = script_keeps t (suc b) (sign marks.CloseBrace ∷ spell_script c r) k.1 in
    let m = script_keeps c b r l.1.1 in
    ((k.0, l.0, m.0), m.1)
script_keeps (for_ x is e w y js f t c) b r h =
    let r1 = sign marks.CloseBrace ∷ spell_script c r in
    let r2 = sign marks.CloseParen ∷ sign marks.OpenBrace ∷ spell_script t r1 in
    let r3 = sign marks.Semicolon ∷ spell_set y js f r2 in
    let k = set_keeps (suc b) 2 0 x is e (sign marks.Semicolon ∷ spell w r3) h.1.1 in
    let l = formula_keeps (in_term (suc b)) (suc b) 1 0 (term_deep (suc b) (suc b)) w r3 k.1.1 in
    let m = set_keeps (suc b) 0 0 y js f r2 l.goes_on.1 in
    let n = script_keeps t (suc b) r1 m.1.1.1 in
    let o = script_keeps c b r n.1.1 in
    ((h.1.0.0, k.0, record { allows = l.allows; small = l.small }, m.0, n.0, o.0), o.1)

script_within : (c : Script) (b : ℕ) (r : List Symbol) → b ≤ 64 → Keeps b c → IsWithin (at_statement b) r → IsWithin (at_statement b) (spell_script c r)
script_within stop b r k a h = h
script_within (set x is e c) b r k a h =
    set_within b 0 x is e (sign marks.Semicolon ∷ spell_script c r) k a.0 ((k, omega arith), script_within c b r k a.1 h)
script_within (if_ e t c) b r k a h =
    let after = script_within c b r k a.2 h in
    ((k, omega arith), test_within b e (spell_script t (sign marks.CloseBrace ∷ spell_script c r)) k a.0 (script_within t (suc b) (sign marks.CloseBrace ∷ spell_script c r) a.0.room a.1 ((k, omega arith), after)))
script_within (if_else e t u c) b r k a h =
    let r2 = sign marks.CloseBrace ∷ spell_script c r in
    let r4 = sign marks.CloseBrace ∷ sign marks.Else ∷ sign marks.OpenBrace ∷ spell_script u r2 in
    let after = script_within c b r k a.3 h in
    let other = script_within u (suc b) r2 a.0.room a.2 ((k, omega arith), after) in
    ((k, omega arith), test_within b e (spell_script t r4) k a.0 (script_within t (suc b) r4 a.0.room a.1 ((k, omega arith), ((k, omega arith), ((a.0.room, omega arith), other)))))
script_within (while_ e t c) b r k a h =
    let after = script_within c b r k a.2 h in
    ((k, omega arith), test_within b e (spell_script t (sign marks.CloseBrace ∷ spell_script c r)) k a.0 (script_within t (suc b) (sign marks.CloseBrace ∷ spell_script c r) a.0.room a.1 ((k, omega arith), after)))
script_within (for_ x is e w y js f t c) b r k a h =
    let r1 = sign marks.CloseBrace ∷ spell_script c r in
    let r2 = sign marks.CloseParen ∷ sign marks.OpenBrace ∷ spell_script t r1 in
    let r3 = sign marks.Semicolon ∷ spell_set y js f r2 in
    let after = script_within c b r k a.5 h in
    let body = script_within t (suc b) r1 a.0 a.4 ((k, omega arith), after) in
    let next = set_within (suc b) 0 y js f r2 a.0 a.3 ((k, a.3.value.small), ((a.0, omega arith), body)) in
    let test = formula_within (in_term (suc b)) (suc b) 1 0 (term_deep (suc b) (suc b)) w r3 a.0 a.2.allows a.2.small ((a.0, omega arith), next) in
    ((k, omega arith), ((a.0, omega arith), set_within (suc b) 2 x is e (sign marks.Semicolon ∷ spell w r3) a.0 a.1 ((a.0, omega arith), test)))

-- the canonical form keeps what was kept

formula_kept : (b : ℕ) (e : Formula) → IsGrouped e → KeepsFormula b e → KeepsFormula b (canonical_formula e)
formula_kept b e g k = record { allows = (canonical_allowed b e g k.allows).plain; small = subst (λ n. n ≤ 256) (sym (canonical_counted 0 e)) k.small }

target_kept : (b : ℕ) (is : Formulas) → AreGrouped is → KeepsTarget b is → KeepsTarget b (canonical_formulas is)
target_kept b no_index g k = tt
target_kept b (index e is) g k = (k.0, formula_kept (suc b) e g.0 k.1, target_kept b is g.1 k.2)

set_kept : (b : ℕ) (is : Formulas) (e : Formula) → AreGrouped is → IsGrouped e → KeepsSet b is e → KeepsSet b (canonical_formulas is) (canonical_formula e)
set_kept b is e g h k = record { at_index = target_kept b is g k.at_index; value = formula_kept b e h k.value }

test_kept : (b : ℕ) (e : Formula) → IsGrouped e → KeepsTest b e → KeepsTest b (canonical_formula e)
test_kept b e g k = record { room = k.room; condition = formula_kept (suc b) e g k.condition }

script_kept : (c : Script) (b : ℕ) → IsScript c → Keeps b c → Keeps b (canonical_script c)
script_kept stop b g k = tt
script_kept (set x is e c) b g k = (set_kept b is e g.0 g.1 k.0, script_kept c b g.2 k.1)
script_kept (if_ e t c) b g k = (test_kept b e g.0 k.0, script_kept t (suc b) g.1 k.1, script_kept c b g.2 k.2)
script_kept (if_else e t u c) b g k = (test_kept b e g.0 k.0, script_kept t (suc b) g.1 k.1, script_kept u (suc b) g.2 k.2, script_kept c b g.3 k.3)
script_kept (while_ e t c) b g k = (test_kept b e g.0 k.0, script_kept t (suc b) g.1 k.1, script_kept c b g.2 k.2)
script_kept (for_ x is e w y js f t c) b g k =
    (k.0, set_kept (suc b) is e g.0 g.1 k.1, formula_kept (suc b) w g.2 k.2, set_kept (suc b) js f g.3 g.4 k.3, script_kept t (suc b) g.5 k.4, script_kept c b g.6 k.5)

-- symbols that change nothing

pub record IsSteady (n : Nest) (f : List Symbol → List Symbol) : Type 0 where
  pub enters : (r : List Symbol) → IsWithin n r → IsWithin n (f r)
  leaves : (r : List Symbol) → IsWithin n (f r) → IsWithin n r

both_steady : (n : Nest) (f g : List Symbol → List Symbol) → IsSteady n f → IsSteady n g → IsSteady n (λ r. f (g r))
both_steady n f g a b = record { enters = λ r h. a.enters (g r) (b.enters r h); leaves = λ r h. b.leaves r (a.leaves (g r) h) }

none_steady : (n : Nest) → IsSteady n (λ r. r)
none_steady n = record { enters = λ r h. h; leaves = λ r h. h }

one_steady : (n : Nest) (t : Symbol) → IsKept n → after_symbol n t ≡ n → IsSteady n (λ r. t ∷ r)
one_steady n t k e = record { enters = λ r h. on n n t r e k h; leaves = λ r h. (off n n t r e h).1 }

each_steady : {X : Type 0} (n : Nest) (f : X → List Symbol → List Symbol) → ((x : X) → IsSteady n (f x)) → (xs : List X) → IsSteady n (each f xs)
each_steady n f k [] = none_steady n
each_steady n f k (x ∷ xs) = both_steady n (f x) (each f xs) (k x) (each_steady n f k xs)

resting : IsKept at_rest
resting = (omega arith, omega arith)

num_after : (n : Nest) (m : Num) → after_symbol n (num_symbol m) ≡ n
num_after n (Digits v p) = refl
num_after n (Named x) = refl

at_rest_sign : (m : Mark) → after_symbol at_rest (sign m) ≡ at_rest → IsSteady at_rest (λ r. sign m ∷ r)
at_rest_sign m e = one_steady at_rest (sign m) resting e

at_rest_word : (x : Spot) → IsSteady at_rest (λ r. word x ∷ r)
at_rest_word x = one_steady at_rest (word x) resting refl

rest_num : (m : Num) → IsSteady at_rest (λ r. num_symbol m ∷ r)
rest_num m = one_steady at_rest (num_symbol m) resting (num_after at_rest m)

rest_size : (m : Num) → IsSteady at_rest (spell_size m)
rest_size m =
    both_steady at_rest (λ r. sign marks.OpenBracket ∷ r) (λ r. num_symbol m ∷ sign marks.CloseBracket ∷ r) (at_rest_sign marks.OpenBracket refl)
    (both_steady at_rest (λ r. num_symbol m ∷ r) (λ r. sign marks.CloseBracket ∷ r) (rest_num m) (at_rest_sign marks.CloseBracket refl))

rest_port : (p : Port) → IsSteady at_rest (spell_port p)
rest_port p =
    both_steady at_rest (λ r. sign marks.Int ∷ r) (λ r. word p.at ∷ each spell_size p.sizes r) (at_rest_sign marks.Int refl)
    (both_steady at_rest (λ r. word p.at ∷ r) (each spell_size p.sizes) (at_rest_word p.at) (each_steady at_rest spell_size rest_size p.sizes))

rest_sub : (s : Sub) → IsSteady at_rest (spell_sub s)
rest_sub Whole = both_steady at_rest (λ r. sign marks.OpenBracket ∷ r) (λ r. sign marks.CloseBracket ∷ r) (at_rest_sign marks.OpenBracket refl) (at_rest_sign marks.CloseBracket refl)
rest_sub (Free x) =
    both_steady at_rest (λ r. sign marks.OpenBracket ∷ r) (λ r. sign (marks.Operator ops.Mul) ∷ word x ∷ sign marks.CloseBracket ∷ r) (at_rest_sign marks.OpenBracket refl)
    (both_steady at_rest (λ r. sign (marks.Operator ops.Mul) ∷ r) (λ r. word x ∷ sign marks.CloseBracket ∷ r) (at_rest_sign (marks.Operator ops.Mul) refl)
    (both_steady at_rest (λ r. word x ∷ r) (λ r. sign marks.CloseBracket ∷ r) (at_rest_word x) (at_rest_sign marks.CloseBracket refl)))

rest_arg : (a : Arg) → IsSteady at_rest (spell_arg a)
rest_arg a = both_steady at_rest (λ r. word a.at ∷ r) (each spell_sub a.subs) (at_rest_word a.at) (each_steady at_rest spell_sub rest_sub a.subs)

rest_out : (a : OutArg) → IsSteady at_rest (spell_out a)
rest_out (Fresh p) = rest_port p
rest_out (Old a) = rest_arg a

rest_separated : {X : Type 0} (f : X → List Symbol → List Symbol) → ((x : X) → IsSteady at_rest (f x)) → (xs : List X) → IsSteady at_rest (separated f xs)
rest_separated f k [] = none_steady at_rest
rest_separated f k (x ∷ xs) =
    both_steady at_rest (f x) (each (after_comma f) xs) (k x)
    (each_steady at_rest (after_comma f) (λ y. both_steady at_rest (λ r. sign marks.Comma ∷ r) (f y) (at_rest_sign marks.Comma refl) (k y)) xs)

rest_sides : {I O : Type 0} (f : I → List Symbol → List Symbol) (g : O → List Symbol → List Symbol) → ((x : I) → IsSteady at_rest (f x)) → ((x : O) → IsSteady at_rest (g x)) → (x : Spot) (is : List I) (os : List O)
    → IsSteady at_rest (λ r. word x ∷ sign marks.In ∷ sign marks.OpenParen ∷ separated f is (sign marks.CloseParen ∷ sign marks.Out ∷ sign marks.OpenParen ∷ separated g os (sign marks.CloseParen ∷ r)))
rest_sides f g k l x is os =
    let a = both_steady at_rest (separated g os) (λ r. sign marks.CloseParen ∷ r) (rest_separated g l os) (at_rest_sign marks.CloseParen refl) in
    let b = both_steady at_rest (λ r. sign marks.OpenParen ∷ r) (λ r. separated g os (sign marks.CloseParen ∷ r)) (at_rest_sign marks.OpenParen refl) a in
    let c = both_steady at_rest (λ r. sign marks.Out ∷ r) (λ r. sign marks.OpenParen ∷ separated g os (sign marks.CloseParen ∷ r)) (at_rest_sign marks.Out refl) b in
    let d = both_steady at_rest (λ r. sign marks.CloseParen ∷ r) (λ r. sign marks.Out ∷ sign marks.OpenParen ∷ separated g os (sign marks.CloseParen ∷ r)) (at_rest_sign marks.CloseParen refl) c in
    let e = both_steady at_rest (separated f is) (λ r. sign marks.CloseParen ∷ sign marks.Out ∷ sign marks.OpenParen ∷ separated g os (sign marks.CloseParen ∷ r)) (rest_separated f k is) d in
    let m = both_steady at_rest (λ r. sign marks.OpenParen ∷ r) (λ r. separated f is (sign marks.CloseParen ∷ sign marks.Out ∷ sign marks.OpenParen ∷ separated g os (sign marks.CloseParen ∷ r))) (at_rest_sign marks.OpenParen refl) e in
    let n = both_steady at_rest (λ r. sign marks.In ∷ r) (λ r. sign marks.OpenParen ∷ separated f is (sign marks.CloseParen ∷ sign marks.Out ∷ sign marks.OpenParen ∷ separated g os (sign marks.CloseParen ∷ r))) (at_rest_sign marks.In refl) m in
    both_steady at_rest (λ r. word x ∷ r) (λ r. sign marks.In ∷ sign marks.OpenParen ∷ separated f is (sign marks.CloseParen ∷ sign marks.Out ∷ sign marks.OpenParen ∷ separated g os (sign marks.CloseParen ∷ r))) (at_rest_word x) n

rest_call : (c : Call) → IsSteady at_rest (spell_call c)
rest_call c = rest_sides spell_arg spell_out rest_arg rest_out c.at c.ins c.outs

rest_signature : (h : Signature) → IsSteady at_rest (spell_signature h)
rest_signature h = rest_sides spell_port spell_port rest_port rest_port h.at h.ins h.outs

rest_clause : (m : Mark) (n : Option Num) → after_symbol at_rest (sign m) ≡ at_rest → IsSteady at_rest (spell_clause m n)
rest_clause m None e = none_steady at_rest
rest_clause m (Some n) e = both_steady at_rest (λ r. sign m ∷ r) (λ r. num_symbol n ∷ r) (at_rest_sign m e) (rest_num n)

rest_signed : (minus : Bool) (n : Num) → IsSteady at_rest (spell_signed minus n)
rest_signed false n = rest_num n
rest_signed true n =
    both_steady at_rest (λ r. sign (marks.Operator ops.Sub) ∷ r) (λ r. num_symbol n ∷ r) (at_rest_sign (marks.Operator ops.Sub) refl) (rest_num n)

rest_rescue : (x : Option Rescue) → IsSteady at_rest (spell_rescue_clause x)
rest_rescue None = none_steady at_rest
rest_rescue (Some x) =
    both_steady at_rest (λ r. sign marks.Rescue ∷ r) (spell_signed x.minus x.num) (at_rest_sign marks.Rescue refl) (rest_signed x.minus x.num)

-- local variables stand in a body

body_open : IsKept (at_statement 0)
body_open = (omega arith, omega arith)

local_size : (m : Num) → IsSteady (at_statement 0) (spell_size m)
local_size (Digits v p) = record { enters = λ r h. ((omega arith, omega arith), ((omega arith, omega arith), (body_open, h))); leaves = λ r h. h.1.1.1 }
local_size (Named x) = record { enters = λ r h. ((omega arith, omega arith), ((omega arith, omega arith), (body_open, h))); leaves = λ r h. h.1.1.1 }

local_steady : (p : Port) → IsSteady (at_statement 0) (spell_local p)
local_steady p =
    let n = at_statement 0 in
    both_steady n (λ r. sign marks.Int ∷ r) (λ r. word p.at ∷ each spell_size p.sizes (sign marks.Semicolon ∷ r)) (one_steady n (sign marks.Int) body_open refl)
    (both_steady n (λ r. word p.at ∷ r) (λ r. each spell_size p.sizes (sign marks.Semicolon ∷ r)) (one_steady n (word p.at) body_open refl)
    (both_steady n (each spell_size p.sizes) (λ r. sign marks.Semicolon ∷ r) (each_steady n spell_size local_size p.sizes) (one_steady n (sign marks.Semicolon) body_open refl)))

-- entries

kind_rests : (k : Kind) → after_symbol at_rest (sign (kind_mark k)) ≡ at_rest
kind_rests kinds.Seq = refl
kind_rests kinds.Comp = refl
kind_rests kinds.Pipe = refl
kind_rests kinds.Farm = refl
kind_rests kinds.Map = refl
kind_rests kinds.Reduce = refl
kind_rests kinds.Loop = refl

rest_kind : (k : Kind) → IsSteady at_rest (λ r. sign (kind_mark k) ∷ r)
rest_kind k = at_rest_sign (kind_mark k) (kind_rests k)

rest_end : (k : Kind) → IsSteady at_rest (spell_end k)
rest_end k = both_steady at_rest (λ r. sign marks.End ∷ r) (λ r. sign (kind_mark k) ∷ r) (at_rest_sign marks.End refl) (rest_kind k)

-- the symbols before the body of a `seq` are steady at rest
before_body_rests : (h : Signature) (b : Option Num) (x : Option Rescue) → IsSteady at_rest (λ r. sign marks.Seq ∷ spell_signature h (spell_clause marks.Budget b (spell_rescue_clause x r)))
before_body_rests h b x =
    both_steady at_rest (λ r. sign marks.Seq ∷ r) (λ r. spell_signature h (spell_clause marks.Budget b (spell_rescue_clause x r))) (at_rest_sign marks.Seq refl)
    (both_steady at_rest (spell_signature h) (λ r. spell_clause marks.Budget b (spell_rescue_clause x r)) (rest_signature h)
    (both_steady at_rest (spell_clause marks.Budget b) (spell_rescue_clause x) (rest_clause marks.Budget b refl) (rest_rescue x)))

rest_fixed : (i : Spot) (t : Symbol) → after_symbol at_rest t ≡ at_rest → IsSteady at_rest (λ r. sign marks.Const ∷ word i ∷ sign marks.Assign ∷ t ∷ sign marks.Semicolon ∷ r)
rest_fixed x t e =
    both_steady at_rest (λ r. sign marks.Const ∷ r) (λ r. word x ∷ sign marks.Assign ∷ t ∷ sign marks.Semicolon ∷ r) (at_rest_sign marks.Const refl)
    (both_steady at_rest (λ r. word x ∷ r) (λ r. sign marks.Assign ∷ t ∷ sign marks.Semicolon ∷ r) (at_rest_word x)
    (both_steady at_rest (λ r. sign marks.Assign ∷ r) (λ r. t ∷ sign marks.Semicolon ∷ r) (at_rest_sign marks.Assign refl)
    (both_steady at_rest (λ r. t ∷ r) (λ r. sign marks.Semicolon ∷ r) (one_steady at_rest t resting e) (at_rest_sign marks.Semicolon refl))))

pub rest_chained : (k : Kind) (h : Signature) (x : Option Rescue) (cs : List Call) → IsSteady at_rest (λ r. sign (kind_mark k) ∷ spell_signature h (spell_rescue_clause x (each spell_call cs (spell_end k r))))
rest_chained k h x cs =
    both_steady at_rest (λ r. sign (kind_mark k) ∷ r) (λ r. spell_signature h (spell_rescue_clause x (each spell_call cs (spell_end k r)))) (rest_kind k)
    (both_steady at_rest (spell_signature h) (λ r. spell_rescue_clause x (each spell_call cs (spell_end k r))) (rest_signature h)
    (both_steady at_rest (spell_rescue_clause x) (λ r. each spell_call cs (spell_end k r)) (rest_rescue x)
    (both_steady at_rest (each spell_call cs) (spell_end k) (each_steady at_rest spell_call rest_call cs) (rest_end k))))

pub rest_spread : (k : Kind) (h : Signature) (w : Option Num) (c : Call) → IsSteady at_rest (λ r. sign (kind_mark k) ∷ spell_signature h (spell_clause marks.Workers w (spell_call c (spell_end k r))))
rest_spread k h w c =
    both_steady at_rest (λ r. sign (kind_mark k) ∷ r) (λ r. spell_signature h (spell_clause marks.Workers w (spell_call c (spell_end k r)))) (rest_kind k)
    (both_steady at_rest (spell_signature h) (λ r. spell_clause marks.Workers w (spell_call c (spell_end k r))) (rest_signature h)
    (both_steady at_rest (spell_clause marks.Workers w) (λ r. spell_call c (spell_end k r)) (rest_clause marks.Workers w refl)
    (both_steady at_rest (spell_call c) (spell_end k) (rest_call c) (rest_end k))))

rest_turned : (h : Signature) (t : Num) (n : Option Num) (b c : Call) → IsSteady at_rest (spell_passage (turned h t n b c))
rest_turned h t n b c =
    let a1 = both_steady at_rest (spell_call c) (spell_end kinds.Loop) (rest_call c) (rest_end kinds.Loop) in
    let a2 = both_steady at_rest (λ r. sign marks.While ∷ r) (λ r. spell_call c (spell_end kinds.Loop r)) (at_rest_sign marks.While refl) a1 in
    let a3 = both_steady at_rest (spell_call b) (λ r. sign marks.While ∷ spell_call c (spell_end kinds.Loop r)) (rest_call b) a2 in
    let a4 = both_steady at_rest (spell_clause marks.Tokens n) (λ r. spell_call b (sign marks.While ∷ spell_call c (spell_end kinds.Loop r))) (rest_clause marks.Tokens n refl) a3 in
    let a5 = both_steady at_rest (λ r. num_symbol t ∷ r) (λ r. spell_clause marks.Tokens n (spell_call b (sign marks.While ∷ spell_call c (spell_end kinds.Loop r)))) (rest_num t) a4 in
    let a6 = both_steady at_rest (λ r. sign marks.Turns ∷ r) (λ r. num_symbol t ∷ spell_clause marks.Tokens n (spell_call b (sign marks.While ∷ spell_call c (spell_end kinds.Loop r)))) (at_rest_sign marks.Turns refl) a5 in
    let a7 = both_steady at_rest (spell_signature h) (λ r. sign marks.Turns ∷ num_symbol t ∷ spell_clause marks.Tokens n (spell_call b (sign marks.While ∷ spell_call c (spell_end kinds.Loop r)))) (rest_signature h) a6 in
    both_steady at_rest (λ r. sign marks.Loop ∷ r) (λ r. spell_signature h (sign marks.Turns ∷ num_symbol t ∷ spell_clause marks.Tokens n (spell_call b (sign marks.While ∷ spell_call c (spell_end kinds.Loop r))))) (at_rest_sign marks.Loop refl) a7

-- an entry passes no limit, and in its canonical form neither
pub record PassageKeeps (i : Passage) (r : List Symbol) : Type 0 where
  pub leaves : IsWithin at_rest r
  pub enters : (s : List Symbol) → IsWithin at_rest s → IsWithin at_rest (spell_passage (canonical_passage i) s)

steady_keeps : (i : Passage) (r : List Symbol) → IsSteady at_rest (spell_passage i) → canonical_passage i ≡ i → IsWithin at_rest (spell_passage i r) → PassageKeeps i r
steady_keeps i r k same h = record { leaves = k.leaves r h; enters = λ s l. subst (λ j. IsWithin at_rest (spell_passage j s)) (sym same) (k.enters s l) }

bodied_keeps : (g : Signature) (b : Option Num) (x : Option Rescue) (ls : List Port) (c : Script) (r : List Symbol) → IsScript c → IsWithin at_rest (spell_passage (bodied g b x ls c) r) → PassageKeeps (bodied g b x ls c) r
bodied_keeps g b x ls c r proper h =
    let inner = (before_body_rests g b x).leaves (sign marks.OpenBody ∷ each spell_local ls (spell_script c (sign marks.CloseBody ∷ spell_end kinds.Seq r))) h in
    let statements = (each_steady (at_statement 0) spell_local local_steady ls).leaves (spell_script c (sign marks.CloseBody ∷ spell_end kinds.Seq r)) inner.1 in
    let k = script_keeps c 0 (sign marks.CloseBody ∷ spell_end kinds.Seq r) statements in record {
      leaves = (rest_end kinds.Seq).leaves r k.1.1;
      enters = λ s l.
          let last = (rest_end kinds.Seq).enters s l in
          let statements = script_within (canonical_script c) 0 (sign marks.CloseBody ∷ spell_end kinds.Seq s) (omega arith) (script_kept c 0 proper k.0) (resting, last) in
          (before_body_rests g b x).enters (sign marks.OpenBody ∷ each spell_local ls (spell_script (canonical_script c) (sign marks.CloseBody ∷ spell_end kinds.Seq s)))
          (body_open, (each_steady (at_statement 0) spell_local local_steady ls).enters (spell_script (canonical_script c) (sign marks.CloseBody ∷ spell_end kinds.Seq s)) statements);
    }

pub passage_keeps : (i : Passage) (r : List Symbol) → IsPassage i → IsWithin at_rest (spell_passage i r) → PassageKeeps i r
passage_keeps (fixed x v p) r proper h = steady_keeps (fixed x v p) r (rest_fixed x (digits v p) refl) refl h
passage_keeps (bodied g b x ls c) r proper h = bodied_keeps g b x ls c r proper.1 h
passage_keeps (chained k g x cs) r proper h = steady_keeps (chained k g x cs) r (rest_chained k g x cs) refl h
passage_keeps (spread k g w c) r proper h = steady_keeps (spread k g w c) r (rest_spread k g w c) refl h
passage_keeps (turned g t n b c) r proper h = steady_keeps (turned g t n b c) r (rest_turned g t n b c) refl h

pub text_within : (is : List Passage) → IsText is → IsWithin at_rest (spell_text is []) → IsWithin at_rest (spell_text (canonical_passages is) [])
text_within [] proper h = tt
text_within (i ∷ is) proper h =
    let k = passage_keeps i (spell_text is []) proper.0 h in
    k.enters (spell_text (canonical_passages is) []) (text_within is proper.1 k.leaves)
