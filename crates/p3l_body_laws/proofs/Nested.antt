-- The statements of a text that passes no limit keep the limits of bodies.
use Rattle.std.proofs.Common.{◌≡◌, ℕ, suc, ◌+◌, ◌≤◌, Bool, true, false, List, ◌∷◌, refl, subst, arith}
use Rattle.std.specs.Prelude.{nat_le, not, ◌&&◌}
use Rattle.std.proofs.lemmas.Bool.Decides.{nat_tests}
use Rattle.p3l_ast.specs.declared.position.Spot.{Spot}
use Rattle.p3l_ast.specs.declared.expression.UnOp.{UnOp}
use Rattle.p3l_ast.specs.declared.expression.UnOp.TheVariants.{Neg, Not, Flip}
use Rattle.p3l_lexer.specs.declared.mark.Mark.TheVariants as marks
use Rattle.p3l_grammar.specs.declared.nest.Nest.{Nest}
use Rattle.p3l_grammar.specs.Symbol.{Symbol, sign, unary_mark}
use Rattle.p3l_grammar.specs.Limits.{at_statement, after_symbol, IsKept, IsWithin}
use Rattle.p3l_grammar.specs.Written.{Formula, numeral, place, prefix, infix_, paren, Formulas, no_index, index, Script, stop, set, if_, if_else, while_, for_, spell, spell_index, spell_set, spell_script, tree, trees, script_tree}
use Rattle.p3l_compile.specs.Limits.{operators, index_operators, nesting, index_nesting, IsLimited, AreLimited, KeepsLimits}

-- in a body, in a term or in a target, with the brackets that were open where the part began
abbrev pub nest : Bool → ℕ → ℕ → ℕ → ℕ → Nest
nest in_term base brackets wanted operators = record {
  in_body = true;
  brackets = brackets;
  wanted = wanted;
  in_term = in_term;
  base = base;
  operators = operators;
}

-- a bracket that opens here begins no expression
abbrev IsDeep : Bool → ℕ → ℕ → Type 0
IsDeep in_term base brackets = not in_term && nat_le brackets base ≡ false

deeper : (t : Bool) (base b : ℕ) → IsDeep t base b → IsDeep t base (suc b)
deeper true base b d = refl
deeper false base b d = let k : nat_le (suc b) base ≡ false = grind (arith, nat_tests) in k

above : (b : ℕ) → IsDeep false b (suc b)
above b = let k : nat_le (suc b) b ≡ false = grind (arith, nat_tests) in k

-- one symbol, taken off
off : (n m : Nest) (t : Symbol) (r : List Symbol) → after_symbol n t ≡ m → IsWithin n (t ∷ r) → IsKept m × IsWithin m r
off n m t r e h = (subst IsKept e h.0, subst (λ k. IsWithin k r) e h.1)

after_open : (t : Bool) (base b w o : ℕ) → IsDeep t base b → after_symbol (nest t base b w o) (sign marks.OpenBracket) ≡ nest t base (suc b) w o
after_open t base b w o d = rw d refl

after_prefix : (u : UnOp) (t : Bool) (base b w o : ℕ) → after_symbol (nest t base b w o) (sign (unary_mark u)) ≡ nest t base b w (suc o)
after_prefix Neg t base b w o = refl
after_prefix Not t base b w o = refl
after_prefix Flip t base b w o = refl

after_target : (b w o : ℕ) → after_symbol (nest false b b w o) (sign marks.OpenBracket) ≡ nest false b (suc b) w 0
after_target b w o = let h : nat_le b b ≡ true = grind (arith, nat_tests) in rw h refl

-- the symbols of an expression with `count` operators and indices at most `deep` deep, and what
-- follows them
record Passed (t : Bool) (base b w o : ℕ) (deep count : ℕ) (r : List Symbol) : Type 0 where
  flat : b + deep ≤ 64
  total : ℕ
  total_is : total ≡ o + count
  few : total ≤ 256
  goes_on : IsWithin (nest t base b w total) r

mutual
  passed : (t : Bool) (base b w o : ℕ) (d : IsDeep t base b) (e : Formula) (r : List Symbol) → IsWithin (nest t base b w o) (spell e r) →
      Passed t base b w o (nesting (tree e)) (operators (tree e)) r
  passed t base b w o d (numeral v q) r h =
      record { flat = omega (arith, h.0.0); total = o; total_is = omega arith; few = h.0.1; goes_on = h.1 }
  passed t base b w o d (place x is) r h =
      let k = all_passed t base b w o d is r h.0.0 h.0.1 h.1 in
      record { flat = k.flat; total = k.total; total_is = k.total_is; few = k.few; goes_on = k.goes_on }
  passed t base b w o d (prefix u e) r h =
      let a = off (nest t base b w o) (nest t base b w (suc o)) (sign (unary_mark u)) (spell e r) (after_prefix u t base b w o) h in
      let k = passed t base b w (suc o) d e r a.1 in
      record { flat = k.flat; total = k.total; total_is = omega (arith, k.total_is); few = k.few; goes_on = k.goes_on }
  passed t base b w o d (infix_ u x y) r h =
      let k = passed t base b w o d x (sign (marks.Operator u) ∷ spell y r) h in
      let l = passed t base b w (suc k.total) d y r k.goes_on.1 in record {
        flat = omega (arith, k.flat, l.flat);
        total = l.total;
        total_is = omega (arith, k.total_is, l.total_is);
        few = l.few;
        goes_on = l.goes_on;
      }
  passed t base b w o d (paren e) r h =
      let k = passed t base (suc b) w o (deeper t base b d) e (sign marks.CloseParen ∷ r) h.1 in
      record { flat = omega (arith, k.flat); total = k.total; total_is = k.total_is; few = k.few; goes_on = k.goes_on.1 }

  all_passed : (t : Bool) (base b w o : ℕ) (d : IsDeep t base b) (is : Formulas) (r : List Symbol) → b ≤ 64 → o ≤ 256 → IsWithin (nest t base b w o) (spell_index is r) →
      Passed t base b w o (index_nesting (trees is)) (index_operators (trees is)) r
  all_passed t base b w o d no_index r low few h =
      record { flat = omega arith; total = o; total_is = omega arith; few = few; goes_on = h }
  all_passed t base b w o d (index e is) r low few h =
      let a = off (nest t base b w o) (nest t base (suc b) w o) (sign marks.OpenBracket) (spell e (sign marks.CloseBracket ∷ spell_index is r)) (after_open t base b w o d) h in
      let k = passed t base (suc b) w o (deeper t base b d) e (sign marks.CloseBracket ∷ spell_index is r) a.1 in
      let l = all_passed t base b w k.total d is r low k.few k.goes_on.1 in record {
        flat = omega (arith, k.flat, l.flat);
        total = l.total;
        total_is = omega (arith, k.total_is, l.total_is);
        few = l.few;
        goes_on = l.goes_on;
      }

-- an expression of its own
limited : (t : Bool) (base b w : ℕ) (e : Formula) (r : List Symbol) → Passed t base b w 0 (nesting (tree e)) (operators (tree e)) r → IsLimited (tree e)
limited t base b w e r k = record { few = omega (arith, k.total_is, k.few); flat = omega (arith, k.flat) }

-- the indices of a target, each an expression of its own
target_limited : (b w o : ℕ) (is : Formulas) (r : List Symbol) → IsWithin (nest false b b w o) (spell_index is r) →
    AreLimited (trees is) × ((last : ℕ) × IsWithin (nest false b b w last) r)
target_limited b w o no_index r h = (tt, (o, h))
target_limited b w o (index e is) r h =
    let a = off (nest false b b w o) (nest false b (suc b) w 0) (sign marks.OpenBracket) (spell e (sign marks.CloseBracket ∷ spell_index is r)) (after_target b w o) h in
    let k = passed false b (suc b) w 0 (above b) e (sign marks.CloseBracket ∷ spell_index is r) a.1 in
    let l = target_limited b w k.total is r k.goes_on.1 in
    ((limited false b (suc b) w e (sign marks.CloseBracket ∷ spell_index is r) k, l.0), l.1)

-- an assignment, and what follows it
record SetPassed (b w : ℕ) (is : Formulas) (e : Formula) (r : List Symbol) : Type 0 where
  target : AreLimited (trees is)
  value : IsLimited (tree e)
  last : ℕ
  goes_on : IsWithin (nest true b b w last) r

set_passed : (b w o : ℕ) (x : Spot) (is : Formulas) (e : Formula) (r : List Symbol) → IsWithin (nest false b b w o) (spell_set x is e r) → SetPassed b w is e r
set_passed b w o x is e r h =
    let k = target_limited b w o is (sign marks.Assign ∷ spell e r) h.1 in
    let l = passed true b b w 0 refl e r k.1.1.1 in
    record { target = k.0; value = limited true b b w e r l; last = l.total; goes_on = l.goes_on }

-- a condition in parentheses, with a block after it
test_passed : (b : ℕ) (e : Formula) (r : List Symbol) → IsWithin (nest true b b 0 0) (sign marks.OpenParen ∷ spell e (sign marks.CloseParen ∷ sign marks.OpenBrace ∷ r)) →
    IsLimited (tree e) × IsWithin (at_statement (suc b)) r
test_passed b e r h =
    let k = passed true b (suc b) 0 0 refl e (sign marks.CloseParen ∷ sign marks.OpenBrace ∷ r) h.1 in
    (limited true b (suc b) 0 e (sign marks.CloseParen ∷ sign marks.OpenBrace ∷ r) k, k.goes_on.1.1)

pub script_limited : (c : Script) (b : ℕ) (r : List Symbol) → IsWithin (at_statement b) (spell_script c r) →
    KeepsLimits (script_tree c) × IsWithin (at_statement b) r
script_limited stop b r h = (tt, h)
script_limited (set x is e c) b r h =
    let k = set_passed b 0 0 x is e (sign marks.Semicolon ∷ spell_script c r) h in
    let l = script_limited c b r k.goes_on.1 in
    ((k.target, k.value, l.0), l.1)
script_limited (if_ e t c) b r h =
    let r1 = sign marks.CloseBrace ∷ spell_script c r in
    let k = test_passed b e (spell_script t r1) h.1 in
    let l = script_limited t (suc b) r1 k.1 in
    let m = script_limited c b r l.1.1 in
    ((k.0, l.0, m.0), m.1)
script_limited (if_else e t u c) b r h =
    let r1 = sign marks.CloseBrace ∷ spell_script c r in
    let r2 = sign marks.CloseBrace ∷ sign marks.Else ∷ sign marks.OpenBrace ∷ spell_script u r1 in
    let k = test_passed b e (spell_script t r2) h.1 in
    let l = script_limited t (suc b) r2 k.1 in
    let m = script_limited u (suc b) r1 l.1.1.1.1 in
    let n = script_limited c b r m.1.1 in
    ((k.0, l.0, m.0, n.0), n.1)
script_limited (while_ e t c) b r h =
    let r1 = sign marks.CloseBrace ∷ spell_script c r in
    let k = test_passed b e (spell_script t r1) h.1 in
    let l = script_limited t (suc b) r1 k.1 in
    let m = script_limited c b r l.1.1 in
    ((k.0, l.0, m.0), m.1)
script_limited (for_ x is e w y js f t c) b r h =
    let r1 = sign marks.CloseBrace ∷ spell_script c r in
    let r2 = sign marks.CloseParen ∷ sign marks.OpenBrace ∷ spell_script t r1 in
    let r3 = sign marks.Semicolon ∷ spell_set y js f r2 in
    let k = set_passed (suc b) 2 0 x is e (sign marks.Semicolon ∷ spell w r3) h.1.1 in
    let l = passed true (suc b) (suc b) 1 0 refl w r3 k.goes_on.1 in
    let m = set_passed (suc b) 0 0 y js f r2 l.goes_on.1 in
    let n = script_limited t (suc b) r1 m.goes_on.1.1 in
    let o = script_limited c b r n.1.1 in
    ((k.target, k.value, limited true (suc b) (suc b) 1 w r3 l, m.target, m.value, n.0, o.0), o.1)
