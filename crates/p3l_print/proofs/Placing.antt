-- The tree that symbols derive does not depend on their positions.
use Rattle.std.proofs.Common.{◌≡◌, ◌≤◌, ◌<◌, ℤ, Bool, true, false, List, [], ◌∷◌, Option, Some, None, map, refl, sym, ap, ◌∙◌, subst}
use Rattle.std.specs.Prelude.{option_map}
use Rattle.p3l_ast.specs.declared.position.Pos.{Pos}
use Rattle.p3l_ast.specs.declared.position.Spot.{Spot}
use Rattle.p3l_ast.specs.declared.port.Num.{Num}
use Rattle.p3l_ast.specs.declared.port.Num.TheVariants.{Digits, Named}
use Rattle.p3l_ast.specs.declared.port.Port.{Port}
use Rattle.p3l_ast.specs.declared.call.Sub.{Sub}
use Rattle.p3l_ast.specs.declared.call.Sub.TheVariants.{Whole, Free}
use Rattle.p3l_ast.specs.declared.call.Arg.{Arg}
use Rattle.p3l_ast.specs.declared.call.OutArg.{OutArg}
use Rattle.p3l_ast.specs.declared.call.OutArg.TheVariants.{Fresh, Old}
use Rattle.p3l_ast.specs.declared.call.Call.{Call}
use Rattle.p3l_ast.specs.declared.expression.UnOp.{UnOp}
use Rattle.p3l_ast.specs.declared.expression.BinOp.{BinOp}
use Rattle.p3l_ast.specs.declared.module.Kind.{Kind}
use Rattle.p3l_ast.specs.declared.module.Kind.TheVariants as kinds
use Rattle.p3l_ast.specs.declared.module.Rescue.{Rescue}
use Rattle.p3l_ast.specs.Tree.{read, unary, binary, more, EntryTree, constant}
use Rattle.p3l_ast.specs.Unplaced.{nowhere, spot_unplaced, num_unplaced, port_unplaced, sub_unplaced, arg_unplaced, out_unplaced, call_unplaced, rescue_unplaced, phrase_unplaced, phrases_unplaced, statements_unplaced, entry_unplaced}
use Rattle.p3l_lexer.specs.declared.mark.Mark.{Mark}
use Rattle.p3l_ast.specs.declared.expression.BinOp.TheVariants as ops
use Rattle.p3l_lexer.specs.declared.mark.Mark.TheVariants as marks
use Rattle.p3l_ast.specs.Notation.{level}
use Rattle.p3l_grammar.specs.Symbol.{Symbol, word, digits, sign, faulty, unary_mark, kind_mark}
use Rattle.p3l_grammar.specs.Grammar.{Derives}
use Rattle.p3l_grammar.specs.Written.{Formula, numeral, place, prefix, infix_, paren, Formulas, no_index, index, Script, stop, set, if_, if_else, while_, for_, Signature, Passage, fixed, bodied, chained, spread, turned, tight, IsGrouped, AreGrouped, IsScript, HasOne, IsSignature, IsCall, AreCalls, IsChain, IsPassage, IsText, each, after_comma, separated, num_symbol, spell_size, spell_port, spell_sub, spell_arg, spell_out, spell_call, spell, spell_index, spell_set, spell_script, spell_signature, spell_clause, spell_signed, spell_rescue, spell_rescue_clause, spell_local, spell_end, spell_passage, spell_text, tree, trees, script_tree, passage_tree, text_tree}

-- symbols that are the same but for positions
abbrev pub Same : Symbol → Symbol → Type 0
Same (word x) (word y) = y.name ≡ x.name
Same (digits v p) (digits w q) = w ≡ v
Same (sign m) (sign n) = n ≡ m
Same faulty faulty = Unit {0}
Same _ _ = ⊥

abbrev pub AreSame : List Symbol → List Symbol → Type 0
AreSame [] [] = Unit {0}
AreSame (s ∷ ss) (t ∷ ts) = Same s t × AreSame ss ts
AreSame _ _ = ⊥

-- a form spelled at the front of symbols, and the symbols left after it
pub record Found {W : Type 0} (Alike : W → Type 0) (spelled : W → List Symbol → List Symbol) (r ts : List Symbol) : Type 0 where
  pub it : W
  pub alike : Alike it
  pub rest : List Symbol
  pub whole : ts ≡ spelled it rest
  pub left : AreSame r rest

abbrev mark_then : Mark → List Symbol → List Symbol
mark_then m r = sign m ∷ r

find_sign : (m : Mark) (r ts : List Symbol) → AreSame (sign m ∷ r) ts → Found {W = Mark} (λ n. n ≡ m) (λ n q. sign m ∷ q) r ts
find_sign m r [] h = absurd h
find_sign m r (word x ∷ ts) h = absurd h.0
find_sign m r (digits v p ∷ ts) h = absurd h.0
find_sign m r (faulty ∷ ts) h = absurd h.0
find_sign m r (sign n ∷ ts) h = record { it = m; alike = refl; rest = ts; whole = ap (λ k. sign k ∷ ts) h.0; left = h.1 }

find_word : (x : Spot) (r ts : List Symbol) → AreSame (word x ∷ r) ts → Found {W = Spot} (λ y. spot_unplaced y ≡ spot_unplaced x) (λ y q. word y ∷ q) r ts
find_word x r [] h = absurd h
find_word x r (sign m ∷ ts) h = absurd h.0
find_word x r (digits v p ∷ ts) h = absurd h.0
find_word x r (faulty ∷ ts) h = absurd h.0
find_word x r (word y ∷ ts) h = record { it = y; alike = (λ i. record { name = h.0 i; pos = nowhere }); rest = ts; whole = refl; left = h.1 }

find_digits : (v : ℤ) (p : Pos) (r ts : List Symbol) → AreSame (digits v p ∷ r) ts → Found {W = Pos} (λ q. Unit {0}) (λ q s. digits v q ∷ s) r ts
find_digits v p r [] h = absurd h
find_digits v p r (sign m ∷ ts) h = absurd h.0
find_digits v p r (word x ∷ ts) h = absurd h.0
find_digits v p r (faulty ∷ ts) h = absurd h.0
find_digits v p r (digits w q ∷ ts) h = record { it = q; alike = tt; rest = ts; whole = ap (λ u. digits u q ∷ ts) h.0; left = h.1 }

-- lists

find_each : {X : Type 0} (f : X → List Symbol → List Symbol) (g : X → X) → ((x : X) (r ts : List Symbol) → AreSame (f x r) ts → Found (λ y. g y ≡ g x) f r ts)
    → (xs : List X) (r ts : List Symbol) → AreSame (each f xs r) ts → Found (λ ys. map g ys ≡ map g xs) (each f) r ts
find_each f g find [] r ts h = record { it = []; alike = refl; rest = ts; whole = refl; left = h }
find_each f g find (x ∷ xs) r ts h =
    let a = find x (each f xs r) ts h in
    let b = find_each f g find xs r a.rest a.left in
    record { it = a.it ∷ b.it; alike = (let p = a.alike in let q = b.alike in cc); rest = b.rest; whole = a.whole ∙ ap (f a.it) b.whole; left = b.left }

find_after : {X : Type 0} (f : X → List Symbol → List Symbol) (g : X → X) → ((x : X) (r ts : List Symbol) → AreSame (f x r) ts → Found (λ y. g y ≡ g x) f r ts)
    → (x : X) (r ts : List Symbol) → AreSame (after_comma f x r) ts → Found (λ y. g y ≡ g x) (after_comma f) r ts
find_after f g find x r ts h =
    let a = find_sign marks.Comma (f x r) ts h in
    let b = find x r a.rest a.left in
    record { it = b.it; alike = b.alike; rest = b.rest; whole = a.whole ∙ ap (mark_then marks.Comma) b.whole; left = b.left }

find_separated : {X : Type 0} (f : X → List Symbol → List Symbol) (g : X → X) → ((x : X) (r ts : List Symbol) → AreSame (f x r) ts → Found (λ y. g y ≡ g x) f r ts)
    → (xs : List X) (r ts : List Symbol) → AreSame (separated f xs r) ts → Found (λ ys. map g ys ≡ map g xs) (separated f) r ts
find_separated f g find [] r ts h = record { it = []; alike = refl; rest = ts; whole = refl; left = h }
find_separated f g find (x ∷ xs) r ts h =
    let a = find x (each (after_comma f) xs r) ts h in
    let b = find_each (after_comma f) g (find_after f g find) xs r a.rest a.left in
    record { it = a.it ∷ b.it; alike = (let p = a.alike in let q = b.alike in cc); rest = b.rest; whole = a.whole ∙ ap (f a.it) b.whole; left = b.left }

-- lists that look alike have an item both or neither
one_alike : {X : Type 0} (g : X → X) (ys xs : List X) → map g ys ≡ map g xs → HasOne xs → HasOne ys
one_alike g [] [] h one = one
one_alike g [] (x ∷ xs) h one = absurd cc
one_alike g (y ∷ ys) xs h one = tt

-- ports and calls

find_num : (n : Num) (r ts : List Symbol) → AreSame (num_symbol n ∷ r) ts → Found (λ m. num_unplaced m ≡ num_unplaced n) (λ m q. num_symbol m ∷ q) r ts
find_num (Digits v p) r ts h = let a = find_digits v p r ts h in record { it = Digits v a.it; alike = refl; rest = a.rest; whole = a.whole; left = a.left }
find_num (Named x) r ts h = let a = find_word x r ts h in record { it = Named a.it; alike = ap Named a.alike; rest = a.rest; whole = a.whole; left = a.left }

find_size : (n : Num) (r ts : List Symbol) → AreSame (spell_size n r) ts → Found (λ m. num_unplaced m ≡ num_unplaced n) spell_size r ts
find_size n r ts h =
    let a = find_sign marks.OpenBracket (num_symbol n ∷ sign marks.CloseBracket ∷ r) ts h in
    let b = find_num n (sign marks.CloseBracket ∷ r) a.rest a.left in
    let c = find_sign marks.CloseBracket r b.rest b.left in record {
      it = b.it;
      alike = b.alike;
      rest = c.rest;
      whole = a.whole ∙ ap (mark_then marks.OpenBracket) (b.whole ∙ ap (λ q. num_symbol b.it ∷ q) c.whole);
      left = c.left;
    }

find_port : (p : Port) (r ts : List Symbol) → AreSame (spell_port p r) ts → Found (λ q. port_unplaced q ≡ port_unplaced p) spell_port r ts
find_port p r ts h =
    let a = find_sign marks.Int (word p.at ∷ each spell_size p.sizes r) ts h in
    let b = find_word p.at (each spell_size p.sizes r) a.rest a.left in
    let c = find_each spell_size num_unplaced find_size p.sizes r b.rest b.left in record {
      it = record { at = b.it; sizes = c.it };
      alike = λ i. record { at = b.alike i; sizes = c.alike i };
      rest = c.rest;
      whole = a.whole ∙ ap (mark_then marks.Int) (b.whole ∙ ap (λ q. word b.it ∷ q) c.whole);
      left = c.left;
    }

find_sub : (s : Sub) (r ts : List Symbol) → AreSame (spell_sub s r) ts → Found (λ q. sub_unplaced q ≡ sub_unplaced s) spell_sub r ts
find_sub Whole r ts h =
    let a = find_sign marks.OpenBracket (sign marks.CloseBracket ∷ r) ts h in
    let b = find_sign marks.CloseBracket r a.rest a.left in
    record { it = Whole; alike = refl; rest = b.rest; whole = a.whole ∙ ap (mark_then marks.OpenBracket) b.whole; left = b.left }
find_sub (Free x) r ts h =
    let a = find_sign marks.OpenBracket (sign (marks.Operator ops.Mul) ∷ word x ∷ sign marks.CloseBracket ∷ r) ts h in
    let b = find_sign (marks.Operator ops.Mul) (word x ∷ sign marks.CloseBracket ∷ r) a.rest a.left in
    let c = find_word x (sign marks.CloseBracket ∷ r) b.rest b.left in
    let d = find_sign marks.CloseBracket r c.rest c.left in record {
      it = Free c.it;
      alike = ap Free c.alike;
      rest = d.rest;
      whole = a.whole ∙ ap (mark_then marks.OpenBracket) (b.whole ∙ ap (mark_then (marks.Operator ops.Mul)) (c.whole ∙ ap (λ q. word c.it ∷ q) d.whole));
      left = d.left;
    }

find_arg : (a : Arg) (r ts : List Symbol) → AreSame (spell_arg a r) ts → Found (λ q. arg_unplaced q ≡ arg_unplaced a) spell_arg r ts
find_arg x r ts h =
    let a = find_word x.at (each spell_sub x.subs r) ts h in
    let b = find_each spell_sub sub_unplaced find_sub x.subs r a.rest a.left in record {
      it = record { at = a.it; subs = b.it };
      alike = λ i. record { at = a.alike i; subs = b.alike i };
      rest = b.rest;
      whole = a.whole ∙ ap (λ q. word a.it ∷ q) b.whole;
      left = b.left;
    }

find_out : (a : OutArg) (r ts : List Symbol) → AreSame (spell_out a r) ts → Found (λ q. out_unplaced q ≡ out_unplaced a) spell_out r ts
find_out (Fresh p) r ts h = let a = find_port p r ts h in record { it = Fresh a.it; alike = ap Fresh a.alike; rest = a.rest; whole = a.whole; left = a.left }
find_out (Old x) r ts h = let a = find_arg x r ts h in record { it = Old a.it; alike = ap Old a.alike; rest = a.rest; whole = a.whole; left = a.left }

-- the inputs and the outputs
pub record Sides (I O : Type 0) : Type 0 where
  pub ins : List I
  pub outs : List O

abbrev spell_sides : {I O : Type 0} → (I → List Symbol → List Symbol) → (O → List Symbol → List Symbol) → Sides I O → List Symbol → List Symbol
spell_sides f k s r =
    sign marks.In ∷ sign marks.OpenParen ∷ separated f s.ins (sign marks.CloseParen ∷ sign marks.Out ∷ sign marks.OpenParen ∷ separated k s.outs (sign marks.CloseParen ∷ r))

record SidesAlike {I O : Type 0} (g : I → I) (l : O → O) (s q : Sides I O) : Type 0 where
  ins : map g q.ins ≡ map g s.ins
  outs : map l q.outs ≡ map l s.outs

find_sides : {I O : Type 0} (f : I → List Symbol → List Symbol) (g : I → I) (k : O → List Symbol → List Symbol) (l : O → O)
    → ((x : I) (r ts : List Symbol) → AreSame (f x r) ts → Found (λ y. g y ≡ g x) f r ts)
    → ((x : O) (r ts : List Symbol) → AreSame (k x r) ts → Found (λ y. l y ≡ l x) k r ts)
    → (s : Sides I O) (r ts : List Symbol) → AreSame (spell_sides f k s r) ts → Found (SidesAlike g l s) (spell_sides f k) r ts
find_sides f g k l find find' s r ts h =
    let r1 = sign marks.CloseParen ∷ r in
    let r2 = separated k s.outs r1 in
    let r3 = sign marks.CloseParen ∷ sign marks.Out ∷ sign marks.OpenParen ∷ r2 in
    let a = find_sign marks.In (sign marks.OpenParen ∷ separated f s.ins r3) ts h in
    let b = find_sign marks.OpenParen (separated f s.ins r3) a.rest a.left in
    let c = find_separated f g find s.ins r3 b.rest b.left in
    let d = find_sign marks.CloseParen (sign marks.Out ∷ sign marks.OpenParen ∷ r2) c.rest c.left in
    let e = find_sign marks.Out (sign marks.OpenParen ∷ r2) d.rest d.left in
    let m = find_sign marks.OpenParen r2 e.rest e.left in
    let n = find_separated k l find' s.outs r1 m.rest m.left in
    let o = find_sign marks.CloseParen r n.rest n.left in record {
      it = record { ins = c.it; outs = n.it };
      alike = record { ins = c.alike; outs = n.alike };
      rest = o.rest;
      whole = a.whole ∙ ap (mark_then marks.In) (b.whole ∙ ap (mark_then marks.OpenParen) (c.whole ∙ ap (separated f c.it)
          (d.whole ∙ ap (mark_then marks.CloseParen) (e.whole ∙ ap (mark_then marks.Out) (m.whole ∙ ap (mark_then marks.OpenParen) (n.whole ∙ ap (separated k n.it) o.whole))))));
      left = o.left;
    }

find_call : (c : Call) (r ts : List Symbol) → AreSame (spell_call c r) ts → Found (λ q. call_unplaced q ≡ call_unplaced c) spell_call r ts
find_call c r ts h =
    let s : Sides Arg OutArg = record { ins = c.ins; outs = c.outs } in
    let a = find_word c.at (spell_sides spell_arg spell_out s r) ts h in
    let b = find_sides spell_arg arg_unplaced spell_out out_unplaced find_arg find_out s r a.rest a.left in
    let p = b.alike.ins in
    let q = b.alike.outs in record {
      it = record { at = a.it; ins = b.it.ins; outs = b.it.outs };
      alike = λ i. record { at = a.alike i; ins = p i; outs = q i };
      rest = b.rest;
      whole = a.whole ∙ ap (λ q. word a.it ∷ q) b.whole;
      left = b.left;
    }

call_alike : (c d : Call) → call_unplaced d ≡ call_unplaced c → IsCall c → IsCall d
call_alike c d h k = (one_alike arg_unplaced d.ins c.ins (ap (λ x. x.ins) h) k.0, one_alike out_unplaced d.outs c.outs (ap (λ x. x.outs) h) k.1)

calls_alike : (cs ds : List Call) → map call_unplaced ds ≡ map call_unplaced cs → AreCalls cs → AreCalls ds
calls_alike [] [] h k = tt
calls_alike [] (d ∷ ds) h k = absurd cc
calls_alike (c ∷ cs) [] h k = tt
calls_alike (c ∷ cs) (d ∷ ds) h k =
    (call_alike c d (let p : call_unplaced d ≡ call_unplaced c = cc in p) k.0, calls_alike cs ds (let q : map call_unplaced ds ≡ map call_unplaced cs = cc in q) k.1)

-- expressions

record FormAlike (e d : Formula) : Type 0 where
  binds : tight d ≡ tight e
  grouped : IsGrouped e → IsGrouped d
  same : phrase_unplaced (tree d) ≡ phrase_unplaced (tree e)

record FormsAlike (is js : Formulas) : Type 0 where
  grouped : AreGrouped is → AreGrouped js
  same : phrases_unplaced (trees js) ≡ phrases_unplaced (trees is)

prefix_alike : (o : UnOp) (e d : Formula) → FormAlike e d → FormAlike (prefix o e) (prefix o d)
prefix_alike o e d a = record {
  binds = refl;
  grouped = λ h. (subst (λ n. 10 ≤ n) (sym a.binds) h.0, a.grouped h.1);
  same = ap (unary o) a.same;
}

infix_alike : (o : BinOp) (x y c d : Formula) → FormAlike x c → FormAlike y d → FormAlike (infix_ o x y) (infix_ o c d)
infix_alike o x y c d a b = record {
  binds = refl;
  grouped = λ h. (subst (λ n. level o ≤ n) (sym a.binds) h.0, subst (λ n. level o < n) (sym b.binds) h.1, a.grouped h.2, b.grouped h.3);
  same = ap (λ q. binary o q (phrase_unplaced (tree d))) a.same ∙ ap (binary o (phrase_unplaced (tree x))) b.same;
}

index_alike : (e d : Formula) (is js : Formulas) → FormAlike e d → FormsAlike is js → FormsAlike (index e is) (index d js)
index_alike e d is js a b = record {
  grouped = λ h. (a.grouped h.0, b.grouped h.1);
  same = ap (λ q. more q (phrases_unplaced (trees js))) a.same ∙ ap (more (phrase_unplaced (tree e))) b.same;
}

place_alike : (x y : Spot) (is js : Formulas) → spot_unplaced y ≡ spot_unplaced x → FormsAlike is js → FormAlike (place x is) (place y js)
place_alike x y is js h a = record {
  binds = refl;
  grouped = a.grouped;
  same = ap (λ q. read q (phrases_unplaced (trees js))) h ∙ ap (read (spot_unplaced x)) a.same;
}

paren_alike : (e d : Formula) → FormAlike e d → FormAlike (paren e) (paren d)
paren_alike e d a = record { binds = refl; grouped = a.grouped; same = a.same }

mutual
  find_formula : (e : Formula) (r ts : List Symbol) → AreSame (spell e r) ts → Found (FormAlike e) spell r ts
  find_formula (numeral v p) r ts h =
      let a = find_digits v p r ts h in
      record { it = numeral v a.it; alike = record { binds = refl; grouped = λ k. tt; same = refl }; rest = a.rest; whole = a.whole; left = a.left }
  find_formula (place x is) r ts h =
      let a = find_word x (spell_index is r) ts h in
      let b = find_formulas is r a.rest a.left in
      record { it = place a.it b.it; alike = place_alike x a.it is b.it a.alike b.alike; rest = b.rest; whole = a.whole ∙ ap (λ q. word a.it ∷ q) b.whole; left = b.left }
  find_formula (prefix o e) r ts h =
      let a = find_sign (unary_mark o) (spell e r) ts h in
      let b = find_formula e r a.rest a.left in
      record { it = prefix o b.it; alike = prefix_alike o e b.it b.alike; rest = b.rest; whole = a.whole ∙ ap (mark_then (unary_mark o)) b.whole; left = b.left }
  find_formula (infix_ o x y) r ts h =
      let a = find_formula x (sign (marks.Operator o) ∷ spell y r) ts h in
      let b = find_sign (marks.Operator o) (spell y r) a.rest a.left in
      let c = find_formula y r b.rest b.left in record {
        it = infix_ o a.it c.it;
        alike = infix_alike o x y a.it c.it a.alike c.alike;
        rest = c.rest;
        whole = a.whole ∙ ap (spell a.it) (b.whole ∙ ap (mark_then (marks.Operator o)) c.whole);
        left = c.left;
      }
  find_formula (paren e) r ts h =
      let a = find_sign marks.OpenParen (spell e (sign marks.CloseParen ∷ r)) ts h in
      let b = find_formula e (sign marks.CloseParen ∷ r) a.rest a.left in
      let c = find_sign marks.CloseParen r b.rest b.left in record {
        it = paren b.it;
        alike = paren_alike e b.it b.alike;
        rest = c.rest;
        whole = a.whole ∙ ap (mark_then marks.OpenParen) (b.whole ∙ ap (spell b.it) c.whole);
        left = c.left;
      }

  find_formulas : (is : Formulas) (r ts : List Symbol) → AreSame (spell_index is r) ts → Found (FormsAlike is) spell_index r ts
  find_formulas no_index r ts h = record { it = no_index; alike = record { grouped = λ k. tt; same = refl }; rest = ts; whole = refl; left = h }
  find_formulas (index e is) r ts h =
      let a = find_sign marks.OpenBracket (spell e (sign marks.CloseBracket ∷ spell_index is r)) ts h in
      let b = find_formula e (sign marks.CloseBracket ∷ spell_index is r) a.rest a.left in
      let c = find_sign marks.CloseBracket (spell_index is r) b.rest b.left in
      let d = find_formulas is r c.rest c.left in record {
        it = index b.it d.it;
        alike = index_alike e b.it is d.it b.alike d.alike;
        rest = d.rest;
        whole = a.whole ∙ ap (mark_then marks.OpenBracket) (b.whole ∙ ap (spell b.it) (c.whole ∙ ap (mark_then marks.CloseBracket) d.whole));
        left = d.left;
      }

-- statements

record Set : Type 0 where
  at : Spot
  at_index : Formulas
  value : Formula

record SetAlike (s q : Set) : Type 0 where
  at : spot_unplaced q.at ≡ spot_unplaced s.at
  at_index : FormsAlike s.at_index q.at_index
  value : FormAlike s.value q.value

abbrev spelled_set : Set → List Symbol → List Symbol
spelled_set s r = spell_set s.at s.at_index s.value r

find_set : (s : Set) (r ts : List Symbol) → AreSame (spelled_set s r) ts → Found (SetAlike s) spelled_set r ts
find_set s r ts h =
    let a = find_word s.at (spell_index s.at_index (sign marks.Assign ∷ spell s.value r)) ts h in
    let b = find_formulas s.at_index (sign marks.Assign ∷ spell s.value r) a.rest a.left in
    let c = find_sign marks.Assign (spell s.value r) b.rest b.left in
    let d = find_formula s.value r c.rest c.left in record {
      it = record { at = a.it; at_index = b.it; value = d.it };
      alike = record { at = a.alike; at_index = b.alike; value = d.alike };
      rest = d.rest;
      whole = a.whole ∙ ap (λ q. word a.it ∷ q) (b.whole ∙ ap (spell_index b.it) (c.whole ∙ ap (mark_then marks.Assign) d.whole));
      left = d.left;
    }

-- an expression in parentheses after a keyword
abbrev spelled_test : Mark → Formula → List Symbol → List Symbol
spelled_test m e r = sign m ∷ sign marks.OpenParen ∷ spell e (sign marks.CloseParen ∷ r)

find_test : (m : Mark) (e : Formula) (r ts : List Symbol) → AreSame (spelled_test m e r) ts → Found (FormAlike e) (spelled_test m) r ts
find_test m e r ts h =
    let a = find_sign m (sign marks.OpenParen ∷ spell e (sign marks.CloseParen ∷ r)) ts h in
    let b = find_sign marks.OpenParen (spell e (sign marks.CloseParen ∷ r)) a.rest a.left in
    let c = find_formula e (sign marks.CloseParen ∷ r) b.rest b.left in
    let d = find_sign marks.CloseParen r c.rest c.left in record {
      it = c.it;
      alike = c.alike;
      rest = d.rest;
      whole = a.whole ∙ ap (mark_then m) (b.whole ∙ ap (mark_then marks.OpenParen) (c.whole ∙ ap (spell c.it) d.whole));
      left = d.left;
    }

record ScriptAlike (c d : Script) : Type 0 where
  proper : IsScript c → IsScript d
  same : statements_unplaced (script_tree d) ≡ statements_unplaced (script_tree c)

set_alike : (s q : Set) (c d : Script) → SetAlike s q → ScriptAlike c d → ScriptAlike (set s.at s.at_index s.value c) (set q.at q.at_index q.value d)
set_alike s q c d a b = record {
  proper = λ h. (a.at_index.grouped h.0, a.value.grouped h.1, b.proper h.2);
  same = (let i = a.at in let j = a.at_index.same in let k = a.value.same in let l = b.same in cc);
}

if_alike : (e d : Formula) (t u c k : Script) → FormAlike e d → ScriptAlike t u → ScriptAlike c k → ScriptAlike (if_ e t c) (if_ d u k)
if_alike e d t u c k a b l = record {
  proper = λ h. (a.grouped h.0, b.proper h.1, l.proper h.2);
  same = (let p = a.same in let q = b.same in let r = l.same in cc);
}

if_else_alike : (e d : Formula) (t u f g c k : Script) → FormAlike e d → ScriptAlike t u → ScriptAlike f g → ScriptAlike c k → ScriptAlike (if_else e t f c) (if_else d u g k)
if_else_alike e d t u f g c k a b m l = record {
  proper = λ h. (a.grouped h.0, b.proper h.1, m.proper h.2, l.proper h.3);
  same = (let p = a.same in let q = b.same in let n = m.same in let r = l.same in cc);
}

while_alike : (e d : Formula) (t u c k : Script) → FormAlike e d → ScriptAlike t u → ScriptAlike c k → ScriptAlike (while_ e t c) (while_ d u k)
while_alike e d t u c k a b l = record {
  proper = λ h. (a.grouped h.0, b.proper h.1, l.proper h.2);
  same = (let p = a.same in let q = b.same in let r = l.same in cc);
}

for_alike : (s q : Set) (w v : Formula) (n o : Set) (b d c k : Script) → SetAlike s q → FormAlike w v → SetAlike n o → ScriptAlike b d → ScriptAlike c k
    → ScriptAlike (for_ s.at s.at_index s.value w n.at n.at_index n.value b c) (for_ q.at q.at_index q.value v o.at o.at_index o.value d k)
for_alike s q w v n o b d c k x y z u t = record {
  proper = λ h. (x.at_index.grouped h.0, x.value.grouped h.1, y.grouped h.2, z.at_index.grouped h.3, z.value.grouped h.4, u.proper h.5, t.proper h.6);
  same = (let a1 = x.at in let a2 = x.at_index.same in let a3 = x.value.same in let a4 = y.same in let a5 = z.at in let a6 = z.at_index.same in let a7 = z.value.same in
      let a8 = u.same in let a9 = t.same in cc);
}

-- a block, with the braces
abbrev spelled_block : Script → List Symbol → List Symbol
spelled_block b r = sign marks.OpenBrace ∷ spell_script b (sign marks.CloseBrace ∷ r)

find_script : (c : Script) (r ts : List Symbol) → AreSame (spell_script c r) ts → Found (ScriptAlike c) spell_script r ts
find_script stop r ts h = record { it = stop; alike = record { proper = λ k. tt; same = refl }; rest = ts; whole = refl; left = h }
find_script (set x is e c) r ts h =
    let s : Set = record { at = x; at_index = is; value = e } in
    let a = find_set s (sign marks.Semicolon ∷ spell_script c r) ts h in
    let b = find_sign marks.Semicolon (spell_script c r) a.rest a.left in
    let d = find_script c r b.rest b.left in record {
      it = set a.it.at a.it.at_index a.it.value d.it;
      alike = set_alike s a.it c d.it a.alike d.alike;
      rest = d.rest;
      whole = a.whole ∙ ap (spelled_set a.it) (b.whole ∙ ap (mark_then marks.Semicolon) d.whole);
      left = d.left;
    }
find_script (if_ e t c) r ts h =
    let r1 = spell_script c r in
    let r2 = sign marks.CloseBrace ∷ r1 in
    let a = find_test marks.If e (spelled_block t r1) ts h in
    let b = find_sign marks.OpenBrace (spell_script t r2) a.rest a.left in
    let d = find_script t r2 b.rest b.left in
    let f = find_sign marks.CloseBrace r1 d.rest d.left in
    let g = find_script c r f.rest f.left in record {
      it = if_ a.it d.it g.it;
      alike = if_alike e a.it t d.it c g.it a.alike d.alike g.alike;
      rest = g.rest;
      whole = a.whole ∙ ap (spelled_test marks.If a.it) (b.whole ∙ ap (mark_then marks.OpenBrace) (d.whole ∙ ap (spell_script d.it) (f.whole ∙ ap (mark_then marks.CloseBrace) g.whole)));
      left = g.left;
    }
find_script (if_else e t u c) r ts h =
    let r1 = spell_script c r in
    let r2 = sign marks.CloseBrace ∷ r1 in
    let r3 = sign marks.Else ∷ spelled_block u r1 in
    let r4 = sign marks.CloseBrace ∷ r3 in
    let a = find_test marks.If e (sign marks.OpenBrace ∷ spell_script t r4) ts h in
    let b = find_sign marks.OpenBrace (spell_script t r4) a.rest a.left in
    let d = find_script t r4 b.rest b.left in
    let f = find_sign marks.CloseBrace r3 d.rest d.left in
    let g = find_sign marks.Else (spelled_block u r1) f.rest f.left in
    let i = find_sign marks.OpenBrace (spell_script u r2) g.rest g.left in
    let j = find_script u r2 i.rest i.left in
    let k = find_sign marks.CloseBrace r1 j.rest j.left in
    let l = find_script c r k.rest k.left in record {
      it = if_else a.it d.it j.it l.it;
      alike = if_else_alike e a.it t d.it u j.it c l.it a.alike d.alike j.alike l.alike;
      rest = l.rest;
      whole = a.whole ∙ ap (spelled_test marks.If a.it) (b.whole ∙ ap (mark_then marks.OpenBrace) (d.whole ∙ ap (spell_script d.it) (f.whole ∙ ap (mark_then marks.CloseBrace)
          (g.whole ∙ ap (mark_then marks.Else) (i.whole ∙ ap (mark_then marks.OpenBrace) (j.whole ∙ ap (spell_script j.it) (k.whole ∙ ap (mark_then marks.CloseBrace) l.whole)))))));
      left = l.left;
    }
find_script (while_ e t c) r ts h =
    let r1 = spell_script c r in
    let r2 = sign marks.CloseBrace ∷ r1 in
    let a = find_test marks.While e (spelled_block t r1) ts h in
    let b = find_sign marks.OpenBrace (spell_script t r2) a.rest a.left in
    let d = find_script t r2 b.rest b.left in
    let f = find_sign marks.CloseBrace r1 d.rest d.left in
    let g = find_script c r f.rest f.left in record {
      it = while_ a.it d.it g.it;
      alike = while_alike e a.it t d.it c g.it a.alike d.alike g.alike;
      rest = g.rest;
      whole = a.whole ∙ ap (spelled_test marks.While a.it) (b.whole ∙ ap (mark_then marks.OpenBrace) (d.whole ∙ ap (spell_script d.it) (f.whole ∙ ap (mark_then marks.CloseBrace) g.whole)));
      left = g.left;
    }
find_script (for_ x is e w y js u t c) r ts h =
    let s : Set = record { at = x; at_index = is; value = e } in
    let n : Set = record { at = y; at_index = js; value = u } in
    let r1 = spell_script c r in
    let r2 = sign marks.CloseBrace ∷ r1 in
    let r3 = sign marks.CloseParen ∷ spelled_block t r1 in
    let r4 = sign marks.Semicolon ∷ spelled_set n r3 in
    let r5 = sign marks.Semicolon ∷ spell w r4 in
    let a = find_sign marks.For (sign marks.OpenParen ∷ spelled_set s r5) ts h in
    let b = find_sign marks.OpenParen (spelled_set s r5) a.rest a.left in
    let d = find_set s r5 b.rest b.left in
    let f = find_sign marks.Semicolon (spell w r4) d.rest d.left in
    let g = find_formula w r4 f.rest f.left in
    let i = find_sign marks.Semicolon (spelled_set n r3) g.rest g.left in
    let j = find_set n r3 i.rest i.left in
    let k = find_sign marks.CloseParen (spelled_block t r1) j.rest j.left in
    let l = find_sign marks.OpenBrace (spell_script t r2) k.rest k.left in
    let m = find_script t r2 l.rest l.left in
    let o = find_sign marks.CloseBrace r1 m.rest m.left in
    let p = find_script c r o.rest o.left in record {
      it = for_ d.it.at d.it.at_index d.it.value g.it j.it.at j.it.at_index j.it.value m.it p.it;
      alike = for_alike s d.it w g.it n j.it t m.it c p.it d.alike g.alike j.alike m.alike p.alike;
      rest = p.rest;
      whole = a.whole ∙ ap (mark_then marks.For) (b.whole ∙ ap (mark_then marks.OpenParen) (d.whole ∙ ap (spelled_set d.it) (f.whole ∙ ap (mark_then marks.Semicolon)
          (g.whole ∙ ap (spell g.it) (i.whole ∙ ap (mark_then marks.Semicolon) (j.whole ∙ ap (spelled_set j.it) (k.whole ∙ ap (mark_then marks.CloseParen)
          (l.whole ∙ ap (mark_then marks.OpenBrace) (m.whole ∙ ap (spell_script m.it) (o.whole ∙ ap (mark_then marks.CloseBrace) p.whole))))))))));
      left = p.left;
    }

-- entries

record SignatureAlike (h g : Signature) : Type 0 where
  at : spot_unplaced g.at ≡ spot_unplaced h.at
  ins : map port_unplaced g.ins ≡ map port_unplaced h.ins
  outs : map port_unplaced g.outs ≡ map port_unplaced h.outs

signature_alike : (h g : Signature) → SignatureAlike h g → IsSignature h → IsSignature g
signature_alike h g a k = (one_alike port_unplaced g.ins h.ins a.ins k.0, one_alike port_unplaced g.outs h.outs a.outs k.1)

find_signature : (g : Signature) (r ts : List Symbol) → AreSame (spell_signature g r) ts → Found (SignatureAlike g) spell_signature r ts
find_signature g r ts h =
    let s : Sides Port Port = record { ins = g.ins; outs = g.outs } in
    let a = find_word g.at (spell_sides spell_port spell_port s r) ts h in
    let b = find_sides spell_port port_unplaced spell_port port_unplaced find_port find_port s r a.rest a.left in record {
      it = record { at = a.it; ins = b.it.ins; outs = b.it.outs };
      alike = record { at = a.alike; ins = b.alike.ins; outs = b.alike.outs };
      rest = b.rest;
      whole = a.whole ∙ ap (λ q. word a.it ∷ q) b.whole;
      left = b.left;
    }

find_clause : (m : Mark) (c : Option Num) (r ts : List Symbol) → AreSame (spell_clause m c r) ts → Found (λ d. option_map num_unplaced d ≡ option_map num_unplaced c) (spell_clause m) r ts
find_clause m None r ts h = record { it = None; alike = refl; rest = ts; whole = refl; left = h }
find_clause m (Some n) r ts h =
    let a = find_sign m (num_symbol n ∷ r) ts h in
    let b = find_num n r a.rest a.left in
    record { it = Some b.it; alike = ap Some b.alike; rest = b.rest; whole = a.whole ∙ ap (mark_then m) b.whole; left = b.left }

-- a number after a minus or without one
find_signed : (minus : Bool) (n : Num) (r ts : List Symbol) → AreSame (spell_signed minus n r) ts → Found (λ d. num_unplaced d ≡ num_unplaced n) (spell_signed minus) r ts
find_signed false n r ts h = find_num n r ts h
find_signed true n r ts h =
    let a = find_sign (marks.Operator ops.Sub) (num_symbol n ∷ r) ts h in
    let b = find_num n r a.rest a.left in
    record { it = b.it; alike = b.alike; rest = b.rest; whole = a.whole ∙ ap (mark_then (marks.Operator ops.Sub)) b.whole; left = b.left }

abbrev some_rescue : Bool → Num → Option Rescue
some_rescue minus n = Some (record { minus = minus; num = n })

find_rescue : (x : Option Rescue) (r ts : List Symbol) → AreSame (spell_rescue_clause x r) ts → Found (λ y. option_map rescue_unplaced y ≡ option_map rescue_unplaced x) spell_rescue_clause r ts
find_rescue None r ts h = record { it = None; alike = refl; rest = ts; whole = refl; left = h }
find_rescue (Some x) r ts h =
    let a = find_sign marks.Rescue (spell_rescue x r) ts h in
    let b = find_signed x.minus x.num r a.rest a.left in record {
      it = some_rescue x.minus b.it;
      alike = ap (some_rescue x.minus) b.alike;
      rest = b.rest;
      whole = a.whole ∙ ap (mark_then marks.Rescue) b.whole;
      left = b.left;
    }

-- if a rescue may be given, one that differs only in positions may be too
chain_alike : (k : Kind) (x y : Option Rescue) → option_map rescue_unplaced y ≡ option_map rescue_unplaced x → IsChain k x → IsChain k y
chain_alike kinds.Comp x y p h = tt
chain_alike kinds.Pipe None None p h = tt
chain_alike kinds.Pipe None (Some y) p h = absurd cc
chain_alike kinds.Pipe (Some x) y p h = absurd h
chain_alike _ x y p h = absurd h

find_local : (p : Port) (r ts : List Symbol) → AreSame (spell_local p r) ts → Found (λ q. port_unplaced q ≡ port_unplaced p) spell_local r ts
find_local p r ts h =
    let a = find_port p (sign marks.Semicolon ∷ r) ts h in
    let b = find_sign marks.Semicolon r a.rest a.left in
    record { it = a.it; alike = a.alike; rest = b.rest; whole = a.whole ∙ ap (spell_port a.it) b.whole; left = b.left }

find_end : (k : Kind) (r ts : List Symbol) → AreSame (spell_end k r) ts → Found {W = Kind} (λ q. q ≡ k) (λ q s. spell_end k s) r ts
find_end k r ts h =
    let a = find_sign marks.End (sign (kind_mark k) ∷ r) ts h in
    let b = find_sign (kind_mark k) r a.rest a.left in
    record { it = k; alike = refl; rest = b.rest; whole = a.whole ∙ ap (mark_then marks.End) b.whole; left = b.left }

record PassageAlike (i j : Passage) : Type 0 where
  proper : IsPassage i → IsPassage j
  same : entry_unplaced (passage_tree j) ≡ entry_unplaced (passage_tree i)

bodied_alike : (h g : Signature) (b d : Option Num) (v w : Option Rescue) (ls ms : List Port) (c k : Script) → SignatureAlike h g → option_map num_unplaced d ≡ option_map num_unplaced b
    → option_map rescue_unplaced w ≡ option_map rescue_unplaced v → map port_unplaced ms ≡ map port_unplaced ls → ScriptAlike c k → PassageAlike (bodied h b v ls c) (bodied g d w ms k)
bodied_alike h g b d v w ls ms c k x p z q y = record {
  proper = λ n. (signature_alike h g x n.0, y.proper n.1);
  same = (let a1 = x.at in let a2 = x.ins in let a3 = x.outs in let a4 = y.same in cc);
}

chained_alike : (k : Kind) (h g : Signature) (v w : Option Rescue) (cs ds : List Call) → SignatureAlike h g → option_map rescue_unplaced w ≡ option_map rescue_unplaced v → map call_unplaced ds ≡ map call_unplaced cs
    → PassageAlike (chained k h v cs) (chained k g w ds)
chained_alike k h g v w cs ds x z p = record {
  proper = λ n. (chain_alike k v w z n.0, signature_alike h g x n.1, one_alike call_unplaced ds cs p n.2, calls_alike cs ds p n.3);
  same = (let a1 = x.at in let a2 = x.ins in let a3 = x.outs in cc);
}

spread_alike : (k : Kind) (h g : Signature) (w v : Option Num) (c d : Call) → SignatureAlike h g → option_map num_unplaced v ≡ option_map num_unplaced w → call_unplaced d ≡ call_unplaced c
    → PassageAlike (spread k h w c) (spread k g v d)
spread_alike k h g w v c d x p q = record {
  proper = λ n. (n.0, signature_alike h g x n.1, call_alike c d q n.2);
  same = (let a1 = x.at in let a2 = x.ins in let a3 = x.outs in cc);
}

turned_alike : (h g : Signature) (t u : Num) (n o : Option Num) (b d c k : Call) → SignatureAlike h g → num_unplaced u ≡ num_unplaced t → option_map num_unplaced o ≡ option_map num_unplaced n
    → call_unplaced d ≡ call_unplaced b → call_unplaced k ≡ call_unplaced c → PassageAlike (turned h t n b c) (turned g u o d k)
turned_alike h g t u n o b d c k x p q y z = record {
  proper = λ m. (signature_alike h g x m.0, call_alike b d y m.1, call_alike c k z m.2);
  same = (let a1 = x.at in let a2 = x.ins in let a3 = x.outs in cc);
}

find_passage : (i : Passage) (r ts : List Symbol) → AreSame (spell_passage i r) ts → Found (PassageAlike i) spell_passage r ts
find_passage (fixed x v p) r ts h =
    let a = find_sign marks.Const (word x ∷ sign marks.Assign ∷ digits v p ∷ sign marks.Semicolon ∷ r) ts h in
    let b = find_word x (sign marks.Assign ∷ digits v p ∷ sign marks.Semicolon ∷ r) a.rest a.left in
    let c = find_sign marks.Assign (digits v p ∷ sign marks.Semicolon ∷ r) b.rest b.left in
    let d = find_digits v p (sign marks.Semicolon ∷ r) c.rest c.left in
    let e = find_sign marks.Semicolon r d.rest d.left in record {
      it = fixed b.it v d.it;
      alike = record { proper = λ k. tt; same = ap (λ y. constant y v) b.alike };
      rest = e.rest;
      whole = a.whole ∙ ap (mark_then marks.Const) (b.whole ∙ ap (λ q. word b.it ∷ q) (c.whole ∙ ap (mark_then marks.Assign) (d.whole ∙ ap (λ q. digits v d.it ∷ q) e.whole)));
      left = e.left;
    }
find_passage (bodied g b x ls c) r ts h =
    let r1 = spell_end kinds.Seq r in
    let r2 = spell_script c (sign marks.CloseBody ∷ r1) in
    let r3 = sign marks.OpenBody ∷ each spell_local ls r2 in
    let r4 = spell_rescue_clause x r3 in
    let a = find_sign marks.Seq (spell_signature g (spell_clause marks.Budget b r4)) ts h in
    let d = find_signature g (spell_clause marks.Budget b r4) a.rest a.left in
    let e = find_clause marks.Budget b r4 d.rest d.left in
    let y = find_rescue x r3 e.rest e.left in
    let f = find_sign marks.OpenBody (each spell_local ls r2) y.rest y.left in
    let i = find_each spell_local port_unplaced find_local ls r2 f.rest f.left in
    let j = find_script c (sign marks.CloseBody ∷ r1) i.rest i.left in
    let k = find_sign marks.CloseBody r1 j.rest j.left in
    let l = find_end kinds.Seq r k.rest k.left in record {
      it = bodied d.it e.it y.it i.it j.it;
      alike = bodied_alike g d.it b e.it x y.it ls i.it c j.it d.alike e.alike y.alike i.alike j.alike;
      rest = l.rest;
      whole = a.whole ∙ ap (mark_then marks.Seq) (d.whole ∙ ap (spell_signature d.it) (e.whole ∙ ap (spell_clause marks.Budget e.it) (y.whole ∙ ap (spell_rescue_clause y.it) (f.whole ∙ ap (mark_then marks.OpenBody)
          (i.whole ∙ ap (each spell_local i.it) (j.whole ∙ ap (spell_script j.it) (k.whole ∙ ap (mark_then marks.CloseBody) l.whole)))))));
      left = l.left;
    }
find_passage (chained k g x cs) r ts h =
    let r1 = spell_end k r in
    let r2 = each spell_call cs r1 in
    let a = find_sign (kind_mark k) (spell_signature g (spell_rescue_clause x r2)) ts h in
    let b = find_signature g (spell_rescue_clause x r2) a.rest a.left in
    let y = find_rescue x r2 b.rest b.left in
    let c = find_each spell_call call_unplaced find_call cs r1 y.rest y.left in
    let d = find_end k r c.rest c.left in record {
      it = chained k b.it y.it c.it;
      alike = chained_alike k g b.it x y.it cs c.it b.alike y.alike c.alike;
      rest = d.rest;
      whole = a.whole ∙ ap (mark_then (kind_mark k)) (b.whole ∙ ap (spell_signature b.it) (y.whole ∙ ap (spell_rescue_clause y.it) (c.whole ∙ ap (each spell_call c.it) d.whole)));
      left = d.left;
    }
find_passage (spread k g w c) r ts h =
    let r1 = spell_end k r in
    let r2 = spell_call c r1 in
    let a = find_sign (kind_mark k) (spell_signature g (spell_clause marks.Workers w r2)) ts h in
    let b = find_signature g (spell_clause marks.Workers w r2) a.rest a.left in
    let d = find_clause marks.Workers w r2 b.rest b.left in
    let e = find_call c r1 d.rest d.left in
    let f = find_end k r e.rest e.left in record {
      it = spread k b.it d.it e.it;
      alike = spread_alike k g b.it w d.it c e.it b.alike d.alike e.alike;
      rest = f.rest;
      whole = a.whole ∙ ap (mark_then (kind_mark k)) (b.whole ∙ ap (spell_signature b.it) (d.whole ∙ ap (spell_clause marks.Workers d.it) (e.whole ∙ ap (spell_call e.it) f.whole)));
      left = f.left;
    }
find_passage (turned g t n b c) r ts h =
    let r1 = spell_end kinds.Loop r in
    let r2 = sign marks.While ∷ spell_call c r1 in
    let r3 = spell_clause marks.Tokens n (spell_call b r2) in
    let r4 = sign marks.Turns ∷ num_symbol t ∷ r3 in
    let a = find_sign marks.Loop (spell_signature g r4) ts h in
    let d = find_signature g r4 a.rest a.left in
    let e = find_sign marks.Turns (num_symbol t ∷ r3) d.rest d.left in
    let f = find_num t r3 e.rest e.left in
    let i = find_clause marks.Tokens n (spell_call b r2) f.rest f.left in
    let j = find_call b r2 i.rest i.left in
    let k = find_sign marks.While (spell_call c r1) j.rest j.left in
    let l = find_call c r1 k.rest k.left in
    let m = find_end kinds.Loop r l.rest l.left in record {
      it = turned d.it f.it i.it j.it l.it;
      alike = turned_alike g d.it t f.it n i.it b j.it c l.it d.alike f.alike i.alike j.alike l.alike;
      rest = m.rest;
      whole = a.whole ∙ ap (mark_then marks.Loop) (d.whole ∙ ap (spell_signature d.it) (e.whole ∙ ap (mark_then marks.Turns) (f.whole ∙ ap (λ q. num_symbol f.it ∷ q)
          (i.whole ∙ ap (spell_clause marks.Tokens i.it) (j.whole ∙ ap (spell_call j.it) (k.whole ∙ ap (mark_then marks.While) (l.whole ∙ ap (spell_call l.it) m.whole)))))));
      left = m.left;
    }

record TextAlike (is js : List Passage) : Type 0 where
  proper : IsText is → IsText js
  same : map entry_unplaced (text_tree js) ≡ map entry_unplaced (text_tree is)

text_alike : (i j : Passage) (is js : List Passage) → PassageAlike i j → TextAlike is js → TextAlike (i ∷ is) (j ∷ js)
text_alike i j is js a b = record { proper = λ h. (a.proper h.0, b.proper h.1); same = (let p = a.same in let q = b.same in cc) }

find_text : (is : List Passage) (r ts : List Symbol) → AreSame (spell_text is r) ts → Found (TextAlike is) spell_text r ts
find_text [] r ts h = record { it = []; alike = record { proper = λ k. tt; same = refl }; rest = ts; whole = refl; left = h }
find_text (i ∷ is) r ts h =
    let a = find_passage i (spell_text is r) ts h in
    let b = find_text is r a.rest a.left in
    record { it = a.it ∷ b.it; alike = text_alike i a.it is b.it a.alike b.alike; rest = b.rest; whole = a.whole ∙ ap (spell_passage a.it) b.whole; left = b.left }

-- symbols that are the same but for positions derive programs that are the same but for positions
pub record DerivesAlike (es : List EntryTree) (ts : List Symbol) : Type 0 where
  pub entries : List EntryTree
  pub derives : Derives ts entries
  pub same : map entry_unplaced entries ≡ map entry_unplaced es

no_more : (ts : List Symbol) → AreSame [] ts → ts ≡ []
no_more [] h = refl
no_more (t ∷ ts) h = absurd h

pub derives_alike : (is : List Passage) (ts : List Symbol) → IsText is → AreSame (spell_text is []) ts → DerivesAlike (text_tree is) ts
derives_alike is ts proper h =
    let a = find_text is [] ts h in record {
      entries = text_tree a.it;
      derives = record { written = a.it; is_text = a.alike.proper proper; spelled = a.whole ∙ ap (spell_text a.it) (no_more a.rest a.left); tree_is = refl };
      same = a.alike.same;
    }
