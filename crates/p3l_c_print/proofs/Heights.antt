-- The heights of expressions before whose use no lines stand, by what these are made of.
use Rattle.std.proofs.Common.{◌≡◌, ◌≢◌, ℕ, ℤ, ◌+◌, Bool, true, false, List, [], ◌∷◌, Some, None, length, refl, ap, sym, ◌∙◌, max, arith}
use Rattle.std.specs.Prelude.{nat_le, if◌then◌else◌, ◌&&◌, not, is_some}
use Rattle.std.specs.declared.boxed.Box.{Box}
use Rattle.std.specs.declared.alloc.Global.{Global}
use Rattle.p3l_ast.specs.declared.expression.UnOp.{UnOp}
use Rattle.p3l_ast.specs.declared.expression.BinOp.{BinOp}
use Rattle.p3l_ast.specs.declared.expression.BinOp.TheVariants.{Or, And, BitOr, BitXor, BitAnd, Eq, Ne, Lt, Le, Gt, Ge, Shl, Shr, Add, Sub, Mul, Div, Rem}
use Rattle.p3l_ast.specs.declared.expression.Expr.{Expr}
use Rattle.p3l_ast.specs.declared.expression.Expr.TheVariants.{Number, Read, Unary, Binary}
use Rattle.p3l_ast.specs.declared.expression.Target.{Target}
use Rattle.p3l_ast.specs.Tree.{Phrase, phrase, phrases, read, binary}
use Rattle.p3l_ast.proofs.Trees.{phrase_number, phrase_unary, phrase_binary, phrase_read}
use Rattle.p3l_c.specs.Translate.{height, is_plain, is_steady, lowered}
use Rattle.p3l_c_print.specs.declared.operator.Class.TheVariants.{Guarded}
use Rattle.p3l_c_print.specs.Value.{class_of}
use Rattle.p3l_c_print.specs.Plain.{plain_height, steady_height, shallow, over_both}

pub number_plain : (v : ℤ) → plain_height (phrase (Number v)) ≡ Some 0
unfolding plain_height is_plain height
number_plain v = ap plain_height (phrase_number v)

scalar : (x : _) (es : List Expr) → length es ≡ 0 → plain_height (read x (phrases es)) ≡ Some 0
unfolding plain_height is_plain height
scalar x [] h = refl
scalar x (e ∷ es) h = absurd (omega (arith, h))

element : (x : _) (es : List Expr) → length es ≢ 0 → plain_height (read x (phrases es)) ≡ None
unfolding plain_height is_plain height
element x [] h = absurd (h refl)
element x (e ∷ es) h = refl

pub scalar_plain : (t : Target) → length t.index.items ≡ 0 → plain_height (phrase (Read t)) ≡ Some 0
scalar_plain t h = ap plain_height (phrase_read t.at t.index) ∙ scalar t.at t.index.items h

pub element_plain : (t : Target) → length t.index.items ≢ 0 → plain_height (phrase (Read t)) ≡ None
element_plain t h = ap plain_height (phrase_read t.at t.index) ∙ element t.at t.index.items h

same_max : (h : ℕ) → max h h ≡ h
same_max h = omega arith

alone : (p : Bool) (h : ℕ) → (if (p && not (nat_le 16 h)) then Some (lowered h + 1) else None) ≡ over_both (shallow (if p then Some h else None)) (shallow (if p then Some h else None))
alone false h = refl
alone true h = by (nat_le 16 h)
  where
    by : (deep : Bool) → (if not deep then Some ((if deep then 0 else h) + 1) else None) ≡ over_both (if deep then None else Some h) (if deep then None else Some h)
    by true = refl
    by false = ap (λ k. Some (k + 1)) (sym (same_max h))

pub unary_plain : (o : UnOp) (e : Box Expr Global) → plain_height (phrase (Unary o e)) ≡ over_both (steady_height (phrase e.value)) (steady_height (phrase e.value))
unfolding plain_height steady_height is_plain height
unary_plain o e = ap plain_height (phrase_unary o e) ∙ alone (is_plain (phrase e.value)) (height (phrase e.value))

both : (p q : Bool) (g h : ℕ) → (if ((p && not (nat_le 16 g)) && (q && not (nat_le 16 h))) then Some (max (lowered g) (lowered h) + 1) else None) ≡ over_both (shallow (if p then Some g else None)) (shallow (if q then Some h else None))
both false q g h = refl
both true q g h = one (nat_le 16 g)
  where
    two : (deep : Bool) → (if (true && not deep) then Some (max g (if deep then 0 else h) + 1) else None) ≡ over_both (Some g) (if deep then None else Some h)
    two true = refl
    two false = refl

    other : (q : Bool) → (if (q && not (nat_le 16 h)) then Some (max g (lowered h) + 1) else None) ≡ over_both (Some g) (shallow (if q then Some h else None))
    other true = two (nat_le 16 h)
    other false = refl

    one : (deep : Bool) → (if ((true && not deep) && (q && not (nat_le 16 h))) then Some (max (if deep then 0 else g) (lowered h) + 1) else None) ≡ over_both (if deep then None else Some g) (shallow (if q then Some h else None))
    one true = refl
    one false = other q

binary_tree : (o : BinOp) (a b : Phrase) → class_of o ≢ Guarded → plain_height (binary o a b) ≡ over_both (steady_height a) (steady_height b)
unfolding plain_height steady_height is_plain height
binary_tree Or a b k = both (is_plain a) (is_plain b) (height a) (height b)
binary_tree And a b k = both (is_plain a) (is_plain b) (height a) (height b)
binary_tree BitOr a b k = both (is_plain a) (is_plain b) (height a) (height b)
binary_tree BitXor a b k = both (is_plain a) (is_plain b) (height a) (height b)
binary_tree BitAnd a b k = both (is_plain a) (is_plain b) (height a) (height b)
binary_tree Eq a b k = both (is_plain a) (is_plain b) (height a) (height b)
binary_tree Ne a b k = both (is_plain a) (is_plain b) (height a) (height b)
binary_tree Lt a b k = both (is_plain a) (is_plain b) (height a) (height b)
binary_tree Le a b k = both (is_plain a) (is_plain b) (height a) (height b)
binary_tree Gt a b k = both (is_plain a) (is_plain b) (height a) (height b)
binary_tree Ge a b k = both (is_plain a) (is_plain b) (height a) (height b)
binary_tree Shl a b k = absurd (k refl)
binary_tree Shr a b k = absurd (k refl)
binary_tree Add a b k = both (is_plain a) (is_plain b) (height a) (height b)
binary_tree Sub a b k = both (is_plain a) (is_plain b) (height a) (height b)
binary_tree Mul a b k = both (is_plain a) (is_plain b) (height a) (height b)
binary_tree Div a b k = absurd (k refl)
binary_tree Rem a b k = absurd (k refl)

guarded_tree : (o : BinOp) (a b : Phrase) → class_of o ≡ Guarded → plain_height (binary o a b) ≡ None
unfolding plain_height is_plain height
guarded_tree Or a b k = absurd cc
guarded_tree And a b k = absurd cc
guarded_tree BitOr a b k = absurd cc
guarded_tree BitXor a b k = absurd cc
guarded_tree BitAnd a b k = absurd cc
guarded_tree Eq a b k = absurd cc
guarded_tree Ne a b k = absurd cc
guarded_tree Lt a b k = absurd cc
guarded_tree Le a b k = absurd cc
guarded_tree Gt a b k = absurd cc
guarded_tree Ge a b k = absurd cc
guarded_tree Shl a b k = refl
guarded_tree Shr a b k = refl
guarded_tree Add a b k = absurd cc
guarded_tree Sub a b k = absurd cc
guarded_tree Mul a b k = absurd cc
guarded_tree Div a b k = refl
guarded_tree Rem a b k = refl

pub binary_plain : (o : BinOp) (a b : Box Expr Global) → class_of o ≢ Guarded → plain_height (phrase (Binary o a b)) ≡ over_both (steady_height (phrase a.value)) (steady_height (phrase b.value))
binary_plain o a b k = ap plain_height (phrase_binary o a b) ∙ binary_tree o (phrase a.value) (phrase b.value) k

pub guarded_plain : (o : BinOp) (a b : Box Expr Global) → class_of o ≡ Guarded → plain_height (phrase (Binary o a b)) ≡ None
guarded_plain o a b k = ap plain_height (phrase_binary o a b) ∙ guarded_tree o (phrase a.value) (phrase b.value) k

pub ruleset plain_heights = (number_plain, scalar_plain, element_plain, unary_plain, binary_plain, guarded_plain)

steady_by : (p : Bool) (h : ℕ) → (p && not (nat_le 16 h)) ≡ is_some (shallow (if p then Some h else None))
steady_by false h = refl
steady_by true h = by (nat_le 16 h)
  where
    by : (deep : Bool) → not deep ≡ is_some (if deep then None else Some h)
    by true = refl
    by false = refl

pub steady_is : (e : Phrase) → is_steady e ≡ is_some (steady_height e)
unfolding steady_height plain_height
steady_is e = steady_by (is_plain e) (height e)
