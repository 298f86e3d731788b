-- The values of expressions, by what these are made of.
use Rattle.std.proofs.Common.{◌≡◌, ℕ, ℤ, pos, ◌+◌, Bool, true, false, List, ◌++◌, ap, ◌∙◌, sym, refl, codes, max, arith, append_assoc}
use Rattle.std.proofs.lemmas.Fmt.{decimal_digit}
use Rattle.std.specs.Fmt.{decimal}
use Rattle.std.specs.Prelude.{nat_le, if◌then◌else◌}
use Rattle.p3l_ast.specs.declared.expression.UnOp.{UnOp}
use Rattle.p3l_ast.specs.declared.expression.UnOp.TheVariants.{Neg, Not, Flip}
use Rattle.p3l_ast.specs.declared.expression.BinOp.{BinOp}
use Rattle.p3l_ast.specs.declared.expression.BinOp.TheVariants.{Or, And, BitOr, BitXor, BitAnd, Eq, Ne, Lt, Le, Gt, Ge, Shl, Shr, Add, Sub, Mul, Div, Rem}
use Rattle.p3l_ast.specs.Tree as tree
use Rattle.p3l_ast.specs.Tree.{Phrase, Phrases, read, unary, binary}
use Rattle.p3l_c.specs.Syntax.{Signed, number, temp, element, quotient, remainder, truth, converted, moved_down}
use Rattle.p3l_c.specs.Translate.{next, next_all, height, value, spots, lowered, is_deep, is_steady, kept_value, kept_next, after_operand, after_operator, first_temp, operator_height, test_of, unary_value, binary_value}
use Rattle.p3l_c_print.specs.declared.value.Value.{Value}
use Rattle.p3l_c_print.specs.Name.{Names, literal_text}
use Rattle.p3l_c_print.specs.Text.{signed_text, unsigned_text, test_text, element_text, temp_text, between}
use Rattle.p3l_c_print.specs.Value as v
use Rattle.p3l_c_print.specs.Value.{told, value_of, operand_of, signed_of, unsigned_of, kept, applied, combined, decided, own_temp, number_value}

-- a value as a number, and as a test

pub signed_told : (names : Names) (e : Signed) (m h : ℕ) → signed_of (told names e m h) ≡ signed_text names e
unfolding signed_of signed_text
signed_told names (truth c) m h = refl
signed_told names (number v) m h = refl
signed_told names (temp k) m h = refl
signed_told names (element x ks) m h = refl
signed_told names (quotient a b) m h = refl
signed_told names (remainder a b) m h = refl
signed_told names (converted u) m h = refl
signed_told names (moved_down a b) m h = refl

pub zero_digits : decimal 0 ≡ codes "0"
zero_digits = decimal_digit 0 (omega arith)

pub zero_literal : literal_text (pos 0) ≡ codes "INT64_C(0)"
unfolding literal_text
zero_literal = ap (λ (digits : List ℕ). codes "INT64_C(" ++ (digits ++ codes ")")) zero_digits

-- a number is used as a test by its comparison with 0
pub nonzero_text : (text : List ℕ) → codes "(" ++ (text ++ codes " != INT64_C(0))") ≡ between (codes " != ") text (literal_text (pos 0))
unfolding between
nonzero_text text = ap (between (codes " != ") text) (sym zero_literal)

pub test_told : (names : Names) (e : Signed) (m h : ℕ) → v.test_of (told names e m h) ≡ test_text names (test_of e)
unfolding v.test_of signed_text test_text
test_told names (truth c) m h = refl
test_told names (number v) m h = nonzero_text (signed_text names (number v))
test_told names (temp k) m h = nonzero_text (signed_text names (temp k))
test_told names (element x ks) m h = nonzero_text (signed_text names (element x ks))
test_told names (quotient a b) m h = nonzero_text (signed_text names (quotient a b))
test_told names (remainder a b) m h = nonzero_text (signed_text names (remainder a b))
test_told names (converted u) m h = nonzero_text (signed_text names (converted u))
test_told names (moved_down a b) m h = nonzero_text (signed_text names (moved_down a b))

-- an operand that is kept

pub kept_told : (names : Names) (e : Signed) (m h : ℕ) → kept (told names e m h) ≡ told names (kept_value (nat_le 16 h) m e) (kept_next (nat_le 16 h) m) (lowered h)
unfolding signed_text
kept_told names e m h = by (nat_le 16 h)
  where
    by : (deep : Bool) → (if deep then number_value (temp_text m) (m + 1) 0 else told names e m h) ≡ told names (kept_value deep m e) (kept_next deep m) (if deep then 0 else h)
    by true = refl
    by false = refl

pub operand_told : (names : Names) (n : ℕ) (e : Phrase) → operand_of names n e ≡ told names (kept_value (is_deep e) (next n e) (value n e)) (after_operand n e) (lowered (height e))
unfolding operand_of value_of
operand_told names n e = kept_told names (value n e) (next n e) (height e)

-- an operator before its operand

applied_told : (names : Names) (op : UnOp) (e : Signed) (m h : ℕ) → told names (unary_value op e) m (h + 1) ≡ applied op (told names e m h)
unfolding unsigned_of between signed_text unsigned_text test_text
applied_told names Neg e m h = let p = signed_told names e m h in rw p refl
applied_told names Not e m h = let p = test_told names e m h in rw p refl
applied_told names Flip e m h = let p = signed_told names e m h in rw p refl

pub number_is : (names : Names) (n : ℕ) (z : ℤ) → value_of names n (tree.number z) ≡ number_value (literal_text z) n 0
unfolding value_of signed_text height
number_is names n z = refl

pub read_is : (names : Names) (n : ℕ) (x : _) (is : Phrases) → value_of names n (read x is) ≡ number_value (element_text names x.name (spots n is)) (next_all n is) 0
unfolding value_of signed_text height
read_is names n x is = refl

pub unary_is : (names : Names) (n : ℕ) (op : UnOp) (e : Phrase) → value_of names n (unary op e) ≡ applied op (operand_of names n e)
unfolding value_of height
unary_is names n op e =
    applied_told names op (kept_value (is_deep e) (next n e) (value n e)) (after_operand n e) (lowered (height e)) ∙ ap (applied op) (sym (operand_told names n e))

-- an operator between its operands, but `||` and `&&` with a temp of their own

combined_told : (names : Names) (op : BinOp) (n : ℕ) (a b : Signed) (l m g h : ℕ) → told names (binary_value op true n m a b) (after_operator op m) (operator_height op (max g h)) ≡ combined op (told names a l g) (told names b m h)
unfolding unsigned_of between signed_text unsigned_text test_text
combined_told names Or n a b l m g h = let p = test_told names a l g in let q = test_told names b m h in rw (p, q) refl
combined_told names And n a b l m g h = let p = test_told names a l g in let q = test_told names b m h in rw (p, q) refl
combined_told names BitOr n a b l m g h = let p = signed_told names a l g in let q = signed_told names b m h in rw (p, q) refl
combined_told names BitXor n a b l m g h = let p = signed_told names a l g in let q = signed_told names b m h in rw (p, q) refl
combined_told names BitAnd n a b l m g h = let p = signed_told names a l g in let q = signed_told names b m h in rw (p, q) refl
combined_told names Eq n a b l m g h = let p = signed_told names a l g in let q = signed_told names b m h in rw (p, q) refl
combined_told names Ne n a b l m g h = let p = signed_told names a l g in let q = signed_told names b m h in rw (p, q) refl
combined_told names Lt n a b l m g h = let p = signed_told names a l g in let q = signed_told names b m h in rw (p, q) refl
combined_told names Le n a b l m g h = let p = signed_told names a l g in let q = signed_told names b m h in rw (p, q) refl
combined_told names Gt n a b l m g h = let p = signed_told names a l g in let q = signed_told names b m h in rw (p, q) refl
combined_told names Ge n a b l m g h = let p = signed_told names a l g in let q = signed_told names b m h in rw (p, q) refl
combined_told names Shl n a b l m g h =
    ap (λ (t : List ℕ). number_value (codes "p3l_signed(((uint64_t)t" ++ t) (m + 2) 1) (append_assoc (decimal m) (codes ")") (codes " << t" ++ (decimal (m + 1) ++ codes ")")))
combined_told names Shr n a b l m g h = refl
combined_told names Add n a b l m g h = let p = signed_told names a l g in let q = signed_told names b m h in rw (p, q) refl
combined_told names Sub n a b l m g h = let p = signed_told names a l g in let q = signed_told names b m h in rw (p, q) refl
combined_told names Mul n a b l m g h = let p = signed_told names a l g in let q = signed_told names b m h in rw (p, q) refl
combined_told names Div n a b l m g h = refl
combined_told names Rem n a b l m g h = refl

-- the value over operands, the left one's first temp given
abbrev whole : Names → ℕ → BinOp → Bool → ℕ → Phrase → Phrase → Value
whole names n op joined f a b =
    let m = after_operand f a in
    told names (binary_value op joined n (after_operand m b) (kept_value (is_deep a) (next f a) (value f a)) (kept_value (is_deep b) (next m b) (value m b)))
    (after_operator op (after_operand m b)) (operator_height op (max (lowered (height a)) (lowered (height b))))

pub operand_after : (names : Names) (n : ℕ) (e : Phrase) → (operand_of names n e).after ≡ after_operand n e
operand_after names n e = ap (λ (x : Value). x.after) (operand_told names n e)

abbrev operand_as : Names → ℕ → Phrase → Value
operand_as names n e = told names (kept_value (is_deep e) (next n e) (value n e)) (after_operand n e) (lowered (height e))

-- a function of both operands gives the same with `operand_as` as with `operand_of`
made : {A : Type 0} (f : Value → Value → A) (names : Names) (n : ℕ) (a b : Phrase) → f (operand_as names n a) (operand_as names (after_operand n a) b) ≡ f (operand_of names n a) (operand_of names (operand_of names n a).after b)
made f names n a b =
    ap (λ x. f x (operand_as names (after_operand n a) b)) (sym (operand_told names n a))
    ∙ ap (f (operand_of names n a)) (sym (operand_told names (after_operand n a) b))
    ∙ ap (λ m. f (operand_of names n a) (operand_of names m b)) (sym (operand_after names n a))

plain_whole : (names : Names) (n : ℕ) (op : BinOp) (joined : Bool) (a b : Phrase) → own_temp op joined ≡ false → whole names n op joined (first_temp op joined n) a b ≡ whole names n op true n a b
plain_whole names n Or true a b h = refl
plain_whole names n Or false a b h = absurd cc
plain_whole names n And true a b h = refl
plain_whole names n And false a b h = absurd cc
plain_whole names n BitOr joined a b h = refl
plain_whole names n BitXor joined a b h = refl
plain_whole names n BitAnd joined a b h = refl
plain_whole names n Eq joined a b h = refl
plain_whole names n Ne joined a b h = refl
plain_whole names n Lt joined a b h = refl
plain_whole names n Le joined a b h = refl
plain_whole names n Gt joined a b h = refl
plain_whole names n Ge joined a b h = refl
plain_whole names n Shl joined a b h = refl
plain_whole names n Shr joined a b h = refl
plain_whole names n Add joined a b h = refl
plain_whole names n Sub joined a b h = refl
plain_whole names n Mul joined a b h = refl
plain_whole names n Div joined a b h = refl
plain_whole names n Rem joined a b h = refl

pub binary_plain : (names : Names) (n : ℕ) (op : BinOp) (a b : Phrase) → own_temp op (is_steady b) ≡ false
    → value_of names n (binary op a b) ≡ combined op (operand_of names n a) (operand_of names (operand_of names n a).after b)
unfolding value_of height
binary_plain names n op a b h =
    plain_whole names n op (is_steady b) a b h
    ∙ combined_told names op n (kept_value (is_deep a) (next n a) (value n a)) (kept_value (is_deep b) (next (after_operand n a) b) (value (after_operand n a) b))
    (after_operand n a) (after_operand (after_operand n a) b) (lowered (height a)) (lowered (height b))
    ∙ made (combined op) names n a b

own_whole : (names : Names) (n : ℕ) (op : BinOp) (joined : Bool) (a b : Phrase) → own_temp op joined ≡ true → whole names n op joined (first_temp op joined n) a b ≡ decided n (operand_as names (n + 1) a) (operand_as names (after_operand (n + 1) a) b)
unfolding signed_text
own_whole names n Or false a b h = refl
own_whole names n Or true a b h = absurd cc
own_whole names n And false a b h = refl
own_whole names n And true a b h = absurd cc
own_whole names n BitOr joined a b h = absurd cc
own_whole names n BitXor joined a b h = absurd cc
own_whole names n BitAnd joined a b h = absurd cc
own_whole names n Eq joined a b h = absurd cc
own_whole names n Ne joined a b h = absurd cc
own_whole names n Lt joined a b h = absurd cc
own_whole names n Le joined a b h = absurd cc
own_whole names n Gt joined a b h = absurd cc
own_whole names n Ge joined a b h = absurd cc
own_whole names n Shl joined a b h = absurd cc
own_whole names n Shr joined a b h = absurd cc
own_whole names n Add joined a b h = absurd cc
own_whole names n Sub joined a b h = absurd cc
own_whole names n Mul joined a b h = absurd cc
own_whole names n Div joined a b h = absurd cc
own_whole names n Rem joined a b h = absurd cc

pub binary_own : (names : Names) (n : ℕ) (op : BinOp) (a b : Phrase) → own_temp op (is_steady b) ≡ true
    → value_of names n (binary op a b) ≡ decided n (operand_of names (n + 1) a) (operand_of names (operand_of names (n + 1) a).after b)
unfolding value_of height
binary_own names n op a b h = own_whole names n op (is_steady b) a b h ∙ made (decided n) names (n + 1) a b
