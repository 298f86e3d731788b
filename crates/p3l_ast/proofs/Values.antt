-- Values of expressions, from the values of their parts.
use Rattle.std.proofs.Common.{◌≡◌, ℕ, ℤ, suc, ◌+◌, ◌*◌, ◌<◌, ◌≤◌, ◌^◌, zero, pos, negsuc, Bool, true, false, cond, get_or, List, [], ◌∷◌, Result, Ok, Err, drop, length, refl, sym, ap, ◌∙◌, arith, add-one}
use Rattle.std.specs.declared.boxed.Box.{Box}
use Rattle.std.specs.declared.alloc.Global.{Global}
use Rattle.std.specs.Prelude.{nat_lt}
use Rattle.std.proofs.Math.Nat.{mul-le-mul, pow-suc}
use Rattle.std.proofs.Math.Seq.{drop-cons}
use Rattle.std.proofs.lemmas.List.{drop_all}
use Rattle.p3l_base.specs.declared.outcome.TrapKind.TheVariants.{Index}
use Rattle.p3l_base.specs.declared.outcome.TrapKind.{TrapKind}
use Rattle.p3l_ast.specs.declared.expression.UnOp.{UnOp}
use Rattle.p3l_ast.specs.declared.expression.BinOp.{BinOp}
use Rattle.p3l_ast.specs.declared.expression.BinOp.TheVariants as operators
use Rattle.p3l_ast.specs.declared.expression.Expr.{Expr}
use Rattle.p3l_ast.specs.declared.expression.Expr.TheVariants.{Number, Read, Unary, Binary}
use Rattle.p3l_ast.specs.declared.expression.Target.{Target}
use Rattle.p3l_ast.specs.declared.meaning.valuation.Valuation.{Valuation}
use Rattle.p3l_ast.specs.Tree.{phrase, phrases}
use Rattle.p3l_ast.specs.Meaning.Operator.{unary_of}
use Rattle.p3l_ast.specs.Meaning.Valuation.{sizes_of, word_of}
use Rattle.p3l_ast.specs.Meaning.Expression.{given, combined, indexed, value_of, place_of}
use Rattle.p3l_ast.proofs.Trees.{phrase_number, phrase_read, phrase_unary, phrase_binary}

pub value_number : (s : Valuation) (v : ℤ) → value_of s (phrase (Number v)) ≡ Ok v
unfolding value_of
value_number s v = ap (value_of s) (phrase_number v)

pub value_read : (s : Valuation) (t : Target) → value_of s (phrase (Read t)) ≡ given (place_of s (phrases t.index.items) (sizes_of s t.at.name) 0) (λ place. Ok (word_of s t.at.name place))
unfolding value_of
value_read s t = ap (value_of s) (phrase_read t.at t.index)

pub value_unary : (s : Valuation) (o : UnOp) (e : Box Expr Global) → value_of s (phrase (Unary o e)) ≡ given (value_of s (phrase e.value)) (λ x. Ok (unary_of o x))
unfolding value_of
value_unary s o e = ap (value_of s) (phrase_unary o e)

pub value_binary : (s : Valuation) (o : BinOp) (a b : Box Expr Global) → value_of s (phrase (Binary o a b)) ≡ combined o (value_of s (phrase a.value)) (value_of s (phrase b.value))
unfolding value_of
value_binary s o a b = ap (value_of s) (phrase_binary o a b)

-- a trap is handed on, and a number goes on
pub exit_given : {A B : Type 0} (r : Result A TrapKind) (go : A → Result B TrapKind) (trap : TrapKind) (v : Result B TrapKind) → Err trap ≡ r → v ≡ given r go → Err trap ≡ v
exit_given r go trap v h t = ap (λ x. given x go) h ∙ sym t

pub pass_given : {A B : Type 0} (r : Result A TrapKind) (go : A → Result B TrapKind) (x : A) (v : Result B TrapKind) → Ok x ≡ r → v ≡ given r go → go x ≡ v
pass_given r go x v h t = ap (λ z. given z go) h ∙ sym t

pub number_value : (s : Valuation) (e : Expr) (v : ℤ) → e ≡ Number v → value_of s (phrase e) ≡ Ok v
number_value s e v h = ap (λ x. value_of s (phrase x)) h ∙ value_number s v

pub read_value : (s : Valuation) (e : Expr) (t : Target) → e ≡ Read t → value_of s (phrase e) ≡ given (place_of s (phrases t.index.items) (sizes_of s t.at.name) 0) (λ place. Ok (word_of s t.at.name place))
read_value s e t h = ap (λ x. value_of s (phrase x)) h ∙ value_read s t

pub unary_value : (s : Valuation) (e inner : Expr) (o : UnOp) (b : Box Expr Global) → e ≡ Unary o b → inner ≡ b.value → value_of s (phrase e) ≡ given (value_of s (phrase inner)) (λ x. Ok (unary_of o x))
unary_value s e inner o b h k =
    ap (λ x. value_of s (phrase x)) h ∙ value_unary s o b ∙ ap (λ x. given (value_of s (phrase x)) (λ x. Ok (unary_of o x))) (sym k)

pub binary_value : (s : Valuation) (e left right : Expr) (o : BinOp) (a b : Box Expr Global) → e ≡ Binary o a b → left ≡ a.value → right ≡ b.value → value_of s (phrase e) ≡ combined o (value_of s (phrase left)) (value_of s (phrase right))
binary_value s e left right o a b h k l =
    ap (λ x. value_of s (phrase x)) h ∙ value_binary s o a b ∙ ap (λ x. combined o (value_of s (phrase x)) (value_of s (phrase b.value))) (sym k) ∙ ap (λ x. combined o (value_of s (phrase left)) (value_of s (phrase x))) (sym l)

-- every operator evaluates its left operand first
pub combined_exit : (o : BinOp) (left right : Result ℤ TrapKind) (trap : TrapKind) (v : Result ℤ TrapKind) → Err trap ≡ left → v ≡ combined o left right → Err trap ≡ v
combined_exit o left right trap v h t = go o ∙ ap (λ x. combined o x right) h ∙ sym t
  where
    go : (o : BinOp) → Err trap ≡ combined o (Err trap) right
    go operators.Or = refl
    go operators.And = refl
    go _ = refl

pub combined_pass : (o : BinOp) (left right : Result ℤ TrapKind) (x : ℤ) (r v : Result ℤ TrapKind) → Ok x ≡ left → r ≡ combined o (Ok x) right → v ≡ combined o left right → r ≡ v
combined_pass o left right x r v h k t = k ∙ ap (λ l. combined o l right) h ∙ sym t

pub same_place : (s : Valuation) (a b : List Expr) (x y : List ℕ) → a ≡ b → x ≡ y → place_of s (phrases a) x 0 ≡ place_of s (phrases b) y 0
same_place s a b x y p q = ap (λ a. place_of s (phrases a) x 0) p ∙ ap (λ x. place_of s (phrases b) x 0) q

-- the next index of a target
pub place_step : (s : Valuation) (items : List Expr) (sizes : List ℕ) (d place : ℕ) (e : Expr) → d < length items → e ≡ get_or items d e → place_of s (phrases (drop d items)) sizes place ≡ given (value_of s (phrase e)) (indexed sizes place (place_of s (phrases (drop (d + 1) items))))
unfolding place_of
place_step s items sizes d place e h k =
    let next : drop d items ≡ e ∷ drop (d + 1) items = rw add-one (drop-cons items d e h ∙ ap (λ x. x ∷ drop (suc d) items) (sym k)) in
    ap (λ x. place_of s (phrases x) sizes place) next

pub indexed_exit : (sizes : List ℕ) (place : ℕ) (go : List ℕ → ℕ → Result ℕ TrapKind) (i : ℤ) (trap : TrapKind) → Err trap ≡ indexed sizes place (λ rest next. Ok next) i → Err trap ≡ indexed sizes place go i
indexed_exit [] place go i trap h = h
indexed_exit (size ∷ sizes) place go (negsuc i) trap h = h
indexed_exit (size ∷ sizes) place go (pos i) trap h = by (nat_lt i size) h
  where
    by : (b : Bool) → Err trap ≡ cond b (Ok (place * size + i)) (Err Index) → Err trap ≡ cond b (go sizes (place * size + i)) (Err Index)
    by true e = absurd cc
    by false e = e

pub indexed_pass : (sizes : List ℕ) (place next : ℕ) (go : List ℕ → ℕ → Result ℕ TrapKind) (i : ℤ) → Ok next ≡ indexed sizes place (λ rest next. Ok next) i → indexed sizes place go i ≡ go (drop 1 sizes) next
indexed_pass [] place next go i h = absurd cc
indexed_pass (size ∷ sizes) place next go (negsuc i) h = absurd cc
indexed_pass (size ∷ sizes) place next go (pos i) h = by (nat_lt i size) h
  where
    by : (b : Bool) → Ok next ≡ cond b (Ok (place * size + i)) (Err Index) → cond b (go sizes (place * size + i)) (Err Index) ≡ go sizes next
    by true e = let q : place * size + i ≡ next = cc in ap (go sizes) q
    by false e = absurd cc

-- a place of three sizes is small
pub two_small : (d place : ℕ) → d < 3 → place < 65536 ^ d → place < 2 ^ 32
two_small zero place h k = omega arith
two_small (suc zero) place h k = omega arith
two_small (suc (suc zero)) place h k = omega arith
two_small (suc (suc (suc d))) place h k = absurd (omega arith)

pub small_step : (d place size next : ℕ) → place < 65536 ^ d → size ≤ 65536 → next < (place + 1) * size → next < 65536 ^ (d + 1)
small_step d place size next p q h =
    let whole : (place + 1) * size ≤ 65536 ^ d * 65536 = mul-le-mul (let e : place + 1 ≤ 65536 ^ d = omega arith in e) q in
    let power : 65536 ^ (d + 1) ≡ 65536 ^ d * 65536 = rw add-one (pow-suc 65536 d) in
    omega (arith, whole, power, h)

drop_suc : (xs : List ℕ) (d : ℕ) → drop 1 (drop d xs) ≡ drop (suc d) xs
drop_suc xs zero = refl
drop_suc [] (suc d) = refl
drop_suc (x ∷ xs) (suc d) = drop_suc xs d

pub drop_next : (xs : List ℕ) (d : ℕ) → drop 1 (drop d xs) ≡ drop (d + 1) xs
drop_next xs d = rw add-one (drop_suc xs d)

-- after the last index
pub place_end : (s : Valuation) (items : List Expr) (sizes : List ℕ) (d place : ℕ) → length items ≤ d → place_of s (phrases (drop d items)) sizes place ≡ Ok place
unfolding place_of
place_end s items sizes d place h = ap (λ x. place_of s (phrases x) sizes place) (drop_all d items h)
