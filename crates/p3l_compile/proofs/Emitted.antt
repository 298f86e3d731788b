-- The instructions that are put after a code, step by step.
use Rattle.std.proofs.Common.{◌≢◌, ◌≡◌, ℕ, ℤ, zero, suc, pos, ◌+◌, ◌-◌, ◌<◌, ◌≤◌, List, [], ◌∷◌, ◌++◌, length, drop, get_or, refl, sym, ap, ◌∙◌, arith, append_assoc, add-one}
use Rattle.std.specs.Prelude.{slice_set, slice_index, Bool, false, ◌==◌}
use Rattle.std.proofs.lemmas.Bool.Decides.{nat_tests}
use Rattle.std.proofs.Math.Seq.{set-append_seam, drop-cons}
use Rattle.std.proofs.lemmas.List.{append-nil, drop_all, drop-drop}
use Rattle.p3l_ast.specs.declared.expression.BinOp.{BinOp}
use Rattle.p3l_ast.specs.declared.expression.BinOp.TheVariants as operators
use Rattle.p3l_ast.specs.declared.expression.Expr.{Expr}
use Rattle.p3l_ast.specs.Tree.{Phrases, none, more, phrase, phrases}
use Rattle.p3l_code.specs.declared.instr.Instr.{Instr}
use Rattle.p3l_code.specs.declared.instr.Instr.TheVariants.{Push, Step, Binary, Jump}
use Rattle.p3l_compile.specs.Scope.{Names, found}
use Rattle.p3l_compile.specs.Phrase.{operator_size, phrase_size, index_size, read_size, index_code, phrase_code, sizes_in, element_code, read_code}

-- an instruction that is written anew once what follows it stands
pub patched : (base left right rest : List Instr) (x i : Instr) (c1 c2 c3 c4 : List Instr) (n : ℕ) → c1 ≡ base ++ left → n ≡ length c1 → c2 ≡ c1 ++ x ∷ [] → c3 ≡ c2 ++ right → c4 ≡ c3 ++ rest → slice_set c4 n i ≡ base ++ (left ++ (i ∷ (right ++ rest)))
patched base left right rest x i c1 c2 c3 c4 n e1 m e2 e3 e4 =
    let all : c4 ≡ ((c1 ++ x ∷ []) ++ right) ++ rest = cc in
    let flat : ((c1 ++ x ∷ []) ++ right) ++ rest ≡ c1 ++ x ∷ (right ++ rest) = simp append_assoc in
    ap (λ l. slice_set l n i) (all ∙ flat)
    ∙ ap (λ k. slice_set (c1 ++ x ∷ (right ++ rest)) k i) m
    ∙ set-append_seam c1 x (right ++ rest) i
    ∙ ap (λ l. l ++ i ∷ (right ++ rest)) e1
    ∙ append_assoc base left (i ∷ (right ++ rest))

-- the left operand, a jump that is written later, the right operand's truth, and the other way
pub short_emitted : (jump : ℕ → Instr) (other : Instr) (base left : List Instr) (right : ℕ → List Instr) (m n : ℕ) (c1 c2 c3 c4 : List Instr) (x : Instr) (p k : ℕ) → c1 ≡ base ++ left → length c1 ≡ length base + m → p ≡ length c1 → c2 ≡ c1 ++ x ∷ [] → length c2 ≡ length c1 + 1 → c3 ≡ c2 ++ right (length c2) → length c3 ≡ length c2 + n → c4 ≡ c3 ++ (Push (pos 0) ∷ Binary operators.Ne ∷ Jump (length c3 + 4) ∷ other ∷ []) → length c4 ≡ length c3 + 4 → k ≡ length c4 → slice_set c4 p (jump (k - 1)) ≡ base ++ (left ++ (jump (length base + m + n + 4) ∷ (right (length base + m + 1) ++ (Push (pos 0) ∷ Binary operators.Ne ∷ Jump (length base + m + n + 5) ∷ other ∷ []))))
short_emitted jump other base left right m n c1 c2 c3 c4 x p k e1 l1 ep e2 l2 e3 l3 e4 l4 ek =
    let q2 : length c2 ≡ length base + m + 1 = omega arith in
    let q3 : length c3 + 4 ≡ length base + m + n + 5 = omega arith in
    let qk : k - 1 ≡ length base + m + n + 4 = omega arith in
    let tail = λ (d : ℕ). Push (pos 0) ∷ Binary operators.Ne ∷ Jump d ∷ other ∷ [] in
    patched base left (right (length c2)) (tail (length c3 + 4)) x (jump (k - 1)) c1 c2 c3 c4 p e1 ep e2 e3 e4
    ∙ ap (λ a. base ++ (left ++ (jump a ∷ (right (length c2) ++ tail (length c3 + 4))))) qk
    ∙ ap (λ b. base ++ (left ++ (jump (length base + m + n + 4) ∷ (right b ++ tail (length c3 + 4))))) q2
    ∙ ap (λ d. base ++ (left ++ (jump (length base + m + n + 4) ∷ (right (length base + m + 1) ++ tail d)))) q3

-- a read has more instructions than its indices
pub read_falls : (is : Phrases) → 1 ≤ read_size is (index_size is)
read_falls none = omega arith
read_falls (more e none) = omega arith
read_falls (more e (more f is)) = omega arith

-- one index
pub one_index : (items : List Expr) (e : Expr) → length items ≡ 1 → e ≡ get_or items 0 e → phrases items ≡ more (phrase e) none
one_index [] e h k = absurd (omega (arith, h))
one_index (x ∷ []) e h k = ap (λ d. more (phrase d) none) (sym k)
one_index (x ∷ (y ∷ items)) e h k = absurd (omega (arith, h))

-- one index of those that are left
pub next_index : (items : List Expr) (d : ℕ) (e : Expr) → d < length items → e ≡ get_or items d e → phrases (drop d items) ≡ more (phrase e) (phrases (drop (d + 1) items))
next_index items d e h k =
    let next : drop d items ≡ e ∷ drop (d + 1) items = rw add-one (drop-cons items d e h ∙ ap (λ x. x ∷ drop (suc d) items) (sym k)) in
    ap phrases next

pub index_falls : (items : List Expr) (d : ℕ) (e : Expr) → d < length items → e ≡ get_or items d e → index_size (phrases (drop d items)) ≡ phrase_size (phrase e) + 1 + index_size (phrases (drop (d + 1) items))
index_falls items d e h k = ap index_size (next_index items d e h k)

-- the indices that are left are fewer than all
pub index_left : (items : List Expr) (d : ℕ) → index_size (phrases (drop d items)) ≤ index_size (phrases items)
index_left items zero = omega arith
index_left [] (suc d) = omega arith
index_left (e ∷ items) (suc d) = let h = index_left items d in omega arith

drop_size : (sizes : List ℕ) (d : ℕ) → drop 1 (drop d sizes) ≡ drop (d + 1) sizes
drop_size sizes d = drop-drop 1 d sizes

head_size : (sizes : List ℕ) (d : ℕ) → slice_index (drop d sizes) 0 ≡ slice_index sizes d
head_size sizes zero = refl
head_size [] (suc d) = refl
head_size (s ∷ sizes) (suc d) = head_size sizes d

-- one index more
pub index_emitted : (scope : Names) (items : List Expr) (sizes : List ℕ) (d : ℕ) (e : Expr) (base c1 c2 whole : List Instr) (size : ℕ) → d < length items → e ≡ get_or items d e → base ++ index_code scope (length base) (drop d sizes) (phrases (drop d items)) ≡ whole → c1 ≡ base ++ phrase_code scope (length base) (phrase e) → length c1 ≡ length base + phrase_size (phrase e) → size ≡ slice_index sizes d → c2 ≡ c1 ++ Step size ∷ [] → length c2 ≡ length c1 + 1 → c2 ++ index_code scope (length c2) (drop (d + 1) sizes) (phrases (drop (d + 1) items)) ≡ whole
index_emitted scope items sizes d e base c1 c2 whole size h k w e1 l1 es e2 l2 =
    let rest = phrases (drop (d + 1) items) in
    let own = phrase_code scope (length base) (phrase e) in
    let place : length c2 ≡ length base + phrase_size (phrase e) + 1 = omega arith in
    let here : size ≡ slice_index (drop d sizes) 0 = es ∙ sym (head_size sizes d) in
    let flat : ((base ++ own) ++ Step (slice_index (drop d sizes) 0) ∷ []) ++ index_code scope (length base + phrase_size (phrase e) + 1) (drop 1 (drop d sizes)) rest ≡ base ++ (own ++ (Step (slice_index (drop d sizes) 0) ∷ index_code scope (length base + phrase_size (phrase e) + 1) (drop 1 (drop d sizes)) rest)) = simp append_assoc in
    ap (λ l. l ++ index_code scope (length c2) (drop (d + 1) sizes) rest) (e2 ∙ ap (λ l. l ++ Step size ∷ []) e1 ∙ ap (λ z. (base ++ own) ++ Step z ∷ []) here)
    ∙ ap (λ p. ((base ++ own) ++ Step (slice_index (drop d sizes) 0) ∷ []) ++ index_code scope p (drop (d + 1) sizes) rest) place
    ∙ ap (λ z. ((base ++ own) ++ Step (slice_index (drop d sizes) 0) ∷ []) ++ index_code scope (length base + phrase_size (phrase e) + 1) z rest) (sym (drop_size sizes d))
    ∙ flat
    ∙ ap (λ is. base ++ index_code scope (length base) (drop d sizes) is) (sym (next_index items d e h k))
    ∙ w

pub index_end : (scope : Names) (items : List Expr) (sizes : List ℕ) (d : ℕ) (base : List Instr) → length items ≤ d → base ++ index_code scope (length base) (drop d sizes) (phrases (drop d items)) ≡ base
index_end scope items sizes d base h =
    ap (λ x. base ++ index_code scope (length base) (drop d sizes) (phrases x)) (drop_all d items h) ∙ append-nil base

pub size_end : (items : List Expr) (d : ℕ) → length items ≤ d → index_size (phrases (drop d items)) ≡ 0
size_end items d h = ap (λ x. index_size (phrases x)) (drop_all d items h)

-- the code that reads an element by more than one index is its `read_code`
pub read_emitted : (scope : Names) (name : List ℕ) (v : ℤ) (items : List Expr) (first base c1 c2 c3 : List Instr) (element : Instr) → ¬ (items ≡ []) → length items ≢ 1 → c1 ≡ base ++ Push (pos 0) ∷ [] → length c1 ≡ length base + 1 → c2 ≡ c1 ++ index_code scope (length c1) (sizes_in (found scope name)) (phrases items) → element ≡ element_code (found scope name) → c3 ≡ c2 ++ element ∷ [] → c3 ≡ base ++ read_code (found scope name) v (phrases items) first (index_code scope (length base + 1) (sizes_in (found scope name)) (phrases items))
read_emitted scope name v [] first base c1 c2 c3 element some many e1 l1 e2 el e3 = absurd (some refl)
read_emitted scope name v (e ∷ []) first base c1 c2 c3 element some many e1 l1 e2 el e3 = absurd (many (omega arith))
read_emitted scope name v (e ∷ (d ∷ items)) first base c1 c2 c3 element some many e1 l1 e2 el e3 =
    let is = phrases (e ∷ (d ∷ items)) in
    let index = λ (p : ℕ). index_code scope p (sizes_in (found scope name)) is in
    let flat : ((base ++ Push (pos 0) ∷ []) ++ index (length base + 1)) ++ element_code (found scope name) ∷ [] ≡ base ++ Push (pos 0) ∷ (index (length base + 1) ++ element_code (found scope name) ∷ []) = simp append_assoc in
    e3 ∙ ap (λ l. l ++ element ∷ []) (e2 ∙ ap (λ p. c1 ++ index p) l1)
    ∙ ap (λ i. (c1 ++ index (length base + 1)) ++ i ∷ []) el
    ∙ ap (λ l. (l ++ index (length base + 1)) ++ element_code (found scope name) ∷ []) e1
    ∙ flat

pub read_sized : (items : List Expr) (base c1 c2 c3 : ℕ) → ¬ (items ≡ []) → length items ≢ 1 → c1 ≡ base + 1 → c2 ≡ c1 + index_size (phrases items) → c3 ≡ c2 + 1 → c3 ≡ base + read_size (phrases items) (index_size (phrases items))
read_sized [] base c1 c2 c3 some many e1 e2 e3 = absurd (some refl)
read_sized (e ∷ []) base c1 c2 c3 some many e1 e2 e3 = absurd (many (omega arith))
read_sized (e ∷ (d ∷ items)) base c1 c2 c3 some many e1 e2 e3 = omega arith

pub not_one : {A : Type 0} (r n : ℕ) (items : List A) → r ≡ n → r ≢ 1 → n ≡ length items → length items ≢ 1
not_one r n items h f l e = f (h ∙ l ∙ e)

pub many_falls : (items : List Expr) → ¬ (items ≡ []) → length items ≢ 1 → read_size (phrases items) (index_size (phrases items)) ≡ index_size (phrases items) + 2
many_falls [] some many = absurd (some refl)
many_falls (e ∷ []) some many = absurd (many (omega arith))
many_falls (e ∷ (d ∷ items)) some many = refl

pub operator_some : (op : BinOp) → 1 ≤ operator_size op
operator_some operators.Or = omega arith
operator_some operators.And = omega arith
operator_some _ = omega arith

pub not_empty : {A : Type 0} (r : Bool) (n : ℕ) (items : List A) → r ≡ (n == 0) → r ≡ false → n ≡ length items → ¬ (items ≡ [])
not_empty r n items h f l e = let k : length items ≡ 0 = ap length e in absurd (grind (arith, nat_tests))
