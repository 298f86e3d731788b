-- The lines before the use of expressions, by what these are made of.
use Rattle.std.proofs.Common.{◌≡◌, ℕ, ℤ, ◌+◌, Bool, true, false, List, [], ◌++◌, ap, ◌∙◌, sym, refl, append_assoc, append-nil}
use Rattle.std.specs.Prelude.{nat_le, codes, if◌then◌else◌}
use Rattle.p3l_ast.specs.declared.expression.UnOp.{UnOp}
use Rattle.p3l_ast.specs.declared.expression.BinOp.{BinOp}
use Rattle.p3l_ast.specs.declared.expression.BinOp.TheVariants.{Or, And, BitOr, BitXor, BitAnd, Eq, Ne, Lt, Le, Gt, Ge, Shl, Shr, Add, Sub, Mul, Div, Rem}
use Rattle.p3l_ast.specs.Tree as tree
use Rattle.p3l_ast.specs.Tree.{Phrase, Phrases, read, unary, binary, none, more}
use Rattle.p3l_c.specs.Syntax.{Signed, temp, truth, Lines, done, keep, choose}
use Rattle.p3l_c.specs.Translate as c
use Rattle.p3l_c.specs.Translate.{sizes_at, next, height, value, lowered, is_deep, is_steady, kept_value, kept_lines, after_operand, first_temp, around, guards, before, first_size, other_sizes}
use Rattle.p3l_c_print.specs.declared.value.Value.{Value}
use Rattle.p3l_c_print.specs.Name.{Names, shapes_of}
use Rattle.p3l_c_print.specs.Line.{set_line, deeper, choice_lines}
use Rattle.p3l_c_print.specs.Text.{signed_text, test_text, temp_text, lines_text}
use Rattle.p3l_c_print.specs.Value.{told, value_of, front_text, index_text, signed_of, test_of, kept_line, operand_of, operand_text, combined_lines, bound_line, own_temp, truth_line, undecided_lines, truth_text}
use Rattle.p3l_c_print.proofs.Follow.{front_text_then, before_front}
use Rattle.p3l_c_print.proofs.Values.{signed_told, test_told, operand_told, operand_after}

pub front_number : (names : Names) (margin : List ℕ) (n : ℕ) (z : ℤ) → front_text names margin n (tree.number z) ≡ []
unfolding front_text lines_text
front_number names margin n z = refl

pub front_read : (names : Names) (margin : List ℕ) (n : ℕ) (x : _) (is : Phrases) → front_text names margin n (read x is) ≡ index_text names margin n (sizes_at (shapes_of names) x.name) is
unfolding front_text index_text
front_read names margin n x is = refl

-- an operand that is kept
kept_lines_text : (names : Names) (margin : List ℕ) (e : Signed) (m h : ℕ) (rest : Lines) → lines_text names margin (kept_lines (nat_le 16 h) m e rest) ≡ kept_line margin (told names e m h) ++ lines_text names margin rest
unfolding lines_text signed_text
kept_lines_text names margin e m h rest = by (nat_le 16 h)
  where
    by : (deep : Bool) → lines_text names margin (kept_lines deep m e rest) ≡ (if deep then set_line margin (temp_text m) (signed_of (told names e m h)) else []) ++ lines_text names margin rest
    by true = ap (λ (t : List ℕ). set_line margin (temp_text m) t ++ lines_text names margin rest) (sym (signed_told names e m h))
    by false = refl

operand_lines : (names : Names) (margin : List ℕ) (n : ℕ) (e : Phrase) (rest : Lines) → lines_text names margin (before (shapes_of names) n e (kept_lines (is_deep e) (next n e) (value n e) rest)) ≡ operand_text names margin n e ++ lines_text names margin rest
unfolding operand_text front_text value_of
operand_lines names margin n e rest =
    front_text_then names margin (before (shapes_of names) n e) (kept_lines (is_deep e) (next n e) (value n e) rest) (before_front (shapes_of names) n e)
    ∙ ap (λ t. lines_text names margin (before (shapes_of names) n e done) ++ t) (kept_lines_text names margin (value n e) (next n e) (height e) rest)
    ∙ sym (append_assoc (lines_text names margin (before (shapes_of names) n e done)) (kept_line margin (value_of names n e)) (lines_text names margin rest))

nothing : (names : Names) (margin text : List ℕ) → text ++ lines_text names margin done ≡ text
unfolding lines_text
nothing names margin text = append-nil text

pub front_unary : (names : Names) (margin : List ℕ) (n : ℕ) (op : UnOp) (e : Phrase) → front_text names margin n (unary op e) ≡ operand_text names margin n e
unfolding front_text
front_unary names margin n op e = operand_lines names margin n e done ∙ nothing names margin (operand_text names margin n e)

-- operators between operands

abbrev left_lines : Names → ℕ → Phrase → Lines → Lines
left_lines names n e rest = before (shapes_of names) n e (kept_lines (is_deep e) (next n e) (value n e) rest)

abbrev operand_value : ℕ → Phrase → Signed
operand_value n e = kept_value (is_deep e) (next n e) (value n e)

abbrev whole : Names → ℕ → BinOp → Bool → ℕ → Phrase → Phrase → Lines
whole names n op joined f a b =
    let m = after_operand f a in
    around op joined n (after_operand m b) (left_lines names f a) (operand_value f a) (left_lines names m b) (operand_value m b) done

plain_whole : (names : Names) (n : ℕ) (op : BinOp) (joined : Bool) (a b : Phrase) → own_temp op joined ≡ false → whole names n op joined (first_temp op joined n) a b
    ≡ left_lines names n a (left_lines names (after_operand n a) b (guards op (after_operand (after_operand n a) b) (operand_value n a) (operand_value (after_operand n a) b) done))
plain_whole names n Or true a b h = refl
plain_whole names n Or false a b h = absurd cc
plain_whole names n And true a b h = refl
plain_whole names n And false a b h = absurd cc
plain_whole names n BitOr joined a b h = refl
plain_whole names n BitXor joined a b h = refl
plain_whole names n BitAnd joined a b h = refl
plain_whole names n Eq joined a b h = refl
plain_whole names n Ne joined a b h = refl
plain_whole names n Lt joined a b h = refl
plain_whole names n Le joined a b h = refl
plain_whole names n Gt joined a b h = refl
plain_whole names n Ge joined a b h = refl
plain_whole names n Shl joined a b h = refl
plain_whole names n Shr joined a b h = refl
plain_whole names n Add joined a b h = refl
plain_whole names n Sub joined a b h = refl
plain_whole names n Mul joined a b h = refl
plain_whole names n Div joined a b h = refl
plain_whole names n Rem joined a b h = refl

guards_lines : (names : Names) (margin : List ℕ) (op : BinOp) (a b : Signed) (l m g h : ℕ) → lines_text names margin (guards op m a b done) ≡ combined_lines op names margin (told names a l g) (told names b m h)
unfolding lines_text signed_text test_text
guards_lines names margin Or a b l m g h = refl
guards_lines names margin And a b l m g h = refl
guards_lines names margin BitOr a b l m g h = refl
guards_lines names margin BitXor a b l m g h = refl
guards_lines names margin BitAnd a b l m g h = refl
guards_lines names margin Eq a b l m g h = refl
guards_lines names margin Ne a b l m g h = refl
guards_lines names margin Lt a b l m g h = refl
guards_lines names margin Le a b l m g h = refl
guards_lines names margin Gt a b l m g h = refl
guards_lines names margin Ge a b l m g h = refl
guards_lines names margin Shl a b l m g h = let p = signed_told names a l g in let q = signed_told names b m h in rw (p, q, append-nil) refl
guards_lines names margin Shr a b l m g h = let p = signed_told names a l g in let q = signed_told names b m h in rw (p, q, append-nil) refl
guards_lines names margin Add a b l m g h = refl
guards_lines names margin Sub a b l m g h = refl
guards_lines names margin Mul a b l m g h = refl
guards_lines names margin Div a b l m g h = let p = signed_told names a l g in let q = signed_told names b m h in rw (p, q, append-nil) refl
guards_lines names margin Rem a b l m g h = let p = signed_told names a l g in let q = signed_told names b m h in rw (p, q, append-nil) refl

abbrev operand_as : Names → ℕ → Phrase → Value
operand_as names n e = told names (operand_value n e) (after_operand n e) (lowered (height e))

pub front_plain : (names : Names) (margin : List ℕ) (n : ℕ) (op : BinOp) (a b : Phrase) → own_temp op (is_steady b) ≡ false
    → front_text names margin n (binary op a b)
    ≡ operand_text names margin n a ++ (operand_text names margin (operand_of names n a).after b ++ combined_lines op names margin (operand_of names n a) (operand_of names (operand_of names n a).after b))
unfolding front_text
front_plain names margin n op a b h =
    let m = after_operand n a in
    ap (lines_text names margin) (plain_whole names n op (is_steady b) a b h)
    ∙ operand_lines names margin n a (left_lines names m b (guards op (after_operand m b) (operand_value n a) (operand_value m b) done))
    ∙ ap (λ t. operand_text names margin n a ++ t) (operand_lines names margin m b (guards op (after_operand m b) (operand_value n a) (operand_value m b) done))
    ∙ ap (λ t. operand_text names margin n a ++ (operand_text names margin m b ++ t)) (guards_lines names margin op (operand_value n a) (operand_value m b) m (after_operand m b) (lowered (height a)) (lowered (height b)))
    ∙ ap (λ x. operand_text names margin n a ++ (operand_text names margin m b ++ combined_lines op names margin x (operand_as names m b))) (sym (operand_told names n a))
    ∙ ap (λ x. operand_text names margin n a ++ (operand_text names margin m b ++ combined_lines op names margin (operand_of names n a) x)) (sym (operand_told names m b))
    ∙ ap (λ k. operand_text names margin n a ++ (operand_text names margin k b ++ combined_lines op names margin (operand_of names n a) (operand_of names k b))) (sym (operand_after names n a))

truth_lines : (names : Names) (margin : List ℕ) (n : ℕ) (e : Signed) (m h : ℕ) (rest : Lines) → lines_text names margin (keep n (truth (c.test_of e)) rest) ≡ truth_line margin n (told names e m h) ++ lines_text names margin rest
unfolding lines_text signed_text
truth_lines names margin n e m h rest =
    ap (λ (t : List ℕ). set_line margin (temp_text n) (codes "(int64_t)" ++ t) ++ lines_text names margin rest) (sym (test_told names e m h))

right_lines : (names : Names) (margin : List ℕ) (n m : ℕ) (e : Phrase) → lines_text names margin (left_lines names m e (keep n (truth (c.test_of (operand_value m e))) done)) ≡ truth_text names margin n m e
unfolding truth_text
right_lines names margin n m e =
    operand_lines names margin m e (keep n (truth (c.test_of (operand_value m e))) done)
    ∙ ap (λ t. operand_text names margin m e ++ t) (truth_lines names margin n (operand_value m e) (after_operand m e) (lowered (height e)) done ∙ nothing names margin _)
    ∙ ap (λ x. operand_text names margin m e ++ truth_line margin n x) (sym (operand_told names m e))

own_whole : (names : Names) (margin : List ℕ) (n : ℕ) (op : BinOp) (joined : Bool) (a b : Phrase) → own_temp op joined ≡ true → lines_text names margin (whole names n op joined (first_temp op joined n) a b)
    ≡ operand_text names margin (n + 1) a ++ (truth_line margin n (operand_as names (n + 1) a) ++ undecided_lines op margin n (truth_text names (deeper margin) n (after_operand (n + 1) a) b))
unfolding lines_text test_text signed_text
own_whole names margin n Or false a b h =
    let m = after_operand (n + 1) a in
    let inner = left_lines names m b (keep n (truth (c.test_of (operand_value m b))) done) in
    let rest = choose (c.test_of (temp n)) done inner done in
    operand_lines names margin (n + 1) a (keep n (truth (c.test_of (operand_value (n + 1) a))) rest)
    ∙ ap (λ t. operand_text names margin (n + 1) a ++ t) (truth_lines names margin n (operand_value (n + 1) a) m (lowered (height a)) rest)
    ∙ ap (λ t. operand_text names margin (n + 1) a ++ (truth_line margin n (operand_as names (n + 1) a) ++ (choice_lines margin (test_text names (c.test_of (temp n))) [] t ++ []))) (right_lines names (deeper margin) n m b)
    ∙ ap (λ t. operand_text names margin (n + 1) a ++ (truth_line margin n (operand_as names (n + 1) a) ++ t)) (append-nil _)
own_whole names margin n Or true a b h = absurd cc
own_whole names margin n And false a b h =
    let m = after_operand (n + 1) a in
    let inner = left_lines names m b (keep n (truth (c.test_of (operand_value m b))) done) in
    let rest = choose (c.test_of (temp n)) inner done done in
    operand_lines names margin (n + 1) a (keep n (truth (c.test_of (operand_value (n + 1) a))) rest)
    ∙ ap (λ t. operand_text names margin (n + 1) a ++ t) (truth_lines names margin n (operand_value (n + 1) a) m (lowered (height a)) rest)
    ∙ ap (λ t. operand_text names margin (n + 1) a ++ (truth_line margin n (operand_as names (n + 1) a) ++ (choice_lines margin (test_text names (c.test_of (temp n))) t [] ++ []))) (right_lines names (deeper margin) n m b)
    ∙ ap (λ t. operand_text names margin (n + 1) a ++ (truth_line margin n (operand_as names (n + 1) a) ++ t)) (append-nil _)
own_whole names margin n And true a b h = absurd cc
own_whole names margin n BitOr joined a b h = absurd cc
own_whole names margin n BitXor joined a b h = absurd cc
own_whole names margin n BitAnd joined a b h = absurd cc
own_whole names margin n Eq joined a b h = absurd cc
own_whole names margin n Ne joined a b h = absurd cc
own_whole names margin n Lt joined a b h = absurd cc
own_whole names margin n Le joined a b h = absurd cc
own_whole names margin n Gt joined a b h = absurd cc
own_whole names margin n Ge joined a b h = absurd cc
own_whole names margin n Shl joined a b h = absurd cc
own_whole names margin n Shr joined a b h = absurd cc
own_whole names margin n Add joined a b h = absurd cc
own_whole names margin n Sub joined a b h = absurd cc
own_whole names margin n Mul joined a b h = absurd cc
own_whole names margin n Div joined a b h = absurd cc
own_whole names margin n Rem joined a b h = absurd cc

pub front_own : (names : Names) (margin : List ℕ) (n : ℕ) (op : BinOp) (a b : Phrase) → own_temp op (is_steady b) ≡ true
    → front_text names margin n (binary op a b)
    ≡ truth_text names margin n (n + 1) a ++ undecided_lines op margin n (truth_text names (deeper margin) n (operand_of names (n + 1) a).after b)
unfolding front_text truth_text
front_own names margin n op a b h =
    let first = operand_text names margin (n + 1) a in
    let left = operand_of names (n + 1) a in
    own_whole names margin n op (is_steady b) a b h
    ∙ ap (λ x. first ++ (truth_line margin n x ++ undecided_lines op margin n (truth_text names (deeper margin) n (after_operand (n + 1) a) b))) (sym (operand_told names (n + 1) a))
    ∙ ap (λ m. first ++ (truth_line margin n left ++ undecided_lines op margin n (truth_text names (deeper margin) n m b))) (sym (operand_after names (n + 1) a))
    ∙ sym (append_assoc first (truth_line margin n left) (undecided_lines op margin n (truth_text names (deeper margin) n left.after b)))

-- indices

pub index_none : (names : Names) (margin : List ℕ) (n : ℕ) (sizes : List ℕ) → index_text names margin n sizes none ≡ []
unfolding index_text lines_text
index_none names margin n sizes = refl

pub index_more : (names : Names) (margin : List ℕ) (n : ℕ) (sizes : List ℕ) (e : Phrase) (is : Phrases) → index_text names margin n sizes (more e is)
    ≡ front_text names margin n e ++ (set_line margin (temp_text (value_of names n e).after) (signed_of (value_of names n e))
    ++ (bound_line names margin (value_of names n e).after (first_size sizes) ++ index_text names margin ((value_of names n e).after + 1) (other_sizes sizes) is))
unfolding index_text front_text lines_text signed_text test_text value_of
index_more names margin n sizes e is =
    front_text_then names margin (before (shapes_of names) n e) _ (before_front (shapes_of names) n e)
    ∙ ap (λ (t : List ℕ). front_text names margin n e ++ (set_line margin (temp_text (next n e)) t
    ++ (bound_line names margin (next n e) (first_size sizes) ++ index_text names margin (next n e + 1) (other_sizes sizes) is))) (sym (signed_told names (value n e) (next n e) (height e)))
