-- The text of lines before other lines.
use Rattle.std.proofs.Common.{◌≡◌, ℕ, ◌+◌, List, ◌++◌, refl, sym, ap, ◌∙◌, append_assoc, Bool, true, false}
use Rattle.p3l_ast.specs.declared.expression.BinOp.{BinOp}
use Rattle.p3l_ast.specs.declared.expression.BinOp.TheVariants.{Or, And, Shl, Shr, Div, Rem}
use Rattle.p3l_ast.specs.Tree as tree
use Rattle.p3l_ast.specs.Tree.{Phrase, read, unary, binary, Phrases, none, more, Statements, assign, if_, if_else, while_, for_}
use Rattle.p3l_c.specs.Syntax.{Signed, Lines, done, keep, write, stop_if, turn, choose, forever}
use Rattle.p3l_c.specs.Translate.{Shapes, sizes_at, test_of, next, next_all, spots, first_temp, around, guards, value, before, before_all, first_size, other_sizes, index_guard, assign_lines, turn_lines, lines, is_deep, is_steady, kept_value, kept_lines, after_operand}
use Rattle.p3l_c_print.specs.Name.{Names}
use Rattle.p3l_c_print.specs.Text.{lines_text}

-- one list of lines after another
abbrev pub follow : Lines → Lines → Lines
follow done d = d
follow (keep k e c) d = keep k e (follow c d)
follow (write x ks e c) d = write x ks e (follow c d)
follow (stop_if t trap c) d = stop_if t trap (follow c d)
follow (turn c) d = turn (follow c d)
follow (choose t a b c) d = choose t a b (follow c d)
follow (forever a t b c) d = forever a t b (follow c d)

pub text_follow : (names : Names) (margin : List ℕ) (c d : Lines) → lines_text names margin (follow c d) ≡ lines_text names margin c ++ lines_text names margin d
unfolding lines_text
text_follow names margin done d = refl
text_follow names margin (keep k e c) d = let h = text_follow names margin c d in rw h (simp append_assoc)
text_follow names margin (write x ks e c) d = let h = text_follow names margin c d in rw h (simp append_assoc)
text_follow names margin (stop_if t trap c) d = let h = text_follow names margin c d in rw h (simp append_assoc)
text_follow names margin (turn c) d = let h = text_follow names margin c d in rw h (simp append_assoc)
text_follow names margin (choose t a b c) d = let h = text_follow names margin c d in rw h (simp append_assoc)
text_follow names margin (forever a t b c) d = let h = text_follow names margin c d in rw h (simp append_assoc)

-- lines before others are those before none, and then the others
abbrev pub Fronts : (Lines → Lines) → Type 0
Fronts front = (rest : Lines) → front rest ≡ follow (front done) rest

follow_follow : (a b c : Lines) → follow (follow a b) c ≡ follow a (follow b c)
follow_follow done b c = refl
follow_follow (keep k e a) b c = ap (keep k e) (follow_follow a b c)
follow_follow (write x ks e a) b c = ap (write x ks e) (follow_follow a b c)
follow_follow (stop_if t trap a) b c = ap (stop_if t trap) (follow_follow a b c)
follow_follow (turn a) b c = ap turn (follow_follow a b c)
follow_follow (choose t x y a) b c = ap (choose t x y) (follow_follow a b c)
follow_follow (forever x t y a) b c = ap (forever x t y) (follow_follow a b c)

pub fronts_then : (one two : Lines → Lines) → Fronts one → Fronts two → Fronts (λ rest. one (two rest))
fronts_then one two p q rest =
    p (two rest) ∙ ap (follow (one done)) (q rest) ∙ sym (follow_follow (one done) (two done) rest) ∙ ap (λ c. follow c rest) (sym (p (two done)))

guards_front : (op : BinOp) (m : ℕ) (a b : Signed) → Fronts (guards op m a b)
guards_front Shl m a b rest = refl
guards_front Shr m a b rest = refl
guards_front Div m a b rest = refl
guards_front Rem m a b rest = refl
guards_front op m a b rest = refl

around_front : (op : BinOp) (joined : Bool) (n m : ℕ) (left : Lines → Lines) (a : Signed) (right : Lines → Lines) (b : Signed) → Fronts left → Fronts right → Fronts (around op joined n m left a right b)
around_front Or false n m left a right b l r = fronts_then left (λ rest. keep n _ (choose _ _ _ rest)) l (λ rest. refl)
around_front And false n m left a right b l r = fronts_then left (λ rest. keep n _ (choose _ _ _ rest)) l (λ rest. refl)
around_front op joined n m left a right b l r = fronts_then left (λ rest. right (guards op m a b rest)) l (fronts_then right (guards op m a b) r (guards_front op m a b))

kept_front : (d : Bool) (m : ℕ) (a : Signed) → Fronts (kept_lines d m a)
kept_front true m a rest = refl
kept_front false m a rest = refl

mutual
  pub before_front : (shapes : Shapes) (n : ℕ) (e : Phrase) → Fronts (before shapes n e)
  before_front shapes n (tree.number v) = λ rest. refl
  before_front shapes n (read x is) = before_all_front shapes n (sizes_at shapes x.name) is
  before_front shapes n (unary op e) =
      fronts_then (before shapes n e) (kept_lines (is_deep e) (next n e) (value n e)) (before_front shapes n e) (kept_front (is_deep e) (next n e) (value n e))
  before_front shapes n (binary op a b) =
      let f = first_temp op (is_steady b) n in
      let m = after_operand f a in
      around_front op (is_steady b) n (after_operand m b)
      (λ rest. before shapes f a (kept_lines (is_deep a) (next f a) (value f a) rest)) (kept_value (is_deep a) (next f a) (value f a))
      (λ rest. before shapes m b (kept_lines (is_deep b) (next m b) (value m b) rest)) (kept_value (is_deep b) (next m b) (value m b))
      (fronts_then (before shapes f a) (kept_lines (is_deep a) (next f a) (value f a)) (before_front shapes f a) (kept_front (is_deep a) (next f a) (value f a)))
      (fronts_then (before shapes m b) (kept_lines (is_deep b) (next m b) (value m b)) (before_front shapes m b) (kept_front (is_deep b) (next m b) (value m b)))

  pub before_all_front : (shapes : Shapes) (n : ℕ) (sizes : List ℕ) (is : Phrases) → Fronts (before_all shapes n sizes is)
  before_all_front shapes n sizes none = λ rest. refl
  before_all_front shapes n sizes (more e is) =
      fronts_then (before shapes n e) (λ rest. keep (next n e) (value n e) (index_guard (next n e) (first_size sizes) (before_all shapes (next n e + 1) (other_sizes sizes) is rest))) (before_front shapes n e)
      (λ rest. ap (λ c. keep (next n e) (value n e) (index_guard (next n e) (first_size sizes) c)) (before_all_front shapes (next n e + 1) (other_sizes sizes) is rest))

pub assign_front : (shapes : Shapes) (x : List ℕ) (is : Phrases) (e : Phrase) → Fronts (assign_lines shapes x is e)
assign_front shapes x is e =
    fronts_then (before_all shapes 0 (sizes_at shapes x) is) (λ rest. before shapes (next_all 0 is) e (write x (spots 0 is) (value (next_all 0 is) e) rest)) (before_all_front shapes 0 (sizes_at shapes x) is)
    (fronts_then (before shapes (next_all 0 is) e) (write x (spots 0 is) (value (next_all 0 is) e)) (before_front shapes (next_all 0 is) e) (λ rest. refl))

pub lines_front : (shapes : Shapes) (budget : ℕ) (c : Statements) → Fronts (lines shapes budget c)
lines_front shapes budget tree.done = λ rest. refl
lines_front shapes budget (assign x is e after) =
    fronts_then (assign_lines shapes x.name is e) (lines shapes budget after) (assign_front shapes x.name is e) (lines_front shapes budget after)
lines_front shapes budget (if_ e if_so after) =
    fronts_then (before shapes 0 e) (λ rest. choose (test_of (value 0 e)) (lines shapes budget if_so done) done (lines shapes budget after rest)) (before_front shapes 0 e) (λ rest. ap (choose (test_of (value 0 e)) (lines shapes budget if_so done) done) (lines_front shapes budget after rest))
lines_front shapes budget (if_else e if_so if_not after) =
    fronts_then (before shapes 0 e) (λ rest. choose (test_of (value 0 e)) (lines shapes budget if_so done) (lines shapes budget if_not done) (lines shapes budget after rest)) (before_front shapes 0 e) (λ rest. ap (choose (test_of (value 0 e)) (lines shapes budget if_so done) (lines shapes budget if_not done)) (lines_front shapes budget after rest))
lines_front shapes budget (while_ e body after) = λ rest. ap (forever (before shapes 0 e done) (test_of (value 0 e)) (turn_lines budget (lines shapes budget body done))) (lines_front shapes budget after rest)
lines_front shapes budget (for_ x is e w y js f body after) =
    fronts_then (assign_lines shapes x.name is e) (λ rest. forever (before shapes 0 w done) (test_of (value 0 w)) (turn_lines budget (lines shapes budget body (assign_lines shapes y.name js f done))) (lines shapes budget after rest)) (assign_front shapes x.name is e) (λ rest. ap (forever (before shapes 0 w done) (test_of (value 0 w)) (turn_lines budget (lines shapes budget body (assign_lines shapes y.name js f done)))) (lines_front shapes budget after rest))

-- the texts, one after the other
pub front_text_then : (names : Names) (margin : List ℕ) (front : Lines → Lines) (rest : Lines) → Fronts front → lines_text names margin (front rest) ≡ lines_text names margin (front done) ++ lines_text names margin rest
front_text_then names margin front rest p = ap (lines_text names margin) (p rest) ∙ text_follow names margin (front done) rest
