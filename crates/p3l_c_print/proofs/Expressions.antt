-- The values of expressions in memory, and the lines before their use, as calls put them.
use Rattle.std.proofs.Common.{◌≡◌, ℕ, ℤ, ◌+◌, true, false, List, [], ◌++◌, sym, ap, ◌∙◌, append-nil}
use Rattle.std.specs.declared.boxed.Box.{Box}
use Rattle.std.specs.declared.alloc.Global.{Global}
use Rattle.p3l_ast.specs.declared.position.Spot.{Spot}
use Rattle.p3l_ast.specs.declared.expression.UnOp.{UnOp}
use Rattle.p3l_ast.specs.declared.expression.BinOp.{BinOp}
use Rattle.p3l_ast.specs.declared.expression.Expr.{Expr}
use Rattle.p3l_ast.specs.declared.expression.Expr.TheVariants.{Number, Read, Unary, Binary}
use Rattle.p3l_ast.specs.declared.expression.Target.{Target}
use Rattle.p3l_ast.specs.Tree.{Phrase, number, read, unary, binary, phrase, phrases}
use Rattle.p3l_ast.proofs.Trees.{phrase_number, phrase_read, phrase_unary, phrase_binary}
use Rattle.p3l_c.specs.Translate.{sizes_at, is_steady}
use Rattle.p3l_c_print.specs.declared.value.Value.{Value}
use Rattle.p3l_c_print.specs.declared.value.Spots.{Spots}
use Rattle.p3l_c_print.specs.Name.{Names, literal_text, name_text, shapes_of}
use Rattle.p3l_c_print.specs.Line.{deeper}
use Rattle.p3l_c_print.specs.Value.{value_of, front_text, index_text, spots_of, operand_of, operand_text, number_value, kept, kept_line, applied, combined, combined_lines, own_temp, decided, truth_line, undecided_lines, truth_text}
use Rattle.p3l_c_print.proofs.Joined.{then}
use Rattle.p3l_c_print.proofs.Values.{number_is, read_is, unary_is, binary_plain, binary_own}
use Rattle.p3l_c_print.proofs.Fronts.{front_number, front_read, front_unary, front_plain, front_own}

-- trees

pub number_tree : (e : Expr) (z : ℤ) → e ≡ Number z → phrase e ≡ number z
number_tree e z is = ap phrase is ∙ phrase_number z

pub read_tree : (e : Expr) (t : Target) → e ≡ Read t → phrase e ≡ read t.at (phrases t.index.items)
read_tree e t is = ap phrase is ∙ phrase_read t.at t.index

pub unary_tree : (e inner : Expr) (o : UnOp) (a : Box Expr Global) → e ≡ Unary o a → inner ≡ a.value → phrase e ≡ unary o (phrase inner)
unary_tree e inner o a is same = ap phrase is ∙ phrase_unary o a ∙ ap (λ x. unary o (phrase x)) (sym same)

pub binary_tree : (e left right : Expr) (o : BinOp) (a b : Box Expr Global) → e ≡ Binary o a b → left ≡ a.value → right ≡ b.value → phrase e ≡ binary o (phrase left) (phrase right)
binary_tree e left right o a b is one two =
    ap phrase is ∙ phrase_binary o a b ∙ ap (λ x. binary o (phrase x) (phrase b.value)) (sym one) ∙ ap (λ x. binary o (phrase left) (phrase x)) (sym two)

-- a number

pub number_lines : (names : Names) (margin old : List ℕ) (n : ℕ) (e : Expr) (z : ℤ) → e ≡ Number z → old ≡ old ++ front_text names margin n (phrase e)
number_lines names margin old n e z is =
    sym (ap (λ p. old ++ front_text names margin n p) (number_tree e z is) ∙ ap (λ t. old ++ t) (front_number names margin n z) ∙ append-nil old)

pub number_held : (names : Names) (n : ℕ) (e : Expr) (z : ℤ) → e ≡ Number z → number_value (literal_text z) n 0 ≡ value_of names n (phrase e)
number_held names n e z is = sym (ap (value_of names n) (number_tree e z is) ∙ number_is names n z)

-- an object

pub read_lines : (names : Names) (margin : List ℕ) (n : ℕ) (x : Spot) (old new sizes : List ℕ) (items given : List Expr) → sizes ≡ sizes_at (shapes_of names) x.name → given ≡ items
    → new ≡ old ++ index_text names margin n sizes (phrases given) → new ≡ old ++ front_text names margin n (read x (phrases items))
read_lines names margin n x old new sizes items given s g h =
    h ∙ ap (λ z. old ++ index_text names margin n z (phrases given)) s
    ∙ ap (λ es. old ++ index_text names margin n (sizes_at (shapes_of names) x.name) (phrases es)) g
    ∙ ap (λ t. old ++ t) (sym (front_read names margin n x (phrases items)))

pub read_held : (names : Names) (n : ℕ) (x : Spot) (items given : List Expr) (it : Spots) (text : List ℕ) → given ≡ items → it ≡ spots_of n (phrases given) → text ≡ name_text names x.name ++ it.text
    → number_value text it.after 0 ≡ value_of names n (read x (phrases items))
read_held names n x items given it text g s h =
    let all = s ∙ ap (λ es. spots_of n (phrases es)) g in
    ap (λ t. number_value t it.after 0) h
    ∙ ap (λ (k : Spots). number_value (name_text names x.name ++ k.text) k.after 0) all
    ∙ sym (read_is names n x (phrases items))

-- an operand

pub operand_lines : (names : Names) (margin : List ℕ) (n : ℕ) (e : Phrase) (old middle new : List ℕ) (v : Value) → middle ≡ old ++ front_text names margin n e → v ≡ value_of names n e
    → new ≡ middle ++ kept_line margin v → new ≡ old ++ operand_text names margin n e
unfolding operand_text
operand_lines names margin n e old middle new v p q r =
    then old middle new (front_text names margin n e) (kept_line margin (value_of names n e)) p (r ∙ ap (λ x. middle ++ kept_line margin x) q)

pub operand_held : (names : Names) (n : ℕ) (e : Phrase) (v : Value) → v ≡ value_of names n e → kept v ≡ operand_of names n e
unfolding operand_of
operand_held names n e v q = ap kept q

pub truth_lines : (names : Names) (margin : List ℕ) (temp n : ℕ) (e : Phrase) (old middle new : List ℕ) (v : Value) → middle ≡ old ++ operand_text names margin n e → v ≡ operand_of names n e
    → new ≡ middle ++ truth_line margin temp v → new ≡ old ++ truth_text names margin temp n e
unfolding truth_text
truth_lines names margin temp n e old middle new v p q r =
    then old middle new (operand_text names margin n e) (truth_line margin temp (operand_of names n e)) p (r ∙ ap (λ x. middle ++ truth_line margin temp x) q)

-- an operator before its operand

pub unary_lines : (names : Names) (margin : List ℕ) (n : ℕ) (e inner : Expr) (o : UnOp) (a : Box Expr Global) (old new : List ℕ) → e ≡ Unary o a → inner ≡ a.value
    → new ≡ old ++ operand_text names margin n (phrase inner) → new ≡ old ++ front_text names margin n (phrase e)
unary_lines names margin n e inner o a old new is same h =
    h ∙ ap (λ t. old ++ t) (sym (ap (front_text names margin n) (unary_tree e inner o a is same) ∙ front_unary names margin n o (phrase inner)))

pub unary_held : (names : Names) (n : ℕ) (e inner : Expr) (o : UnOp) (a : Box Expr Global) (v : Value) → e ≡ Unary o a → inner ≡ a.value → v ≡ operand_of names n (phrase inner)
    → applied o v ≡ value_of names n (phrase e)
unary_held names n e inner o a v is same h =
    ap (applied o) h ∙ sym (ap (value_of names n) (unary_tree e inner o a is same) ∙ unary_is names n o (phrase inner))

-- an operator between its operands

module _ (names : Names) (margin : List ℕ) (n : ℕ) (op : BinOp) (a b : Phrase) (old : List ℕ) where
  pub combined_front : (middle later new : List ℕ) (one two : Value) → own_temp op (is_steady b) ≡ false → middle ≡ old ++ operand_text names margin n a → one ≡ operand_of names n a
      → later ≡ middle ++ operand_text names margin one.after b → two ≡ operand_of names one.after b → new ≡ later ++ combined_lines op names margin one two
      → new ≡ old ++ front_text names margin n (binary op a b)
  combined_front middle later new one two h p v q w r =
      let left = operand_of names n a in
      let first = operand_text names margin n a in
      then old middle new first (operand_text names margin one.after b ++ combined_lines op names margin one two) p
      (then middle later new (operand_text names margin one.after b) (combined_lines op names margin one two) q r)
      ∙ ap (λ (x : Value). old ++ (first ++ (operand_text names margin x.after b ++ combined_lines op names margin x two))) v
      ∙ ap (λ x. old ++ (first ++ (operand_text names margin left.after b ++ combined_lines op names margin left x))) (w ∙ ap (λ (x : Value). operand_of names x.after b) v)
      ∙ ap (λ t. old ++ t) (sym (front_plain names margin n op a b h))

  pub decided_front : (middle new inside empty inner : List ℕ) (start : ℕ) (one : Value) → own_temp op (is_steady b) ≡ true → start ≡ n + 1 → inside ≡ deeper margin → empty ≡ []
      → middle ≡ old ++ truth_text names margin n start a → one ≡ operand_of names start a → inner ≡ empty ++ truth_text names inside n one.after b
      → new ≡ middle ++ undecided_lines op margin n inner → new ≡ old ++ front_text names margin n (binary op a b)
  decided_front middle new inside empty inner start one h s d z p v q r =
      let left = operand_of names (n + 1) a in
      let right = truth_text names (deeper margin) n left.after b in
      let inner_is : inner ≡ right =
      q ∙ ap (λ t. t ++ truth_text names inside n one.after b) z ∙ ap (λ m. truth_text names m n one.after b) d
      ∙ ap (λ (x : Value). truth_text names (deeper margin) n x.after b) (v ∙ ap (λ k. operand_of names k a) s) in
      then old middle new (truth_text names margin n (n + 1) a) (undecided_lines op margin n right)
      (p ∙ ap (λ k. old ++ truth_text names margin n k a) s) (r ∙ ap (λ t. middle ++ undecided_lines op margin n t) inner_is)
      ∙ ap (λ t. old ++ t) (sym (front_own names margin n op a b h))

module _ (names : Names) (n : ℕ) (op : BinOp) (a b : Phrase) where
  pub combined_held : (one two : Value) → own_temp op (is_steady b) ≡ false → one ≡ operand_of names n a → two ≡ operand_of names one.after b
      → combined op one two ≡ value_of names n (binary op a b)
  combined_held one two h v w =
      ap (λ x. combined op x two) v ∙ ap (combined op (operand_of names n a)) (w ∙ ap (λ (x : Value). operand_of names x.after b) v) ∙ sym (binary_plain names n op a b h)

  pub decided_held : (start : ℕ) (one two : Value) → own_temp op (is_steady b) ≡ true → start ≡ n + 1 → one ≡ operand_of names start a → two ≡ operand_of names one.after b
      → decided n one two ≡ value_of names n (binary op a b)
  decided_held start one two h s v w =
      let left = v ∙ ap (λ k. operand_of names k a) s in
      ap (λ x. decided n x two) left ∙ ap (decided n (operand_of names (n + 1) a)) (w ∙ ap (λ (x : Value). operand_of names x.after b) left) ∙ sym (binary_own names n op a b h)
