-- The lines of a body depend on the sizes of its names alone, and its names have the same sizes as its variables and constants.
use Rattle.std.proofs.Common.{◌≡◌, ℕ, ℤ, ◌+◌, ◌&&◌, Bool, true, false, cond, List, [], ◌∷◌, ◌++◌, Some, None, refl, sym, ap, ◌∙◌, append_assoc, append-nil}
use Rattle.std.specs.Prelude.{bytes_eq, map, Option, is_some}
use Rattle.std.specs.Map.{lookup}
use Rattle.std.proofs.lemmas.Slice.Eq.{bytes_eq-Decides}
use Rattle.p3l_ast.specs.declared.expression.BinOp.{BinOp}
use Rattle.p3l_ast.specs.declared.expression.BinOp.TheVariants.{Or, And}
use Rattle.p3l_ast.specs.Tree as tree
use Rattle.p3l_ast.specs.Tree.{Phrase, read, unary, binary, Phrases, none, more, Statements, assign, if_, if_else, while_, for_}
use Rattle.p3l_types.specs.Constants.{Constants}
use Rattle.p3l_body.specs.declared.var.Var.{Var}
use Rattle.p3l_body.specs.Seq.{SeqTree}
use Rattle.p3l_c.specs.Syntax.{Signed, Lines, done, keep, write, choose, forever, truth, temp}
use Rattle.p3l_c.specs.Translate.{Shapes, declared, given_sizes, sizes_at, test_of, next, next_all, spots, first_temp, after_operand, is_deep, is_steady, kept_value, kept_lines, around, value, before, before_all, first_size, other_sizes, index_guard, assign_lines, turn_lines, lines}
use Rattle.p3l_c.specs.Condition.{vars_shapes, scalar, variables_in, shapes_in}
use Rattle.p3l_c_print.specs.declared.names.VariablePlace.{VariablePlace}
use Rattle.p3l_c_print.specs.declared.names.Kind.{Kind}
use Rattle.p3l_c_print.specs.declared.names.Kind.TheVariants.{In, Out, Local}
use Rattle.p3l_c_print.specs.Name.{shape_of, shapes_of, entered, all_entered, names_of}
use Rattle.p3l_c_print.proofs.Places.{eq_flip}

-- two lists of names give each name the same sizes
abbrev pub SameSizes : Shapes → Shapes → Type 0
SameSizes a b = (name : List ℕ) → sizes_at a name ≡ sizes_at b name

around_same : (op : BinOp) (joined : Bool) (n m : ℕ) (left left' : Lines → Lines) (a : Signed) (right right' : Lines → Lines) (b : Signed) (rest : Lines) → ((c : Lines) → left c ≡ left' c) → ((c : Lines) → right c ≡ right' c)
    → around op joined n m left a right b rest ≡ around op joined n m left' a right' b rest
around_same Or false n m left left' a right right' b rest p q =
    p _ ∙ ap (λ c. left' (keep n (truth (test_of a)) (choose (test_of (temp n)) done c rest))) (q _)
around_same And false n m left left' a right right' b rest p q =
    p _ ∙ ap (λ c. left' (keep n (truth (test_of a)) (choose (test_of (temp n)) c done rest))) (q _)
around_same op joined n m left left' a right right' b rest p q = p _ ∙ ap left' (q _)

mutual
  before_same : (a b : Shapes) → SameSizes a b → (n : ℕ) (e : Phrase) (rest : Lines) → before a n e rest ≡ before b n e rest
  before_same a b same n (tree.number v) rest = refl
  before_same a b same n (read x is) rest =
      ap (λ sizes. before_all a n sizes is rest) (same x.name) ∙ all_same a b same n (sizes_at b x.name) is rest
  before_same a b same n (unary op e) rest = before_same a b same n e (kept_lines (is_deep e) (next n e) (value n e) rest)
  before_same a b same n (binary op l r) rest =
      let f = first_temp op (is_steady r) n in
      let m = after_operand f l in
      around_same op (is_steady r) n (after_operand m r)
      (λ rest. before a f l (kept_lines (is_deep l) (next f l) (value f l) rest)) (λ rest. before b f l (kept_lines (is_deep l) (next f l) (value f l) rest)) (kept_value (is_deep l) (next f l) (value f l))
      (λ rest. before a m r (kept_lines (is_deep r) (next m r) (value m r) rest)) (λ rest. before b m r (kept_lines (is_deep r) (next m r) (value m r) rest)) (kept_value (is_deep r) (next m r) (value m r))
      rest
      (λ rest. before_same a b same f l (kept_lines (is_deep l) (next f l) (value f l) rest))
      (λ rest. before_same a b same m r (kept_lines (is_deep r) (next m r) (value m r) rest))

  all_same : (a b : Shapes) → SameSizes a b → (n : ℕ) (sizes : List ℕ) (is : Phrases) (rest : Lines) → before_all a n sizes is rest ≡ before_all b n sizes is rest
  all_same a b same n sizes none rest = refl
  all_same a b same n sizes (more e is) rest =
      before_same a b same n e (keep (next n e) (value n e) (index_guard (next n e) (first_size sizes) (before_all a (next n e + 1) (other_sizes sizes) is rest)))
      ∙ ap (λ c. before b n e (keep (next n e) (value n e) (index_guard (next n e) (first_size sizes) c))) (all_same a b same (next n e + 1) (other_sizes sizes) is rest)

assign_same : (a b : Shapes) → SameSizes a b → (x : List ℕ) (is : Phrases) (e : Phrase) (rest : Lines) → assign_lines a x is e rest ≡ assign_lines b x is e rest
assign_same a b same x is e rest =
    let n = next_all 0 is in
    let last = write x (spots 0 is) (value n e) rest in
    ap (λ sizes. before_all a 0 sizes is (before a n e last)) (same x)
    ∙ all_same a b same 0 (sizes_at b x) is (before a n e last)
    ∙ ap (before_all b 0 (sizes_at b x) is) (before_same a b same n e last)

pub lines_same : (a b : Shapes) → SameSizes a b → (budget : ℕ) (c : Statements) (rest : Lines) → lines a budget c rest ≡ lines b budget c rest
lines_same a b same budget tree.done rest = refl
lines_same a b same budget (assign x is e after) rest =
    assign_same a b same x.name is e (lines a budget after rest)
    ∙ ap (assign_lines b x.name is e) (lines_same a b same budget after rest)
lines_same a b same budget (if_ e inner after) rest =
    let test = test_of (value 0 e) in
    before_same a b same 0 e (choose test (lines a budget inner done) done (lines a budget after rest))
    ∙ ap (λ c. before b 0 e (choose test c done (lines a budget after rest))) (lines_same a b same budget inner done)
    ∙ ap (λ c. before b 0 e (choose test (lines b budget inner done) done c)) (lines_same a b same budget after rest)
lines_same a b same budget (if_else e inner other after) rest =
    let test = test_of (value 0 e) in
    before_same a b same 0 e (choose test (lines a budget inner done) (lines a budget other done) (lines a budget after rest))
    ∙ ap (λ c. before b 0 e (choose test c (lines a budget other done) (lines a budget after rest))) (lines_same a b same budget inner done)
    ∙ ap (λ c. before b 0 e (choose test (lines b budget inner done) c (lines a budget after rest))) (lines_same a b same budget other done)
    ∙ ap (λ c. before b 0 e (choose test (lines b budget inner done) (lines b budget other done) c)) (lines_same a b same budget after rest)
lines_same a b same budget (while_ e body after) rest =
    let test = test_of (value 0 e) in
    ap (λ c. forever c test (turn_lines budget (lines a budget body done)) (lines a budget after rest)) (before_same a b same 0 e done)
    ∙ ap (λ c. forever (before b 0 e done) test (turn_lines budget c) (lines a budget after rest)) (lines_same a b same budget body done)
    ∙ ap (forever (before b 0 e done) test (turn_lines budget (lines b budget body done))) (lines_same a b same budget after rest)
lines_same a b same budget (for_ x is e w y js f body after) rest =
    let test = test_of (value 0 w) in
    let step_a = assign_lines a y.name js f done in
    let step_b = assign_lines b y.name js f done in
    let front = before b 0 w done in
    assign_same a b same x.name is e (forever (before a 0 w done) test (turn_lines budget (lines a budget body step_a)) (lines a budget after rest))
    ∙ ap (λ c. assign_lines b x.name is e (forever c test (turn_lines budget (lines a budget body step_a)) (lines a budget after rest))) (before_same a b same 0 w done)
    ∙ ap (λ c. assign_lines b x.name is e (forever front test (turn_lines budget c) (lines a budget after rest))) (lines_same a b same budget body step_a ∙ ap (lines b budget body) (assign_same a b same y.name js f done))
    ∙ ap (λ c. assign_lines b x.name is e (forever front test (turn_lines budget (lines b budget body step_b)) c)) (lines_same a b same budget after rest)

-- the sizes declared in the first of two lists, or else in the second

abbrev first_of : Option (List ℕ) → Option (List ℕ) → Option (List ℕ)
first_of (Some sizes) other = Some sizes
first_of None other = other

declared_join : (a b : Shapes) (name : List ℕ) → declared (a ++ b) name ≡ first_of (declared a name) (declared b name)
declared_join [] b name = refl
declared_join (p ∷ a) b name = by (bytes_eq p.0 name) (declared_join a b name)
  where
    by : (t : Bool) → declared (a ++ b) name ≡ first_of (declared a name) (declared b name) → cond t (Some p.1) (declared (a ++ b) name) ≡ first_of (cond t (Some p.1) (declared a name)) (declared b name)
    by true h = refl
    by false h = h

-- a name that is found is declared
found_declared : (places : List (List ℕ × VariablePlace)) (name : List ℕ) → is_some (lookup (bytes_eq name) places) ≡ is_some (declared (map shape_of places) name)
found_declared [] name = refl
found_declared (p ∷ places) name =
    by (bytes_eq name p.0) (found_declared places name) ∙ ap (λ t. is_some (cond t (Some p.1.sizes) (declared (map shape_of places) name))) (sym (eq_flip p.0 name))
  where
    by : (t : Bool) → is_some (lookup (bytes_eq name) places) ≡ is_some (declared (map shape_of places) name)
        → is_some (cond t (Some p.1) (lookup (bytes_eq name) places)) ≡ is_some (cond t (Some p.1.sizes) (declared (map shape_of places) name))
    by true h = refl
    by false h = h

first_same : (o : Option (List ℕ)) (b : Option (List ℕ)) (c : Option (List ℕ)) → is_some o ≡ true → first_of o b ≡ first_of o c
first_same (Some x) b c h = refl
first_same None b c h = absurd cc

-- a name that is declared already is declared once more to no effect
again : (a : Shapes) (x name sizes : List ℕ) (rest : Option (List ℕ)) → is_some (declared a x) ≡ true
    → first_of (declared a name) rest ≡ first_of (declared a name) (cond (bytes_eq x name) (Some sizes) rest)
again a x name sizes rest h = by (bytes_eq x name) refl
  where
    by : (t : Bool) → bytes_eq x name ≡ t → first_of (declared a name) rest ≡ first_of (declared a name) (cond t (Some sizes) rest)
    by false e = refl
    by true e =
        first_same (declared a name) rest (Some sizes) (ap (λ y. is_some (declared a y)) (sym ((bytes_eq-Decides x name).0 e)) ∙ h)

map_join : (a b : List (List ℕ × VariablePlace)) → map shape_of (a ++ b) ≡ map shape_of a ++ map shape_of b
map_join [] b = refl
map_join (p ∷ a) b = ap (λ c. shape_of p ∷ c) (map_join a b)

-- a variable is added, whether its name is new or not
enters : (kind : Kind) (number : ℕ) (var : Var) (places : List (List ℕ × VariablePlace)) (rest : Shapes) (name : List ℕ)
    → declared (map shape_of (entered kind number var places) ++ rest) name ≡ declared (map shape_of places ++ ((var.name, var.shape.sizes) ∷ rest)) name
enters kind number var places rest name = by (is_some (lookup (bytes_eq var.name) places)) refl
  where
    one : List ℕ × VariablePlace
    one = (var.name, record { kind = kind; number = number; sizes = var.shape.sizes })

    by : (t : Bool) → is_some (lookup (bytes_eq var.name) places) ≡ t
        → declared (map shape_of (cond t places (places ++ one ∷ [])) ++ rest) name ≡ declared (map shape_of places ++ ((var.name, var.shape.sizes) ∷ rest)) name
    by false e = ap (λ s. declared (s ++ rest) name) (map_join places (one ∷ [])) ∙ ap (λ s. declared s name) (append_assoc (map shape_of places) (shape_of one ∷ []) rest)
    by true e =
        declared_join (map shape_of places) rest name
        ∙ again (map shape_of places) var.name name var.shape.sizes (declared rest name) (sym (found_declared places var.name) ∙ e)
        ∙ sym (declared_join (map shape_of places) ((var.name, var.shape.sizes) ∷ rest) name)

all_enter : (kind : Kind) (number : ℕ) (vars : List Var) (places : List (List ℕ × VariablePlace)) (rest : Shapes) (name : List ℕ)
    → declared (map shape_of (all_entered kind number vars places) ++ rest) name ≡ declared (map shape_of places ++ (vars_shapes vars ++ rest)) name
unfolding all_entered
all_enter kind number [] places rest name = refl
all_enter kind number (var ∷ vars) places rest name =
    all_enter kind (number + 1) vars (entered kind number var places) rest name
    ∙ enters kind number var places (vars_shapes vars ++ rest) name

variables_declared : (seq : SeqTree) (name : List ℕ) → declared (shapes_of (names_of seq)) name ≡ declared (variables_in seq) name
variables_declared seq name =
    let ins = vars_shapes seq.ins in
    let outs = vars_shapes seq.outs in
    let locals = vars_shapes seq.locals in
    let one = all_entered In 0 seq.ins [] in
    let two = all_entered Out 0 seq.outs one in
    ap (λ s. declared s name) (sym (append-nil (shapes_of (names_of seq))))
    ∙ all_enter Local 0 seq.locals two [] name
    ∙ all_enter Out 0 seq.outs one (locals ++ []) name
    ∙ all_enter In 0 seq.ins [] (outs ++ (locals ++ [])) name
    ∙ ap (λ s. declared (ins ++ (outs ++ s)) name) (append-nil locals)
    ∙ ap (λ s. declared s name) (sym (append_assoc ins outs locals))

-- a constant has no sizes
scalar_sizes : (constants : Constants) (name : List ℕ) → sizes_at (map scalar constants) name ≡ []
scalar_sizes [] name = refl
scalar_sizes (c ∷ constants) name = by (bytes_eq c.0 name) (scalar_sizes constants name)
  where
    by : (t : Bool) → sizes_at (map scalar constants) name ≡ [] → given_sizes (cond t (Some []) (declared (map scalar constants) name)) ≡ []
    by true h = refl
    by false h = h

scalars_last : (o p : Option (List ℕ)) → given_sizes p ≡ [] → given_sizes o ≡ given_sizes (first_of o p)
scalars_last (Some sizes) p h = refl
scalars_last None p h = sym h

names_sizes : (seq : SeqTree) → SameSizes (shapes_of (names_of seq)) (shapes_in seq)
names_sizes seq name =
    let constants = map scalar seq.constants in
    ap given_sizes (variables_declared seq name)
    ∙ scalars_last (declared (variables_in seq) name) (declared constants name) (scalar_sizes seq.constants name)
    ∙ ap given_sizes (sym (declared_join (variables_in seq) constants name))

-- THE LINES of a body, found by its names
pub lines_named : (seq : SeqTree) → lines (shapes_of (names_of seq)) seq.budget seq.body done ≡ lines (shapes_in seq) seq.budget seq.body done
lines_named seq = lines_same (shapes_of (names_of seq)) (shapes_in seq) (names_sizes seq) seq.budget seq.body done
