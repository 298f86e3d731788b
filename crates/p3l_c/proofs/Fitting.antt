-- Statements that keep the rules of names fit the objects of these names.
use Rattle.std.proofs.Common.{◌≡◌, ℕ, ℤ, ◌==◌, Bool, true, false, cond, ◌&&◌, not, List, [], ◌∷◌, ◌++◌, length, map, Option, Some, None, Ok, Err, refl, sym, ap, ◌∙◌, subst, arith}
use Rattle.std.specs.Prelude.{bytes_eq, is_some, nat_lt, option_map, if◌then◌else◌}
use Rattle.std.specs.Map.{lookup}
use Rattle.std.proofs.lemmas.Bool.Decides.{nat_tests}
use Rattle.std.proofs.lemmas.Slice.Eq.{bytes_eq-Decides}
use Rattle.p3l_ast.specs.declared.position.Pos.{Pos}
use Rattle.p3l_ast.specs.declared.position.Spot.{Spot}
use Rattle.p3l_ast.specs.declared.refusal.Fault.{Fault}
use Rattle.p3l_ast.specs.declared.refusal.Fault.TheVariants.{NotArray, IsArray, WriteToIn}
use Rattle.p3l_ast.specs.Tree.{Phrase, number, read, unary, binary, Phrases, none, more, Statements, done, assign, if_, if_else, while_, for_}
use Rattle.p3l_types.specs.Verdict.{Verdict, kept, broken_if, first_of, given}
use Rattle.p3l_types.specs.Constants.{Constants, constant_of}
use Rattle.p3l_body.specs.declared.scope.Known.{Known}
use Rattle.p3l_body.specs.declared.var.Var.{Var}
use Rattle.p3l_body.specs.Scope.{Names, named, fixed_scalar, known_of}
use Rattle.p3l_body.specs.Mention.{Mention, brackets_of, mention, mentions, index_mentions, place_mentions, assignment_mentions, code_mentions, mention_rule, mentions_rule}
use Rattle.p3l_body.proofs.Mentioned.{rule-more, rule-append}
use Rattle.p3l_c.specs.Translate.{Shapes, declared}
use Rattle.p3l_c.specs.Condition.{count_of, HasSizes, IsDeclared, Fits, FitsAll, FitsAssign, FitsLines, vars_shapes, scalar}
use Rattle.p3l_c.specs.Checked.{NumbersFit, IndicesFit, CodeFits}

-- the names of variables, in their order
abbrev pub AreNamed : Names → List Var → Type 0
AreNamed [] [] = Unit {0}
AreNamed [] (var ∷ vars) = ⊥
AreNamed (p ∷ names) [] = ⊥
AreNamed (p ∷ names) (var ∷ vars) = (p.0 ≡ var.name) × (p.1.sizes ≡ length var.shape.sizes) × AreNamed names vars

pub are_named : (is_fixed : Bool) (vars : List Var) → AreNamed (map (named is_fixed) vars) vars
are_named is_fixed [] = tt
are_named is_fixed (var ∷ vars) = (refl, refl, are_named is_fixed vars)

pub named_append : (front back : Names) (vars others : List Var) → AreNamed front vars → AreNamed back others → AreNamed (front ++ back) (vars ++ others)
named_append [] back [] others f b = b
named_append [] back (var ∷ vars) others f b = absurd f
named_append (p ∷ front) back [] others f b = absurd f
named_append (p ∷ front) back (var ∷ vars) others f b = (f.0, f.1, named_append front back vars others f.2 b)

-- a name is compared with a variable's from either side
eq_back : (a b : List ℕ) → bytes_eq a b ≡ bytes_eq b a
eq_back a b = by (bytes_eq a b) refl (bytes_eq b a) refl
  where
    by : (p : Bool) → bytes_eq a b ≡ p → (q : Bool) → bytes_eq b a ≡ q → p ≡ q
    by true e true f = refl
    by false e false f = refl
    by true e false f = let k : bytes_eq b a ≡ true = (bytes_eq-Decides b a).1 (sym ((bytes_eq-Decides a b).0 e)) in absurd cc
    by false e true f = let k : bytes_eq a b ≡ true = (bytes_eq-Decides a b).1 (sym ((bytes_eq-Decides b a).0 f)) in absurd cc

-- a name that is known is declared, with as many sizes
abbrev IsAlike : Option Known → Option (List ℕ) → Type 0
IsAlike None sizes = Unit {0}
IsAlike (Some known) None = ⊥
IsAlike (Some known) (Some sizes) = known.sizes ≡ length sizes

constant_alike : (constants : Constants) (name : List ℕ) → IsAlike (option_map (λ value. fixed_scalar) (constant_of constants name)) (declared (map scalar constants) name)
constant_alike [] name = tt
constant_alike (c ∷ constants) name =
    subst (λ b. IsAlike (option_map (λ value. fixed_scalar) (cond (bytes_eq name c.0) (Some c.1) (constant_of constants name))) (cond b (Some []) (declared (map scalar constants) name))) (eq_back name c.0)
    (by (bytes_eq name c.0) (constant_alike constants name))
  where
    by : (b : Bool) → IsAlike (option_map (λ value. fixed_scalar) (constant_of constants name)) (declared (map scalar constants) name)
        → IsAlike (option_map (λ value. fixed_scalar) (cond b (Some c.1) (constant_of constants name))) (cond b (Some []) (declared (map scalar constants) name))
    by true later = refl
    by false later = later

alike : (constants : Constants) (names : Names) (vars : List Var) (name : List ℕ) → AreNamed names vars → IsAlike (known_of constants names name) (declared (vars_shapes vars ++ map scalar constants) name)
alike constants [] [] name are = constant_alike constants name
alike constants [] (var ∷ vars) name are = absurd are
alike constants (p ∷ names) [] name are = absurd are
alike constants (p ∷ names) (var ∷ vars) name are =
    let same : bytes_eq name p.0 ≡ bytes_eq var.name name = eq_back name p.0 ∙ ap (λ n. bytes_eq n name) are.0 in
    subst (λ b. IsAlike (if is_some (cond (bytes_eq name p.0) (Some p.1) (lookup (bytes_eq name) names)) then cond (bytes_eq name p.0) (Some p.1) (lookup (bytes_eq name) names) else option_map (λ value. fixed_scalar) (constant_of constants name))
    (cond b (Some var.shape.sizes) (declared (vars_shapes vars ++ map scalar constants) name))) same
    (by (bytes_eq name p.0) (alike constants names vars name are.2))
  where
    by : (b : Bool) → IsAlike (known_of constants names name) (declared (vars_shapes vars ++ map scalar constants) name)
        → IsAlike (if is_some (cond b (Some p.1) (lookup (bytes_eq name) names)) then cond b (Some p.1) (lookup (bytes_eq name) names) else option_map (λ value. fixed_scalar) (constant_of constants name))
        (cond b (Some var.shape.sizes) (declared (vars_shapes vars ++ map scalar constants) name))
    by true later = are.1
    by false later = later

-- a name that is not fixed is a variable's
abbrev IsFree : Option Known → Option (List ℕ) → Type 0
IsFree None sizes = Unit {0}
IsFree (Some known) sizes = known.is_fixed ≡ false → IsAlike (Some known) sizes

free : (constants : Constants) (names : Names) (vars : List Var) (name : List ℕ) → AreNamed names vars → IsFree (known_of constants names name) (declared (vars_shapes vars) name)
free constants [] [] name are = by (constant_of constants name)
  where
    by : (o : Option ℤ) → IsFree (option_map (λ value. fixed_scalar) o) None
    by None = tt
    by (Some value) = λ e. absurd cc
free constants [] (var ∷ vars) name are = absurd are
free constants (p ∷ names) [] name are = absurd are
free constants (p ∷ names) (var ∷ vars) name are =
    let same : bytes_eq name p.0 ≡ bytes_eq var.name name = eq_back name p.0 ∙ ap (λ n. bytes_eq n name) are.0 in
    subst (λ b. IsFree (if is_some (cond (bytes_eq name p.0) (Some p.1) (lookup (bytes_eq name) names)) then cond (bytes_eq name p.0) (Some p.1) (lookup (bytes_eq name) names) else option_map (λ value. fixed_scalar) (constant_of constants name))
    (cond b (Some var.shape.sizes) (declared (vars_shapes vars) name))) same
    (by (bytes_eq name p.0) (free constants names vars name are.2))
  where
    by : (b : Bool) → IsFree (known_of constants names name) (declared (vars_shapes vars) name)
        → IsFree (if is_some (cond b (Some p.1) (lookup (bytes_eq name) names)) then cond b (Some p.1) (lookup (bytes_eq name) names) else option_map (λ value. fixed_scalar) (constant_of constants name))
        (cond b (Some var.shape.sizes) (declared (vars_shapes vars) name))
    by true later = λ e. are.1
    by false later = later

-- three rules that are kept
three_kept : (a b c : Bool) (f g h : Fault) (p : Pos) → first_of (broken_if a f p ∷ (broken_if b g p ∷ (broken_if c h p ∷ []))) ≡ kept →
    (a ≡ false) × (b ≡ false) × (c ≡ false)
three_kept false false false f g h p e = (refl, refl, refl)
three_kept false false true f g h p e = absurd cc
three_kept false true c f g h p e = absurd cc
three_kept true b c f g h p e = absurd cc

same_count : (is : Phrases) → brackets_of is ≡ count_of is
same_count none = refl
same_count (more e is) = omega (arith, same_count is)

-- as many brackets as sizes
all_counted : (s n : ℕ) → s == 0 && nat_lt 0 n ≡ false → nat_lt 0 s && not (s == n) ≡ false → n ≡ s
all_counted s n e f = grind (arith, nat_tests)

-- a name with n brackets that keeps its rule
known_fits : (o : Option Known) (sizes : Option (List ℕ)) (x : Spot) (n : ℕ) (b : Bool) → IsAlike o sizes → mention_rule o (record { at = x; brackets = n; is_assigned = b }) ≡ kept → HasSizes sizes n
known_fits None sizes x n b like h = absurd cc
known_fits (Some k) None x n b like h = absurd like
known_fits (Some k) (Some sizes) x n b like h =
    let r = three_kept (b && k.is_fixed) (k.sizes == 0 && nat_lt 0 n) (nat_lt 0 k.sizes && not (k.sizes == n)) WriteToIn NotArray IsArray x.pos h in
    all_counted k.sizes n r.1 r.2 ∙ like

target_fits : (o : Option Known) (sizes : Option (List ℕ)) (x : Spot) (n : ℕ) → IsFree o sizes → mention_rule o (record { at = x; brackets = n; is_assigned = true }) ≡ kept → HasSizes sizes n
target_fits None sizes x n may h = absurd cc
target_fits (Some k) sizes x n may h =
    let r = three_kept k.is_fixed (k.sizes == 0 && nat_lt 0 n) (nat_lt 0 k.sizes && not (k.sizes == n)) WriteToIn NotArray IsArray x.pos h in
    known_fits (Some k) sizes x n true (may r.0) h

module _ (constants : Constants) (names : Names) (variables shapes : Shapes)
    (like : (name : List ℕ) → IsAlike (known_of constants names name) (declared shapes name))
    (may : (name : List ℕ) → IsFree (known_of constants names name) (declared variables name)) where
  abbrev Keep : List Mention → Type 0
  Keep ms = mentions_rule constants names ms ≡ kept

  both_kept : (v w : Verdict) → given v (λ x. w) ≡ kept → (v ≡ kept) × (w ≡ kept)
  both_kept (Ok x) w e = (refl, e)
  both_kept (Err f) w e = absurd cc

  front_back : (ms ns : List Mention) → Keep (ms ++ ns) → Keep ms × Keep ns
  front_back ms ns h = both_kept _ _ (sym (rule-append constants names ms ns) ∙ h)

  first_rest : (m : Mention) (ms : List Mention) → Keep (m ∷ ms) → (mention_rule (known_of constants names m.at.name) m ≡ kept) × Keep ms
  first_rest m ms h = both_kept _ _ (sym (rule-more constants names m ms) ∙ h)

  name_fits : (b : Bool) (x : Spot) (is : Phrases) → mention_rule (known_of constants names x.name) (mention b x is) ≡ kept → IsDeclared shapes x.name (count_of is)
  name_fits b x is h =
      subst (IsDeclared shapes x.name) (same_count is) (known_fits (known_of constants names x.name) (declared shapes x.name) x (brackets_of is) b (like x.name) h)

  variable_fits : (x : Spot) (is : Phrases) → mention_rule (known_of constants names x.name) (mention true x is) ≡ kept → IsDeclared variables x.name (count_of is)
  variable_fits x is h =
      subst (IsDeclared variables x.name) (same_count is) (target_fits (known_of constants names x.name) (declared variables x.name) x (brackets_of is) (may x.name) h)

  mutual
    unfolding mentions index_mentions

    phrase_fits : (e : Phrase) → NumbersFit e → Keep (mentions e) → Fits shapes e
    phrase_fits (number value) n h = n
    phrase_fits (read x is) n h =
        let k = first_rest (mention false x is) (index_mentions is) h in
        (name_fits false x is k.0, index_fits is n k.1)
    phrase_fits (unary op e) n h = phrase_fits e n h
    phrase_fits (binary op a b) n h =
        let k = front_back (mentions a) (mentions b) h in
        (phrase_fits a n.0 k.0, phrase_fits b n.1 k.1)

    index_fits : (is : Phrases) → IndicesFit is → Keep (index_mentions is) → FitsAll shapes is
    index_fits none n h = tt
    index_fits (more e is) n h =
        let k = front_back (mentions e) (index_mentions is) h in
        (phrase_fits e n.0 k.0, index_fits is n.1 k.1)

  assign_fits : (x : Spot) (is : Phrases) (e : Phrase) → IndicesFit is → NumbersFit e → Keep (assignment_mentions x is e) → FitsAssign variables shapes x.name is e
  assign_fits x is e m n h =
      let k = front_back (place_mentions true x is) (mentions e) h in
      let l = first_rest (mention true x is) (index_mentions is) k.0 in
      (variable_fits x is l.0, index_fits is m l.1, phrase_fits e n k.1)

  pub code_fits : (c : Statements) → CodeFits c → Keep (code_mentions c) → FitsLines variables shapes c
  unfolding code_mentions
  code_fits done n h = tt
  code_fits (assign x is e after) n h =
      let k = front_back (assignment_mentions x is e) (code_mentions after) h in
      (assign_fits x is e n.0 n.1 k.0, code_fits after n.2 k.1)
  code_fits (if_ e if_so after) n h =
      let k = front_back (mentions e ++ code_mentions if_so) (code_mentions after) h in
      let l = front_back (mentions e) (code_mentions if_so) k.0 in
      (phrase_fits e n.0 l.0, code_fits if_so n.1 l.1, code_fits after n.2 k.1)
  code_fits (if_else e if_so if_not after) n h =
      let k = front_back (mentions e ++ (code_mentions if_so ++ code_mentions if_not)) (code_mentions after) h in
      let l = front_back (mentions e) (code_mentions if_so ++ code_mentions if_not) k.0 in
      let m = front_back (code_mentions if_so) (code_mentions if_not) l.1 in
      (phrase_fits e n.0 l.0, code_fits if_so n.1 m.0, code_fits if_not n.2 m.1, code_fits after n.3 k.1)
  code_fits (while_ e body after) n h =
      let k = front_back (mentions e ++ code_mentions body) (code_mentions after) h in
      let l = front_back (mentions e) (code_mentions body) k.0 in
      (phrase_fits e n.0 l.0, code_fits body n.1 l.1, code_fits after n.2 k.1)
  code_fits (for_ x is e w y js f body after) n h =
      let last = assignment_mentions y js f ++ code_mentions body in
      let k = front_back (assignment_mentions x is e ++ (mentions w ++ last)) (code_mentions after) h in
      let l = front_back (assignment_mentions x is e) (mentions w ++ last) k.0 in
      let m = front_back (mentions w) last l.1 in
      let o = front_back (assignment_mentions y js f) (code_mentions body) m.1 in
      (assign_fits x is e n.0 n.1 l.0, phrase_fits w n.2 m.0, assign_fits y js f n.3 n.4 o.0, code_fits body n.5 o.1, code_fits after n.6 k.1)

-- statements that keep the rules of the names of variables fit their objects
pub fits : (constants : Constants) (names : Names) (vars : List Var) (statements : Statements) → AreNamed names vars → CodeFits statements
    → mentions_rule constants names (code_mentions statements) ≡ kept → FitsLines (vars_shapes vars) (vars_shapes vars ++ map scalar constants) statements
fits constants names vars statements are n keeps =
    code_fits constants names (vars_shapes vars) (vars_shapes vars ++ map scalar constants)
    (λ name. alike constants names vars name are) (λ name. free constants names vars name are) statements n keeps
