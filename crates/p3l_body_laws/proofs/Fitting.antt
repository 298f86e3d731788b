-- Statements that keep the rules of names fit the slots of their variables.
use Rattle.std.proofs.Common.{◌≡◌, ℕ, ℤ, ◌+◌, ◌==◌, Bool, true, false, cond, ◌&&◌, not, List, [], ◌∷◌, ◌++◌, length, map, Option, Some, None, Ok, Err, refl, sym, ◌∙◌, subst, arith}
use Rattle.std.specs.Prelude.{bytes_eq, is_some, nat_lt, option_map, if◌then◌else◌}
use Rattle.std.specs.Map.{lookup}
use Rattle.std.proofs.lemmas.Bool.Decides.{nat_tests}
use Rattle.p3l_ast.specs.declared.position.Pos.{Pos}
use Rattle.p3l_ast.specs.declared.position.Spot.{Spot}
use Rattle.p3l_ast.specs.declared.refusal.Fault.{Fault}
use Rattle.p3l_ast.specs.declared.refusal.Fault.TheVariants.{NotArray, IsArray, WriteToIn}
use Rattle.p3l_ast.specs.Tree.{Phrase, number, read, unary, binary, Phrases, none, more, Statements, done, assign, if_, if_else, while_, for_}
use Rattle.p3l_types.specs.Verdict.{Verdict, kept, broken_if, first_of, given}
use Rattle.p3l_types.specs.Constants.{Constants}
use Rattle.p3l_body.specs.declared.scope.Known.{Known}
use Rattle.p3l_body.specs.declared.var.Var.{Var}
use Rattle.p3l_body.specs.Eval.{width}
use Rattle.p3l_body.specs.Scope.{named, fixed_scalar, known_of}
use Rattle.p3l_body.specs.Scope as rules
use Rattle.p3l_body.specs.Mention.{Mention, brackets_of, mention, mentions, index_mentions, place_mentions, assignment_mentions, code_mentions, mention_rule, mentions_rule}
use Rattle.p3l_body.proofs.Mentioned.{rule-more, rule-append}
use Rattle.p3l_compile.specs.declared.scope.Slot.{Slot}
use Rattle.p3l_compile.specs.Scope.{Names, found, slot_at, slots_from}
use Rattle.p3l_compile.specs.Phrase.{count_of, IsAccess, Fits, FitsAll}
use Rattle.p3l_compile.specs.Statement.{IsTarget, FitsAssign, FitsCode}

-- the names are those of the variables, in order, with the number of their sizes
abbrev pub AreNamed : rules.Names → List Var → Type 0
AreNamed [] [] = Unit {0}
AreNamed [] (var ∷ vars) = ⊥
AreNamed (p ∷ names) [] = ⊥
AreNamed (p ∷ names) (var ∷ vars) = (p.0 ≡ var.name) × (p.1.sizes ≡ length var.shape.sizes) × AreNamed names vars

pub are_named : (is_fixed : Bool) (vars : List Var) → AreNamed (map (named is_fixed) vars) vars
are_named is_fixed [] = tt
are_named is_fixed (var ∷ vars) = (refl, refl, are_named is_fixed vars)

pub named_append : (front back : rules.Names) (vars others : List Var) → AreNamed front vars → AreNamed back others → AreNamed (front ++ back) (vars ++ others)
named_append [] back [] others f b = b
named_append [] back (var ∷ vars) others f b = absurd f
named_append (p ∷ front) back [] others f b = absurd f
named_append (p ∷ front) back (var ∷ vars) others f b = (f.0, f.1, named_append front back vars others f.2 b)

-- a variable with as many sizes as are known, or none
abbrev IsAlike : Option Known → Option Slot → Type 0
IsAlike None None = Unit {0}
IsAlike None (Some slot) = ⊥
IsAlike (Some known) None = ⊥
IsAlike (Some known) (Some slot) = known.sizes ≡ length slot.sizes

alike : (names : rules.Names) (vars : List Var) (base : ℕ) (name : List ℕ) → AreNamed names vars →
    IsAlike (lookup (bytes_eq name) names) (lookup (bytes_eq name) (slots_from base vars))
alike [] [] base name are = tt
alike [] (var ∷ vars) base name are = absurd are
alike (p ∷ names) [] base name are = absurd are
alike (p ∷ names) (var ∷ vars) base name are =
    subst (λ n. IsAlike (cond (bytes_eq name n) (Some p.1) (lookup (bytes_eq name) names)) (lookup (bytes_eq name) (slots_from base (var ∷ vars)))) (sym are.0)
    (by (bytes_eq name var.name) (alike names vars (base + width var) name are.2))
  where
    by : (b : Bool) → IsAlike (lookup (bytes_eq name) names) (lookup (bytes_eq name) (slots_from (base + width var) vars)) →
        IsAlike (cond b (Some p.1) (lookup (bytes_eq name) names)) (cond b (Some (slot_at base var)) (lookup (bytes_eq name) (slots_from (base + width var) vars)))
    by true later = are.1
    by false later = later

-- three rules that are kept
three_kept : (a b c : Bool) (f g h : Fault) (p : Pos) → first_of (broken_if a f p ∷ (broken_if b g p ∷ (broken_if c h p ∷ []))) ≡ kept →
    (a ≡ false) × (b ≡ false) × (c ≡ false)
three_kept false false false f g h p e = (refl, refl, refl)
three_kept false false true f g h p e = absurd cc
three_kept false true c f g h p e = absurd cc
three_kept true b c f g h p e = absurd cc

same_count : (is : Phrases) → brackets_of is ≡ count_of is
same_count none = refl
same_count (more e is) = omega (arith, same_count is)

-- a name with n brackets that keeps its rule
record IsFit (slot : Option Slot) (n : ℕ) (is_assigned : Bool) : Type 0 where
  access : IsAccess slot n
  target : is_assigned ≡ true → IsTarget slot n

fit : (o : Option Known) (c : Option ℤ) (slot : Option Slot) (x : Spot) (n : ℕ) (b : Bool) → IsAlike o slot →
    mention_rule (if is_some o then o else option_map (λ value. fixed_scalar) c) (record { at = x; brackets = n; is_assigned = b }) ≡ kept → IsFit slot n b
fit (Some k) c None x n b same h = absurd same
fit None c (Some slot) x n b same h = absurd same
fit None None None x n b same h = absurd cc
fit None (Some value) None x n b same h =
    let r = three_kept (b && true) (0 == 0 && nat_lt 0 n) (nat_lt 0 0 && not (0 == n)) WriteToIn NotArray IsArray x.pos h in
    record { access = plain n r.1; target = λ e. free b r.0 e }
  where
    plain : (m : ℕ) → 0 == 0 && nat_lt 0 m ≡ false → m ≡ 0
    plain m e = grind (arith, nat_tests)

    free : (a : Bool) → a && true ≡ false → a ≡ true → ⊥
    free true e f = absurd cc
    free false e f = absurd cc
fit (Some k) c (Some slot) x n b same h =
    let r = three_kept (b && k.is_fixed) (k.sizes == 0 && nat_lt 0 n) (nat_lt 0 k.sizes && not (k.sizes == n)) WriteToIn NotArray IsArray x.pos h in
    let all = counted k.sizes n r.1 r.2 ∙ same in
    record { access = all; target = λ e. all }
  where
    counted : (s m : ℕ) → s == 0 && nat_lt 0 m ≡ false → nat_lt 0 s && not (s == m) ≡ false → m ≡ s
    counted s m e f = grind (arith, nat_tests)

module _ (constants : Constants) (names : rules.Names) (scope : Names)
    (same : (name : List ℕ) → IsAlike (lookup (bytes_eq name) names) (found scope name)) where
  abbrev Keep : List Mention → Type 0
  Keep ms = mentions_rule constants names ms ≡ kept

  both_kept : (v w : Verdict) → given v (λ x. w) ≡ kept → (v ≡ kept) × (w ≡ kept)
  both_kept (Ok x) w e = (refl, e)
  both_kept (Err f) w e = absurd cc

  front_back : (ms ns : List Mention) → Keep (ms ++ ns) → Keep ms × Keep ns
  front_back ms ns h = both_kept _ _ (sym (rule-append constants names ms ns) ∙ h)

  first_rest : (m : Mention) (ms : List Mention) → Keep (m ∷ ms) → (mention_rule (known_of constants names m.at.name) m ≡ kept) × Keep ms
  first_rest m ms h = both_kept _ _ (sym (rule-more constants names m ms) ∙ h)

  name_fits : (b : Bool) (x : Spot) (is : Phrases) → mention_rule (known_of constants names x.name) (mention b x is) ≡ kept → IsFit (found scope x.name) (count_of is) b
  name_fits b x is h =
      subst (λ n. IsFit (found scope x.name) n b) (same_count is)
      (fit (lookup (bytes_eq x.name) names) _ (found scope x.name) x (brackets_of is) b (same x.name) h)

  mutual
    unfolding mentions index_mentions

    phrase_fits : (e : Phrase) → Keep (mentions e) → Fits scope e
    phrase_fits (number value) h = tt
    phrase_fits (read x is) h =
        let k = first_rest (mention false x is) (index_mentions is) h in
        ((name_fits false x is k.0).access, index_fits is k.1)
    phrase_fits (unary op e) h = phrase_fits e h
    phrase_fits (binary op a b) h =
        let k = front_back (mentions a) (mentions b) h in
        (phrase_fits a k.0, phrase_fits b k.1)

    index_fits : (is : Phrases) → Keep (index_mentions is) → FitsAll scope is
    index_fits none h = tt
    index_fits (more e is) h =
        let k = front_back (mentions e) (index_mentions is) h in
        (phrase_fits e k.0, index_fits is k.1)

  assign_fits : (x : Spot) (is : Phrases) (e : Phrase) → Keep (assignment_mentions x is e) → FitsAssign scope x.name is e
  assign_fits x is e h =
      let k = front_back (place_mentions true x is) (mentions e) h in
      let l = first_rest (mention true x is) (index_mentions is) k.0 in
      ((name_fits true x is l.0).target refl, index_fits is l.1, phrase_fits e k.1)

  pub code_fits : (c : Statements) → Keep (code_mentions c) → FitsCode scope c
  unfolding code_mentions
  code_fits done h = tt
  code_fits (assign x is e next) h =
      let k = front_back (assignment_mentions x is e) (code_mentions next) h in
      (assign_fits x is e k.0, code_fits next k.1)
  code_fits (if_ e if_so next) h =
      let k = front_back (mentions e ++ code_mentions if_so) (code_mentions next) h in
      let l = front_back (mentions e) (code_mentions if_so) k.0 in
      (phrase_fits e l.0, code_fits if_so l.1, code_fits next k.1)
  code_fits (if_else e if_so if_not next) h =
      let k = front_back (mentions e ++ (code_mentions if_so ++ code_mentions if_not)) (code_mentions next) h in
      let l = front_back (mentions e) (code_mentions if_so ++ code_mentions if_not) k.0 in
      let m = front_back (code_mentions if_so) (code_mentions if_not) l.1 in
      (phrase_fits e l.0, code_fits if_so m.0, code_fits if_not m.1, code_fits next k.1)
  code_fits (while_ e body next) h =
      let k = front_back (mentions e ++ code_mentions body) (code_mentions next) h in
      let l = front_back (mentions e) (code_mentions body) k.0 in
      (phrase_fits e l.0, code_fits body l.1, code_fits next k.1)
  code_fits (for_ x is e w y js f body next) h =
      let last = assignment_mentions y js f ++ code_mentions body in
      let k = front_back (assignment_mentions x is e ++ (mentions w ++ last)) (code_mentions next) h in
      let l = front_back (assignment_mentions x is e) (mentions w ++ last) k.0 in
      let m = front_back (mentions w) last l.1 in
      let n = front_back (assignment_mentions y js f) (code_mentions body) m.1 in
      (assign_fits x is e l.0, phrase_fits w m.0, assign_fits y js f n.0, code_fits body n.1, code_fits next k.1)

-- statements that keep the rules of the names of variables fit the slots of these variables
pub fits : (constants : Constants) (names : rules.Names) (vars : List Var) (statements : Statements) → AreNamed names vars →
    mentions_rule constants names (code_mentions statements) ≡ kept → FitsCode (record { slots = slots_from 0 vars; constants = constants }) statements
fits constants names vars statements are keeps =
    let scope : Names = record { slots = slots_from 0 vars; constants = constants } in
    code_fits constants names scope (λ name. alike names vars 0 name are) statements keeps
