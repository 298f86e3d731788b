-- The rules of names, by what expressions and statements are made of.
use Rattle.std.proofs.Common.{◌≡◌, ℕ, ◌+◌, ◌<◌, ◌≤◌, ℤ, true, false, List, [], ◌∷◌, ◌++◌, length, get_or, drop, map, Ok, Err, Some, None, refl, sym, ap, ◌∙◌, append_assoc, arith}
use Rattle.std.specs.declared.vec.Vec.{Vec}
use Rattle.std.specs.declared.boxed.Box.{Box}
use Rattle.std.specs.declared.alloc.Global.{Global}
use Rattle.std.proofs.lemmas.List.{append-nil, drop_more, drop_all}
use Rattle.p3l_ast.specs.declared.refusal.SourceRefusal.{SourceRefusal}
use Rattle.p3l_ast.specs.declared.expression.UnOp.{UnOp}
use Rattle.p3l_ast.specs.declared.expression.BinOp.{BinOp}
use Rattle.p3l_ast.specs.declared.expression.Expr.{Expr}
use Rattle.p3l_ast.specs.declared.expression.Expr.TheVariants.{Number, Read, Unary, Binary}
use Rattle.p3l_ast.specs.declared.expression.Target.{Target}
use Rattle.p3l_ast.specs.declared.statement.Stmt.{Stmt}
use Rattle.p3l_ast.specs.declared.statement.Stmt.TheVariants.{Assign, If, While, For}
use Rattle.p3l_ast.specs.Tree.{Statements, done, assign, if_, if_else, while_, for_, phrase, phrases, one, statements, join}
use Rattle.p3l_ast.proofs.Trees.{phrase_number, phrase_unary, phrase_binary, phrase_read, one_assign, one_if, one_if_else, one_while, one_for}
use Rattle.p3l_types.specs.Verdict.{Verdict, kept, given, first_of}
use Rattle.p3l_types.specs.Constants.{Constants}
use Rattle.p3l_body.specs.Scope.{Names, known_of}
use Rattle.p3l_body.specs.Mention.{Mention, brackets_of, mentions, index_mentions, place_mentions, assignment_mentions, code_mentions, mention_rule, mentions_rule}

-- an index has one bracket for each of its expressions
pub brackets-length : (es : List Expr) → brackets_of (phrases es) ≡ length es
brackets-length [] = refl
brackets-length (e ∷ es) = omega (arith, brackets-length es)

-- rules one after another
then-none : (v : Verdict) → given v (λ x. kept) ≡ v
then-none (Ok x) = refl
then-none (Err e) = refl

pub rule-more : (constants : Constants) (names : Names) (m : Mention) (ms : List Mention) →
    mentions_rule constants names (m ∷ ms) ≡ given (mention_rule (known_of constants names m.at.name) m) (λ x. mentions_rule constants names ms)
unfolding mentions_rule
rule-more constants names m ms = by (mention_rule (known_of constants names m.at.name) m)
  where
    by : (v : Verdict) → first_of (v ∷ map (λ (n : Mention). mention_rule (known_of constants names n.at.name) n) ms)
        ≡ given v (λ x. first_of (map (λ (n : Mention). mention_rule (known_of constants names n.at.name) n) ms))
    by (Ok x) = refl
    by (Err e) = refl

-- the rules of names followed by others
pub rule-append : (constants : Constants) (names : Names) (ms ns : List Mention) →
    mentions_rule constants names (ms ++ ns) ≡ given (mentions_rule constants names ms) (λ x. mentions_rule constants names ns)
unfolding mentions_rule
rule-append constants names [] ns = refl
rule-append constants names (m ∷ ms) ns =
    rule-more constants names m (ms ++ ns)
    ∙ by (mention_rule (known_of constants names m.at.name) m) (rule-append constants names ms ns)
    ∙ ap (λ v. given v (λ x. mentions_rule constants names ns)) (sym (rule-more constants names m ms))
  where
    by : (v : Verdict) → mentions_rule constants names (ms ++ ns) ≡ given (mentions_rule constants names ms) (λ x. mentions_rule constants names ns) →
        given v (λ x. mentions_rule constants names (ms ++ ns)) ≡ given (given v (λ x. mentions_rule constants names ms)) (λ x. mentions_rule constants names ns)
    by (Ok x) e = e
    by (Err f) e = refl

-- the names of statements one after another
pub code_mentions-join : (c d : Statements) → code_mentions (join c d) ≡ code_mentions c ++ code_mentions d
unfolding code_mentions
code_mentions-join done d = refl
code_mentions-join (assign x index e next) d =
    ap (λ ms. assignment_mentions x index e ++ ms) (code_mentions-join next d)
    ∙ sym (append_assoc (assignment_mentions x index e) (code_mentions next) (code_mentions d))
code_mentions-join (if_ e if_so next) d =
    ap (λ ms. (mentions e ++ code_mentions if_so) ++ ms) (code_mentions-join next d)
    ∙ sym (append_assoc (mentions e ++ code_mentions if_so) (code_mentions next) (code_mentions d))
code_mentions-join (if_else e if_so if_not next) d =
    ap (λ ms. (mentions e ++ (code_mentions if_so ++ code_mentions if_not)) ++ ms) (code_mentions-join next d)
    ∙ sym (append_assoc (mentions e ++ (code_mentions if_so ++ code_mentions if_not)) (code_mentions next) (code_mentions d))
code_mentions-join (while_ e body next) d =
    ap (λ ms. (mentions e ++ code_mentions body) ++ ms) (code_mentions-join next d)
    ∙ sym (append_assoc (mentions e ++ code_mentions body) (code_mentions next) (code_mentions d))
code_mentions-join (for_ x index e w y indices f body next) d =
    ap (λ ms. (assignment_mentions x index e ++ (mentions w ++ (assignment_mentions y indices f ++ code_mentions body))) ++ ms) (code_mentions-join next d)
    ∙ sym (append_assoc (assignment_mentions x index e ++ (mentions w ++ (assignment_mentions y indices f ++ code_mentions body))) (code_mentions next) (code_mentions d))

module _ (constants : Constants) (names : Names) where
  abbrev rule : List Mention → Verdict
  rule ms = mentions_rule constants names ms

  pub rule-none : rule [] ≡ kept
  unfolding mentions_rule
  rule-none = refl

  pub number-rule : (v : ℤ) → rule (mentions (phrase (Number v))) ≡ kept
  unfolding mentions mentions_rule
  number-rule v = ap (λ e. rule (mentions e)) (phrase_number v)

  pub read-rule : (t : Target) → rule (mentions (phrase (Read t))) ≡ rule (place_mentions false t.at (phrases t.index.items))
  unfolding mentions
  read-rule t = ap (λ e. rule (mentions e)) (phrase_read t.at t.index)

  pub unary-rule : (o : UnOp) (e : Box Expr Global) → rule (mentions (phrase (Unary o e))) ≡ rule (mentions (phrase e.value))
  unfolding mentions
  unary-rule o e = ap (λ e. rule (mentions e)) (phrase_unary o e)

  pub binary-rule : (o : BinOp) (a b : Box Expr Global) → rule (mentions (phrase (Binary o a b))) ≡ given (rule (mentions (phrase a.value))) (λ x. rule (mentions (phrase b.value)))
  unfolding mentions
  binary-rule o a b = ap (λ e. rule (mentions e)) (phrase_binary o a b) ∙ rule-append constants names (mentions (phrase a.value)) (mentions (phrase b.value))

  pub index-rule-none : rule (index_mentions (phrases [])) ≡ kept
  unfolding mentions index_mentions mentions_rule
  index-rule-none = refl

  pub index-rule-more : (e : Expr) (es : List Expr) → rule (index_mentions (phrases (e ∷ es))) ≡ given (rule (mentions (phrase e))) (λ x. rule (index_mentions (phrases es)))
  unfolding mentions index_mentions
  index-rule-more e es = rule-append constants names (mentions (phrase e)) (index_mentions (phrases es))

  pub assignment-rule : (t : Target) (e : Expr) → rule (assignment_mentions t.at (phrases t.index.items) (phrase e))
      ≡ given (rule (place_mentions true t.at (phrases t.index.items))) (λ x. rule (mentions (phrase e)))
  assignment-rule t e = rule-append constants names (place_mentions true t.at (phrases t.index.items)) (mentions (phrase e))

  pub code-rule-none : rule (code_mentions (statements [])) ≡ kept
  unfolding code_mentions mentions_rule
  code-rule-none = refl

  pub code-rule-more : (s : Stmt) (ss : List Stmt) → rule (code_mentions (statements (s ∷ ss))) ≡ given (rule (code_mentions (one s))) (λ x. rule (code_mentions (statements ss)))
  code-rule-more s ss = ap rule (code_mentions-join (one s) (statements ss)) ∙ rule-append constants names (code_mentions (one s)) (code_mentions (statements ss))

  -- the rule of the rest, one step on and at the end
  pub index-rule-step : (es : List Expr) (i : ℕ) (d : Expr) → i < length es →
      rule (index_mentions (phrases (drop i es))) ≡ given (rule (mentions (phrase (get_or es i d)))) (λ x. rule (index_mentions (phrases (drop (i + 1) es))))
  index-rule-step es i d h = rw (drop_more es i d h) (index-rule-more (get_or es i d) (drop (i + 1) es))

  pub index-rule-end : (es : List Expr) (i : ℕ) → length es ≤ i → rule (index_mentions (phrases (drop i es))) ≡ kept
  index-rule-end es i h = rw (drop_all i es h) index-rule-none

  pub code-rule-step : (ss : List Stmt) (i : ℕ) (d : Stmt) → i < length ss →
      rule (code_mentions (statements (drop i ss))) ≡ given (rule (code_mentions (one (get_or ss i d)))) (λ x. rule (code_mentions (statements (drop (i + 1) ss))))
  code-rule-step ss i d h = rw (drop_more ss i d h) (code-rule-more (get_or ss i d) (drop (i + 1) ss))

  pub code-rule-end : (ss : List Stmt) (i : ℕ) → length ss ≤ i → rule (code_mentions (statements (drop i ss))) ≡ kept
  code-rule-end ss i h = rw (drop_all i ss h) code-rule-none

  -- the rule of the rest, if its first rule is broken and if it is kept
  pub index-rule-broken : (es : List Expr) (i : ℕ) (e : Expr) (f : SourceRefusal) → i < length es → e ≡ get_or es i e →
      rule (mentions (phrase e)) ≡ Err f → rule (index_mentions (phrases (drop i es))) ≡ Err f
  index-rule-broken es i e f h is broken =
      index-rule-step es i e h ∙ ap (λ d. given (rule (mentions (phrase d))) (λ x. rule (index_mentions (phrases (drop (i + 1) es))))) (sym is)
      ∙ ap (λ v. given v (λ x. rule (index_mentions (phrases (drop (i + 1) es))))) broken

  pub index-rule-kept : (es : List Expr) (i : ℕ) (e : Expr) → i < length es → e ≡ get_or es i e →
      rule (mentions (phrase e)) ≡ kept → rule (index_mentions (phrases (drop i es))) ≡ rule (index_mentions (phrases (drop (i + 1) es)))
  index-rule-kept es i e h is keeps =
      index-rule-step es i e h ∙ ap (λ d. given (rule (mentions (phrase d))) (λ x. rule (index_mentions (phrases (drop (i + 1) es))))) (sym is)
      ∙ ap (λ v. given v (λ x. rule (index_mentions (phrases (drop (i + 1) es))))) keeps

  pub code-rule-broken : (ss : List Stmt) (i : ℕ) (s : Stmt) (f : SourceRefusal) → i < length ss → s ≡ get_or ss i s →
      rule (code_mentions (one s)) ≡ Err f → rule (code_mentions (statements (drop i ss))) ≡ Err f
  code-rule-broken ss i s f h is broken =
      code-rule-step ss i s h ∙ ap (λ d. given (rule (code_mentions (one d))) (λ x. rule (code_mentions (statements (drop (i + 1) ss))))) (sym is)
      ∙ ap (λ v. given v (λ x. rule (code_mentions (statements (drop (i + 1) ss))))) broken

  pub code-rule-kept : (ss : List Stmt) (i : ℕ) (s : Stmt) → i < length ss → s ≡ get_or ss i s →
      rule (code_mentions (one s)) ≡ kept → rule (code_mentions (statements (drop i ss))) ≡ rule (code_mentions (statements (drop (i + 1) ss)))
  code-rule-kept ss i s h is keeps =
      code-rule-step ss i s h ∙ ap (λ d. given (rule (code_mentions (one d))) (λ x. rule (code_mentions (statements (drop (i + 1) ss))))) (sym is)
      ∙ ap (λ v. given v (λ x. rule (code_mentions (statements (drop (i + 1) ss))))) keeps

  pub assign-rule : (t : Target) (e : Expr) → rule (code_mentions (one (Assign t e))) ≡ rule (assignment_mentions t.at (phrases t.index.items) (phrase e))
  unfolding code_mentions
  assign-rule t e = ap (λ c. rule (code_mentions c)) (one_assign t e) ∙ ap rule (append-nil (assignment_mentions t.at (phrases t.index.items) (phrase e)))

  pub branch-rule : (e : Expr) (v : Vec Stmt Global) → rule (code_mentions (one (If e v None))) ≡ given (rule (mentions (phrase e))) (λ x. rule (code_mentions (statements v.items)))
  unfolding code_mentions
  branch-rule e v =
      ap (λ c. rule (code_mentions c)) (one_if e v)
      ∙ ap rule (append-nil (mentions (phrase e) ++ code_mentions (statements v.items)))
      ∙ rule-append constants names (mentions (phrase e)) (code_mentions (statements v.items))

  pub branch_else-rule : (e : Expr) (v w : Vec Stmt Global) → rule (code_mentions (one (If e v (Some w))))
      ≡ given (rule (mentions (phrase e))) (λ x. given (rule (code_mentions (statements v.items))) (λ y. rule (code_mentions (statements w.items))))
  unfolding code_mentions
  branch_else-rule e v w =
      ap (λ c. rule (code_mentions c)) (one_if_else e v w)
      ∙ ap rule (append-nil (mentions (phrase e) ++ (code_mentions (statements v.items) ++ code_mentions (statements w.items))))
      ∙ rule-append constants names (mentions (phrase e)) (code_mentions (statements v.items) ++ code_mentions (statements w.items))
      ∙ ap (λ r. given (rule (mentions (phrase e))) (λ x. r)) (rule-append constants names (code_mentions (statements v.items)) (code_mentions (statements w.items)))

  pub repeat-rule : (e : Expr) (v : Vec Stmt Global) → rule (code_mentions (one (While e v))) ≡ given (rule (mentions (phrase e))) (λ x. rule (code_mentions (statements v.items)))
  unfolding code_mentions
  repeat-rule e v =
      ap (λ c. rule (code_mentions c)) (one_while e v)
      ∙ ap rule (append-nil (mentions (phrase e) ++ code_mentions (statements v.items)))
      ∙ rule-append constants names (mentions (phrase e)) (code_mentions (statements v.items))

  pub count-rule : (t u : Target) (e w f : Expr) (v : Vec Stmt Global) → rule (code_mentions (one (For t e w u f v)))
      ≡ given (rule (assignment_mentions t.at (phrases t.index.items) (phrase e))) (λ x. given (rule (mentions (phrase w)))
      (λ y. given (rule (assignment_mentions u.at (phrases u.index.items) (phrase f))) (λ z. rule (code_mentions (statements v.items)))))
  unfolding code_mentions
  count-rule t u e w f v =
      let first : List Mention = assignment_mentions t.at (phrases t.index.items) (phrase e) in
      let next : List Mention = assignment_mentions u.at (phrases u.index.items) (phrase f) in
      let condition : List Mention = mentions (phrase w) in
      let body : List Mention = code_mentions (statements v.items) in
      ap (λ c. rule (code_mentions c)) (one_for t u e w f v)
      ∙ ap rule (append-nil (first ++ (condition ++ (next ++ body))))
      ∙ rule-append constants names first (condition ++ (next ++ body))
      ∙ ap (λ r. given (rule first) (λ x. r)) (rule-append constants names condition (next ++ body))
      ∙ ap (λ r. given (rule first) (λ x. given (rule condition) (λ y. r))) (rule-append constants names next body)

pub ruleset expressions = (brackets-length, number-rule, read-rule, unary-rule, binary-rule, rule-more, rule-append, index-rule-broken, index-rule-kept, index-rule-end, assignment-rule)

pub ruleset statement_rules = (assign-rule, branch-rule, branch_else-rule, repeat-rule, count-rule, code-rule-broken, code-rule-kept, code-rule-end, rule-append)
