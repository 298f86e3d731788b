-- Effects of statements and loops on valuations, one step at a time.
use Rattle.std.proofs.Common.{◌≡◌, ℕ, ℤ, ◌+◌, ◌-◌, ◌<◌, ◌≤◌, Bool, true, false, cond, List, [], ◌∷◌, Option, Some, None, Result, Ok, Err, IsErrAnd, drop, get_or, length, refl, arith, ap, sym, ◌∙◌, subst}
use Rattle.std.specs.Prelude.{nat_lt}
use Rattle.std.specs.declared.vec.Vec.{Vec}
use Rattle.std.specs.declared.alloc.Global.{Global}
use Rattle.std.proofs.lemmas.List.{drop_more}
use Rattle.p3l_base.specs.declared.outcome.TrapKind.{TrapKind}
use Rattle.p3l_base.specs.declared.outcome.TrapKind.TheVariants.{Budget}
use Rattle.p3l_ast.specs.declared.expression.Expr.{Expr}
use Rattle.p3l_ast.specs.declared.expression.Target.{Target}
use Rattle.p3l_ast.specs.declared.statement.Stmt.{Stmt}
use Rattle.p3l_ast.specs.declared.statement.Stmt.TheVariants.{Assign, If, While, For}
use Rattle.p3l_ast.specs.declared.meaning.valuation.Valuation.{Valuation}
use Rattle.p3l_ast.specs.Tree.{Phrase, Statements, done, assign, join, phrase, phrases, one, statements}
use Rattle.p3l_ast.specs.Meaning.Operator.{holds}
use Rattle.p3l_ast.specs.Meaning.Valuation.{turned, HasSizes}
use Rattle.p3l_ast.specs.Meaning.Expression.{given, value_of}
use Rattle.p3l_ast.specs.Meaning.Statement.{assigned, chosen, run_by, loop_of, run_of}
use Rattle.p3l_ast.proofs.Trees.{one_assign, one_if, one_if_else, one_while, one_for}
use Rattle.p3l_ast.proofs.Turns.{run_grows, loop_grows, loop_unrolls, run_join, turned_ok}
use Rattle.p3l_ast.specs.declared.meaning.stop.Stop.{Stop}
use Rattle.p3l_ast.specs.declared.meaning.stop.Stop.TheVariants.{Trapped, NoMemory}
use Rattle.p3l_ast.specs.Meaning.Run.{Gives}

-- a stop at a first step is the stop of the whole
pub stop_given : {A B : Type 0} (stop : Stop) (r : Result A TrapKind) (go : A → Result B TrapKind) → Gives {A = A} (Err stop) r → Gives {A = B} (Err stop) (given r go)
stop_given (Trapped trap) r go h = ap (λ x. given x go) h
stop_given NoMemory r go h = h

-- a trap and a stop that are handed on
pub trap_handed : (answer : Result Valuation Stop) (trap : TrapKind) (meant : Result Valuation TrapKind) → IsErrAnd answer (λ stop. stop ≡ Trapped trap) → Err trap ≡ meant → Gives answer meant
trap_handed (Ok s) trap meant is h = absurd is
trap_handed (Err stop) trap meant is h = subst (λ (x : Stop). Gives {A = Valuation} (Err x) meant) (sym is) h

pub stop_handed : (answer : Result Valuation Stop) (stop : Stop) (r meant : Result Valuation TrapKind) → IsErrAnd answer (λ other. other ≡ stop) → r ≡ meant → Gives {A = Valuation} (Err stop) r → Gives answer meant
stop_handed (Ok s) stop r meant is same h = absurd is
stop_handed (Err other) stop r meant is same h =
    subst (λ (x : Stop). Gives {A = Valuation} (Err x) meant) (sym is) (subst (λ (x : Result Valuation TrapKind). Gives {A = Valuation} (Err stop) x) same h)

-- a step that is known goes on
pub ok_given : {A B : Type 0} (x : A) (r : Result A TrapKind) (go : A → Result B TrapKind) → Ok x ≡ r → given r go ≡ go x
ok_given x r go h = ap (λ y. given y go) (sym h)

-- an answer to what means the same
pub gives_same : {A : Type 0} (answer : Result A Stop) (r q : Result A TrapKind) → r ≡ q → Gives answer r → Gives answer q
gives_same {A = A} answer r q same h = subst (λ (x : Result A TrapKind). Gives answer x) same h

-- nothing follows
run_done : (loop : Phrase → Statements → Valuation → Result Valuation TrapKind) (r : Result Valuation TrapKind) → given r (run_by loop done) ≡ r
unfolding run_by
run_done loop (Ok s) = refl
run_done loop (Err trap) = refl

pub run_none : (budget : ℕ) (s : Valuation) → run_of budget (statements []) s ≡ Ok s
unfolding run_of run_by
run_none budget s = refl

pub run_first : (budget : ℕ) (c d : Statements) (s : Valuation) → run_of budget (join c d) s ≡ given (run_of budget c s) (run_of budget d)
unfolding run_of
run_first budget c d s = run_join (loop_of budget) c d s

-- the next statement
pub run_next : (budget : ℕ) (stmts : List Stmt) (i : ℕ) (stmt : Stmt) (s : Valuation) → i < length stmts → stmt ≡ get_or stmts i stmt → run_of budget (statements (drop i stmts)) s ≡ given (run_of budget (one stmt) s) (run_of budget (statements (drop (i + 1) stmts)))
run_next budget stmts i stmt s inside is =
    let here : drop i stmts ≡ stmt ∷ drop (i + 1) stmts = drop_more stmts i stmt inside ∙ ap (λ x. x ∷ drop (i + 1) stmts) (sym is) in
    ap (λ x. run_of budget (statements x) s) here ∙ run_first budget (one stmt) (statements (drop (i + 1) stmts)) s

pub run_assign : (budget : ℕ) (t : Target) (e : Expr) (s : Valuation) → run_of budget (one (Assign t e)) s ≡ assigned t.at.name (phrases t.index.items) (phrase e) s
unfolding run_of run_by
run_assign budget t e s =
    ap (λ c. run_of budget c s) (one_assign t e) ∙ run_done (loop_of budget) (assigned t.at.name (phrases t.index.items) (phrase e) s)

pub run_if : (budget : ℕ) (e : Expr) (v : Vec Stmt Global) (s : Valuation) → run_of budget (one (If e v None)) s ≡ chosen (phrase e) (run_of budget (statements v.items)) Ok s
unfolding run_of run_by
run_if budget e v s =
    ap (λ c. run_of budget c s) (one_if e v) ∙ run_done (loop_of budget) (chosen (phrase e) (run_of budget (statements v.items)) Ok s)

pub run_if_else : (budget : ℕ) (e : Expr) (v w : Vec Stmt Global) (s : Valuation) → run_of budget (one (If e v (Some w))) s ≡ chosen (phrase e) (run_of budget (statements v.items)) (run_of budget (statements w.items)) s
unfolding run_of run_by
run_if_else budget e v w s =
    ap (λ c. run_of budget c s) (one_if_else e v w) ∙ run_done (loop_of budget) (chosen (phrase e) (run_of budget (statements v.items)) (run_of budget (statements w.items)) s)

pub run_while : (budget : ℕ) (e : Expr) (v : Vec Stmt Global) (s : Valuation) → run_of budget (one (While e v)) s ≡ loop_of budget (phrase e) (statements v.items) s
unfolding run_of run_by
run_while budget e v s =
    ap (λ c. run_of budget c s) (one_while e v) ∙ run_done (loop_of budget) (loop_of budget (phrase e) (statements v.items) s)

-- the statements of one turn of a `for`: the body, then the assignment
abbrev pub stepped : List Stmt → Target → Expr → Statements
stepped body u f = join (statements body) (assign u.at (phrases u.index.items) (phrase f) done)

pub run_for : (budget : ℕ) (t u : Target) (e w f : Expr) (v : Vec Stmt Global) (s : Valuation) → run_of budget (one (For t e w u f v)) s ≡ given (assigned t.at.name (phrases t.index.items) (phrase e) s) (loop_of budget (phrase w) (stepped v.items u f))
unfolding run_of run_by
run_for budget t u e w f v s =
    ap (λ c. run_of budget c s) (one_for t u e w f v)
    ∙ run_done (loop_of budget) (given (assigned t.at.name (phrases t.index.items) (phrase e) s) (loop_of budget (phrase w) (stepped v.items u f)))

pub run_stepped : (budget : ℕ) (body : List Stmt) (u : Target) (f : Expr) (s : Valuation) → run_of budget (stepped body u f) s ≡ given (run_of budget (statements body) s) (assigned u.at.name (phrases u.index.items) (phrase f))
unfolding run_of run_by
run_stepped budget body u f s = run_first budget (statements body) (assign u.at (phrases u.index.items) (phrase f) done) s ∙ by (run_of budget (statements body) s)
  where
    by : (r : Result Valuation TrapKind) → given r (run_by (loop_of budget) (assign u.at (phrases u.index.items) (phrase f) done)) ≡ given r (assigned u.at.name (phrases u.index.items) (phrase f))
    by (Ok m) = run_done (loop_of budget) (assigned u.at.name (phrases u.index.items) (phrase f) m)
    by (Err trap) = refl

-- the truth of a condition, or its trap
abbrev pub holding : Phrase → Valuation → Result Bool TrapKind
holding e s = given (value_of s e) (λ word. Ok (holds word))

-- the way that the condition chooses
pub chosen_by : (e : Phrase) (if_so if_not : Valuation → Result Valuation TrapKind) (s : Valuation) (b : Bool) → Ok b ≡ holding e s → chosen e if_so if_not s ≡ (cond b if_so if_not) s
chosen_by e if_so if_not s b is = by (value_of s e) is
  where
    by : (r : Result ℤ TrapKind) → Ok b ≡ given r (λ word. Ok (holds word)) → given r (λ x. (cond (holds x) if_so if_not) s) ≡ (cond b if_so if_not) s
    by (Ok x) h = let q : b ≡ holds x = cc in ap (λ b. (cond b if_so if_not) s) (sym q)
    by (Err trap) h = absurd cc

pub chosen_trap : (e : Phrase) (if_so if_not : Valuation → Result Valuation TrapKind) (s : Valuation) (trap : TrapKind) → Err trap ≡ holding e s → Err trap ≡ chosen e if_so if_not s
chosen_trap e if_so if_not s trap is = by (value_of s e) is
  where
    by : (r : Result ℤ TrapKind) → Err trap ≡ given r (λ word. Ok (holds word)) → Err trap ≡ given r (λ x. (cond (holds x) if_so if_not) s)
    by (Ok x) h = absurd cc
    by (Err other) h = let q : trap ≡ other = cc in ap Err q

-- a turn changes no sizes
pub turned-sizes : (budget : ℕ) (s t : Valuation) → Ok t ≡ turned budget s → HasSizes s → HasSizes t
turned-sizes budget s t h sized = by (nat_lt s.turns budget) h
  where
    by : (b : Bool) → Ok t ≡ cond b (Ok (record s { turns = s.turns + 1 })) (Err Budget) → HasSizes t
    by true k =
        let q : t ≡ record s { turns = s.turns + 1 } = cc in
        let same : HasSizes (record s { turns = s.turns + 1 }) = record { few = sized.few; small = sized.small } in
        subst (λ (x : Valuation). HasSizes x) (sym q) same
    by false k = absurd cc

module _ (budget : ℕ) (e : Phrase) (body : Statements) (s : Valuation) where
  turn : Valuation → Result Valuation TrapKind
  turn t = given (given (turned budget t) (run_of budget body)) (loop_of budget e body)

  pub loop_trap : (trap : TrapKind) → Err trap ≡ holding e s → Err trap ≡ loop_of budget e body s
  unfolding turn
  loop_trap trap is = chosen_trap e turn Ok s trap is ∙ sym (loop_unrolls budget e body s)

  pub loop_end : Ok false ≡ holding e s → Ok s ≡ loop_of budget e body s
  unfolding turn
  loop_end is = sym (loop_unrolls budget e body s ∙ chosen_by e turn Ok s false is)

  -- a loop whose condition holds is a turn and the loop again
  loop_turn : Ok true ≡ holding e s → loop_of budget e body s ≡ given (given (turned budget s) (run_of budget body)) (loop_of budget e body)
  unfolding turn
  loop_turn is = loop_unrolls budget e body s ∙ chosen_by e turn Ok s true is

  pub loop_spent : (trap : TrapKind) → Ok true ≡ holding e s → Err trap ≡ turned budget s → Err trap ≡ loop_of budget e body s
  loop_spent trap is spent =
      ap (λ r. given (given r (run_of budget body)) (loop_of budget e body)) spent ∙ sym (loop_turn is)

  pub loop_stop : (m : Valuation) (stop : Stop) → Ok true ≡ holding e s → Ok m ≡ turned budget s → Gives {A = Valuation} (Err stop) (run_of budget body m) → Gives {A = Valuation} (Err stop) (loop_of budget e body s)
  loop_stop m stop is begun stops =
      gives_same (Err stop) _ (loop_of budget e body s) (sym (loop_turn is))
      (stop_given stop (given (turned budget s) (run_of budget body)) (loop_of budget e body)
      (gives_same (Err stop) (run_of budget body m) _ (sym (ok_given m (turned budget s) (run_of budget body) begun)) stops))

  pub loop_again : (m n : Valuation) → Ok true ≡ holding e s → Ok m ≡ turned budget s → Ok n ≡ run_of budget body m → loop_of budget e body n ≡ loop_of budget e body s
  loop_again m n is begun goes =
      sym (loop_turn is ∙ ok_given n (given (turned budget s) (run_of budget body)) (loop_of budget e body) (goes ∙ sym (ok_given m (turned budget s) (run_of budget body) begun)))

  pub loop_falls : (m n : Valuation) → Ok m ≡ turned budget s → Ok n ≡ run_of budget body m → budget - n.turns < budget - s.turns
  unfolding run_of loop_of
  loop_falls m n begun goes =
      let t = turned_ok budget s m (sym begun) in
      let g : m.turns ≤ n.turns = run_grows (loop_of budget) (loop_grows budget budget) body m n (sym goes) in
      omega (arith, t.0, t.1)

-- a turn of a `for` that stops in its body or in the assignment after it, or goes through both
module _ (budget : ℕ) (body : List Stmt) (u : Target) (f : Expr) (m : Valuation) where
  pub body_stops : (stop : Stop) → Gives {A = Valuation} (Err stop) (run_of budget (statements body) m) → Gives {A = Valuation} (Err stop) (run_of budget (stepped body u f) m)
  body_stops stop h =
      gives_same (Err stop) _ (run_of budget (stepped body u f) m) (sym (run_stepped budget body u f m))
      (stop_given stop (run_of budget (statements body) m) (assigned u.at.name (phrases u.index.items) (phrase f)) h)

  through : (n : Valuation) → Ok n ≡ run_of budget (statements body) m → run_of budget (stepped body u f) m ≡ assigned u.at.name (phrases u.index.items) (phrase f) n
  through n goes =
      run_stepped budget body u f m ∙ ok_given n (run_of budget (statements body) m) (assigned u.at.name (phrases u.index.items) (phrase f)) goes

  pub step_stops : (n : Valuation) (stop : Stop) → Ok n ≡ run_of budget (statements body) m → Gives {A = Valuation} (Err stop) (assigned u.at.name (phrases u.index.items) (phrase f) n) → Gives {A = Valuation} (Err stop) (run_of budget (stepped body u f) m)
  step_stops n stop goes h = gives_same (Err stop) _ (run_of budget (stepped body u f) m) (sym (through n goes)) h

  pub step_goes : (n k : Valuation) → Ok n ≡ run_of budget (statements body) m → Ok k ≡ assigned u.at.name (phrases u.index.items) (phrase f) n → Ok k ≡ run_of budget (stepped body u f) m
  step_goes n k goes h = h ∙ sym (through n goes)

-- an `if`, with or without its `else`
module _ (budget : ℕ) (e : Expr) (v : Vec Stmt Global) (s : Valuation) where
  pub if_trap : (o : Option (Vec Stmt Global)) (trap : TrapKind) → Err trap ≡ holding (phrase e) s → Err trap ≡ run_of budget (one (If e v o)) s
  if_trap None trap is =
      chosen_trap (phrase e) (run_of budget (statements v.items)) Ok s trap is ∙ sym (run_if budget e v s)
  if_trap (Some w) trap is =
      chosen_trap (phrase e) (run_of budget (statements v.items)) (run_of budget (statements w.items)) s trap is ∙ sym (run_if_else budget e v w s)

  pub if_so : (o : Option (Vec Stmt Global)) → Ok true ≡ holding (phrase e) s → run_of budget (one (If e v o)) s ≡ run_of budget (statements v.items) s
  if_so None is =
      run_if budget e v s ∙ chosen_by (phrase e) (run_of budget (statements v.items)) Ok s true is
  if_so (Some w) is =
      run_if_else budget e v w s ∙ chosen_by (phrase e) (run_of budget (statements v.items)) (run_of budget (statements w.items)) s true is

  pub if_none : Ok false ≡ holding (phrase e) s → run_of budget (one (If e v None)) s ≡ Ok s
  if_none is = run_if budget e v s ∙ chosen_by (phrase e) (run_of budget (statements v.items)) Ok s false is

  pub if_otherwise : (w : Vec Stmt Global) → Ok false ≡ holding (phrase e) s → run_of budget (one (If e v (Some w))) s ≡ run_of budget (statements w.items) s
  if_otherwise w is =
      run_if_else budget e v w s ∙ chosen_by (phrase e) (run_of budget (statements v.items)) (run_of budget (statements w.items)) s false is
