-- The parser says what is derived, and where no program goes on.
use Rattle.std.proofs.Common.{◌≡◌, ℕ, suc, ◌≤◌, List, [], ◌∷◌, ◌++◌, length, Option, Some, None, false, refl, sym, ap, ◌∙◌, subst, arith, append-nil}
use Rattle.std.specs.declared.result.Result.TheVariants.{Ok, Err}
use Rattle.p3l_ast.specs.declared.position.Pos.{Pos}
use Rattle.p3l_ast.specs.declared.position.Spot.{Spot}
use Rattle.p3l_ast.specs.declared.port.Num.TheVariants.{Named}
use Rattle.p3l_ast.specs.declared.call.Sub.TheVariants.{Whole}
use Rattle.p3l_ast.specs.declared.call.OutArg.TheVariants.{Old}
use Rattle.p3l_ast.specs.declared.module.Rescue.{Rescue}
use Rattle.p3l_ast.specs.Tree.{Phrase, unary, binary, done, if_, join, EntryTree}
use Rattle.p3l_lexer.specs.declared.mark.Mark.TheVariants as marks
use Rattle.p3l_lexer.specs.declared.token.TextToken.{TextToken}
use Rattle.p3l_grammar.specs.Symbol.{Symbol, symbol, symbols, word, digits, sign}
use Rattle.p3l_grammar.specs.Written.{Formula, numeral, prefix, infix_, Passage, tight, IsGrouped, IsText, spell, spell_text, tree, text_tree}
use Rattle.p3l_grammar.specs.Parser.{need, Parser, entries, await, any_word, any_digits, any_num, clause, any_rescue, rescue_clause, another_size, any_sub, another_sub, another_port, another_arg, any_out, another_out, another_call, another_local, operand, another_index, value, another_stmt, maybe_else, Hole, whole, after_unary, after_binary, step, finish, value_finish, next, all}
use Rattle.p3l_grammar.proofs.Runs.{bind, run}
use Rattle.std.specs.Prelude.{pos}
use Rattle.p3l_grammar.specs.Grammar.{Derives, IsViable}
use Rattle.p3l_grammar.proofs.Complete.{text_runs}
use Rattle.p3l_grammar.proofs.Sound.{IsRead, IsHole, IfRead, num_stop, sub_stop, port_stop, arg_stop, out_stop, call_stop, local_stop, index_stop, stmt_stop, need_small, run_reads, starts_read}

-- nothing goes on: at the end no program is whole, and with the next token none begins so
abbrev pub IsRefused : List TextToken → List TextToken → Type 0
IsRefused before [] = (entries : List EntryTree) → Derives (symbols before) entries → ⊥
IsRefused before (token ∷ after) = IsViable (symbols (before ++ token ∷ [])) → ⊥

-- the tokens begin a program up to where `left` of them are left, and no further
pub record IsStop (tokens : List TextToken) (left : ℕ) : Type 0 where
  pub before : List TextToken
  pub after : List TextToken
  pub whole : tokens ≡ before ++ after
  pub left_is : left ≡ length after
  pub viable : IsViable (symbols before)
  pub refused : IsRefused before after

-- some program is written so: the symbols that f puts first, and more
pub record Completes (f : List Symbol → List Symbol) : Type 0 where
  pub more : List Symbol
  pub written : List Passage
  pub is_text : IsText written
  pub begins : f more ≡ spell_text written []

anywhere : Pos
anywhere = record { line = 1; col = 1 }

anyone : Spot
anyone = record { name = []; pos = record { line = 1; col = 1 } }

passes_on : (f : List Symbol → List Symbol) (v : List Symbol → List Symbol) → Completes (λ r. f (v r)) → Completes f
passes_on f v c = record { more = v c.more; written = c.written; is_text = c.is_text; begins = c.begins }

seen_as : (f g : List Symbol → List Symbol) → f ≡ g → Completes g → Completes f
seen_as f g p c = let P : (List Symbol → List Symbol) → Type 0 = λ q. Completes q in subst P (sym p) c

mutual
  -- the symbols that the parser has read begin some program
  pub completes : (s : Parser) (f : List Symbol → List Symbol) → IsRead s f → Completes f
  completes (entries es) f h = record { more = []; written = h.0; is_text = h.1; begins = ap (λ q. q []) h.2 }
  completes (await m s) f h = passes_on f (λ r. sign m ∷ r) (completes s (λ r. f (sign m ∷ r)) h)
  completes (any_word go) f h = passes_on f (λ r. word anyone ∷ r) (completes (go anyone) (λ r. f (word anyone ∷ r)) (h anyone))
  completes (any_digits go) f h =
      passes_on f (λ r. digits (pos 0) anywhere ∷ r) (completes (go (pos 0)) (λ r. f (digits (pos 0) anywhere ∷ r)) (h (pos 0) anywhere))
  completes (any_num go) f h =
      passes_on f (λ r. word anyone ∷ r) (completes (go (Named anyone)) (λ r. f (word anyone ∷ r)) (h (Named anyone)))
  completes (clause m go) f h = completes (go None) f (h None)
  completes (any_rescue go) f h =
      let x : Rescue = record { minus = false; num = Named anyone } in
      passes_on f (λ r. word anyone ∷ r) (completes (go x) (λ r. f (word anyone ∷ r)) (h x))
  completes (rescue_clause go) f h = completes (go None) f (h None)
  completes (another_size ns go) f h = completes (go ns) f (num_stop ns go f h)
  completes (any_sub go) f h =
      passes_on f (λ r. sign marks.CloseBracket ∷ r) (completes (go Whole) (λ r. f (sign marks.CloseBracket ∷ r)) (h Whole))
  completes (another_sub ss go) f h = completes (go ss) f (sub_stop ss go f h)
  completes (another_port ps go) f h = completes (go ps) f (port_stop ps go f h)
  completes (another_arg xs go) f h = completes (go xs) f (arg_stop xs go f h)
  completes (any_out go) f h =
      let a = Old (record { at = anyone; subs = [] }) in
      passes_on f (λ r. word anyone ∷ r) (completes (go a) (λ r. f (word anyone ∷ r)) (h a))
  completes (another_out xs go) f h = completes (go xs) f (out_stop xs go f h)
  completes (another_call cs go) f h = completes (go cs) f (call_stop cs go f h)
  completes (another_local ls go) f h = completes (go ls) f (local_stop ls go f h)
  completes (operand h') f h =
      passes_on f (λ r. digits (pos 0) anywhere ∷ r) (hole_completes h' (numeral (pos 0) anywhere) f tt (need_small h') h)
  completes (another_index is go) f h = completes (go is) f (index_stop is go f h)
  completes (value e h') f h =
      seen_as f (λ r. h.1 (spell h.0 r)) h.2
      (let c = hole_completes h' h.0 h.1 h.3 (omega (arith, need_small h', h.4)) h.6 in c)
  completes (another_stmt c go) f h = completes (go c) f (stmt_stop c go f h)
  completes (maybe_else c e b go) f h =
      let d = join c (if_ e b done) in completes (go d) f (stmt_stop d go f h.0)

  pub hole_completes : (h : Hole) (w : Formula) (g : List Symbol → List Symbol) → IsGrouped w → need h ≤ tight w → IsHole h g → Completes (λ r. g (spell w r))
  hole_completes (whole go) w g gw n i = completes (go (tree w)) (λ r. g (spell w r)) (i w gw)
  hole_completes (after_unary o h) w g gw n i =
      let P : (List Symbol → List Symbol) → Type 0 = λ q. Completes (λ r. q (spell w r)) in
      subst P (sym i.1) (hole_completes h (prefix o w) i.0 (n, gw) i.2 i.3)
  hole_completes (after_binary o a h) w g gw n i =
      let P : (List Symbol → List Symbol) → Type 0 = λ q. Completes (λ r. q (spell w r)) in
      subst P (sym i.2) (hole_completes h (infix_ o i.0 w) i.1 (i.4, n, i.5, gw) i.3 i.7)

bind_bind : (o : Option Parser) (f g : Parser → Option Parser) (h : Parser → Option Parser) → ((s : Parser) → h s ≡ bind (f s) g) → bind o h ≡ bind (bind o f) g
bind_bind None f g h p = refl
bind_bind (Some s) f g h p = p s

run_append : (ts us : List Symbol) (s : Parser) → run s (ts ++ us) ≡ bind (run s ts) (λ s'. run s' us)
run_append [] us s = refl
run_append (t ∷ ts) us s = bind_bind (step s t) _ _ _ (run_append ts us)

pub derives_run : (ts : List Symbol) (es : List EntryTree) → Derives ts es → run (entries []) ts ≡ Some (entries es)
derives_run ts es d =
    ap (run (entries [])) d.spelled ∙ text_runs d.written [] d.is_text ∙ ap (λ q. Some (entries q)) d.tree_is

-- if the parser reads all symbols, they begin some program
pub runs_viable : (ts : List Symbol) (s : Parser) → run (entries []) ts ≡ Some s → IsViable ts
runs_viable ts s h =
    let P : Option Parser → Type 0 = λ o. IfRead o (λ r. ts ++ r) in
    let c = completes s (λ r. ts ++ r) (subst P h (run_reads ts (entries []) (λ r. r) starts_read)) in
    record { written = c.written; more = c.more; is_text = c.is_text; begins = c.begins }

-- if the parser stops, the symbols begin no program
pub stops_not_viable : (ts : List Symbol) → run (entries []) ts ≡ None → IsViable ts → ⊥
stops_not_viable ts h v =
    let all : run (entries []) (ts ++ v.more) ≡ Some (entries (text_tree v.written)) =
    ap (run (entries [])) v.begins ∙ text_runs v.written [] v.is_text in
    let none : run (entries []) (ts ++ v.more) ≡ None =
    run_append ts v.more (entries []) ∙ ap (λ o. bind o (λ s'. run s' v.more)) h in
    cc

mutual
  -- at the end nothing is left
  finish_left : (s : Parser) (left : ℕ) → finish s ≡ Err left → left ≡ 0
  finish_left (entries es) left h = absurd cc
  finish_left (clause m go) left h = finish_left (go None) left h
  finish_left (rescue_clause go) left h = finish_left (go None) left h
  finish_left (another_size ns go) left h = finish_left (go ns) left h
  finish_left (another_sub ss go) left h = finish_left (go ss) left h
  finish_left (another_port ps go) left h = finish_left (go ps) left h
  finish_left (another_arg xs go) left h = finish_left (go xs) left h
  finish_left (another_out xs go) left h = finish_left (go xs) left h
  finish_left (another_call cs go) left h = finish_left (go cs) left h
  finish_left (another_local ls go) left h = finish_left (go ls) left h
  finish_left (another_index is go) left h = finish_left (go is) left h
  finish_left (value e h') left h = hole_left h' e left h
  finish_left (another_stmt c go) left h = finish_left (go c) left h
  finish_left (maybe_else c e b go) left h = finish_left (go (join c (if_ e b done))) left h
  finish_left (await m s) left h = cc
  finish_left (any_word go) left h = cc
  finish_left (any_digits go) left h = cc
  finish_left (any_num go) left h = cc
  finish_left (any_rescue go) left h = cc
  finish_left (any_sub go) left h = cc
  finish_left (any_out go) left h = cc
  finish_left (operand h') left h = cc

  hole_left : (h : Hole) (e : Phrase) (left : ℕ) → value_finish h e ≡ Err left → left ≡ 0
  hole_left (whole go) e left p = finish_left (go e) left p
  hole_left (after_unary o h) e left p = hole_left h (unary o e) left p
  hole_left (after_binary o a h) e left p = hole_left h (binary o a e) left p

-- f puts the symbols of a whole program in front
abbrev IsWhole : (List Symbol → List Symbol) → List EntryTree → Type 0
IsWhole f es = (ws : List Passage) × IsText ws × (f ≡ spell_text ws) × (text_tree ws ≡ es)

mutual
  -- if the text may end here, the symbols read are a whole program
  finish_whole : (s : Parser) (f : List Symbol → List Symbol) (es : List EntryTree) → IsRead s f → finish s ≡ Ok es → IsWhole f es
  finish_whole (entries ds) f es h p = (h.0, h.1, h.2, h.3 ∙ (cc))
  finish_whole (clause m go) f es h p = finish_whole (go None) f es (h None) p
  finish_whole (rescue_clause go) f es h p = finish_whole (go None) f es (h None) p
  finish_whole (another_size ns go) f es h p = finish_whole (go ns) f es (num_stop ns go f h) p
  finish_whole (another_sub ss go) f es h p = finish_whole (go ss) f es (sub_stop ss go f h) p
  finish_whole (another_port ps go) f es h p = finish_whole (go ps) f es (port_stop ps go f h) p
  finish_whole (another_arg xs go) f es h p = finish_whole (go xs) f es (arg_stop xs go f h) p
  finish_whole (another_out xs go) f es h p = finish_whole (go xs) f es (out_stop xs go f h) p
  finish_whole (another_call cs go) f es h p = finish_whole (go cs) f es (call_stop cs go f h) p
  finish_whole (another_local ls go) f es h p = finish_whole (go ls) f es (local_stop ls go f h) p
  finish_whole (another_index is go) f es h p = finish_whole (go is) f es (index_stop is go f h) p
  finish_whole (value e h') f es h p =
      let P : (List Symbol → List Symbol) → Type 0 = λ q. IsWhole q es in
      subst P (sym h.2) (hole_whole h' e h.0 h.1 es h.3 (omega (arith, need_small h', h.4)) h.5 h.6 p)
  finish_whole (another_stmt c go) f es h p = finish_whole (go c) f es (stmt_stop c go f h) p
  finish_whole (maybe_else c e b go) f es h p =
      let d = join c (if_ e b done) in finish_whole (go d) f es (stmt_stop d go f h.0) p
  finish_whole (await m s) f es h p = absurd cc
  finish_whole (any_word go) f es h p = absurd cc
  finish_whole (any_digits go) f es h p = absurd cc
  finish_whole (any_num go) f es h p = absurd cc
  finish_whole (any_rescue go) f es h p = absurd cc
  finish_whole (any_sub go) f es h p = absurd cc
  finish_whole (any_out go) f es h p = absurd cc
  finish_whole (operand h') f es h p = absurd cc

  hole_whole : (h : Hole) (e : Phrase) (w : Formula) (g : List Symbol → List Symbol) (es : List EntryTree) → IsGrouped w → need h ≤ tight w → tree w ≡ e → IsHole h g → value_finish h e ≡ Ok es → IsWhole (λ r. g (spell w r)) es
  hole_whole (whole go) e w g es gw n te i p =
      finish_whole (go e) (λ r. g (spell w r)) es (let P : Phrase → Type 0 = λ q. IsRead (go q) (λ r. g (spell w r)) in subst P te (i w gw)) p
  hole_whole (after_unary o h) e w g es gw n te i p =
      let P : (List Symbol → List Symbol) → Type 0 = λ q. IsWhole (λ r. q (spell w r)) es in
      subst P (sym i.1) (hole_whole h (unary o e) (prefix o w) i.0 es (n, gw) i.2 (ap (unary o) te) i.3 p)
  hole_whole (after_binary o a h) e w g es gw n te i p =
      let P : (List Symbol → List Symbol) → Type 0 = λ q. IsWhole (λ r. q (spell w r)) es in
      subst P (sym i.2) (hole_whole h (binary o a e) (infix_ o i.0 w) i.1 es (i.4, n, i.5, gw) i.3 (ap (λ q. binary o q (tree w)) i.6 ∙ ap (binary o a) te) i.7 p)

-- the parser can't read the next token, or none is left and it isn't between entries
abbrev Stopped : Parser → List TextToken → Type 0
Stopped s [] = (es : List EntryTree) → s ≡ entries es → ⊥
Stopped s (t ∷ ts) = step s (symbol t) ≡ None

-- the parser stops here
record StopsAt (s : Parser) (ts : List TextToken) (left : ℕ) : Type 0 where
  before : List TextToken
  after : List TextToken
  state : Parser
  whole : ts ≡ before ++ after
  left_is : left ≡ length after
  runs : run s (symbols before) ≡ Some state
  stopped : Stopped state after

stops_at : (ts : List TextToken) (s : Parser) (left : ℕ) → all s ts ≡ Err left → StopsAt s ts left
stops_at [] s left h =
    record { before = []; after = []; state = s; whole = refl; left_is = finish_left s left h; runs = refl; stopped = λ es e. (let p = ap finish e in cc) }
stops_at (t ∷ ts) s left h = at (step s (symbol t)) refl (stops_at ts) h
  where
    at : (o : Option Parser) → step s (symbol t) ≡ o → ((s' : Parser) (left : ℕ) → all s' ts ≡ Err left → StopsAt s' ts left) → next o (suc (length ts)) (λ s'. all s' ts) ≡ Err left → StopsAt s (t ∷ ts) left
    at None p ih h = record { before = []; after = t ∷ ts; state = s; whole = refl; left_is = cc; runs = refl; stopped = p }
    at (Some s') p ih h =
        let r = ih s' left h in
        record {
          before = t ∷ r.before;
          after = r.after;
          state = r.state;
          whole = ap (λ q. t ∷ q) r.whole;
          left_is = r.left_is;
          runs = ap (λ q. bind q (λ s'. run s' (symbols r.before))) p ∙ r.runs;
          stopped = r.stopped;
        }

pub symbols_append : (a b : List TextToken) → symbols (a ++ b) ≡ symbols a ++ symbols b
symbols_append [] b = refl
symbols_append (t ∷ a) b = ap (λ q. symbol t ∷ q) (symbols_append a b)

refused : (before after : List TextToken) (s : Parser) → run (entries []) (symbols before) ≡ Some s → Stopped s after → IsRefused before after
refused before [] s r h = λ es d. h es (let a = derives_run (symbols before) es d in cc)
refused before (t ∷ after) s r h =
    stops_not_viable (symbols (before ++ t ∷ []))
    (ap (run (entries [])) (symbols_append before (t ∷ []))
    ∙ run_append (symbols before) (symbol t ∷ []) (entries [])
    ∙ ap (λ o. bind o (λ s'. run s' (symbol t ∷ []))) r
    ∙ ap (λ o. bind o (λ s'. Some s')) h)

pub stop_of : (ts : List TextToken) (left : ℕ) → all (entries []) ts ≡ Err left → IsStop ts left
stop_of ts left h =
    let s = stops_at ts (entries []) left h in
    record {
      before = s.before;
      after = s.after;
      whole = s.whole;
      left_is = s.left_is;
      viable = runs_viable (symbols s.before) s.state s.runs;
      refused = refused s.before s.after s.state s.runs s.stopped;
    }

-- the parser's run, from its answer, and back
all_run : (ts : List TextToken) (s : Parser) → all s ts ≡ elim (run s (symbols ts)) [ None ↦ all s ts | Some s' ↦ finish s' ]
all_run [] s = refl
all_run (t ∷ ts) s = at (step s (symbol t)) (all_run ts)
  where
    at : (o : Option Parser) → ((s' : Parser) → all s' ts ≡ elim (run s' (symbols ts)) [ None ↦ all s' ts | Some s'' ↦ finish s'' ]) → next o (suc (length ts)) (λ s'. all s' ts) ≡ elim (bind o (λ s'. run s' (symbols ts))) [ None ↦ next o (suc (length ts)) (λ s'. all s' ts) | Some s' ↦ finish s' ]
    at None ih = refl
    at (Some s') ih = ih s'

pub all_of_derives : (ts : List TextToken) (es : List EntryTree) → Derives (symbols ts) es → all (entries []) ts ≡ Ok es
all_of_derives ts es d =
    all_run ts (entries []) ∙ ap (λ o. elim o [ None ↦ all (entries []) ts | Some s' ↦ finish s' ]) (derives_run (symbols ts) es d)

-- after all tokens the text may end
record Ended (s : Parser) (ts : List TextToken) (es : List EntryTree) : Type 0 where
  state : Parser
  runs : run s (symbols ts) ≡ Some state
  finishes : finish state ≡ Ok es

ended_at : (ts : List TextToken) (s : Parser) (es : List EntryTree) → all s ts ≡ Ok es → Ended s ts es
ended_at [] s es h = record { state = s; runs = refl; finishes = h }
ended_at (t ∷ ts) s es h = at (step s (symbol t)) refl (ended_at ts) h
  where
    at : (o : Option Parser) → step s (symbol t) ≡ o → ((s' : Parser) (es : List EntryTree) → all s' ts ≡ Ok es → Ended s' ts es) → next o (suc (length ts)) (λ s'. all s' ts) ≡ Ok es → Ended s (t ∷ ts) es
    at None p ih h = absurd cc
    at (Some s') p ih h =
        let r = ih s' es h in
        record { state = r.state; runs = ap (λ q. bind q (λ s'. run s' (symbols ts))) p ∙ r.runs; finishes = r.finishes }

pub derives_of_all : (ts : List TextToken) (es : List EntryTree) → all (entries []) ts ≡ Ok es → Derives (symbols ts) es
derives_of_all ts es h =
    let e = ended_at ts (entries []) es h in
    let P : Option Parser → Type 0 = λ o. IfRead o (λ r. symbols ts ++ r) in
    let w = finish_whole e.state (λ r. symbols ts ++ r) es (subst P e.runs (run_reads (symbols ts) (entries []) (λ r. r) starts_read)) e.finishes in
    record { written = w.0; is_text = w.1; spelled = sym (append-nil (symbols ts)) ∙ ap (λ q. q []) w.2; tree_is = w.3 }
