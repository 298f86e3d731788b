-- Spellings of heads and calls are read, up to the symbols that follow them.
use Rattle.std.proofs.Common.{◌≡◌, List, [], ◌∷◌, ◌++◌, refl, sym, ap, ◌∙◌, append_assoc, append-nil}
use Rattle.p3l_ast.specs.declared.port.Num.{Num}
use Rattle.p3l_ast.specs.declared.port.Num.TheVariants.{Digits, Named}
use Rattle.p3l_ast.specs.declared.port.Port.{Port}
use Rattle.p3l_ast.specs.declared.call.Sub.{Sub}
use Rattle.p3l_ast.specs.declared.call.Sub.TheVariants.{Whole, Free}
use Rattle.p3l_ast.specs.declared.call.Arg.{Arg}
use Rattle.p3l_ast.specs.declared.call.OutArg.{OutArg}
use Rattle.p3l_ast.specs.declared.call.OutArg.TheVariants.{Fresh, Old}
use Rattle.p3l_ast.specs.declared.call.Call.{Call}
use Rattle.std.specs.Prelude.{Option, None}
use Rattle.p3l_ast.specs.declared.module.Kind.{Kind}
use Rattle.p3l_ast.specs.declared.module.Kind.TheVariants as kinds
use Rattle.p3l_ast.specs.declared.module.Rescue.{Rescue}
use Rattle.p3l_ast.specs.Tree.{Statements, done, body, turning, EntryTree}
use Rattle.p3l_lexer.specs.declared.mark.Mark.{Mark}
use Rattle.p3l_lexer.specs.declared.mark.Mark.TheVariants as marks
use Rattle.p3l_grammar.specs.Symbol.{Symbol, sign}
use Rattle.p3l_grammar.specs.Written.{Signature, HasOne, IsSignature, IsCall, AreCalls, each, after_comma, separated, num_symbol, spell_size, spell_port, spell_sub, spell_arg, spell_out, spell_call, spell_signature, spell_local, body_filling, chain_filling, spread_filling, turning_filling, module_of}
use Rattle.p3l_grammar.specs.Parser.{Parser, await, any_num, another_size, another_sub, another_port, another_arg, any_out, another_out, another_call, another_local, port, arg, ports, args, out_args, call, head, clause, rescue_clause, another_stmt, end_of}
use Rattle.p3l_grammar.proofs.Runs.{run}

-- Modules of each form, and what may come after their keywords.

abbrev pub bodied_tree : Signature → Option Num → Option Rescue → List Port → Statements → EntryTree
bodied_tree h b x ls c = module_of kinds.Seq h (body_filling b x (body ls c))

abbrev pub chained_tree : Kind → Signature → Option Rescue → List Call → EntryTree
chained_tree k h x cs = module_of k h (chain_filling x cs)

abbrev pub spread_tree : Kind → Signature → Option Num → Call → EntryTree
spread_tree k h w c = module_of k h (spread_filling w c)

abbrev pub turned_tree : Signature → Num → Option Num → Call → Call → EntryTree
turned_tree h t n b c = module_of kinds.Loop h (turning_filling t n (turning b c))

abbrev pub bodied_from : (EntryTree → Parser) → Parser
bodied_from go =
    head (λ h. clause marks.Budget (λ b. rescue_clause (λ x. await marks.OpenBody (another_local [] (λ ls. another_stmt done
    (λ c. await marks.CloseBody (end_of kinds.Seq (go (bodied_tree h b x ls c)))))))))

-- the calls of a `pipe` or a `comp` after the rest of its head
abbrev pub chain_from : Kind → Signature → Option Rescue → (EntryTree → Parser) → Parser
chain_from k h x go = call (λ c. another_call (c ∷ []) (λ cs. end_of k (go (chained_tree k h x cs))))

abbrev pub piped_from : (EntryTree → Parser) → Parser
piped_from go = head (λ h. chain_from kinds.Pipe h None go)

abbrev pub composed_from : (EntryTree → Parser) → Parser
composed_from go = head (λ h. rescue_clause (λ x. chain_from kinds.Comp h x go))

abbrev pub spread_from : Kind → (EntryTree → Parser) → Parser
spread_from k go = head (λ h. clause marks.Workers (λ w. call (λ c. end_of k (go (spread_tree k h w c)))))

abbrev pub turned_from : (EntryTree → Parser) → Parser
turned_from go =
    head (λ h. await marks.Turns (any_num (λ t. clause marks.Tokens (λ n. call (λ b. await marks.While
    (call (λ c. end_of kinds.Loop (go (turned_tree h t n b c)))))))))

-- no size comes first
abbrev pub PassesSize : List Symbol → Type 0
PassesSize r = (ns : List Num) (go : List Num → Parser) → run (another_size ns go) r ≡ run (go ns) r

-- no bracket comes first
abbrev pub PassesSub : List Symbol → Type 0
PassesSub r = (ss : List Sub) (go : List Sub → Parser) → run (another_sub ss go) r ≡ run (go ss) r

pub num_runs : (n : Num) (go : Num → Parser) (r : List Symbol) → run (any_num go) (num_symbol n ∷ r) ≡ run (go n) r
num_runs (Digits v p) go r = refl
num_runs (Named x) go r = refl

pub sizes_run : (ms ns : List Num) (go : List Num → Parser) (r : List Symbol) → PassesSize r → run (another_size ns go) (each spell_size ms r) ≡ run (go (ns ++ ms)) r
sizes_run [] ns go r h = h ns go ∙ ap (λ q. run (go q) r) (sym (append-nil ns))
sizes_run (m ∷ ms) ns go r h =
    num_runs m (λ n. await marks.CloseBracket (another_size (ns ++ n ∷ []) go)) (sign marks.CloseBracket ∷ each spell_size ms r)
    ∙ sizes_run ms (ns ++ m ∷ []) go r h
    ∙ ap (λ q. run (go q) r) (append_assoc ns (m ∷ []) ms)

pub subs_run : (ms ns : List Sub) (go : List Sub → Parser) (r : List Symbol) → PassesSub r → run (another_sub ns go) (each spell_sub ms r) ≡ run (go (ns ++ ms)) r
subs_run [] ns go r h = h ns go ∙ ap (λ q. run (go q) r) (sym (append-nil ns))
subs_run (Whole ∷ ms) ns go r h =
    subs_run ms (ns ++ Whole ∷ []) go r h ∙ ap (λ q. run (go q) r) (append_assoc ns (Whole ∷ []) ms)
subs_run (Free x ∷ ms) ns go r h =
    subs_run ms (ns ++ Free x ∷ []) go r h ∙ ap (λ q. run (go q) r) (append_assoc ns (Free x ∷ []) ms)

pub port_runs : (p : Port) (go : Port → Parser) (r : List Symbol) → PassesSize r → run (port go) (spell_port p r) ≡ run (go p) r
port_runs p go r h = sizes_run p.sizes [] (λ ns. go (record { at = p.at; sizes = ns })) r h

pub arg_runs : (a : Arg) (go : Arg → Parser) (r : List Symbol) → PassesSub r → run (arg go) (spell_arg a r) ≡ run (go a) r
arg_runs a go r h = subs_run a.subs [] (λ ss. go (record { at = a.at; subs = ss })) r h

pub out_runs : (a : OutArg) (go : OutArg → Parser) (r : List Symbol) → PassesSize r → PassesSub r → run (any_out go) (spell_out a r) ≡ run (go a) r
out_runs (Fresh p) go r h i = sizes_run p.sizes [] (λ ns. go (Fresh (record { at = p.at; sizes = ns }))) r h
out_runs (Old a) go r h i = subs_run a.subs [] (λ ss. go (Old (record { at = a.at; subs = ss }))) r i

-- a comma or a closing parenthesis comes first
comma_no_size : {A : Type 0} (f : A → List Symbol → List Symbol) (xs : List A) (r : List Symbol) → PassesSize (each (after_comma f) xs (sign marks.CloseParen ∷ r))
comma_no_size f [] r ns go = refl
comma_no_size f (x ∷ xs) r ns go = refl

comma_no_sub : {A : Type 0} (f : A → List Symbol → List Symbol) (xs : List A) (r : List Symbol) → PassesSub (each (after_comma f) xs (sign marks.CloseParen ∷ r))
comma_no_sub f [] r ns go = refl
comma_no_sub f (x ∷ xs) r ns go = refl

more_ports_run : (qs ps : List Port) (go : List Port → Parser) (r : List Symbol) → run (another_port ps go) (each (after_comma spell_port) qs (sign marks.CloseParen ∷ r)) ≡ run (go (ps ++ qs)) (sign marks.CloseParen ∷ r)
more_ports_run [] ps go r = ap (λ q. run (go q) (sign marks.CloseParen ∷ r)) (sym (append-nil ps))
more_ports_run (q ∷ qs) ps go r =
    port_runs q (λ p. another_port (ps ++ p ∷ []) go) (each (after_comma spell_port) qs (sign marks.CloseParen ∷ r)) (comma_no_size spell_port qs r)
    ∙ more_ports_run qs (ps ++ q ∷ []) go r
    ∙ ap (λ x. run (go x) (sign marks.CloseParen ∷ r)) (append_assoc ps (q ∷ []) qs)

more_args_run : (qs ps : List Arg) (go : List Arg → Parser) (r : List Symbol) → run (another_arg ps go) (each (after_comma spell_arg) qs (sign marks.CloseParen ∷ r)) ≡ run (go (ps ++ qs)) (sign marks.CloseParen ∷ r)
more_args_run [] ps go r = ap (λ q. run (go q) (sign marks.CloseParen ∷ r)) (sym (append-nil ps))
more_args_run (q ∷ qs) ps go r =
    arg_runs q (λ p. another_arg (ps ++ p ∷ []) go) (each (after_comma spell_arg) qs (sign marks.CloseParen ∷ r)) (comma_no_sub spell_arg qs r)
    ∙ more_args_run qs (ps ++ q ∷ []) go r
    ∙ ap (λ x. run (go x) (sign marks.CloseParen ∷ r)) (append_assoc ps (q ∷ []) qs)

more_outs_run : (qs ps : List OutArg) (go : List OutArg → Parser) (r : List Symbol) → run (another_out ps go) (each (after_comma spell_out) qs (sign marks.CloseParen ∷ r)) ≡ run (go (ps ++ qs)) (sign marks.CloseParen ∷ r)
more_outs_run [] ps go r = ap (λ q. run (go q) (sign marks.CloseParen ∷ r)) (sym (append-nil ps))
more_outs_run (q ∷ qs) ps go r =
    out_runs q (λ p. another_out (ps ++ p ∷ []) go) (each (after_comma spell_out) qs (sign marks.CloseParen ∷ r)) (comma_no_size spell_out qs r) (comma_no_sub spell_out qs r)
    ∙ more_outs_run qs (ps ++ q ∷ []) go r
    ∙ ap (λ x. run (go x) (sign marks.CloseParen ∷ r)) (append_assoc ps (q ∷ []) qs)

pub ports_run : (ps : List Port) (go : List Port → Parser) (r : List Symbol) → HasOne ps → run (ports go) (sign marks.OpenParen ∷ separated spell_port ps (sign marks.CloseParen ∷ r)) ≡ run (go ps) r
ports_run [] go r h = absurd h
ports_run (p ∷ ps) go r h =
    port_runs p (λ q. another_port (q ∷ []) (λ qs. await marks.CloseParen (go qs))) (each (after_comma spell_port) ps (sign marks.CloseParen ∷ r)) (comma_no_size spell_port ps r)
    ∙ more_ports_run ps (p ∷ []) (λ qs. await marks.CloseParen (go qs)) r

pub args_run : (ps : List Arg) (go : List Arg → Parser) (r : List Symbol) → HasOne ps → run (args go) (sign marks.OpenParen ∷ separated spell_arg ps (sign marks.CloseParen ∷ r)) ≡ run (go ps) r
args_run [] go r h = absurd h
args_run (p ∷ ps) go r h =
    arg_runs p (λ q. another_arg (q ∷ []) (λ qs. await marks.CloseParen (go qs))) (each (after_comma spell_arg) ps (sign marks.CloseParen ∷ r)) (comma_no_sub spell_arg ps r)
    ∙ more_args_run ps (p ∷ []) (λ qs. await marks.CloseParen (go qs)) r

pub outs_run : (ps : List OutArg) (go : List OutArg → Parser) (r : List Symbol) → HasOne ps → run (out_args go) (sign marks.OpenParen ∷ separated spell_out ps (sign marks.CloseParen ∷ r)) ≡ run (go ps) r
outs_run [] go r h = absurd h
outs_run (p ∷ ps) go r h =
    out_runs p (λ q. another_out (q ∷ []) (λ qs. await marks.CloseParen (go qs))) (each (after_comma spell_out) ps (sign marks.CloseParen ∷ r)) (comma_no_size spell_out ps r) (comma_no_sub spell_out ps r)
    ∙ more_outs_run ps (p ∷ []) (λ qs. await marks.CloseParen (go qs)) r

pub call_from_runs : (c : Call) (go : Call → Parser) (r : List Symbol) → IsCall c → run (call go) (spell_call c r) ≡ run (go c) r
call_from_runs c go r h =
    let x = c.at in
    let outs_go = λ (is : List Arg) (os : List OutArg). go (record { at = x; ins = is; outs = os }) in
    args_run c.ins (λ is. await marks.Out (out_args (outs_go is)))
    (sign marks.Out ∷ sign marks.OpenParen ∷ separated spell_out c.outs (sign marks.CloseParen ∷ r)) h.0
    ∙ outs_run c.outs (outs_go c.ins) r h.1

pub more_calls_run : (ds cs : List Call) (go : List Call → Parser) (m : Mark) (r : List Symbol) → AreCalls ds → run (another_call cs go) (each spell_call ds (sign m ∷ r)) ≡ run (go (cs ++ ds)) (sign m ∷ r)
more_calls_run [] cs go m r h = ap (λ q. run (go q) (sign m ∷ r)) (sym (append-nil cs))
more_calls_run (d ∷ ds) cs go m r h =
    call_from_runs d (λ c. another_call (cs ++ c ∷ []) go) (each spell_call ds (sign m ∷ r)) h.0
    ∙ more_calls_run ds (cs ++ d ∷ []) go m r h.1
    ∙ ap (λ x. run (go x) (sign m ∷ r)) (append_assoc cs (d ∷ []) ds)

pub signature_runs : (h : Signature) (go : Signature → Parser) (r : List Symbol) → IsSignature h → run (head go) (spell_signature h r) ≡ run (go h) r
signature_runs h go r i =
    let x = h.at in
    let outs_go = λ (is os : List Port). go (record { at = x; ins = is; outs = os }) in
    ports_run h.ins (λ is. await marks.Out (ports (outs_go is)))
    (sign marks.Out ∷ sign marks.OpenParen ∷ separated spell_port h.outs (sign marks.CloseParen ∷ r)) i.0
    ∙ ports_run h.outs (outs_go h.ins) r i.1

-- no local variable comes first
abbrev pub PassesLocal : List Symbol → Type 0
PassesLocal r = (ls : List Port) (go : List Port → Parser) → run (another_local ls go) r ≡ run (go ls) r

pub locals_run : (ks ls : List Port) (go : List Port → Parser) (r : List Symbol) → PassesLocal r → run (another_local ls go) (each spell_local ks r) ≡ run (go (ls ++ ks)) r
locals_run [] ls go r h = h ls go ∙ ap (λ q. run (go q) r) (sym (append-nil ls))
locals_run (k ∷ ks) ls go r h =
    port_runs k (λ p. await marks.Semicolon (another_local (ls ++ p ∷ []) go)) (sign marks.Semicolon ∷ each spell_local ks r) (λ ns go'. refl)
    ∙ locals_run ks (ls ++ k ∷ []) go r h
    ∙ ap (λ q. run (go q) r) (append_assoc ls (k ∷ []) ks)
