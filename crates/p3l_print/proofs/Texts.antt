-- The canonical text of a program is written with the tokens of its canonical form.
use Rattle.std.proofs.Common.{◌≡◌, ℕ, Bool, true, false, List, [], ◌∷◌, ◌++◌, Option, Some, None, flat_map, refl, append_assoc, append-nil, codes}
use Rattle.std.specs.Fmt.{signed_decimal}
use Rattle.std.specs.List.{join_by}
use Rattle.p3l_ast.specs.declared.position.Pos.{Pos}
use Rattle.p3l_ast.specs.declared.expression.BinOp.TheVariants as ops
use Rattle.p3l_ast.specs.declared.port.Num.{Num}
use Rattle.p3l_ast.specs.declared.port.Port.{Port}
use Rattle.p3l_ast.specs.declared.call.Call.{Call}
use Rattle.p3l_ast.specs.declared.module.Kind.{Kind}
use Rattle.p3l_ast.specs.declared.module.Kind.TheVariants as kinds
use Rattle.p3l_ast.specs.declared.module.Rescue.{Rescue}
use Rattle.p3l_ast.specs.declared.module.Clauses.{Clauses}
use Rattle.p3l_ast.specs.Tree.{body, calls, turning, InsideTree}
use Rattle.p3l_lexer.specs.declared.mark.Mark.{Mark}
use Rattle.p3l_lexer.specs.declared.mark.Mark.TheVariants as marks
use Rattle.p3l_lexer.specs.declared.token.Lexeme.{Lexeme}
use Rattle.p3l_lexer.specs.declared.token.Lexeme.TheVariants as lexemes
use Rattle.p3l_lexer.specs.declared.token.Piece.{Piece}
use Rattle.p3l_lexer.specs.declared.token.Piece.TheVariants as pieces
use Rattle.p3l_lexer.specs.declared.token.TextToken.{TextToken}
use Rattle.p3l_ast.specs.Notation.{operator_of}
use Rattle.p3l_lexer.specs.Mark.{mark_text, punctuation_of}
use Rattle.p3l_lexer.specs.Piece.{piece_of}
use Rattle.p3l_lexer.specs.Position.{position_after}
use Rattle.p3l_lexer.specs.Token.{Chunk, IsCutInto, token_at, tokens_after, IsTokens}
use Rattle.p3l_lexer.specs.Spelling.{goes_on}
use Rattle.p3l_lexer.proofs.Spelling.{no_lexemes}
use Rattle.p3l_lexer.proofs.Writing.{word_again, digits_are}
use Rattle.p3l_grammar.specs.Symbol.{Symbol, word, digits, sign, symbol_at, symbols, kind_mark}
use Rattle.p3l_grammar.specs.Written.{Script, Signature, Passage, fixed, bodied, chained, spread, turned, each, num_symbol, spell_port, spell_call, spell_script, spell_signature, spell_clause, spell_signed, spell_rescue_clause, spell_local, spell_end, spell_passage, spell_text, script_tree, passage_tree, text_tree}
use Rattle.p3l_print.specs.Printer.{interface_text}
use Rattle.p3l_print.specs.Port.{num_text, port_text}
use Rattle.p3l_print.specs.Call.{call_text}
use Rattle.p3l_print.specs.Statement.{statements_text}
use Rattle.p3l_print.specs.Module.{kind_text, clause_text, minus_text, rescue_text, clauses_text, local_line, call_line, inside_text, module_text}
use Rattle.p3l_print.specs.Program.{entry_text}
use Rattle.p3l_print.proofs.Canonical.{canonical_script, canonical_passage, canonical_passages}
use Rattle.p3l_print.proofs.Writing.{IsWritable, AreWritable, Writes, EndsWord, put_space, put_line, put_mark, put_alone, minus_alone, semicolon_alone, put_word, put_digits, num_writes, port_spelling, spell_interface, interface_writes, interface_passes, interface_begins, call_writes, call_passes}
use Rattle.p3l_print.proofs.Bodies.{script_passes, script_writes}

-- lines

record IsLine {X : Type 0} (text : X → List ℕ) (spelled : X → List Symbol → List Symbol) : Type 0 where
  writes : (x : X) (r s : List Symbol) (rest : List ℕ) → AreWritable (spelled x r) → Writes rest s → Writes (text x ++ rest) (spelled x s)
  passes : (x : X) (r : List Symbol) → AreWritable (spelled x r) → AreWritable r

lines_pass : {X : Type 0} (text : X → List ℕ) (spelled : X → List Symbol → List Symbol) → IsLine text spelled → (xs : List X) (r : List Symbol) → AreWritable (each spelled xs r) → AreWritable r
lines_pass text spelled k [] r h = h
lines_pass text spelled k (x ∷ xs) r h = lines_pass text spelled k xs r (k.passes x (each spelled xs r) h)

lines_write : {X : Type 0} (text : X → List ℕ) (spelled : X → List Symbol → List Symbol) → IsLine text spelled → (xs : List X) (r s : List Symbol) (rest : List ℕ) → AreWritable (each spelled xs r) → Writes rest s
    → Writes (flat_map text xs ++ rest) (each spelled xs s)
lines_write text spelled k [] r s rest h w = w
lines_write text spelled k (x ∷ xs) r s rest h w =
    rw append_assoc (k.writes x (each spelled xs r) (each spelled xs s) (flat_map text xs ++ rest) h (lines_write text spelled k xs r s rest (k.passes x (each spelled xs r) h) w))

local_writes : (p : Port) (r s : List Symbol) (rest : List ℕ) → AreWritable (spell_local p r) → Writes rest s → Writes (local_line p ++ rest) (spell_local p s)
local_writes p r s rest h w =
    let w1 : Writes (59 ∷ 10 ∷ rest) (sign marks.Semicolon ∷ s) = put_alone marks.Semicolon (10 ∷ rest) s semicolon_alone (put_line rest s w) in
    let w2 : Writes (port_text p ++ 59 ∷ 10 ∷ rest) (spell_local p s) = port_spelling.writes p (sign marks.Semicolon ∷ r) (sign marks.Semicolon ∷ s) (59 ∷ 10 ∷ rest) h refl w1 in
    let w3 : Writes (32 ∷ 32 ∷ port_text p ++ 59 ∷ 10 ∷ rest) (spell_local p s) = put_space (32 ∷ port_text p ++ 59 ∷ 10 ∷ rest) (spell_local p s) (put_space (port_text p ++ 59 ∷ 10 ∷ rest) (spell_local p s) w2) in
    rw (append_assoc (codes "  " ++ port_text p) (codes ";\n") rest) w3

local_is_line : IsLine local_line spell_local
local_is_line = record { writes = local_writes; passes = λ p r h. (port_spelling.passes p (sign marks.Semicolon ∷ r) h).1 }

call_line_writes : (c : Call) (r s : List Symbol) (rest : List ℕ) → AreWritable (spell_call c r) → Writes rest s → Writes (call_line c ++ rest) (spell_call c s)
call_line_writes c r s rest h w =
    let w1 : Writes (call_text c ++ 10 ∷ rest) (spell_call c s) = call_writes c r s (10 ∷ rest) h (put_line rest s w) in
    let w2 : Writes (32 ∷ 32 ∷ call_text c ++ 10 ∷ rest) (spell_call c s) = put_space (32 ∷ call_text c ++ 10 ∷ rest) (spell_call c s) (put_space (call_text c ++ 10 ∷ rest) (spell_call c s) w1) in
    rw (append_assoc (codes "  " ++ call_text c) (codes "\n") rest) w2

call_is_line : IsLine call_line spell_call
call_is_line = record { writes = call_line_writes; passes = call_passes }

-- a module

kind_space : (k : Kind) → goes_on (mark_text (kind_mark k)) 32 ≡ false
unfolding goes_on punctuation_of operator_of
kind_space kinds.Seq = refl
kind_space kinds.Comp = refl
kind_space kinds.Pipe = refl
kind_space kinds.Farm = refl
kind_space kinds.Map = refl
kind_space kinds.Reduce = refl
kind_space kinds.Loop = refl

kind_line : (k : Kind) → goes_on (mark_text (kind_mark k)) 10 ≡ false
unfolding goes_on punctuation_of operator_of
kind_line kinds.Seq = refl
kind_line kinds.Comp = refl
kind_line kinds.Pipe = refl
kind_line kinds.Farm = refl
kind_line kinds.Map = refl
kind_line kinds.Reduce = refl
kind_line kinds.Loop = refl

end_writes : (k : Kind) (s : List Symbol) (rest : List ℕ) → Writes rest s → Writes (codes "end " ++ (kind_text k ++ (10 ∷ rest))) (spell_end k s)
unfolding goes_on punctuation_of operator_of
end_writes k s rest w =
    let w1 : Writes (kind_text k ++ 10 ∷ rest) (sign (kind_mark k) ∷ s) = put_mark (kind_mark k) (10 ∷ rest) s (kind_line k) (put_line rest s w) in
    put_mark marks.End (32 ∷ (kind_text k ++ (10 ∷ rest))) (sign (kind_mark k) ∷ s) refl (put_space (kind_text k ++ 10 ∷ rest) (sign (kind_mark k) ∷ s) w1)

clause_writes : (m : Mark) (n : Option Num) (r s : List Symbol) (rest : List ℕ) → goes_on (mark_text m) 32 ≡ false → AreWritable (spell_clause m n r) → EndsWord rest → Writes rest s
    → Writes (clause_text (mark_text m) n ++ rest) (spell_clause m n s)
clause_writes m None r s rest space h ends w = w
clause_writes m (Some n) r s rest space h ends w =
    let t1 = num_text n ++ rest in
    let s1 = num_symbol n ∷ s in
    let w1 : Writes t1 s1 = num_writes n r s rest h.1 ends w in
    let w2 : Writes (mark_text m ++ (32 ∷ t1)) (sign m ∷ s1) = put_mark m (32 ∷ t1) s1 space (put_space t1 s1 w1) in
    let w3 : Writes (32 ∷ (mark_text m ++ (32 ∷ t1))) (sign m ∷ s1) = put_space (mark_text m ++ (32 ∷ t1)) (sign m ∷ s1) w2 in
    simp append_assoc w3

clause_passes : (m : Mark) (n : Option Num) (r : List Symbol) → AreWritable (spell_clause m n r) → AreWritable r
clause_passes m None r h = h
clause_passes m (Some n) r h = h.1.1

clause_begins : (m : Mark) (n : Option Num) (rest : List ℕ) → EndsWord rest → EndsWord (clause_text (mark_text m) n ++ rest)
clause_begins m None rest h = h
clause_begins m (Some n) rest h = refl

-- a number after a minus or without one
signed_writes : (minus : Bool) (n : Num) (r s : List Symbol) (rest : List ℕ) → AreWritable (spell_signed minus n r) → EndsWord rest → Writes rest s
    → Writes (minus_text minus ++ (num_text n ++ rest)) (spell_signed minus n s)
signed_writes false n r s rest h ends w = num_writes n r s rest h ends w
signed_writes true n r s rest h ends w =
    put_alone (marks.Operator ops.Sub) (num_text n ++ rest) (num_symbol n ∷ s) minus_alone (num_writes n r s rest h.1 ends w)

rescue_writes : (x : Option Rescue) (r s : List Symbol) (rest : List ℕ) → AreWritable (spell_rescue_clause x r) → EndsWord rest → Writes rest s
    → Writes (rescue_text x ++ rest) (spell_rescue_clause x s)
unfolding goes_on punctuation_of operator_of
rescue_writes None r s rest h ends w = w
rescue_writes (Some x) r s rest h ends w =
    let t1 = minus_text x.minus ++ (num_text x.num ++ rest) in
    let s1 = spell_signed x.minus x.num s in
    let w1 : Writes t1 s1 = signed_writes x.minus x.num r s rest h.1 ends w in
    let w2 : Writes (codes "rescue" ++ (32 ∷ t1)) (sign marks.Rescue ∷ s1) = put_mark marks.Rescue (32 ∷ t1) s1 refl (put_space t1 s1 w1) in
    let w3 : Writes (codes " rescue " ++ t1) (sign marks.Rescue ∷ s1) = put_space (codes "rescue" ++ (32 ∷ t1)) (sign marks.Rescue ∷ s1) w2 in
    rw (append_assoc (minus_text x.minus) (num_text x.num) rest) w3

signed_passes : (minus : Bool) (n : Num) (r : List Symbol) → AreWritable (spell_signed minus n r) → AreWritable r
signed_passes false n r h = h.1
signed_passes true n r h = h.1.1

rescue_passes : (x : Option Rescue) (r : List Symbol) → AreWritable (spell_rescue_clause x r) → AreWritable r
rescue_passes None r h = h
rescue_passes (Some x) r h = signed_passes x.minus x.num r h.1

rescue_begins : (x : Option Rescue) (rest : List ℕ) → EndsWord rest → EndsWord (rescue_text x ++ rest)
rescue_begins None rest h = h
rescue_begins (Some x) rest h = refl

signature_writes : (k : Kind) (h : Signature) (clauses : List ℕ) (r s : List Symbol) (rest : List ℕ) → AreWritable (spell_signature h r) → Writes (clauses ++ 10 ∷ rest) s
    → Writes (kind_text k ++ codes " " ++ h.at.name ++ interface_text port_text h.ins port_text h.outs ++ clauses ++ codes "\n" ++ rest) (sign (kind_mark k) ∷ spell_signature h s)
signature_writes k h clauses r s rest p w =
    let t1 = interface_text port_text h.ins port_text h.outs ++ (clauses ++ 10 ∷ rest) in
    let s1 = spell_interface spell_port h.ins spell_port h.outs s in
    let w1 : Writes t1 s1 = interface_writes port_text spell_port port_text spell_port port_spelling port_spelling h.ins h.outs r s (clauses ++ 10 ∷ rest) p.1 w in
    let t2 = h.at.name ++ t1 in
    let w2 : Writes t2 (word h.at ∷ s1) = put_word h.at t1 s1 p.0 (interface_begins port_text port_text h.ins h.outs (clauses ++ 10 ∷ rest)) w1 in
    let w3 : Writes (kind_text k ++ (32 ∷ t2)) (sign (kind_mark k) ∷ word h.at ∷ s1) = put_mark (kind_mark k) (32 ∷ t2) (word h.at ∷ s1) (kind_space k) (put_space t2 (word h.at ∷ s1) w2) in
    simp append_assoc w3

signature_passes : (h : Signature) (r : List Symbol) → AreWritable (spell_signature h r) → AreWritable r
signature_passes h r p = interface_passes port_text spell_port port_text spell_port port_spelling port_spelling h.ins h.outs r p.1

-- a module, by its clauses and what stands inside
module_writes : (k : Kind) (h : Signature) (clauses : Clauses) (inside : InsideTree) (r s1 s2 s : List Symbol) (rest : List ℕ) → AreWritable (spell_signature h r)
    → ((t : List ℕ) → Writes t s2 → Writes (clauses_text clauses ++ 10 ∷ t) s1) → ((t : List ℕ) → Writes t (spell_end k s) → Writes (inside_text inside ++ t) s2) → Writes rest s
    → Writes (module_text (record { kind = k; at = h.at; ins = h.ins; outs = h.outs; clauses = clauses; inside = inside }) ++ rest) (sign (kind_mark k) ∷ spell_signature h s1)
module_writes k h clauses inside r s1 s2 s rest p c i w =
    let t3 = codes "end " ++ (kind_text k ++ 10 ∷ rest) in
    let w3 : Writes t3 (spell_end k s) = end_writes k s rest w in
    let t2 = inside_text inside ++ t3 in
    let w2 : Writes t2 s2 = i t3 w3 in
    let w1 : Writes (clauses_text clauses ++ 10 ∷ t2) s1 = c t2 w2 in
    let w0 = signature_writes k h (clauses_text clauses) r s1 t2 p w1 in
    simp append_assoc (simp append_assoc at w0)

budget_space : goes_on (mark_text marks.Budget) 32 ≡ false
unfolding goes_on punctuation_of operator_of
budget_space = refl

workers_space : goes_on (mark_text marks.Workers) 32 ≡ false
unfolding goes_on punctuation_of operator_of
workers_space = refl

turns_space : goes_on (mark_text marks.Turns) 32 ≡ false
unfolding goes_on punctuation_of operator_of
turns_space = refl

tokens_space : goes_on (mark_text marks.Tokens) 32 ≡ false
unfolding goes_on punctuation_of operator_of
tokens_space = refl

-- the clauses that a module can have

abbrev only_budget : Option Num → Option Rescue → Clauses
only_budget b x = record { workers = None; turns = None; tokens = None; budget = b; rescue = x }

abbrev only_workers : Option Num → Clauses
only_workers w = record { workers = w; turns = None; tokens = None; budget = None; rescue = None }

abbrev only_turns : Num → Option Num → Clauses
only_turns t n = record { workers = None; turns = Some t; tokens = n; budget = None; rescue = None }

budget_text : (b : Option Num) (x : Option Rescue) → clauses_text (only_budget b x) ≡ clause_text (codes "budget") b ++ rescue_text x
unfolding clauses_text
budget_text b x = simp append-nil

workers_text : (w : Option Num) → clauses_text (only_workers w) ≡ clause_text (codes "workers") w
unfolding clauses_text
workers_text w = simp append-nil

turns_text : (t : Num) (n : Option Num) → clauses_text (only_turns t n) ≡ clause_text (codes "turns") (Some t) ++ clause_text (codes "tokens") n
unfolding clauses_text
turns_text t n = refl

budget_writes : (b : Option Num) (x : Option Rescue) (r s : List Symbol) (t : List ℕ) → AreWritable (spell_clause marks.Budget b (spell_rescue_clause x r)) → Writes t s
    → Writes (clauses_text (only_budget b x) ++ 10 ∷ t) (spell_clause marks.Budget b (spell_rescue_clause x s))
budget_writes b x r s t h w =
    let t1 = rescue_text x ++ (10 ∷ t) in
    let w1 : Writes t1 (spell_rescue_clause x s) = rescue_writes x r s (10 ∷ t) (clause_passes marks.Budget b (spell_rescue_clause x r) h) refl (put_line t s w) in
    let w2 = clause_writes marks.Budget b (spell_rescue_clause x r) (spell_rescue_clause x s) t1 budget_space h (rescue_begins x (10 ∷ t) refl) w1 in
    rw (budget_text b x, append_assoc (clause_text (codes "budget") b) (rescue_text x) (10 ∷ t)) w2

workers_writes : (v : Option Num) (r s : List Symbol) (t : List ℕ) → AreWritable (spell_clause marks.Workers v r) → Writes t s → Writes (clauses_text (only_workers v) ++ 10 ∷ t) (spell_clause marks.Workers v s)
workers_writes v r s t h w = rw (workers_text v) (clause_writes marks.Workers v r s (10 ∷ t) workers_space h refl (put_line t s w))

turns_writes : (u : Num) (n : Option Num) (r s : List Symbol) (t : List ℕ) → AreWritable (sign marks.Turns ∷ num_symbol u ∷ spell_clause marks.Tokens n r) → Writes t s
    → Writes (clauses_text (only_turns u n) ++ 10 ∷ t) (sign marks.Turns ∷ num_symbol u ∷ spell_clause marks.Tokens n s)
turns_writes u n r s t h w =
    let t1 = clause_text (codes "tokens") n ++ (10 ∷ t) in
    let s1 = spell_clause marks.Tokens n s in
    let w1 : Writes t1 s1 = clause_writes marks.Tokens n r s (10 ∷ t) tokens_space h.1.1 refl (put_line t s w) in
    let w2 = clause_writes marks.Turns (Some u) (spell_clause marks.Tokens n r) s1 t1 turns_space h (clause_begins marks.Tokens n (10 ∷ t) refl) w1 in
    rw (turns_text u n, append_assoc (clause_text (codes "turns") (Some u)) (clause_text (codes "tokens") n) (10 ∷ t)) w2

-- the text inside a module

body_writes : (ls : List Port) (c : Script) (r s : List Symbol) (t : List ℕ) → AreWritable (each spell_local ls (spell_script c r)) → Writes t s
    → Writes (inside_text (body ls (script_tree c)) ++ t) (sign marks.OpenBody ∷ each spell_local ls (spell_script (canonical_script c) (sign marks.CloseBody ∷ s)))
unfolding goes_on punctuation_of operator_of
body_writes ls c r s t h w =
    let s1 = sign marks.CloseBody ∷ s in
    let t1 = codes "}$\n" ++ t in
    let w1 : Writes t1 s1 = put_mark marks.CloseBody (10 ∷ t) s refl (put_line t s w) in
    let t2 = statements_text (codes "  ") (script_tree c) ++ t1 in
    let s2 = spell_script (canonical_script c) s1 in
    let w2 : Writes t2 s2 = script_writes c (codes "  ") r refl (lines_pass local_line spell_local local_is_line ls (spell_script c r) h) s1 t1 w1 in
    let t3 = flat_map local_line ls ++ t2 in
    let s3 = each spell_local ls s2 in
    let w3 : Writes t3 s3 = lines_write local_line spell_local local_is_line ls (spell_script c r) s2 t2 h w2 in
    let w4 : Writes (codes "${\n" ++ t3) (sign marks.OpenBody ∷ s3) = put_mark marks.OpenBody (10 ∷ t3) s3 refl (put_line t3 s3 w3) in
    simp append_assoc w4

calls_write : (cs : List Call) (r s : List Symbol) (t : List ℕ) → AreWritable (each spell_call cs r) → Writes t s → Writes (inside_text (calls cs) ++ t) (each spell_call cs s)
calls_write cs r s t h w = lines_write call_line spell_call call_is_line cs r s t h w

turning_writes : (b c : Call) (r s : List Symbol) (t : List ℕ) → AreWritable (spell_call b (sign marks.While ∷ spell_call c r)) → Writes t s
    → Writes (inside_text (turning b c) ++ t) (spell_call b (sign marks.While ∷ spell_call c s))
unfolding goes_on punctuation_of operator_of
turning_writes b c r s t h w =
    let t1 = call_text c ++ (10 ∷ t) in
    let s1 = spell_call c s in
    let w1 : Writes t1 s1 = call_writes c r s (10 ∷ t) (call_passes b (sign marks.While ∷ spell_call c r) h).1 (put_line t s w) in
    let t2 = codes "  while " ++ t1 in
    let s2 = sign marks.While ∷ s1 in
    let w2 : Writes t2 s2 = put_space (codes " while " ++ t1) s2 (put_space (codes "while " ++ t1) s2 (put_mark marks.While (32 ∷ t1) s1 refl (put_space t1 s1 w1))) in
    let w3 : Writes (call_line b ++ t2) (spell_call b s2) = call_line_writes b (sign marks.While ∷ spell_call c r) s2 t2 h w2 in
    rw (append_assoc (call_line b ++ codes "  while " ++ call_text c) (codes "\n") t, append_assoc (call_line b ++ codes "  while ") (call_text c) (10 ∷ t), append_assoc (call_line b) (codes "  while ") (call_text c ++ (10 ∷ t))) w3

-- entries

pub passage_writes : (i : Passage) (r s : List Symbol) (rest : List ℕ) → AreWritable (spell_passage i r) → Writes rest s → Writes (entry_text (passage_tree i) ++ rest) (spell_passage (canonical_passage i) s)
unfolding goes_on punctuation_of operator_of
passage_writes (fixed x v p) r s rest h w =
    let n = h.1.1.1.0 in
    let s1 = sign marks.Semicolon ∷ s in
    let w1 : Writes (59 ∷ 10 ∷ rest) s1 = put_alone marks.Semicolon (10 ∷ rest) s semicolon_alone (put_line rest s w) in
    let t2 = signed_decimal v ++ (59 ∷ 10 ∷ rest) in
    let s2 = digits v p ∷ s1 in
    let w2 : Writes t2 s2 = put_digits v (59 ∷ 10 ∷ rest) s1 n.0 n.1 n.2 refl w1 in
    let t3 = codes " = " ++ t2 in
    let s3 = sign marks.Assign ∷ s2 in
    let w3 : Writes t3 s3 = put_space (codes "= " ++ t2) s3 (put_mark marks.Assign (32 ∷ t2) s2 refl (put_space t2 s2 w2)) in
    let t4 = x.name ++ t3 in
    let s4 = word x ∷ s3 in
    let w4 : Writes t4 s4 = put_word x t3 s3 h.1.0 refl w3 in
    let w5 : Writes (codes "const " ++ t4) (sign marks.Const ∷ s4) = put_mark marks.Const (32 ∷ t4) s4 refl (put_space t4 s4 w4) in
    simp append_assoc w5
passage_writes (bodied g b x ls c) r s rest h w =
    let r3 = spell_end kinds.Seq r in
    let r2 = each spell_local ls (spell_script c (sign marks.CloseBody ∷ r3)) in
    let r4 = spell_rescue_clause x (sign marks.OpenBody ∷ r2) in
    let r1 = spell_clause marks.Budget b r4 in
    let s2 = sign marks.OpenBody ∷ each spell_local ls (spell_script (canonical_script c) (sign marks.CloseBody ∷ spell_end kinds.Seq s)) in
    let p = signature_passes g r1 h.1 in
    module_writes kinds.Seq g (only_budget b x) (body ls (script_tree c)) r1 (spell_clause marks.Budget b (spell_rescue_clause x s2)) s2 s rest h.1
    (λ t z. budget_writes b x (sign marks.OpenBody ∷ r2) s2 t p z)
    (λ t z. body_writes ls c (sign marks.CloseBody ∷ r3) (spell_end kinds.Seq s) t (rescue_passes x (sign marks.OpenBody ∷ r2) (clause_passes marks.Budget b r4 p)).1 z) w
passage_writes (chained k g x cs) r s rest h w =
    let r2 = each spell_call cs (spell_end k r) in
    let r1 = spell_rescue_clause x r2 in
    let s1 = each spell_call cs (spell_end k s) in
    let p = signature_passes g r1 h.1 in
    module_writes k g (only_budget None x) (calls cs) r1 (spell_rescue_clause x s1) s1 s rest h.1
    (λ t z. budget_writes None x r2 s1 t p z)
    (λ t z. calls_write cs (spell_end k r) (spell_end k s) t (rescue_passes x r2 p) z) w
passage_writes (spread k g v c) r s rest h w =
    let r2 = spell_call c (spell_end k r) in
    let r1 = spell_clause marks.Workers v r2 in
    let s2 = spell_call c (spell_end k s) in
    let p = signature_passes g r1 h.1 in
    module_writes k g (only_workers v) (calls (c ∷ [])) r1 (spell_clause marks.Workers v s2) s2 s rest h.1
    (λ t z. workers_writes v r2 s2 t p z)
    (λ t z. calls_write (c ∷ []) (spell_end k r) (spell_end k s) t (clause_passes marks.Workers v r2 p) z) w
passage_writes (turned g u n b c) r s rest h w =
    let r3 = spell_call b (sign marks.While ∷ spell_call c (spell_end kinds.Loop r)) in
    let r1 = sign marks.Turns ∷ num_symbol u ∷ spell_clause marks.Tokens n r3 in
    let s3 = spell_call b (sign marks.While ∷ spell_call c (spell_end kinds.Loop s)) in
    let p = signature_passes g r1 h.1 in
    module_writes kinds.Loop g (only_turns u n) (turning b c) r1 (sign marks.Turns ∷ num_symbol u ∷ spell_clause marks.Tokens n s3) s3 s rest h.1
    (λ t z. turns_writes u n r3 s3 t p z)
    (λ t z. turning_writes b c (spell_end kinds.Loop r) (spell_end kinds.Loop s) t (clause_passes marks.Tokens n r3 p.1.1) z) w

pub passage_passes : (i : Passage) (r : List Symbol) → AreWritable (spell_passage i r) → AreWritable r
passage_passes (fixed x v p) r h = h.1.1.1.1.1
passage_passes (bodied g b x ls c) r h =
    let r3 = sign marks.CloseBody ∷ spell_end kinds.Seq r in
    let r2 = sign marks.OpenBody ∷ each spell_local ls (spell_script c r3) in
    let r4 = spell_rescue_clause x r2 in
    let inner = (rescue_passes x r2 (clause_passes marks.Budget b r4 (signature_passes g (spell_clause marks.Budget b r4) h.1))).1 in
    (script_passes c r3 (lines_pass local_line spell_local local_is_line ls (spell_script c r3) inner)).1.1.1
passage_passes (chained k g x cs) r h =
    let r2 = each spell_call cs (spell_end k r) in
    (lines_pass call_line spell_call call_is_line cs (spell_end k r) (rescue_passes x r2 (signature_passes g (spell_rescue_clause x r2) h.1))).1.1
passage_passes (spread k g v c) r h =
    let r2 = spell_call c (spell_end k r) in
    (call_passes c (spell_end k r) (clause_passes marks.Workers v r2 (signature_passes g (spell_clause marks.Workers v r2) h.1))).1.1
passage_passes (turned g u n b c) r h =
    let r4 = spell_end kinds.Loop r in
    let r3 = spell_call b (sign marks.While ∷ spell_call c r4) in
    let inner = clause_passes marks.Tokens n r3 (signature_passes g (sign marks.Turns ∷ num_symbol u ∷ spell_clause marks.Tokens n r3) h.1).1.1 in
    (call_passes c r4 (call_passes b (sign marks.While ∷ spell_call c r4) inner).1).1.1

more_items : (is : List Passage) → AreWritable (spell_text is []) → Writes (flat_map (λ e. codes "\n" ++ entry_text e) (text_tree is)) (spell_text (canonical_passages is) [])
more_items [] h = no_lexemes
more_items (i ∷ is) h =
    let more = flat_map (λ e. codes "\n" ++ entry_text e) (text_tree is) in
    let s = spell_text (canonical_passages is) [] in
    let w1 : Writes (entry_text (passage_tree i) ++ more) (spell_text (canonical_passages (i ∷ is)) []) = passage_writes i (spell_text is []) s more h (more_items is (passage_passes i (spell_text is []) h)) in
    put_line (entry_text (passage_tree i) ++ more) (spell_text (canonical_passages (i ∷ is)) []) w1

pub text_writes : (is : List Passage) → AreWritable (spell_text is []) → Writes (join_by entry_text (codes "\n") (text_tree is)) (spell_text (canonical_passages is) [])
text_writes [] h = no_lexemes
text_writes (i ∷ is) h =
    passage_writes i (spell_text is []) (spell_text (canonical_passages is) []) (flat_map (λ e. codes "\n" ++ entry_text e) (text_tree is)) h (more_items is (passage_passes i (spell_text is []) h))

-- the symbols of a text can be written

symbol_writable : (text : List ℕ) (lexeme : Lexeme) (at : Pos) → piece_of text ≡ Some (pieces.Token lexeme) → IsWritable (symbol_at lexeme at)
symbol_writable text (lexemes.Word name) at h = word_again text name h
symbol_writable text (lexemes.Digits v) at h = digits_are text v h
symbol_writable text (lexemes.Sign m) at h = tt
symbol_writable text (lexemes.Faulty f) at h = tt

chunks_writable : (bytes before : List ℕ) (chunks : List Chunk) → IsCutInto bytes chunks → AreWritable (symbols (tokens_after before chunks))
chunks_writable bytes before [] h = tt
chunks_writable bytes before (chunk ∷ chunks) h = go chunk.piece h.2.is_piece (chunks_writable h.0 (before ++ chunk.text) chunks h.3)
  where
    go : (piece : Piece) → piece_of chunk.text ≡ Some piece → AreWritable (symbols (tokens_after (before ++ chunk.text) chunks))
        → AreWritable (symbols (token_at (position_after before) piece ++ tokens_after (before ++ chunk.text) chunks))
    go pieces.Gap p k = k
    go (pieces.Token lexeme) p k = (symbol_writable chunk.text lexeme (position_after before) p, k)

pub tokens_writable : (bytes : List ℕ) (tokens : List TextToken) → IsTokens bytes tokens → AreWritable (symbols tokens)
tokens_writable bytes tokens h = rw h.tokens_are (chunks_writable bytes [] h.chunks h.cut)
