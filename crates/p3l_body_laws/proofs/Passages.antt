-- From the symbols of a text to those of its bodies: outside bodies no symbol counts.
use Rattle.std.proofs.Common.{◌≡◌, ℕ, ◌<◌, ◌≤◌, Bool, true, false, List, [], ◌∷◌, length, Option, Some, None, refl, ap, subst, arith}
use Rattle.std.specs.List.{AllByRecursion}
use Rattle.p3l_ast.specs.declared.port.Num.{Num}
use Rattle.p3l_ast.specs.declared.port.Num.TheVariants.{Digits, Named}
use Rattle.p3l_ast.specs.declared.port.Port.{Port}
use Rattle.p3l_ast.specs.declared.call.Sub.{Sub}
use Rattle.p3l_ast.specs.declared.call.Sub.TheVariants.{Whole, Free}
use Rattle.p3l_ast.specs.declared.call.Arg.{Arg}
use Rattle.p3l_ast.specs.declared.call.OutArg.{OutArg}
use Rattle.p3l_ast.specs.declared.call.OutArg.TheVariants.{Fresh, Old}
use Rattle.p3l_ast.specs.declared.call.Call.{Call}
use Rattle.p3l_ast.specs.declared.module.Kind.{Kind}
use Rattle.p3l_ast.specs.declared.module.Kind.TheVariants as kinds
use Rattle.p3l_ast.specs.declared.module.Rescue.{Rescue}
use Rattle.p3l_ast.specs.Tree.{InsideTree, body, calls, turning, EntryTree, constant, defined, ProgramTree}
use Rattle.p3l_lexer.specs.declared.mark.Mark.{Mark}
use Rattle.p3l_lexer.specs.declared.mark.Mark.TheVariants as marks
use Rattle.p3l_grammar.specs.Symbol.{Symbol, sign, symbols, kind_mark}
use Rattle.p3l_grammar.specs.Limits.{at_rest, at_statement, after_symbol, IsWithin}
use Rattle.p3l_grammar.specs.Grammar.{Spells}
use Rattle.p3l_grammar.specs.Written.{Script, Signature, Passage, fixed, bodied, chained, spread, turned, each, after_comma, separated, num_symbol, spell_size, spell_port, spell_sub, spell_arg, spell_out, spell_call, spell_script, spell_signature, spell_clause, spell_signed, spell_rescue_clause, spell_local, spell_end, spell_passage, spell_text, script_tree, passage_tree, text_tree}
use Rattle.p3l_compile.specs.Limits.{KeepsLimits, code_items}
use Rattle.p3l_body_laws.proofs.Nested.{nest, script_limited}
use Rattle.p3l_body_laws.proofs.Lengths.{body_longer, passage_longer, symbols_few}

-- symbols written in front leave everything outside bodies
abbrev Rests : (List Symbol → List Symbol) → Type 0
Rests f = (r : List Symbol) → IsWithin at_rest (f r) → IsWithin at_rest r

num_rests : (n : Num) → Rests (λ r. num_symbol n ∷ r)
num_rests (Digits v p) r h = h.1
num_rests (Named x) r h = h.1

each_rests : {A : Type 0} (f : A → List Symbol → List Symbol) → ((x : A) → Rests (f x)) → (xs : List A) → Rests (each f xs)
each_rests f k [] r h = h
each_rests f k (x ∷ xs) r h = each_rests f k xs r (k x (each f xs r) h)

separated_rests : {A : Type 0} (f : A → List Symbol → List Symbol) → ((x : A) → Rests (f x)) → (xs : List A) → Rests (separated f xs)
separated_rests f k [] r h = h
separated_rests f k (x ∷ xs) r h =
    each_rests (after_comma f) (λ y s g. k y s g.1) xs r (k x (each (after_comma f) xs r) h)

port_rests : (p : Port) → Rests (spell_port p)
port_rests p r h = each_rests spell_size (λ n s g. (num_rests n (sign marks.CloseBracket ∷ s) g.1).1) p.sizes r h.1.1

sub_rests : (s : Sub) → Rests (spell_sub s)
sub_rests Whole r h = h.1.1
sub_rests (Free x) r h = h.1.1.1.1

arg_rests : (a : Arg) → Rests (spell_arg a)
arg_rests a r h = each_rests spell_sub sub_rests a.subs r h.1

out_rests : (a : OutArg) → Rests (spell_out a)
out_rests (Fresh p) r h = port_rests p r h
out_rests (Old a) r h = arg_rests a r h

call_rests : (c : Call) → Rests (spell_call c)
call_rests c r h =
    let outs = sign marks.CloseParen ∷ r in
    let ins = sign marks.CloseParen ∷ sign marks.Out ∷ sign marks.OpenParen ∷ separated spell_out c.outs outs in
    let k = separated_rests spell_arg arg_rests c.ins ins h.1.1.1 in
    let l = separated_rests spell_out out_rests c.outs outs k.1.1.1 in
    l.1

signature_rests : (h : Signature) → Rests (spell_signature h)
signature_rests g r h =
    let outs = sign marks.CloseParen ∷ r in
    let ins = sign marks.CloseParen ∷ sign marks.Out ∷ sign marks.OpenParen ∷ separated spell_port g.outs outs in
    let k = separated_rests spell_port port_rests g.ins ins h.1.1.1 in
    let l = separated_rests spell_port port_rests g.outs outs k.1.1.1 in
    l.1

clause_rests : (m : Mark) → after_symbol at_rest (sign m) ≡ at_rest → (n : Option Num) → Rests (spell_clause m n)
clause_rests m e None r h = h
clause_rests m e (Some n) r h = num_rests n r (subst (λ k. IsWithin k (num_symbol n ∷ r)) e h.1)

signed_rests : (minus : Bool) (n : Num) → Rests (spell_signed minus n)
signed_rests false n r h = num_rests n r h
signed_rests true n r h = num_rests n r h.1

rescue_rests : (x : Option Rescue) → Rests (spell_rescue_clause x)
rescue_rests None r h = h
rescue_rests (Some x) r h = signed_rests x.minus x.num r h.1

kind_rests : (k : Kind) → after_symbol at_rest (sign (kind_mark k)) ≡ at_rest
kind_rests kinds.Seq = refl
kind_rests kinds.Comp = refl
kind_rests kinds.Pipe = refl
kind_rests kinds.Farm = refl
kind_rests kinds.Map = refl
kind_rests kinds.Reduce = refl
kind_rests kinds.Loop = refl

mark_rests : (k : Kind) → Rests (λ r. sign (kind_mark k) ∷ r)
mark_rests k r h = subst (λ n. IsWithin n r) (kind_rests k) h.1

end_rests : (k : Kind) → Rests (spell_end k)
end_rests k r h = mark_rests k r h.1

-- the sizes of local variables, and the variables
sizes_pass : (ns : List Num) (o : ℕ) (r : List Symbol) → IsWithin (nest false 0 0 0 o) (each spell_size ns r) → (last : ℕ) × IsWithin (nest false 0 0 0 last) r
sizes_pass [] o r h = (o, h)
sizes_pass (Digits v p ∷ ns) o r h = sizes_pass ns 0 r h.1.1.1
sizes_pass (Named x ∷ ns) o r h = sizes_pass ns 0 r h.1.1.1

locals_pass : (ls : List Port) (r : List Symbol) → IsWithin (at_statement 0) (each spell_local ls r) → IsWithin (at_statement 0) r
locals_pass [] r h = h
locals_pass (p ∷ ls) r h =
    let sizes = sizes_pass p.sizes 0 (sign marks.Semicolon ∷ each spell_local ls r) h.1.1 in
    locals_pass ls r sizes.1.1

-- the statements of a module keep the limits, and hold fewer things than a number
abbrev pub InsideKeeps : ℕ → InsideTree → Type 0
InsideKeeps n (body ls statements) = KeepsLimits statements × (code_items statements < n)
InsideKeeps n (calls cs) = Unit {0}
InsideKeeps n (turning b c) = Unit {0}

abbrev pub EntryKeeps : ℕ → EntryTree → Type 0
EntryKeeps n (constant x value) = Unit {0}
EntryKeeps n (defined m) = InsideKeeps n m.inside

-- an entry, and what follows it
body_keeps : (n : ℕ) (g : Signature) (b : Option Num) (x : Option Rescue) (ls : List Port) (c : Script) (r : List Symbol) → length (spell_passage (bodied g b x ls c) r) ≤ n →
    IsWithin at_rest (spell_passage (bodied g b x ls c) r) → (KeepsLimits (script_tree c) × (code_items (script_tree c) < n)) × IsWithin at_rest r
body_keeps n g b x ls c r short h =
    let r1 = sign marks.CloseBody ∷ spell_end kinds.Seq r in
    let r2 = sign marks.OpenBody ∷ each spell_local ls (spell_script c r1) in
    let r3 = spell_rescue_clause x r2 in
    let head = signature_rests g (spell_clause marks.Budget b r3) h.1 in
    let inner = rescue_rests x r2 (clause_rests marks.Budget refl b r3 head) in
    let k = script_limited c 0 r1 (locals_pass ls (spell_script c r1) inner.1) in
    ((k.0, omega (arith, body_longer g b x ls c r)), end_rests kinds.Seq r k.1.1)

entry_keeps : (n : ℕ) (i : Passage) (r : List Symbol) → length (spell_passage i r) ≤ n → IsWithin at_rest (spell_passage i r) →
    EntryKeeps n (passage_tree i) × IsWithin at_rest r
entry_keeps n (fixed x v p) r short h = (tt, h.1.1.1.1.1)
entry_keeps n (bodied g b x ls c) r short h = body_keeps n g b x ls c r short h
entry_keeps n (chained k g x cs) r short h =
    let r1 = each spell_call cs (spell_end k r) in
    let a = mark_rests k (spell_signature g (spell_rescue_clause x r1)) h in
    let b = rescue_rests x r1 (signature_rests g (spell_rescue_clause x r1) a) in
    (tt, end_rests k r (each_rests spell_call call_rests cs (spell_end k r) b))
entry_keeps n (spread k g w c) r short h =
    let r1 = spell_call c (spell_end k r) in
    let a = mark_rests k (spell_signature g (spell_clause marks.Workers w r1)) h in
    let b = signature_rests g (spell_clause marks.Workers w r1) a in
    (tt, end_rests k r (call_rests c (spell_end k r) (clause_rests marks.Workers refl w r1 b)))
entry_keeps n (turned g t m b c) r short h =
    let r1 = sign marks.End ∷ sign marks.Loop ∷ r in
    let r2 = sign marks.While ∷ spell_call c r1 in
    let r3 = spell_clause marks.Tokens m (spell_call b r2) in
    let head = signature_rests g (sign marks.Turns ∷ num_symbol t ∷ r3) h.1 in
    let clauses = clause_rests marks.Tokens refl m (spell_call b r2) (num_rests t r3 head.1) in
    let condition = call_rests b r2 clauses in
    (tt, (call_rests c r1 condition.1).1.1)

text_keeps : (n : ℕ) (is : List Passage) → length (spell_text is []) ≤ n → IsWithin at_rest (spell_text is []) → AllByRecursion (EntryKeeps n) (text_tree is)
text_keeps n [] short h = tt
text_keeps n (i ∷ is) short h =
    let k = entry_keeps n i (spell_text is []) short h in
    (k.0, text_keeps n is (omega (arith, passage_longer i (spell_text is []))) k.1)

-- the bodies of a program that a text spells hold fewer things than the text has bytes
pub spelled_keeps : (bytes : List ℕ) (program : ProgramTree) → Spells bytes program → AllByRecursion (EntryKeeps (length bytes)) program.entries
spelled_keeps bytes program s =
    let d = s.derives in
    let few = symbols_few bytes s.tokens s.are_tokens in
    let same : length (symbols s.tokens) ≡ length (spell_text d.written []) = ap (length {A = Symbol}) d.spelled in
    subst (AllByRecursion (EntryKeeps (length bytes))) d.tree_is
    (text_keeps (length bytes) d.written (omega (arith, few, same)) (subst (IsWithin at_rest) d.spelled s.within))

-- each entry has a symbol of its own
entries_count : (is : List Passage) → length (text_tree is) ≤ length (spell_text is [])
entries_count [] = omega arith
entries_count (i ∷ is) = omega (arith, passage_longer i (spell_text is []), entries_count is)

-- a program that a text spells has no more entries than the text has bytes
pub entries_few : (bytes : List ℕ) (program : ProgramTree) → Spells bytes program → length program.entries ≤ length bytes
entries_few bytes program s =
    let d = s.derives in
    let few = symbols_few bytes s.tokens s.are_tokens in
    let same : length (symbols s.tokens) ≡ length (spell_text d.written []) = ap (length {A = Symbol}) d.spelled in
    subst (λ entries. length entries ≤ length bytes) d.tree_is (omega (arith, few, same, entries_count d.written))
