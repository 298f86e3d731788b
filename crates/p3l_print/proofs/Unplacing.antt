-- Programs that are the same but for positions have one canonical text.
use Rattle.std.proofs.Common.{◌≡◌, ℕ, List, [], ◌∷◌, ◌++◌, Option, Some, None, map, flat_map, refl, sym, ap, ◌∙◌}
use Rattle.std.specs.Prelude.{option_map, codes}
use Rattle.std.specs.List.{join_by}
use Rattle.p3l_ast.specs.declared.port.Num.{Num}
use Rattle.p3l_ast.specs.declared.port.Num.TheVariants.{Digits, Named}
use Rattle.p3l_ast.specs.declared.port.Port.{Port}
use Rattle.p3l_ast.specs.declared.call.Sub.{Sub}
use Rattle.p3l_ast.specs.declared.call.Sub.TheVariants.{Whole, Free}
use Rattle.p3l_ast.specs.declared.call.Arg.{Arg}
use Rattle.p3l_ast.specs.declared.call.OutArg.{OutArg}
use Rattle.p3l_ast.specs.declared.call.OutArg.TheVariants.{Fresh, Old}
use Rattle.p3l_ast.specs.declared.call.Call.{Call}
use Rattle.p3l_ast.specs.declared.expression.UnOp.{UnOp}
use Rattle.p3l_ast.specs.declared.expression.BinOp.{BinOp}
use Rattle.p3l_ast.specs.declared.module.Rescue.{Rescue}
use Rattle.p3l_ast.specs.declared.module.Clauses.{Clauses}
use Rattle.p3l_ast.specs.Tree.{Phrase, number, read, unary, binary, Phrases, none, more, Statements, done, assign, if_, if_else, while_, for_, InsideTree, body, calls, turning, ModuleTree, EntryTree, constant, defined, ProgramTree}
use Rattle.p3l_ast.specs.Unplaced.{num_unplaced, port_unplaced, sub_unplaced, arg_unplaced, out_unplaced, call_unplaced, rescue_unplaced, clauses_unplaced, phrase_unplaced, phrases_unplaced, statements_unplaced, inside_unplaced, module_unplaced, entry_unplaced, program_unplaced}
use Rattle.p3l_print.specs.Printer.{interface_text}
use Rattle.p3l_print.specs.Port.{num_text, size_text, port_text}
use Rattle.p3l_print.specs.Call.{sub_text, arg_text, out_arg_text, call_text}
use Rattle.p3l_print.specs.Expression.{tightness, expression_text, index_text}
use Rattle.p3l_print.specs.Statement.{assignment_text, deeper, opening_text, for_opening_text, statements_text}
use Rattle.p3l_print.specs.Module.{clause_text, rescue_text, clauses_text, local_line, call_line, inside_text, module_text}
use Rattle.p3l_print.specs.Program.{entry_text, canonical}

each_same : {X : Type 0} (f : X → List ℕ) (g : X → X) → ((x : X) → f (g x) ≡ f x) → (xs : List X) → flat_map f (map g xs) ≡ flat_map f xs
each_same f g h [] = refl
each_same f g h (x ∷ xs) = let p = h x in let q = each_same f g h xs in cc

joined_same : {X : Type 0} (f : X → List ℕ) (g : X → X) (separator : List ℕ) → ((x : X) → f (g x) ≡ f x) → (xs : List X) → join_by f separator (map g xs) ≡ join_by f separator xs
joined_same f g separator h [] = refl
joined_same f g separator h (x ∷ xs) =
    let p = h x in
    let q = each_same (λ y. separator ++ f y) g (λ y. ap (λ t. separator ++ t) (h y)) xs in
    cc

num_same : (n : Num) → num_text (num_unplaced n) ≡ num_text n
num_same (Digits v p) = refl
num_same (Named x) = refl

size_same : (n : Num) → size_text (num_unplaced n) ≡ size_text n
size_same n = let p = num_same n in cc

port_same : (p : Port) → port_text (port_unplaced p) ≡ port_text p
port_same p = let q = each_same size_text num_unplaced size_same p.sizes in cc

sub_same : (s : Sub) → sub_text (sub_unplaced s) ≡ sub_text s
sub_same Whole = refl
sub_same (Free x) = refl

arg_same : (a : Arg) → arg_text (arg_unplaced a) ≡ arg_text a
arg_same a = let q = each_same sub_text sub_unplaced sub_same a.subs in cc

out_same : (a : OutArg) → out_arg_text (out_unplaced a) ≡ out_arg_text a
out_same (Fresh p) = port_same p
out_same (Old a) = arg_same a

interface_same : {I O : Type 0} (f : I → List ℕ) (g : I → I) (h : O → List ℕ) (k : O → O) → ((x : I) → f (g x) ≡ f x) → ((x : O) → h (k x) ≡ h x) → (is : List I) (os : List O) → interface_text f (map g is) h (map k os) ≡ interface_text f is h os
unfolding interface_text
interface_same f g h k p q is os =
    let a = joined_same f g (codes ", ") p is in
    let b = joined_same h k (codes ", ") q os in
    cc

call_same : (c : Call) → call_text (call_unplaced c) ≡ call_text c
call_same c = let p = interface_same arg_text arg_unplaced out_arg_text out_unplaced arg_same out_same c.ins c.outs in cc

tightness_same : (e : Phrase) → tightness (phrase_unplaced e) ≡ tightness e
tightness_same (number v) = refl
tightness_same (read x is) = refl
tightness_same (unary o e) = refl
tightness_same (binary o a b) = refl

unary_same : (o : UnOp) (d e : Phrase) → tightness d ≡ tightness e → expression_text d ≡ expression_text e → expression_text (unary o d) ≡ expression_text (unary o e)
unary_same o d e p q = cc

binary_same : (o : BinOp) (c d a b : Phrase) → tightness c ≡ tightness a → expression_text c ≡ expression_text a → tightness d ≡ tightness b → expression_text d ≡ expression_text b
    → expression_text (binary o c d) ≡ expression_text (binary o a b)
binary_same o c d a b p q r s = cc

more_same : (d e : Phrase) (js is : Phrases) → expression_text d ≡ expression_text e → index_text js ≡ index_text is → index_text (more d js) ≡ index_text (more e is)
more_same d e js is p q = cc

mutual
  phrase_same : (e : Phrase) → expression_text (phrase_unplaced e) ≡ expression_text e
  phrase_same (number v) = refl
  phrase_same (read x is) = ap (λ t. x.name ++ t) (index_same is)
  phrase_same (unary o e) = unary_same o (phrase_unplaced e) e (tightness_same e) (phrase_same e)
  phrase_same (binary o a b) =
      binary_same o (phrase_unplaced a) (phrase_unplaced b) a b (tightness_same a) (phrase_same a) (tightness_same b) (phrase_same b)

  index_same : (is : Phrases) → index_text (phrases_unplaced is) ≡ index_text is
  index_same none = refl
  index_same (more e is) = more_same (phrase_unplaced e) e (phrases_unplaced is) is (phrase_same e) (index_same is)

statements_same : (m : List ℕ) (c : Statements) → statements_text m (statements_unplaced c) ≡ statements_text m c
unfolding statements_text assignment_text opening_text for_opening_text
statements_same m done = refl
statements_same m (assign x is e c) = let p = index_same is in let q = phrase_same e in let r = statements_same m c in cc
statements_same m (if_ e t c) = let p = phrase_same e in let q = statements_same (deeper m) t in let r = statements_same m c in cc
statements_same m (if_else e t f c) =
    let p = phrase_same e in
    let q = statements_same (deeper m) t in
    let r = statements_same (deeper m) f in
    let s = statements_same m c in
    cc
statements_same m (while_ e b c) = let p = phrase_same e in let q = statements_same (deeper m) b in let r = statements_same m c in cc
statements_same m (for_ x is e w y js f b c) =
    let p = index_same is in
    let q = phrase_same e in
    let r = phrase_same w in
    let s = index_same js in
    let t = phrase_same f in
    let u = statements_same (deeper m) b in
    let v = statements_same m c in
    cc

clause_same : (word : List ℕ) (n : Option Num) → clause_text word (option_map num_unplaced n) ≡ clause_text word n
clause_same word None = refl
clause_same word (Some n) = let p = num_same n in cc

rescue_same : (x : Option Rescue) → rescue_text (option_map rescue_unplaced x) ≡ rescue_text x
rescue_same None = refl
rescue_same (Some x) = let p = num_same x.num in cc

clauses_same : (c : Clauses) → clauses_text (clauses_unplaced c) ≡ clauses_text c
unfolding clauses_text
clauses_same c =
    let p = clause_same (codes "budget") c.budget in
    let x = rescue_same c.rescue in
    let q = clause_same (codes "workers") c.workers in
    let r = clause_same (codes "turns") c.turns in
    let s = clause_same (codes "tokens") c.tokens in
    cc

local_same : (p : Port) → local_line (port_unplaced p) ≡ local_line p
local_same p = let q = port_same p in cc

line_same : (c : Call) → call_line (call_unplaced c) ≡ call_line c
line_same c = let p = call_same c in cc

inside_same : (i : InsideTree) → inside_text (inside_unplaced i) ≡ inside_text i
inside_same (body ls c) =
    let p = each_same local_line port_unplaced local_same ls in
    let q = statements_same (codes "  ") c in
    cc
inside_same (calls cs) = each_same call_line call_unplaced line_same cs
inside_same (turning b c) = let p = call_same b in let q = call_same c in cc

module_same : (m : ModuleTree) → module_text (module_unplaced m) ≡ module_text m
module_same m =
    let p = interface_same port_text port_unplaced port_text port_unplaced port_same port_same m.ins m.outs in
    let q = clauses_same m.clauses in
    let r = inside_same m.inside in
    cc

entry_same : (e : EntryTree) → entry_text (entry_unplaced e) ≡ entry_text e
entry_same (constant x v) = refl
entry_same (defined m) = module_same m

unplaced_same : (p : ProgramTree) → canonical (program_unplaced p) ≡ canonical p
unplaced_same p = joined_same entry_text entry_unplaced (codes "\n") entry_same p.entries

pub canonical_same : (p q : ProgramTree) → program_unplaced p ≡ program_unplaced q → canonical p ≡ canonical q
canonical_same p q h = sym (unplaced_same p) ∙ ap canonical h ∙ unplaced_same q
