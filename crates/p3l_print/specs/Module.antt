-- The texts of modules.
use Rattle.std.specs.Prelude.{ℕ, List, [], ◌++◌, flat_map, Bool, true, false, Option, Some, None, codes}
use Rattle.p3l_ast.specs.declared.port.Num.{Num}
use Rattle.p3l_ast.specs.declared.port.Port.{Port}
use Rattle.p3l_ast.specs.declared.call.Call.{Call}
use Rattle.p3l_ast.specs.declared.module.Kind.{Kind}
use Rattle.p3l_ast.specs.declared.module.Rescue.{Rescue}
use Rattle.p3l_ast.specs.declared.module.Clauses.{Clauses}
use Rattle.p3l_ast.specs.Tree.{ModuleTree, InsideTree, body, calls, turning}
use Rattle.p3l_lexer.specs.Mark.{mark_text}
use Rattle.p3l_grammar.specs.Symbol.{kind_mark}
use Rattle.p3l_print.specs.Printer.{interface_text}
use Rattle.p3l_print.specs.Port.{num_text, port_text}
use Rattle.p3l_print.specs.Call.{call_text}
use Rattle.p3l_print.specs.Statement.{statements_text}

-- the keyword of a kind
abbrev pub kind_text : Kind → List ℕ
kind_text kind = mark_text (kind_mark kind)

-- a clause that is given, after a space
abbrev pub clause_text : List ℕ → Option Num → List ℕ
clause_text word None = []
clause_text word (Some num) = codes " " ++ word ++ codes " " ++ num_text num

abbrev pub minus_text : Bool → List ℕ
minus_text false = []
minus_text true = codes "-"

-- a rescue that is given, after a space; nothing stands between a minus and its number
abbrev pub rescue_text : Option Rescue → List ℕ
rescue_text None = []
rescue_text (Some rescue) = codes " rescue " ++ minus_text rescue.minus ++ num_text rescue.num

unfoldable pub clauses_text : Clauses → List ℕ
clauses_text clauses =
    clause_text (codes "budget") clauses.budget ++ rescue_text clauses.rescue ++ clause_text (codes "workers") clauses.workers ++ clause_text (codes "turns") clauses.turns
    ++ clause_text (codes "tokens") clauses.tokens

-- a module's first line
abbrev pub signature_text : ModuleTree → List ℕ
signature_text tree =
    kind_text tree.kind ++ codes " " ++ tree.at.name ++ interface_text port_text tree.ins port_text tree.outs ++ clauses_text tree.clauses ++ codes "\n"

abbrev pub local_line : Port → List ℕ
local_line port = codes "  " ++ port_text port ++ codes ";\n"

abbrev pub call_line : Call → List ℕ
call_line call = codes "  " ++ call_text call ++ codes "\n"

abbrev pub inside_text : InsideTree → List ℕ
inside_text (body locals statements) = codes "${\n" ++ flat_map local_line locals ++ statements_text (codes "  ") statements ++ codes "}$\n"
inside_text (calls list) = flat_map call_line list
inside_text (turning turn condition) = call_line turn ++ codes "  while " ++ call_text condition ++ codes "\n"

abbrev pub module_text : ModuleTree → List ℕ
module_text tree = signature_text tree ++ inside_text tree.inside ++ codes "end " ++ kind_text tree.kind ++ codes "\n"
