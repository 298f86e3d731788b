-- The calls inside a module; what no text spells is Expected at the module's name.
use Rattle.std.specs.Prelude.{List, [], ◌∷◌, Result, Ok, Err}
use Rattle.p3l_ast.specs.declared.position.Pos.{Pos}
use Rattle.p3l_ast.specs.declared.refusal.Fault.TheVariants.{Expected}
use Rattle.p3l_ast.specs.declared.refusal.SourceRefusal.{SourceRefusal}
use Rattle.p3l_ast.specs.declared.refusal.SourceRefusal.TheVariants.{At}
use Rattle.p3l_ast.specs.declared.call.Call.{Call}
use Rattle.p3l_ast.specs.Tree.{InsideTree, body, calls, turning}

abbrev pub some_calls : Pos → List Call → Result (List Call) SourceRefusal
some_calls pos [] = Err (At Expected pos)
some_calls pos (c ∷ cs) = Ok (c ∷ cs)

-- the calls of a pipe or a comp, at least one
abbrev pub calls_of : Pos → InsideTree → Result (List Call) SourceRefusal
calls_of pos (body ports statements) = Err (At Expected pos)
calls_of pos (calls cs) = some_calls pos cs
calls_of pos (turning c d) = Err (At Expected pos)

abbrev pub only_one : Pos → List Call → Result Call SourceRefusal
only_one pos [] = Err (At Expected pos)
only_one pos (c ∷ []) = Ok c
only_one pos (c ∷ (d ∷ cs)) = Err (At Expected pos)

-- the one call of a farm, a map or a reduce
abbrev pub call_of : Pos → InsideTree → Result Call SourceRefusal
call_of pos (body ports statements) = Err (At Expected pos)
call_of pos (calls cs) = only_one pos cs
call_of pos (turning c d) = Err (At Expected pos)

-- the body and the condition of a loop
abbrev pub turning_of : Pos → InsideTree → Result (Call × Call) SourceRefusal
turning_of pos (body ports statements) = Err (At Expected pos)
turning_of pos (calls cs) = Err (At Expected pos)
turning_of pos (turning c d) = Ok (c, d)
