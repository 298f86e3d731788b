-- The programs that a program may be rewritten to.
use Rattle.std.specs.Prelude.{ℕ, ◌&&◌, not, Bool, true, false, List, [], ◌∷◌, ◌++◌, map, Option, Some, None, nat_le, length, bytes_eq, codes, if◌then◌else◌}
use Rattle.std.specs.List.{AllByRecursion, list_any, list_all}
use Rattle.std.specs.Option.{option_map}
use Rattle.p3l_ast.specs.declared.position.Spot.{Spot}
use Rattle.p3l_ast.specs.declared.port.Port.{Port}
use Rattle.p3l_ast.specs.declared.call.Arg.{Arg}
use Rattle.p3l_ast.specs.declared.call.OutArg.{OutArg}
use Rattle.p3l_ast.specs.declared.call.OutArg.TheVariants.{Old}
use Rattle.p3l_ast.specs.declared.call.Call.{Call}
use Rattle.p3l_ast.specs.declared.module.Clauses.{Clauses}
use Rattle.p3l_ast.specs.declared.module.Kind.{Kind}
use Rattle.p3l_ast.specs.declared.module.Kind.TheVariants as kinds
use Rattle.p3l_ast.specs.Tree.{ModuleTree, EntryTree, ProgramTree, InsideTree, body, calls, turning, constant, defined}
use Rattle.p3l_skel.specs.declared.tree.Tree.{Tree}
use Rattle.p3l_skel.specs.Tree.{node_at, is_sequential}
use Rattle.p3l_check.specs.Resolving.{main_name}
use Rattle.p3l_rewrite.specs.Programs.{IsRewrittenProgram}

-- the entries before `main`, `main`, and those after it
pub record Around : Type 0 where
  pub front : List EntryTree
  pub main : ModuleTree
  pub back : List EntryTree

abbrev pub with_front : EntryTree → Around → Around
with_front entry s = record { front = entry ∷ s.front; main = s.main; back = s.back }

abbrev pub around_main : List EntryTree → Option Around
around_main [] = None
around_main (constant at value ∷ entries) = option_map (with_front (constant at value)) (around_main entries)
around_main (defined m ∷ entries) =
    if bytes_eq m.at.name main_name then Some (record { front = []; main = m; back = entries })
    else option_map (with_front (defined m)) (around_main entries)

-- the module of a name, if there is one
abbrev pub named_in : List EntryTree → List ℕ → Option ModuleTree
named_in [] name = None
named_in (constant at value ∷ entries) name = named_in entries name
named_in (defined m ∷ entries) name = if bytes_eq m.at.name name then Some m else named_in entries name

-- a name with more behind it
abbrev pub longer : List ℕ → Spot → Spot
longer more at = record { name = at.name ++ more; pos = at.pos }

abbrev pub no_clauses : Clauses
no_clauses = record { workers = None; turns = None; tokens = None; budget = None; rescue = None }

abbrev pub plain : Port → Arg
plain port = record { at = port.at; subs = [] }

abbrev pub plain_out : Port → OutArg
plain_out port = Old (plain port)

-- the call of a module with the plain names of these ports
abbrev pub call_with : Spot → List Port → List Port → Call
call_with at ins outs = record { at = at; ins = map plain ins; outs = map plain_out outs }

-- a farm of these ports and a module
abbrev pub farm_with : Spot → Spot → List Port → List Port → ModuleTree
farm_with at worker ins outs = record {
  kind = kinds.Farm;
  at = at;
  ins = ins;
  outs = outs;
  clauses = no_clauses;
  inside = calls (call_with worker ins outs ∷ []);
}

-- a farm of a module
abbrev pub farm_of : ModuleTree → ModuleTree
farm_of m = farm_with (longer (codes "_farm") m.at) m.at m.ins m.outs

-- one of these modules has a name
abbrev pub is_among : List ModuleTree → List ℕ → Bool
is_among modules name = list_any (λ m. bytes_eq m.at.name name) modules

-- farms with one more, if there is a module of its worker's name
abbrev pub with_farm : Option ModuleTree → List ModuleTree → List ModuleTree
with_farm None farms = farms
with_farm (Some m) farms = farms ++ farm_of m ∷ []

-- farms with that of the module that a call names, where the call's node is sequential and there is none yet
abbrev pub next_farms : List EntryTree → Bool → List ModuleTree → Call → List ModuleTree
next_farms front sequential farms c =
    if sequential && not (is_among farms (c.at.name ++ codes "_farm")) then with_farm (named_in front c.at.name) farms else farms

-- farms of the modules that are called where nodes are sequential, each once, in the order of first calls
abbrev pub farms_of : List EntryTree → Tree → List ModuleTree → List Call → List ℕ → List ModuleTree
farms_of front tree farms [] parts = farms
farms_of front tree farms (c ∷ cs) [] = farms
farms_of front tree farms (c ∷ cs) (p ∷ ps) = farms_of front tree (next_farms front (is_sequential tree p) farms c) cs ps

-- a call of the farm of a module in place of that module, if it is among these
abbrev pub farm_called : List ModuleTree → Call → Call
farm_called farms c =
    if is_among farms (c.at.name ++ codes "_farm")
    then record { at = longer (codes "_farm") c.at; ins = c.ins; outs = c.outs } else c

-- a module with other calls
abbrev pub with_calls : ModuleTree → List Call → ModuleTree
with_calls m cs = record { kind = m.kind; at = m.at; ins = m.ins; outs = m.outs; clauses = m.clauses; inside = calls cs }

-- with farms just before `main`
abbrev pub farmed_entries : Around → List ModuleTree → List Call → List EntryTree
farmed_entries s farms cs =
    (s.front ++ map (λ m. defined m) farms) ++ defined (with_calls s.main (map (farm_called farms) cs)) ∷ s.back

-- a comp of the calls of `main`, with its ports
abbrev pub work_of : ModuleTree → List Call → ModuleTree
work_of m cs = record {
  kind = kinds.Comp;
  at = longer (codes "_work") m.at;
  ins = m.ins;
  outs = m.outs;
  clauses = no_clauses;
  inside = calls cs;
}

-- with a comp in place of `main`, and a farm of it
abbrev pub fused_entries : Around → List Call → List EntryTree
fused_entries s cs =
    s.front
    ++ defined (work_of s.main cs)
    ∷ (defined (farm_with s.main.at (longer (codes "_work") s.main.at) s.main.ins s.main.outs) ∷ s.back)

abbrev pub is_pipe : Kind → Bool
is_pipe kinds.Pipe = true
is_pipe kinds.Seq = false
is_pipe kinds.Comp = false
is_pipe kinds.Farm = false
is_pipe kinds.Map = false
is_pipe kinds.Reduce = false
is_pipe kinds.Loop = false

-- a name has at most 64 bytes
abbrev pub has_name : ModuleTree → Bool
has_name m = nat_le (length m.at.name) 64

-- a program whose end is where it was
abbrev pub ended : ProgramTree → List EntryTree → ProgramTree
ended program entries = record { entries = entries; end = program.end }

-- one program or none
abbrev pub only_if : Bool → ProgramTree → List ProgramTree
only_if b program = if b then program ∷ [] else []

-- the program with its sequential stages farmed, if the farms have names
abbrev pub farmed_of : ProgramTree → Tree → Around → List Call → List ProgramTree
farmed_of program tree s cs =
    let farms = farms_of s.front tree [] cs (node_at tree 0).parts in
    only_if (list_all has_name farms) (ended program (farmed_entries s farms cs))

-- the program fused and farmed, if all stages are sequential
abbrev pub fused_of : ProgramTree → Tree → Around → List Call → List ProgramTree
fused_of program tree s cs =
    only_if (list_all (is_sequential tree) (node_at tree 0).parts) (ended program (fused_entries s cs))

-- one way, then the other, where `main` has calls
abbrev pub ways_of : ProgramTree → Tree → Around → InsideTree → List ProgramTree
ways_of program tree s (body ports statements) = []
ways_of program tree s (turning c d) = []
ways_of program tree s (calls cs) = farmed_of program tree s cs ++ fused_of program tree s cs

-- the ways to write a program whose `main` stands so
abbrev pub others_around : ProgramTree → Tree → Option Around → List ProgramTree
others_around program tree None = []
others_around program tree (Some s) = if is_pipe s.main.kind then ways_of program tree s s.main.inside else []

-- the programs that a program of this tree may be rewritten to; the program itself comes before them
unfoldable pub others : ProgramTree → Tree → List ProgramTree
others program tree = others_around program tree (around_main program.entries)

-- each of them is the program with its pipe `main` written otherwise
abbrev pub OthersAreRewritten : Type 0
OthersAreRewritten = (program : ProgramTree) (tree : Tree) → AllByRecursion (IsRewrittenProgram program) (others program tree)
