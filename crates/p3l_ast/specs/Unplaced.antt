-- Programs without the positions of what is in them.
use Rattle.std.specs.Prelude.{map, option_map}
use Rattle.p3l_ast.specs.declared.position.Pos.{Pos}
use Rattle.p3l_ast.specs.declared.position.Spot.{Spot}
use Rattle.p3l_ast.specs.declared.port.Num.{Num}
use Rattle.p3l_ast.specs.declared.port.Num.TheVariants.{Digits, Named}
use Rattle.p3l_ast.specs.declared.port.Port.{Port}
use Rattle.p3l_ast.specs.declared.call.Sub.{Sub}
use Rattle.p3l_ast.specs.declared.call.Sub.TheVariants.{Whole, Free}
use Rattle.p3l_ast.specs.declared.call.Arg.{Arg}
use Rattle.p3l_ast.specs.declared.call.OutArg.{OutArg}
use Rattle.p3l_ast.specs.declared.call.OutArg.TheVariants.{Fresh, Old}
use Rattle.p3l_ast.specs.declared.call.Call.{Call}
use Rattle.p3l_ast.specs.declared.module.Rescue.{Rescue}
use Rattle.p3l_ast.specs.declared.module.Clauses.{Clauses}
use Rattle.p3l_ast.specs.Tree.{Phrase, number, read, unary, binary, Phrases, none, more, Statements, done, assign, if_, if_else, while_, for_, InsideTree, body, calls, turning, ModuleTree, EntryTree, constant, defined, ProgramTree}

-- the position that stands for any other
abbrev pub nowhere : Pos
nowhere = record { line = 0; col = 0 }

abbrev pub spot_unplaced : Spot → Spot
spot_unplaced x = record { name = x.name; pos = nowhere }

abbrev pub num_unplaced : Num → Num
num_unplaced (Digits v p) = Digits v nowhere
num_unplaced (Named x) = Named (spot_unplaced x)

abbrev pub port_unplaced : Port → Port
port_unplaced p = record { at = spot_unplaced p.at; sizes = map num_unplaced p.sizes }

abbrev pub sub_unplaced : Sub → Sub
sub_unplaced Whole = Whole
sub_unplaced (Free x) = Free (spot_unplaced x)

abbrev pub arg_unplaced : Arg → Arg
arg_unplaced a = record { at = spot_unplaced a.at; subs = map sub_unplaced a.subs }

abbrev pub out_unplaced : OutArg → OutArg
out_unplaced (Fresh p) = Fresh (port_unplaced p)
out_unplaced (Old a) = Old (arg_unplaced a)

abbrev pub call_unplaced : Call → Call
call_unplaced c = record { at = spot_unplaced c.at; ins = map arg_unplaced c.ins; outs = map out_unplaced c.outs }

abbrev pub rescue_unplaced : Rescue → Rescue
rescue_unplaced r = record { minus = r.minus; num = num_unplaced r.num }

abbrev pub clauses_unplaced : Clauses → Clauses
clauses_unplaced c = record {
  workers = option_map num_unplaced c.workers;
  turns = option_map num_unplaced c.turns;
  tokens = option_map num_unplaced c.tokens;
  budget = option_map num_unplaced c.budget;
  rescue = option_map rescue_unplaced c.rescue;
}

abbrev mutual
  pub phrase_unplaced : Phrase → Phrase
  phrase_unplaced (number v) = number v
  phrase_unplaced (read x is) = read (spot_unplaced x) (phrases_unplaced is)
  phrase_unplaced (unary o e) = unary o (phrase_unplaced e)
  phrase_unplaced (binary o a b) = binary o (phrase_unplaced a) (phrase_unplaced b)

  pub phrases_unplaced : Phrases → Phrases
  phrases_unplaced none = none
  phrases_unplaced (more e is) = more (phrase_unplaced e) (phrases_unplaced is)

abbrev pub statements_unplaced : Statements → Statements
statements_unplaced done = done
statements_unplaced (assign x is e c) = assign (spot_unplaced x) (phrases_unplaced is) (phrase_unplaced e) (statements_unplaced c)
statements_unplaced (if_ e t c) = if_ (phrase_unplaced e) (statements_unplaced t) (statements_unplaced c)
statements_unplaced (if_else e t f c) = if_else (phrase_unplaced e) (statements_unplaced t) (statements_unplaced f) (statements_unplaced c)
statements_unplaced (while_ e b c) = while_ (phrase_unplaced e) (statements_unplaced b) (statements_unplaced c)
statements_unplaced (for_ x is e w y js f b c) =
    for_ (spot_unplaced x) (phrases_unplaced is) (phrase_unplaced e) (phrase_unplaced w)
    (spot_unplaced y) (phrases_unplaced js) (phrase_unplaced f) (statements_unplaced b) (statements_unplaced c)

abbrev pub inside_unplaced : InsideTree → InsideTree
inside_unplaced (body ls c) = body (map port_unplaced ls) (statements_unplaced c)
inside_unplaced (calls cs) = calls (map call_unplaced cs)
inside_unplaced (turning b c) = turning (call_unplaced b) (call_unplaced c)

abbrev pub module_unplaced : ModuleTree → ModuleTree
module_unplaced m = record {
  kind = m.kind;
  at = spot_unplaced m.at;
  ins = map port_unplaced m.ins;
  outs = map port_unplaced m.outs;
  clauses = clauses_unplaced m.clauses;
  inside = inside_unplaced m.inside;
}

abbrev pub entry_unplaced : EntryTree → EntryTree
entry_unplaced (constant x v) = constant (spot_unplaced x) v
entry_unplaced (defined m) = defined (module_unplaced m)

-- two programs are the same but for positions where these are equal
abbrev pub program_unplaced : ProgramTree → ProgramTree
program_unplaced p = record { entries = map entry_unplaced p.entries; end = nowhere }
