-- The checked form of a `seq` module.
use Rattle.std.specs.Prelude.{ℕ, ℤ, ◌&&◌, Bool, true, false, List, [], ◌++◌, map, Result, Ok, Err, Option, Some, None, nat_le, if◌then◌else◌}
use Rattle.p3l_base.specs.Limits.{most_budget}
use Rattle.p3l_ast.specs.declared.position.Pos.{Pos}
use Rattle.p3l_ast.specs.declared.refusal.Fault.TheVariants.{Expected, Twice, DeclaredTwice, BadWorkers}
use Rattle.p3l_ast.specs.declared.refusal.SourceRefusal.{SourceRefusal}
use Rattle.p3l_ast.specs.declared.refusal.SourceRefusal.TheVariants.{At}
use Rattle.p3l_ast.specs.declared.port.Num.{Num}
use Rattle.p3l_ast.specs.declared.port.Port.{Port}
use Rattle.p3l_ast.specs.declared.expression.UnOp.TheVariants.{Neg}
use Rattle.p3l_ast.specs.declared.module.Rescue.{Rescue}
use Rattle.p3l_ast.specs.Meaning.Operator.{unary_of}
use Rattle.p3l_ast.specs.Tree.{Statements, InsideTree, body, calls, turning, ModuleTree, statements}
use Rattle.p3l_types.specs.Verdict.{given}
use Rattle.p3l_types.specs.Constants.{Constants, number_of, place_of, natural}
use Rattle.p3l_body.specs.declared.var.Var.{Var}
use Rattle.p3l_body.specs.declared.ports.Ports.{Ports}
use Rattle.p3l_body.specs.declared.checked.CheckedSeq.{CheckedSeq}
use Rattle.p3l_body.specs.Scope.{Names, named, declared}
use Rattle.p3l_body.specs.Mention.{code_mentions, mentions_rule}

-- the ports of a module: first the ins, then the outs
abbrev pub ports_of : Constants → List Port → List Port → Result Ports SourceRefusal
ports_of constants in_ports out_ports =
    given (declared Twice true constants [] 0 in_ports)
    (λ ins. given (declared Twice false constants (map (named true) ins) 0 out_ports)
    (λ outs. Ok (record { ins = ins; outs = outs })))

-- the names of ports; statements may not assign to ins
abbrev pub port_names : Ports → Names
port_names ports = map (named true) ports.ins ++ map (named false) ports.outs

-- a number of a clause, from `low` to `high`
abbrev pub limited : ℕ → ℕ → Constants → Num → Result ℕ SourceRefusal
limited low high constants num =
    given (number_of constants num)
    (λ value. if nat_le low (natural value) && nat_le (natural value) high then Ok (natural value)
    else Err (At BadWorkers (place_of num)))

-- the turns that the loops of a body may begin: at least 1, and 1,000,000 without a clause
abbrev pub budget_of : Constants → Option Num → Result ℕ SourceRefusal
budget_of constants None = Ok 1000000
budget_of constants (Some num) = limited 1 most_budget constants num

-- a number, or after a minus what the minus of bodies makes of it
abbrev pub signed : Bool → ℤ → ℤ
signed minus value = if minus then unary_of Neg value else value

-- the rescue number of a module, if its clause is given: any number, or any constant before it
abbrev pub rescue_of : Constants → Option Rescue → Result (Option ℤ) SourceRefusal
rescue_of constants None = Ok None
rescue_of constants (Some rescue) = given (number_of constants rescue.num) (λ value. Ok (Some (signed rescue.minus value)))

-- a `seq` module with its number, the constants before it, its variables with their shapes, its
-- budget and its statements
pub record SeqTree : Type 0 where
  pub home : ℕ
  pub ins : List Var
  pub outs : List Var
  pub locals : List Var
  pub budget : ℕ
  pub body : Statements
  pub constants : Constants

-- the local variables of a body whose statements keep the rules of names
abbrev pub checked_locals : Constants → Names → List Port → Statements → Result (List Var) SourceRefusal
checked_locals constants names local_ports statements =
    given (declared DeclaredTwice false constants names 0 local_ports)
    (λ locals. given (mentions_rule constants (names ++ map (named false) locals) (code_mentions statements)) (λ x. Ok locals))

-- a body after its module's head
abbrev pub checked_body : Constants → ℕ → Ports → ℕ → Pos → InsideTree → Result SeqTree SourceRefusal
checked_body constants home ports budget pos (body local_ports statements) =
    given (checked_locals constants (port_names ports) local_ports statements)
    (λ locals. Ok (record {
      home = home;
      ins = ports.ins;
      outs = ports.outs;
      locals = locals;
      budget = budget;
      body = statements;
      constants = constants;
    }))
checked_body constants home ports budget pos (calls cs) = Err (At Expected pos)
checked_body constants home ports budget pos (turning c d) = Err (At Expected pos)

-- a `seq` module by all its rules in order: ports, budget, rescue, body
abbrev pub checked_seq : Constants → ℕ → ModuleTree → Result SeqTree SourceRefusal
checked_seq constants home m =
    given (ports_of constants m.ins m.outs)
    (λ ports. given (budget_of constants m.clauses.budget)
    (λ budget. given (rescue_of constants m.clauses.rescue)
    (λ rescue. checked_body constants home ports budget m.at.pos m.inside)))

-- the tree of a checked module
abbrev pub seq_tree : CheckedSeq → SeqTree
seq_tree seq = record {
  home = seq.module;
  ins = seq.ins;
  outs = seq.outs;
  locals = seq.locals;
  budget = seq.budget;
  body = statements seq.body.now;
  constants = seq.consts;
}

-- the tree of a checked module, or the refusal
abbrev pub checked_tree : Result CheckedSeq SourceRefusal → Result SeqTree SourceRefusal
checked_tree (Ok seq) = Ok (seq_tree seq)
checked_tree (Err refusal) = Err refusal
