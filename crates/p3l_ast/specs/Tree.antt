-- Programs as trees, without where they lie in memory.
use Rattle.std.specs.Prelude.{ℤ, List, [], ◌∷◌, map}
use Rattle.p3l_ast.specs.declared.position.Pos.{Pos}
use Rattle.p3l_ast.specs.declared.position.Spot.{Spot}
use Rattle.p3l_ast.specs.declared.port.Port.{Port}
use Rattle.p3l_ast.specs.declared.call.Call.{Call}
use Rattle.p3l_ast.specs.declared.expression.UnOp.{UnOp}
use Rattle.p3l_ast.specs.declared.expression.BinOp.{BinOp}
use Rattle.p3l_ast.specs.declared.expression.Expr.{Expr, Row_of-Expr, end_of-Expr, more_of-Expr}
use Rattle.p3l_ast.specs.declared.expression.Expr.TheVariants.{Number, Read', Unary', Binary'}
use Rattle.p3l_ast.specs.declared.statement.Stmt.{Stmt, Row_of-Stmt, end_of-Stmt, more_of-Stmt, Held-Stmt-If-2, None', Some'}
use Rattle.p3l_ast.specs.declared.statement.Stmt.TheVariants.{Assign, If', While', For'}
use Rattle.p3l_ast.specs.declared.module.Kind.{Kind}
use Rattle.p3l_ast.specs.declared.module.Clauses.{Clauses}
use Rattle.p3l_ast.specs.declared.module.Inside.{Inside}
use Rattle.p3l_ast.specs.declared.module.Inside.TheVariants.{Body, Calls, Turning}
use Rattle.p3l_ast.specs.declared.module.Module.{Module}
use Rattle.p3l_ast.specs.declared.program.Entry.{Entry}
use Rattle.p3l_ast.specs.declared.program.Entry.TheVariants as entries
use Rattle.p3l_ast.specs.declared.program.Program.{Program}

mutual
  -- an expression
  pub data Phrase : Type 0 where
    number : ℤ → Phrase
    read : Spot → Phrases → Phrase
    unary : UnOp → Phrase → Phrase
    binary : BinOp → Phrase → Phrase → Phrase

  -- indices, the outermost first
  pub data Phrases : Type 0 where
    none : Phrases
    more : Phrase → Phrases → Phrases

-- statements, each with those that follow it
pub data Statements : Type 0 where
  done : Statements
  assign : Spot → Phrases → Phrase → Statements → Statements
  if_ : Phrase → Statements → Statements → Statements
  if_else : Phrase → Statements → Statements → Statements → Statements
  while_ : Phrase → Statements → Statements → Statements
  for_ : Spot → Phrases → Phrase → Phrase → Spot → Phrases → Phrase → Statements → Statements → Statements

-- the contents of a module
pub data InsideTree : Type 0 where
  body : List Port → Statements → InsideTree
  calls : List Call → InsideTree
  turning : Call → Call → InsideTree

pub record ModuleTree : Type 0 where
  pub kind : Kind
  pub at : Spot
  pub ins : List Port
  pub outs : List Port
  pub clauses : Clauses
  pub inside : InsideTree

pub data EntryTree : Type 0 where
  constant : Spot → ℤ → EntryTree
  defined : ModuleTree → EntryTree

pub record ProgramTree : Type 0 where
  pub entries : List EntryTree
  pub end : Pos

-- the tree of an expression
unfoldable mutual
  pub phrase : Expr → Phrase
  phrase (Number v) = number v
  phrase (Read' at m row) = read at (row_phrases row)
  phrase (Unary' o p e) = unary o (phrase e)
  phrase (Binary' o p a q b) = binary o (phrase a) (phrase b)

  pub row_phrases : {m : _} → Row_of-Expr m → Phrases
  row_phrases end_of-Expr = none
  row_phrases (more_of-Expr e rest) = more (phrase e) (row_phrases rest)

abbrev pub phrases : List Expr → Phrases
phrases [] = none
phrases (e ∷ es) = more (phrase e) (phrases es)

-- indices with one more after them
abbrev pub snoc : Phrases → Phrase → Phrases
snoc none e = more e none
snoc (more d is) e = more d (snoc is e)

-- statements one after another
abbrev pub join : Statements → Statements → Statements
join done d = d
join (assign x is e c) d = assign x is e (join c d)
join (if_ e t c) d = if_ e t (join c d)
join (if_else e t f c) d = if_else e t f (join c d)
join (while_ e b c) d = while_ e b (join c d)
join (for_ x is e w y js f b c) d = for_ x is e w y js f b (join c d)

-- the tree of a statement
unfoldable mutual
  pub one : Stmt → Statements
  one (Assign t e) = assign t.at (phrases t.index.items) (phrase e) done
  one (If' e m row other) = choice (phrase e) (row_statements row) other
  one (While' e m row) = while_ (phrase e) (row_statements row) done
  one (For' t e w u f m row) =
      for_ t.at (phrases t.index.items) (phrase e) (phrase w) u.at (phrases u.index.items) (phrase f) (row_statements row) done

  pub row_statements : {m : _} → Row_of-Stmt m → Statements
  row_statements end_of-Stmt = done
  row_statements (more_of-Stmt s rest) = join (one s) (row_statements rest)

  pub choice : Phrase → Statements → Held-Stmt-If-2 → Statements
  choice e t None' = if_ e t done
  choice e t (Some' m row) = if_else e t (row_statements row) done

abbrev pub statements : List Stmt → Statements
statements [] = done
statements (s ∷ ss) = join (one s) (statements ss)

abbrev pub inside_tree : Inside → InsideTree
inside_tree (Body b) = body b.locals (statements b.stmts)
inside_tree (Calls cs) = calls cs
inside_tree (Turning b c) = turning b c

abbrev pub module_tree : Module → ModuleTree
module_tree m =
    record { kind = m.kind; at = m.at; ins = m.ins; outs = m.outs; clauses = m.clauses; inside = inside_tree m.inside }

abbrev pub entry_tree : Entry → EntryTree
entry_tree (entries.Constant x v) = constant x v
entry_tree (entries.Module m) = defined (module_tree m)

abbrev pub program_tree : Program → ProgramTree
program_tree p = record { entries = map entry_tree p.entries; end = p.end }
