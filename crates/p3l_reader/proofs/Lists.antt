-- Lists that are read item by item.
use Rattle.std.specs.Prelude.{◌≡◌, ◌≤◌, List, length}
use Rattle.p3l_ast.specs.Tree.{Phrases, none, Statements, done}
use Rattle.p3l_lexer.specs.declared.token.TextToken.{TextToken}
use Rattle.p3l_grammar.specs.Parser.{Parser, another_index, another_stmt, all}

-- from these items on the tokens are those items, and then the rest
pub record Extends {A : Type 0} (list : List A → (List A → Parser) → Parser) (first : List A) (tokens : List TextToken) (xs : List A) (rest : List TextToken) : Type 0 where
  pub goes : (go : List A → Parser) → all (list first go) tokens ≡ all (list xs go) rest
  pub shorter : length rest ≤ length tokens

-- the same for indices, and for statements
pub record ExtendsIndex (tokens : List TextToken) (is : Phrases) (rest : List TextToken) : Type 0 where
  pub goes : (go : Phrases → Parser) → all (another_index none go) tokens ≡ all (another_index is go) rest
  pub shorter : length rest ≤ length tokens

pub record ExtendsStmts (tokens : List TextToken) (c : Statements) (rest : List TextToken) : Type 0 where
  pub goes : (go : Statements → Parser) → all (another_stmt done go) tokens ≡ all (another_stmt c go) rest
  pub shorter : length rest ≤ length tokens
