-- The limits of bodies bound the depth of the stack and the number of instructions.
use Rattle.std.proofs.Common.{ℕ, ◌+◌, ◌*◌, ◌≤◌, arith}
use Rattle.p3l_ast.specs.declared.expression.BinOp.{BinOp}
use Rattle.p3l_ast.specs.declared.expression.BinOp.TheVariants as operators_of
use Rattle.p3l_ast.specs.Tree.{Phrase, number, read, unary, binary, Phrases, none, more, Statements, done, assign, if_, if_else, while_, for_}
use Rattle.p3l_compile.specs.Phrase.{operator_size, read_size, phrase_size, index_size}
use Rattle.p3l_compile.specs.Statement.{assign_size, statement_size}
use Rattle.p3l_compile.specs.Limits.{operators, index_operators, nesting, index_nesting, items, index_items, code_items, IsLimited, AreLimited}
use Rattle.p3l_compile.specs.Depth.{phrase_depth, index_depth}

mutual
  depth_bound : (e : Phrase) → phrase_depth e ≤ 1 + operators e + nesting e
  depth_bound (number v) = omega arith
  depth_bound (read x is) = let h = index_depth_bound is in omega arith
  depth_bound (unary op e) = let h = depth_bound e in omega arith
  depth_bound (binary op a b) = let h = depth_bound a in let k = depth_bound b in omega arith

  index_depth_bound : (is : Phrases) → index_depth is ≤ index_operators is + index_nesting is
  index_depth_bound none = omega arith
  index_depth_bound (more e is) = let h = depth_bound e in let k = index_depth_bound is in omega arith

pub limited_depth : (e : Phrase) → IsLimited e → phrase_depth e ≤ 321
limited_depth e l = let h = depth_bound e in omega (arith, l.few, l.flat)

pub limited_index_depth : (is : Phrases) → AreLimited is → index_depth is ≤ 321
limited_index_depth none l = omega arith
limited_index_depth (more e is) l =
    let h = limited_depth e l.0 in let k = limited_index_depth is l.1 in omega arith

-- a name, a number or an operator has at most four instructions
operator_bound : (op : BinOp) → operator_size op ≤ 5
operator_bound operators_of.Or = omega arith
operator_bound operators_of.And = omega arith
operator_bound op = omega arith

read_bound : (is : Phrases) (n m : ℕ) → n ≤ 4 * m → read_size is n + 1 ≤ 4 * (m + 1)
read_bound none n m h = omega arith
read_bound (more e none) n m h = omega arith
read_bound (more e (more f is)) n m h = omega arith

mutual
  size_bound : (e : Phrase) → phrase_size e + 1 ≤ 4 * items e
  size_bound (number v) = omega arith
  size_bound (read x is) = read_bound is (index_size is) (index_items is) (index_size_bound is)
  size_bound (unary op e) = let h = size_bound e in omega arith
  size_bound (binary op a b) =
      let h = size_bound a in let k = size_bound b in let o = operator_bound op in omega arith

  index_size_bound : (is : Phrases) → index_size is ≤ 4 * index_items is
  index_size_bound none = omega arith
  index_size_bound (more e is) = let h = size_bound e in let k = index_size_bound is in omega arith

assign_bound : (is : Phrases) (e : Phrase) → assign_size is e + 4 ≤ 4 * (index_items is + items e + 2)
assign_bound none e = let h = size_bound e in omega arith
assign_bound (more d is) e = let h = size_bound e in let k = index_size_bound (more d is) in omega arith

-- statements have at most four instructions for each statement, target, number and operator
pub statement_bound : (c : Statements) → statement_size c ≤ 4 * code_items c
statement_bound done = omega arith
statement_bound (assign x is e next) =
    let h = assign_bound is e in let k = statement_bound next in omega arith
statement_bound (if_ e t next) =
    let h = size_bound e in let a = statement_bound t in let k = statement_bound next in omega arith
statement_bound (if_else e t f next) =
    let h = size_bound e in let a = statement_bound t in let b = statement_bound f in let k = statement_bound next in omega arith
statement_bound (while_ e body next) =
    let h = size_bound e in let a = statement_bound body in let k = statement_bound next in omega arith
statement_bound (for_ x is e w y js f body next) =
    let h = assign_bound is e in let w' = size_bound w in let g = assign_bound js f in let a = statement_bound body in let k = statement_bound next in
    omega arith
