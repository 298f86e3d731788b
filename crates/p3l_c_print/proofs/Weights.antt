-- The weights of expressions: each call that walks one is of a lighter one, so they end.
use Rattle.std.proofs.Common.{◌≡◌, ℕ, zero, suc, ◌+◌, ◌<◌, ◌≤◌, List, [], ◌∷◌, drop, get_or, length, ap, arith}
use Rattle.p3l_ast.specs.declared.expression.Expr.{Expr}
use Rattle.p3l_ast.specs.Tree.{Phrase, Phrases, number, read, unary, binary, none, more, phrase, phrases}
use Rattle.p3l_c_print.proofs.Indices.{first_left}

abbrev mutual
  pub weight : Phrase → ℕ
  weight (number z) = 1
  weight (read x is) = weight_all is + 1
  weight (unary op e) = weight e + 1
  weight (binary op a b) = weight a + weight b + 1

  pub weight_all : Phrases → ℕ
  weight_all none = 0
  weight_all (more e is) = weight e + weight_all is

weight_left : (items : List Expr) (i : ℕ) → weight_all (phrases (drop i items)) ≤ weight_all (phrases items)
weight_left items zero = omega arith
weight_left [] (suc i) = omega arith
weight_left (e ∷ items) (suc i) = let h = weight_left items i in omega arith

-- an index is no heavier than all of them
pub weight_at : (items : List Expr) (i : ℕ) (e : Expr) → i < length items → e ≡ get_or items i e → weight (phrase e) ≤ weight_all (phrases items)
weight_at items i e inside is =
    let here = ap weight_all (first_left items i e inside is) in
    let all = weight_left items i in
    omega arith
