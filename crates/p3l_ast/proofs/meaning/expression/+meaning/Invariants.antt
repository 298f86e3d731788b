use Rattle.std.proofs.Common.{◌≡◌, ◌<◌, ◌≤◌, ◌^◌, drop, length}
use Rattle.p3l_ast.specs.Tree.{phrases}
use Rattle.p3l_ast.specs.Meaning.Expression.{place_of}
use Rattle.p3l_ast.proofs.meaning.expression.+meaning.Given as goal

abbrev pub invariant-place-loop-dimension : goal.invariant-place-loop-dimension
invariant-place-loop-dimension l = record {
  dimensions : l.dimension ≤ length l.sizes;
  small : l.place < 65536 ^ l.dimension;
  same : place_of l.valuation (phrases l.index-items) l.sizes 0 ≡ place_of l.valuation (phrases (drop l.dimension l.index-items)) (drop l.dimension l.sizes) l.place;
}
