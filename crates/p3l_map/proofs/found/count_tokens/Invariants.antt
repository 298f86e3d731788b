use Rattle.std.proofs.Common.{◌≡◌, ◌*◌, ◌^◌, ◌≤◌}
use Rattle.p3l_map.specs.Places.{total}
use Rattle.p3l_map.specs.MapKind.{line_at}
use Rattle.p3l_map.proofs.found.count_tokens.Given as goal

abbrev pub invariant-loop-line : goal.invariant-loop-line
invariant-loop-line l = (l.count ≡ total (line_at l.lines) l.line-index) × (l.count ≤ l.line-index * 2 ^ 64)
