use Rattle.std.proofs.Common.{◌≡◌, ◌++◌, drop}
use Rattle.p3l_farm.specs.Farm.{joined}
use Rattle.p3l_template.specs.Finding.{bares}
use Rattle.p3l_farm.proofs.found.join_lines.Given as goal

-- with the lines that are left it is the whole
abbrev pub invariant-loop-line : goal.invariant-loop-line
invariant-loop-line l = l.list ++ bares (joined (drop l.line-index l.lines)) ≡ bares (joined l.lines)
