use Rattle.std.proofs.Common.{◌≡◌, ◌-◌, ◌++◌}
use Rattle.std.specs.Prelude.{string_bytes}
use Rattle.p3l_alloc.specs.Best.{best_at}
use Rattle.p3l_advise.proofs.Numbers.{lines_to}
use Rattle.p3l_advise.proofs.falls.put_falls.Given as goal

-- the lines of the numbers so far, and the service time of the last of them
abbrev pub invariant-loop-processors : goal.invariant-loop-processors
invariant-loop-processors l = record {
  words : string_bytes l.text ≡ string_bytes l.fn.text ++ lines_to (best_at l.tree l.rows) l.least l.processors;
  last : l.before ≡ (best_at l.tree l.rows (l.processors - 1)).service;
}
