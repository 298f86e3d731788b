use Rattle.std.proofs.Common.{◌≡◌, take, map}
use Rattle.std.specs.List.{range_with_len}
use Rattle.p3l_skel.specs.declared.tree.ModuleInfo.{ModuleInfo}
use Rattle.p3l_cost.specs.Standard.{standard_ticks, full_turns}
use Rattle.p3l_cost.proofs.costs.standard.Given as goal

-- the numbers of the modules so far
abbrev pub invariant-loop-home : goal.invariant-loop-home
invariant-loop-home l = record {
  ticks : l.ticks ≡ map (λ (m : ModuleInfo). standard_ticks m.kind) (take l.home l.tree.modules);
  turns : l.turns ≡ map (full_turns l.tree.nodes) (range_with_len 0 l.home);
}
