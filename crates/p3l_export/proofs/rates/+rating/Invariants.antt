use Rattle.std.proofs.Common.{◌≡◌, ◌++◌, ◌*◌, ◌+◌, drop}
use Rattle.std.specs.List.{flat_map}
use Rattle.p3l_skel.specs.Counts.{count_of}
use Rattle.p3l_export.specs.Rates.{rates_from}
use Rattle.p3l_export.proofs.rates.+rating.Given as goal

abbrev pub decreases-push_rates : goal.decreases-push_rates
decreases-push_rates l = l.levels * 2

abbrev pub decreases-push_parts : goal.decreases-push_parts
decreases-push_parts l = l.levels * 2 + 1

-- the rates so far, with those of the parts that are left
abbrev pub invariant-push_parts-loop-part : goal.invariant-push_parts-loop-part
invariant-push_parts-loop-part l =
    l.rates.items ++ flat_map (rates_from l.tree l.costs (count_of l.tree l.counts.list) l.levels l.rate) (drop l.part-index l.parts)
    ≡ l.fn.rates.items ++ flat_map (rates_from l.tree l.costs (count_of l.tree l.counts.list) l.levels l.rate) l.parts
