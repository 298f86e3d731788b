use Rattle.std.proofs.Common.{◌≡◌, ◌-◌, ◌∷◌, ◌++◌, take}
use Rattle.std.specs.List.{flat_map}
use Rattle.p3l_cert.specs.Keys.{keys_from}
use Rattle.p3l_cert.proofs.keys.+push_keys.Given as goal

abbrev pub decreases-push_keys : goal.decreases-push_keys
decreases-push_keys l = l.levels

abbrev pub invariant-loop-part : goal.invariant-loop-part
invariant-loop-part l = l.keys.items ≡ l.fn.keys.items ++ l.fn.key ∷ flat_map (keys_from l.tree l.costs (l.levels - 1)) (take l.part-index l.part-items)
