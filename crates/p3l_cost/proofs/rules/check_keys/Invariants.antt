use Rattle.std.proofs.Common.{◌≡◌}
use Rattle.toml.specs.View.{members_view}
use Rattle.p3l_cost.specs.File.{keys_rule}
use Rattle.p3l_cost.proofs.rules.check_keys.Given as goal

-- the keys so far keep the rules
abbrev pub invariant-keys : goal.invariant-keys
invariant-keys l =
    (goal.iterator-keys).can_next l.key-iterator × (goal.iterator-keys).is_finite l.key-iterator
    × (keys_rule l.tree (members_view l.key-iterator) ≡ keys_rule l.tree (members_view l.document.entries))
