use Rattle.std.proofs.Common.{◌≡◌}
use Rattle.std.specs.Prelude.{bytes_eq}
use Rattle.std.specs.Map.{lookup}
use Rattle.toml.specs.View.{members_view}
use Rattle.p3l_cost.specs.File.{entries_rule}
use Rattle.p3l_cost.proofs.rules.check_entries.Given as goal

-- the entries so far keep the rules
abbrev pub invariant-entries : goal.invariant-entries
invariant-entries l =
    (goal.iterator-entries).can_next l.name-iterator × (goal.iterator-entries).is_finite l.name-iterator
    × (entries_rule (λ name. lookup (bytes_eq name) l.limits) l.section (members_view l.name-iterator)
    ≡ entries_rule (λ name. lookup (bytes_eq name) l.limits) l.section (members_view l.entries.entries))
