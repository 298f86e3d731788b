use Rattle.std.proofs.Common.{subst}
use Rattle.std.specs.List.{All}
use Rattle.p3l_code.specs.Safe.{IsSafe}
use Rattle.p3l_load.proofs.migration.migrate.Goals as goal

pub returns-clause-runs : goal.returns-clause-runs
returns-clause-runs c =
    let whole = c.in_ok-is_whole.ensures.0 c.if-not-branch.false in
    record {
      whole = record { lawful = whole.lawful; counted = whole.counted; few = whole.few; coded = whole.coded };
      safe = subst (All IsSafe) c.as_slice.ensures c.in_ok-_safe.ensures.safe;
      linked = c.in_ok-net.ensures.net;
      typed = c.in_ok-net.ensures.typed;
    }
