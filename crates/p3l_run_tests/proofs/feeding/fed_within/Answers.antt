use Rattle.std.proofs.Common.{◌∙◌, ap}
use Rattle.p3l_sketch.proofs.OneNode.{takes_one}
use Rattle.p3l_run_tests.proofs.feeding.fed_within.Goals as goal

pub feed-requires-clause-wide : goal.feed-requires-clause-wide
feed-requires-clause-wide c = ap (λ l. l.words) c.in_ok-lines.ensures ∙ takes_one _ c.requires
