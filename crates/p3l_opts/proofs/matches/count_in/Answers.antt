use Rattle.std.proofs.Common.{subst}
use Rattle.p3l_opts.specs.Command.{HasCount, Parses}
use Rattle.p3l_opts.proofs.matches.count_in.Goals as goal

pub returns : goal.returns
returns c = subst (λ text. Parses (HasCount c.args.range text) c.count_spelled.result) c.text_of.ensures c.count_spelled.ensures
