use Rattle.std.proofs.Common.{◌+◌, sym, ap, ◌∙◌}
use Rattle.p3l_template.specs.Bag.{all_within}
use Rattle.p3l_loop.specs.laws.LoopFound.{turns-within}
use Rattle.p3l_loop.proofs.found.are_in_turns.Goals as goal

pub returns : goal.returns
returns c = c.lie_within.ensures ∙ ap (λ n. all_within 1 (2 + n) c.args.tokens.now) c.saturating_sub.ensures ∙ sym (turns-within c.args.turns c.args.tokens.now)
