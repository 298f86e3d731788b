use Rattle.std.proofs.Common.{◌∙◌, sym, rules}
use Rattle.p3l_stream.specs.declared.items.Ending.{Ending}
use Rattle.p3l_run.proofs.FeedSteps.{is_none, not_none, same_feeds}
use Rattle.p3l_run.proofs.feed.feed.Goals as goal

pub returns-then-not-wants_item-clause-does : goal.returns-then-not-wants_item-clause-does
returns-then-not-wants_item-clause-does g c = same_feeds _ _ _ _ (λ none empty. absurd (let z = c.wants_item.ensures.1 empty in let w = c.if-not-wants_item.true in cc))

pub returns-then-is_some-clause-does : goal.returns-then-is_some-clause-does
returns-then-is_some-clause-does g c = same_feeds _ _ _ _ (λ none. absurd (not_none Ending c.ending.result c.is_some.result c.is_some.ensures c.if-is_some.true (c.ending.ensures ∙ none)))

pub offer_next-requires-clause-open : goal.offer_next-requires-clause-open
offer_next-requires-clause-open g c = c.requires.open (sym c.ending.ensures ∙ is_none Ending c.ending.result c.is_some.result c.is_some.ensures c.if-is_some.false)

pub offer_next-requires-clause-empty : goal.offer_next-requires-clause-empty
offer_next-requires-clause-empty g c = c.wants_item.ensures.0 (search (rules, c.if-not-wants_item.false))
