use Rattle.std.proofs.lemmas.Result.{err_from_is_err_and}
use Rattle.p3l_run.specs.Streams.{streams}
use Rattle.p3l_run.specs.Timed.{under}
use Rattle.p3l_run.proofs.ExecutionSteps.{wide}
use Rattle.p3l_run.proofs.FeedSteps.{open_or_ended}
use Rattle.p3l_run.proofs.TimedSteps.{fed_in_time, others_due, over_same, size_same, some_prices, unfed_in_time}
use Rattle.p3l_run.proofs.execution.Execution.feed_in_time.Goals as goal

pub feed-requires-clause-wide : goal.feed-requires-clause-wide
feed-requires-clause-wide g c =
    let way = c.requires in
    wide (under way.job way.is.picks) (streams (g.S.Source.observed c.args.input.now) way.output) _ way.is.executes

pub feed-requires-clause-open : goal.feed-requires-clause-open
feed-requires-clause-open g c = open_or_ended c.requires.is.executes.gives

pub returns-in_err-feed-clause-feeds : goal.returns-in_err-feed-clause-feeds
returns-in_err-feed-clause-feeds g c =
    let p = err_from_is_err_and c.from_residual.result c.from_residual.ensures.1 in
    rw p.1 (λ job prices output is. unfed_in_time job prices _ _ _ is _ _ c.in_err-feed.ensures.does)

pub offered-requires-clause-size : goal.offered-requires-clause-size
offered-requires-clause-size g c = let way = c.requires in size_same way.job way.prices _ _ _ way.is _ c.in_ok-feed.ensures.does.more c.in_ok-feed.ensures.does.offers

pub offered-requires-clause-some : goal.offered-requires-clause-some
offered-requires-clause-some g c = let way = c.requires in some_prices way.job way.prices _ _ _ way.is

pub offered-requires-clause-others : goal.offered-requires-clause-others
offered-requires-clause-others g c = let way = c.requires in others_due way.job way.prices _ _ _ way.is _ c.in_ok-feed.ensures.does.more c.in_ok-feed.ensures.does.offers

pub offered-requires-clause-over : goal.offered-requires-clause-over
offered-requires-clause-over g c = let way = c.requires in over_same way.job way.prices _ _ _ way.is _ c.in_ok-feed.ensures.does.more c.in_ok-feed.ensures.does.offers

pub returns-clause-feeds : goal.returns-clause-feeds
returns-clause-feeds g c = λ job prices output is. fed_in_time job prices _ _ _ is _ _ _ _ c.in_ok-feed.ensures.does c.offered.ensures
