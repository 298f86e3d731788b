use Rattle.std.proofs.Common.{◌<◌, ◌∙◌, subst, sym}
use Rattle.std.proofs.lemmas.Result.{err_from_is_err_and}
use Rattle.p3l_run.specs.Execution.{left_at}
use Rattle.p3l_run.specs.Streams.{streams}
use Rattle.p3l_run.proofs.ExecutionSteps.{in_range, made, none_made, wide}
use Rattle.p3l_run.proofs.FeedSteps.{open_or_ended}
use Rattle.p3l_run.proofs.execution.Execution.run_out.Goals as goal

pub feed-requires-clause-wide : goal.feed-requires-clause-wide
feed-requires-clause-wide g c = let way = c.requires.job in wide way.job (streams (g.S.Source.observed c.picks.input) (g.K.Sink.observed c.picks.out)) c.picks.self (c.picks.invariant way.job way.leaf_is way.executes)

pub feed-requires-clause-open : goal.feed-requires-clause-open
feed-requires-clause-open g c = let way = c.requires.job in open_or_ended (c.picks.invariant way.job way.leaf_is way.executes).gives

pub returns-in_err-feed-clause-runs : goal.returns-in_err-feed-clause-runs
returns-in_err-feed-clause-runs g c =
    let p = err_from_is_err_and c.from_residual.result c.from_residual.ensures.1 in
    rw (p.1, p.2) (λ job leaf_is d. c.in_err-feed.ensures.feeds job _ (c.picks.invariant job leaf_is d))

pub step-requires-clause-tree : goal.step-requires-clause-tree
step-requires-clause-tree g c =
    let way = c.requires.job in
    c.requires.tree ∙ way.executes.stands.runs.tree ∙ sym (c.in_ok-feed.ensures.feeds way.job _ (c.picks.invariant way.job way.leaf_is way.executes)).0.executes.stands.runs.tree

pub step-requires-clause-range : goal.step-requires-clause-range
step-requires-clause-range g c =
    let way = c.requires.job in
    in_range way.job (streams (g.S.Source.observed c.feed.new.input) (g.K.Sink.observed c.picks.out)) c.feed.new.self (c.in_ok-feed.ensures.feeds way.job _ (c.picks.invariant way.job way.leaf_is way.executes)).0.executes

pub returns-in_err-step-clause-runs : goal.returns-in_err-step-clause-runs
returns-in_err-step-clause-runs g c =
    let p = err_from_is_err_and c.from_residual-in_err-step.result c.from_residual-in_err-step.ensures.1 in
    rw (p.1, p.2) (λ job leaf_is d. c.in_err-step.ensures.steps job _ leaf_is (c.in_ok-feed.ensures.feeds job _ (c.picks.invariant job leaf_is d)).0)

pub returns-then-not-branch-clause-runs : goal.returns-then-not-branch-clause-runs
returns-then-not-branch-clause-runs g c =
    λ job leaf_is d.
    none_made job (streams (g.S.Source.observed c.feed.new.input) (g.K.Sink.observed c.step.new.out)) c.feed.new.self c.step.new.self _ c.if-not-branch.true
    (c.in_ok-step.ensures.steps job _ leaf_is (c.in_ok-feed.ensures.feeds job _ (c.picks.invariant job leaf_is d)).0)

pub picks-smaller : goal.picks-smaller
picks-smaller g c =
    let way = c.requires.job in
    let fed = c.in_ok-feed.ensures.feeds way.job _ (c.picks.invariant way.job way.leaf_is way.executes) in
    subst (λ k. left_at c.step.new.self < k) fed.1
    (made way.job (streams (g.S.Source.observed c.feed.new.input) (g.K.Sink.observed c.step.new.out)) c.feed.new.self c.step.new.self _ c.if-not-branch.false
    (c.in_ok-step.ensures.steps way.job _ way.leaf_is fed.0)).1

pub picks-preserved : goal.picks-preserved
picks-preserved g c =
    λ job leaf_is d.
    (made job (streams (g.S.Source.observed c.feed.new.input) (g.K.Sink.observed c.step.new.out)) c.feed.new.self c.step.new.self _ c.if-not-branch.false
    (c.in_ok-step.ensures.steps job _ leaf_is (c.in_ok-feed.ensures.feeds job _ (c.picks.invariant job leaf_is d)).0)).0
