use Rattle.std.proofs.Common.{◌∙◌, sym, arith}
use Rattle.std.proofs.lemmas.Result.{err_from_is_err_and}
use Rattle.p3l_run.specs.Streams.{streams}
use Rattle.p3l_run.proofs.TimedSteps.{fired_at_most, none_due_now, went_now}
use Rattle.p3l_run.proofs.execution.Execution.run_in_time.Goals as goal

pub feed_in_time-requires : goal.feed_in_time-requires
feed_in_time-requires g c =
    let way = c.requires.job in
    record { job = way.job; prices = way.prices; output = g.K.Sink.observed c.firings.out; is = c.firings.invariant way.job way.prices way.leaf_is way.is }

pub returns-in_err-feed_in_time-clause-runs : goal.returns-in_err-feed_in_time-clause-runs
returns-in_err-feed_in_time-clause-runs g c =
    let p = err_from_is_err_and c.from_residual.result c.from_residual.ensures.1 in
    rw (p.1, p.2) (λ job prices leaf_is is. c.in_err-feed_in_time.ensures.feeds job prices _ (c.firings.invariant job prices leaf_is is))

pub step_in_time-requires-clause-tree : goal.step_in_time-requires-clause-tree
step_in_time-requires-clause-tree g c =
    let way = c.requires.job in
    c.requires.tree ∙ way.is.executes.stands.runs.tree ∙ sym (c.in_ok-feed_in_time.ensures.feeds way.job way.prices _ (c.firings.invariant way.job way.prices way.leaf_is way.is)).0.is.executes.stands.runs.tree

pub step_in_time-requires-clause-job : goal.step_in_time-requires-clause-job
step_in_time-requires-clause-job g c =
    let way = c.requires.job in
    record {
      job = way.job;
      prices = way.prices;
      input = g.S.Source.observed c.feed_in_time.new.input;
      leaf_is = way.leaf_is;
      awaits = (c.in_ok-feed_in_time.ensures.feeds way.job way.prices _ (c.firings.invariant way.job way.prices way.leaf_is way.is)).0;
    }

pub returns-in_err-step_in_time-clause-runs : goal.returns-in_err-step_in_time-clause-runs
returns-in_err-step_in_time-clause-runs g c =
    let p = err_from_is_err_and c.from_residual-in_err-step_in_time.result c.from_residual-in_err-step_in_time.ensures.1 in
    rw (p.1, p.2) (λ job prices leaf_is is. c.in_err-step_in_time.ensures.steps job prices _ leaf_is (c.in_ok-feed_in_time.ensures.feeds job prices _ (c.firings.invariant job prices leaf_is is)).0)

pub returns-then-not-branch-clause-runs : goal.returns-then-not-branch-clause-runs
returns-then-not-branch-clause-runs g c =
    λ job prices leaf_is is.
    none_due_now job prices (streams (g.S.Source.observed c.feed_in_time.new.input) (g.K.Sink.observed c.step_in_time.new.out)) c.feed_in_time.new.self c.step_in_time.new.self c.step_in_time.new.timer _ c.if-not-branch.true
    (c.in_ok-step_in_time.ensures.steps job prices _ leaf_is (c.in_ok-feed_in_time.ensures.feeds job prices _ (c.firings.invariant job prices leaf_is is)).0)

pub firings-smaller : goal.firings-smaller
firings-smaller g c =
    let way = c.requires.job in
    let fed = c.in_ok-feed_in_time.ensures.feeds way.job way.prices _ (c.firings.invariant way.job way.prices way.leaf_is way.is) in
    let went = went_now way.job way.prices (streams (g.S.Source.observed c.feed_in_time.new.input) (g.K.Sink.observed c.step_in_time.new.out)) c.feed_in_time.new.self c.step_in_time.new.self c.step_in_time.new.timer _ c.if-not-branch.false (c.in_ok-step_in_time.ensures.steps way.job way.prices _ way.leaf_is fed.0) in
    let few = fired_at_most went.0 in
    let up = went.1 in
    let same = fed.1 in
    omega (arith, few, up, same)

pub firings-preserved : goal.firings-preserved
firings-preserved g c =
    λ job prices leaf_is is.
    (went_now job prices (streams (g.S.Source.observed c.feed_in_time.new.input) (g.K.Sink.observed c.step_in_time.new.out)) c.feed_in_time.new.self c.step_in_time.new.self c.step_in_time.new.timer _ c.if-not-branch.false
    (c.in_ok-step_in_time.ensures.steps job prices _ leaf_is (c.in_ok-feed_in_time.ensures.feeds job prices _ (c.firings.invariant job prices leaf_is is)).0)).0
