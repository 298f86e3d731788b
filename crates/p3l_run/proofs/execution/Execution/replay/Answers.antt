use Rattle.std.proofs.Common.{◌∙◌, sym}
use Rattle.std.proofs.lemmas.Result.{err_from_is_err_and}
use Rattle.p3l_base.specs.declared.outcome.Trap.{Trap}
use Rattle.p3l_stream.specs.declared.items.Ending.{Ending}
use Rattle.p3l_run.proofs.FeedSteps.{is_none, not_none, open_or_ended}
use Rattle.p3l_run.proofs.ReplaySteps.{all_made, few_picks, halts_closed, halts_over, halts_trapped, next_is, one_made, ready_then, there, wide}
use Rattle.p3l_run.proofs.execution.Execution.replay.Goals as goal

pub loop-process-init : goal.loop-process-init
loop-process-init g c = λ r leaf_is o. (o.replays, o.open_is, o.asked)

pub returns-then-is_some-clause-halts : goal.returns-then-is_some-clause-halts
returns-then-is_some-clause-halts g c =
    λ r leaf_is o.
    let at = c.loop-process.invariant r leaf_is o in
    halts_trapped r _ _ _ _ at.0 (not_none Trap c.loop-process.self.emitted.trap c.is_some.result c.is_some.ensures c.if-is_some.true) at.1 at.2

pub feed-requires-clause-wide : goal.feed-requires-clause-wide
feed-requires-clause-wide g c = let way = c.requires.replay in wide way.replay _ _ _ _ (c.loop-process.invariant way.replay way.leaf_is way.opens).0

pub feed-requires-clause-open : goal.feed-requires-clause-open
feed-requires-clause-open g c = let way = c.requires.replay in open_or_ended (c.loop-process.invariant way.replay way.leaf_is way.opens).0.gives

pub returns-in_err-feed-clause-halts : goal.returns-in_err-feed-clause-halts
returns-in_err-feed-clause-halts g c =
    let p = err_from_is_err_and c.from_residual.result c.from_residual.ensures.1 in
    rw (p.1, p.2) (λ r leaf_is o. c.in_err-feed.ensures.fills r _ _ _ (c.loop-process.invariant r leaf_is o).0)

pub returns-then-is_some-2-clause-halts : goal.returns-then-is_some-2-clause-halts
returns-then-is_some-2-clause-halts g c =
    λ r leaf_is o.
    let at = c.loop-process.invariant r leaf_is o in
    let filled = c.in_ok-feed.ensures.fills r _ _ _ at.0 in
    halts_closed r _ _ _ _ _ _ (next_is r _ _ _ _ filled.0 c.loop-process-test.true) filled.1 at.1 (λ none. not_none Ending c.ending.result c.is_some-in-loop-process.result c.is_some-in-loop-process.ensures c.if-is_some-2.true (c.ending.ensures ∙ none))

pub make-requires-clause-there : goal.make-requires-clause-there
make-requires-clause-there g c =
    let way = c.requires.replay in
    there way.replay _ _ _ _ _ (next_is way.replay _ _ _ _ (c.in_ok-feed.ensures.fills way.replay _ _ _ (c.loop-process.invariant way.replay way.leaf_is way.opens).0).0 c.loop-process-test.true)

pub make-requires-clause-few : goal.make-requires-clause-few
make-requires-clause-few g c =
    let way = c.requires.replay in
    few_picks way.replay _ _ _ _ (c.in_ok-feed.ensures.fills way.replay _ _ _ (c.loop-process.invariant way.replay way.leaf_is way.opens).0).0

pub make-requires-clause-tree : goal.make-requires-clause-tree
make-requires-clause-tree g c =
    let way = c.requires.replay in
    c.requires.tree ∙ way.opens.replays.runs.tree ∙ sym (c.in_ok-feed.ensures.fills way.replay _ _ _ (c.loop-process.invariant way.replay way.leaf_is way.opens).0).0.runs.tree

pub returns-in_err-make-clause-halts : goal.returns-in_err-make-clause-halts
returns-in_err-make-clause-halts g c =
    let p = err_from_is_err_and c.from_residual-in_err-make.result c.from_residual-in_err-make.ensures.1 in
    rw (p.1, p.2)
    (λ r leaf_is o.
    let filled = c.in_ok-feed.ensures.fills r _ _ _ (c.loop-process.invariant r leaf_is o).0 in
    let untrapped = is_none Trap c.loop-process.self.emitted.trap c.is_some.result c.is_some.ensures c.if-is_some.false in
    let open_is = sym c.ending.ensures ∙ is_none Ending c.ending.result c.is_some-in-loop-process.result c.is_some-in-loop-process.ensures c.if-is_some-2.false in
    c.in_err-make.ensures.makes r _ _ _ leaf_is (next_is r _ _ _ _ filled.0 c.loop-process-test.true) (ready_then _ _ filled.1 untrapped open_is))

pub loop-process-preserved : goal.loop-process-preserved
loop-process-preserved g c =
    λ r leaf_is o.
    let filled = c.in_ok-feed.ensures.fills r _ _ _ (c.loop-process.invariant r leaf_is o).0 in
    let untrapped = is_none Trap c.loop-process.self.emitted.trap c.is_some.result c.is_some.ensures c.if-is_some.false in
    let open_is = sym c.ending.ensures ∙ is_none Ending c.ending.result c.is_some-in-loop-process.result c.is_some-in-loop-process.ensures c.if-is_some-2.false in
    let made = c.in_ok-make.ensures.makes r _ _ _ leaf_is (next_is r _ _ _ _ filled.0 c.loop-process-test.true) (ready_then _ _ filled.1 untrapped open_is) in
    one_made r _ _ _ _ filled.0 c.loop-process-test.true _ _ made

pub returns-clause-halts : goal.returns-clause-halts
returns-clause-halts g c =
    λ r leaf_is o.
    let at = c.loop-process.invariant r leaf_is o in
    halts_over r _ _ _ _ at.0 (all_made r _ _ _ _ at.0 c.loop-process-test.false) at.1 at.2
