use Rattle.std.proofs.Common.{◌+◌, None, ap, sym, refl, take, arith}
use Rattle.p3l_run.specs.Network.{network}
use Rattle.p3l_trace.specs.declared.trace.TraceLine.{TraceLine}
use Rattle.p3l_run.proofs.ComparisonSteps as comparison
use Rattle.p3l_run.proofs.retrace.retrace.Goals as goal

-- the line that is read past the end
abbrev no_line : TraceLine
no_line = record { pick = 0; kind = None }

pub loop-line-init : goal.loop-line-init
loop-line-init g c = record {
  walks = comparison.walks_first _ (g.S.Source.observed c.args.input.now) (c.laws.ensures _ c.requires.sound) refl c.requires.fits (c.a_stream_gives_its_items.ensures.starts _ _) c.args.plan.width c.requires.width c.in_ok-comparison.comparison c.in_ok-comparison.ensures;
  number = refl;
}

pub pass-requires-clause-tree : goal.pass-requires-clause-tree
pass-requires-clause-tree g c = sym c.loop-line.invariant.walks.passed.stands.runs.tree

pub pass-requires-clause-network : goal.pass-requires-clause-network
pass-requires-clause-network g c = record {
  network = network c.args.plan.tree.now (g.U.Units.leaf c.args.plan.units.now) c.args.plan.net c.args.plan.firings;
  leaf_is = refl;
  first = g.S.Source.observed c.args.input.now;
  walked = take c.loop-line.line-index c.args.traced.now.lines;
  walks = c.loop-line.invariant.walks;
}

pub returns-then-not-branch-clause-does : goal.returns-then-not-branch-clause-does
returns-then-not-branch-clause-does g c =
    comparison.line_differs _ _ _ c.args.traced.now c.as_slice-line-items.result.now c.as_slice-line-items.ensures c.loop-line.line-index c.pass.new.self no_line c.loop-line-test.true _ c.if-not-branch.true (c.in_ok-pass.ensures _ _ _ refl c.loop-line.invariant.walks) (c.loop-line.number + 1)
    (let count = c.loop-line.invariant.number in omega arith)

pub loop-line-preserved : goal.loop-line-preserved
loop-line-preserved g c = record {
  walks = comparison.line_passed _ _ _ c.args.traced.now c.as_slice-line-items.result.now c.as_slice-line-items.ensures c.loop-line.line-index c.pass.new.self no_line c.loop-line-test.true _ c.if-not-branch.false (c.in_ok-pass.ensures _ _ _ refl c.loop-line.invariant.walks);
  number = ap (λ k. k + 1) c.loop-line.invariant.number;
}

pub returns-then-not-is_counted-clause-does : goal.returns-then-not-is_counted-clause-does
returns-then-not-is_counted-clause-does g c =
    comparison.counts_differ _ _ _ c.args.traced.now c.as_slice-line-items.result.now c.as_slice-line-items.ensures c.loop-line.line-index c.loop-line.comparison c.loop-line-test.false c.loop-line.invariant.walks c.loop-line.auto.line-index-end
    (λ counted. let yes = c.is_counted.ensures.1 counted in let no = c.if-not-is_counted.true in absurd cc) (c.loop-line.number + 1) (let count = c.loop-line.invariant.number in omega arith)

pub returns-clause-does : goal.returns-clause-does
returns-clause-does g c =
    rw c.ending.ensures (comparison.lines_agree _ _ _ c.args.traced.now c.as_slice-line-items.result.now c.as_slice-line-items.ensures c.loop-line.line-index c.loop-line.comparison c.loop-line-test.false c.loop-line.invariant.walks (c.is_counted.ensures.0 c.if-not-is_counted.false))
