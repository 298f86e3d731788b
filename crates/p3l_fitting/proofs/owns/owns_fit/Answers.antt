use Rattle.std.proofs.Common.{refl}
use Rattle.p3l_fitting.proofs.OwnsSteps.{all_fit, never_true, one_more, one_of_all}
use Rattle.p3l_fitting.proofs.owns.owns_fit.Goals as goal

pub returns-then-not-own_fits : goal.returns-then-not-own_fits
returns-then-not-own_fits c =
    let not_here = c.if-not-own_fits.ensures in (
      (λ wrong. absurd (never_true wrong)),
      (λ all. not_here.1
          (one_of_all c.args.tree.now c.args.net.now c.args.row.now c.args.shot.now c.requires c.loop-p.p c.q-item.result
          c.index-owns-p.result c.as_slice-q-items.result.now c.as_slice-owns.result.now c.as_slice-q-items.ensures
          c.as_slice-owns.ensures c.q-item.is c.index-owns-p.is c.loop-p-test.true all)),
    )

pub loop-p-preserved : goal.loop-p-preserved
loop-p-preserved c =
    let here = c.if-not-own_fits.ensures in
    one_more c.args.tree.now c.args.net.now c.args.row.now c.args.shot.now c.requires c.loop-p.p c.q-item.result
    c.index-owns-p.result c.as_slice-q-items.result.now c.as_slice-owns.result.now c.as_slice-q-items.ensures
    c.as_slice-owns.ensures c.q-item.is c.index-owns-p.is c.loop-p-test.true c.loop-p.invariant (here.0 refl)

pub returns : goal.returns
returns c = (
  (λ _. all_fit c.args.tree.now c.args.net.now c.args.row.now c.args.shot.now c.loop-p.p c.as_slice-q-items.result.now
      c.as_slice-q-items.ensures c.loop-p-test.false c.loop-p.invariant),
  (λ _. refl),
)
