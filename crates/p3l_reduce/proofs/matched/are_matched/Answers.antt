use Rattle.std.proofs.Common.{◌≡◌, ◌+◌, ◌&&◌, drop, length, sym, ap, ◌∙◌, arith}
use Rattle.p3l_reduce.specs.JoinTree.{matched}
use Rattle.p3l_reduce.proofs.MatchedSteps.{lengths_differ, matched_left, matched_end}
use Rattle.p3l_reduce.proofs.matched.are_matched.Goals as goal

pub returns-then-left-right : goal.returns-then-left-right
returns-then-left-right c = lengths_differ c.args.left.now c.args.right.now (λ e. c.if-left-right.true e)

pub returns-then-not-have_same_tags : goal.returns-then-not-have_same_tags
returns-then-not-have_same_tags c =
    let left = c.args.left.now in
    let right = c.args.right.now in
    let even : length left ≡ length right = c.if-left-right.false in
    sym (c.loop-k.invariant
    ∙ matched_left left right c.loop-k.k c.index-left-k.result c.index-right-k.result c.loop-k-test.true even c.index-left-k.is c.index-right-k.is
    ∙ ap (λ b. b && matched (drop (c.loop-k.k + 1) left) (drop (c.loop-k.k + 1) right)) (sym c.have_same_tags.ensures ∙ c.if-not-have_same_tags.true))

pub loop-k-preserved : goal.loop-k-preserved
loop-k-preserved c =
    let left = c.args.left.now in
    let right = c.args.right.now in
    let even : length left ≡ length right = c.if-left-right.false in
    c.loop-k.invariant
    ∙ matched_left left right c.loop-k.k c.index-left-k.result c.index-right-k.result c.loop-k-test.true even c.index-left-k.is c.index-right-k.is
    ∙ ap (λ b. b && matched (drop (c.loop-k.k + 1) left) (drop (c.loop-k.k + 1) right)) (sym c.have_same_tags.ensures ∙ c.if-not-have_same_tags.false)

pub returns : goal.returns
returns c =
    let even : length c.args.left.now ≡ length c.args.right.now = c.if-left-right.false in
    sym (c.loop-k.invariant ∙ matched_end c.args.left.now c.args.right.now c.loop-k.k (omega (arith, c.loop-k-test.false)) even)
