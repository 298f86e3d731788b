use Rattle.std.proofs.Common.{◌+◌, drop, sym, ap, ◌∙◌, arith}
use Rattle.p3l_farm.specs.Farm.{rising}
use Rattle.p3l_farm.proofs.Rising.{rise, fall, two_left, one_left, none_left}
use Rattle.p3l_farm.proofs.found.are_rising.Goals as goal

pub returns-then-newest_tag : goal.returns-then-newest_tag
returns-then-newest_tag c =
    let x = c.index-tokens-k.result in
    let y = c.index-tokens-k-in-loop-k.result in
    sym (c.loop-k.invariant.left
    ∙ ap rising (two_left c.args.tokens.now c.loop-k.k x y c.loop-k.invariant.some c.loop-k-test.true c.index-tokens-k.is c.index-tokens-k-in-loop-k.is)
    ∙ fall x y (drop (c.loop-k.k + 1) c.args.tokens.now) (omega (arith, c.if-newest_tag.true, c.newest_tag.ensures, c.newest_tag-in-loop-k.ensures)))

pub loop-k-preserved : goal.loop-k-preserved
loop-k-preserved c =
    let x = c.index-tokens-k.result in
    let y = c.index-tokens-k-in-loop-k.result in
    record {
      some = omega arith;
      left =
          c.loop-k.invariant.left
          ∙ ap rising (two_left c.args.tokens.now c.loop-k.k x y c.loop-k.invariant.some c.loop-k-test.true c.index-tokens-k.is c.index-tokens-k-in-loop-k.is)
          ∙ rise x y (drop (c.loop-k.k + 1) c.args.tokens.now) (omega (arith, c.if-newest_tag.false, c.newest_tag.ensures, c.newest_tag-in-loop-k.ensures))
          ∙ ap rising (sym (one_left c.args.tokens.now c.loop-k.k y c.loop-k-test.true c.index-tokens-k-in-loop-k.is));
    }

pub returns : goal.returns
returns c = sym (c.loop-k.invariant.left ∙ none_left c.args.tokens.now c.loop-k.k c.loop-k.invariant.some (omega (arith, c.loop-k-test.false)))
