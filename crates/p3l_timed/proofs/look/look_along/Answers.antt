use Rattle.std.proofs.Common.{◌+◌, ◌++◌, List, ℕ, drop, ◌∙◌, subst}
use Rattle.std.proofs.lemmas.List.{drop_all, drop_more}
use Rattle.p3l_timed.specs.Clock.{IsOnTheWay}
use Rattle.p3l_timed.specs.Price.{price_at}
use Rattle.p3l_timed.proofs.look.look_along.Goals as goal

pub loop-channel-preserved : goal.loop-channel-preserved
loop-channel-preserved c = record {
  size = c.look_at_ends.ensures.size ∙ c.loop-channel.invariant.size;
  way = λ p cs before way.
      c.look_at_ends.ensures.way p (drop (c.loop-channel.channel-index + 1) c.args.channels.now ++ cs) before
      (subst (λ (xs : List ℕ). IsOnTheWay c.args.machine.now (price_at c.args.prices.now) c.args.moment p (xs ++ cs) before c.loop-channel.moments)
      (drop_more c.args.channels.now c.loop-channel.channel-index 0 c.loop-channel-test.true)
      (c.loop-channel.invariant.way p cs before way));
}

pub returns-clause-way : goal.returns-clause-way
returns-clause-way c = λ p cs before way.
    subst (λ (xs : List ℕ). IsOnTheWay c.args.machine.now (price_at c.args.prices.now) c.args.moment p (xs ++ cs) before c.loop-channel.moments)
    (drop_all c.loop-channel.channel-index c.args.channels.now c.loop-channel-test.false)
    (c.loop-channel.invariant.way p cs before way)
