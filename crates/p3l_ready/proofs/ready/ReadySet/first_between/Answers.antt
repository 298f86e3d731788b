use Rattle.std.proofs.Common.{◌≡◌, ◌+◌, ◌-◌, ap, sym, ◌∙◌, arith}
use Rattle.std.specs.List.{find, range_with_len}
use Rattle.p3l_ready.specs.Flags.{flag_at}
use Rattle.p3l_ready.proofs.Cyclic.{found_at}
use Rattle.p3l_ready.proofs.Counting.{none-joined, none-front}
use Rattle.p3l_ready.proofs.ready.ReadySet.first_between.Goals as goal

pub returns-then-gap-eq0 : goal.returns-then-gap-eq0
returns-then-gap-eq0 c =
    found_at (flag_at c.args.self.now) c.args.from c.args.to c.loop-p.p c.loop-p.invariant.low c.loop-p-test.true
    c.loop-p.invariant.none (c.gap-gap.ensures.here c.if-gap-eq0.true)

pub loop-p-preserved : goal.loop-p-preserved
loop-p-preserved c =
    let low = c.loop-p.invariant.low in
    let few = c.gap-gap.ensures.few in
    let here : c.args.from + (c.loop-p.p - c.args.from) ≡ c.loop-p.p = omega arith in
    let whole : c.loop-p.p + c.gap-gap.result - c.args.from ≡ (c.loop-p.p - c.args.from) + c.gap-gap.result = omega arith in
    record {
      low = omega (arith, low);
      high = omega (arith, few, c.loop-p-test.true);
      none = ap (λ n. find (flag_at c.args.self.now) (range_with_len c.args.from n)) whole
          ∙ none-joined (flag_at c.args.self.now) c.args.from (c.loop-p.p - c.args.from) c.gap-gap.result c.loop-p.invariant.none
          (ap (λ a. find (flag_at c.args.self.now) (range_with_len a c.gap-gap.result)) here ∙ c.gap-gap.ensures.none);
    }

pub returns : goal.returns
returns c =
    let low = c.loop-p.invariant.low in
    let past = c.loop-p-test.false in
    let whole : c.loop-p.p - c.args.from ≡ (c.args.to - c.args.from) + (c.loop-p.p - c.args.to) = omega (arith, c.requires.ordered, low, past) in
    sym (none-front (flag_at c.args.self.now) c.args.from (c.args.to - c.args.from) (c.loop-p.p - c.args.to)
    (sym (ap (λ n. find (flag_at c.args.self.now) (range_with_len c.args.from n)) whole) ∙ c.loop-p.invariant.none))
