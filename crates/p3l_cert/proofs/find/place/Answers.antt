use Rattle.std.proofs.Common.{◌+◌, ◌-◌, ◌<◌, ◌/◌, length, sym, ◌∙◌, arith}
use Rattle.p3l_cert.proofs.Lookup.{all_below, none_below}
use Rattle.p3l_cert.proofs.find.place.Goals as goal

pub loop-low-preserved-then-is_below : goal.loop-low-preserved-then-is_below
loop-low-preserved-then-is_below c =
    let order = c.loop-low.invariant.order in
    let within = c.loop-low.invariant.within in
    let inside : c.loop-low.low + (c.loop-low.high - c.loop-low.low) / 2 < length c.args.rows.now = omega arith in
    record {
      order = omega arith;
      within = within;
      below = all_below c.args.rows.now c.args.key (c.loop-low.low + (c.loop-low.high - c.loop-low.low) / 2) _ c.requires.ascend inside (sym c.is_below.ensures ∙ c.if-is_below.true);
      from = c.loop-low.invariant.from;
    }

pub loop-low-preserved : goal.loop-low-preserved
loop-low-preserved c =
    let order = c.loop-low.invariant.order in
    let within = c.loop-low.invariant.within in
    let inside : c.loop-low.low + (c.loop-low.high - c.loop-low.low) / 2 < length c.args.rows.now = omega arith in
    record {
      order = omega arith;
      within = omega arith;
      below = c.loop-low.invariant.below;
      from = none_below c.args.rows.now c.args.key (c.loop-low.low + (c.loop-low.high - c.loop-low.low) / 2) _ c.requires.ascend inside (sym c.is_below.ensures ∙ c.if-is_below.false);
    }
