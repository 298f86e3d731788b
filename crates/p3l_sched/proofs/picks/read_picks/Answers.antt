use Rattle.std.proofs.Common.{◌≡◌, ◌+◌, ◌<◌, ℕ, length, count_by, ap, sym, ◌∙◌, Ok, arith, length-append, [], ◌∷◌}
use Rattle.std.proofs.lemmas.List.Sums.{count_by-le-length}
use Rattle.p3l_sched.specs.Picks.{is_feed, pick_of}
use Rattle.p3l_sched.proofs.Below.{read_below}
use Rattle.p3l_sched.proofs.Reading.{read_more, shorter}
use Rattle.p3l_sched.proofs.picks.read_picks.Goals as goal

pub loop-gap-preserved : goal.loop-gap-preserved
loop-gap-preserved c =
    let feeds = c.feeds_in-line.ensures in
    let picked : pick_of c.args.count (c.loop-gap.line + count_by is_feed c.in-Some.gap.now) c.in-Some.word.now ≡ Ok c.in_ok-pick.pick =
    ap (λ (n : ℕ). pick_of c.args.count (c.loop-gap.line + n) c.in-Some.word.now) (sym feeds) ∙ sym c.pick_of.ensures ∙ c.in_ok-pick.was in
    let more = read_more c.args.count 1 c.args.text.now c.loop-gap.picks c.loop-gap.line c.loop-gap.rest.now c.in-Some.gap.now c.in-Some.word.now c.in-Some.after.now c.in_ok-pick.pick c.loop-gap.invariant.read c.in-Some.ensures picked in
    let fewer : length c.in-Some.gap.now + length c.in-Some.after.now < length c.loop-gap.rest.now = shorter _ _ c.in-Some.word.now _ c.in-Some.ensures in
    record {
      read = rw (c.in_ok-push.ensures.ok, feeds) more;
      within = omega (arith, count_by-le-length is_feed c.in-Some.gap.now, feeds, c.loop-gap.invariant.within);
      few = omega (arith, ap length c.in_ok-push.ensures.ok, length-append c.loop-gap.picks (c.in_ok-pick.pick ∷ []), c.loop-gap.invariant.few);
    }

pub returns-clause-below : goal.returns-clause-below
returns-clause-below c = read_below c.args.count 1 c.args.text.now c.loop-gap.picks c.loop-gap.line c.loop-gap.rest.now c.loop-gap.invariant.read
