use Rattle.std.proofs.Common.{◌≡◌, ◌+◌, ◌&&◌, nat_eq, length, sym, ap, ap₂, ◌∙◌}
use Rattle.p3l_loop.specs.Loop.{in_turns}
use Rattle.p3l_loop.specs.LoopKind.{Seen, seen_bag, is_counted}
use Rattle.p3l_loop.proofs.found.is_counted.Goals as goal

pub returns : goal.returns
unfolding is_counted
returns c =
    let seen : Seen = record {
      next = c.seen.inside.next;
      least = c.seen.inside.least;
      credits = c.seen.inside.credits;
      held = c.seen.inside.held;
      ring = c.seen.inside.ring;
    } in
    let many : c.args.admitted ≡ length (seen_bag seen) = c.requires ∙ ap (λ (v : Seen). length (seen_bag v)) (sym c.seen.view_is) in
    let numbers = c.lead_to-numbers.ensures ∙ ap (λ n. nat_eq (seen.least + n) seen.next) many in
    let credits = c.add_up-credits.ensures ∙ ap (λ n. nat_eq (seen.credits + n) c.args.tokens) many in
    let ring = c.are_in_turns-ring.ensures ∙ ap (in_turns c.args.turns) c.as_slice.ensures in
    let held = c.are_in_turns-held.ensures ∙ ap (in_turns c.args.turns) c.as_slice-2.ensures in
    ap₂ (λ x y. x && y) numbers (ap₂ (λ x y. x && y) credits (ap₂ (λ x y. x && y) ring held))
    ∙ ap (is_counted c.args.turns c.args.tokens) c.seen.view_is
