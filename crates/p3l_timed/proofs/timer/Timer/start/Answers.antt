use Rattle.std.proofs.Common.{◌≡◌, ◌^◌, ◌<◌, ℕ, None, length, sym, ap, ◌∙◌, subst, arith}
use Rattle.p3l_net.specs.Machine.{can_step}
use Rattle.p3l_timed.specs.Moments.{due_at}
use Rattle.p3l_timed.specs.Clock.{IsKept}
use Rattle.p3l_timed.specs.Due.{renewed}
use Rattle.p3l_timed.specs.Price.{counted_prices, price_at}
use Rattle.p3l_timed.proofs.Keeping.{kept_first, prices_long, small_prices}
use Rattle.p3l_timed.proofs.timer.Timer.start.Goals as goal

pub look_at_all-requires-clause-can : goal.look_at_all-requires-clause-can
look_at_all-requires-clause-can c =
    let m = c.args.machine.now in
    let tree = c.args.tree.now in
    let costs = c.args.costs.now in
    let prices_are : c.as_slice.result.now ≡ counted_prices tree costs m.net = c.as_slice.ensures.value ∙ c.in_ok-prices.ensures ∙ ap (counted_prices tree costs) c.requires.net in
    let long = ap length prices_are ∙ prices_long tree costs m.net.procs in
    let count = c.size.ensures in
    let room = c.in_ok-moments.ensures.0 in
    record {
      size = long;
      room = omega (arith, long, count, room);
      prices_small = λ r. subst (λ ps. price_at ps r < 2 ^ 48) (sym prices_are) (small_prices tree costs m.net.procs r);
      moment_small = omega arith;
    }

pub invariant_of-result : goal.invariant_of-result
invariant_of-result c =
    let m = c.args.machine.now in
    let tree = c.args.tree.now in
    let costs = c.args.costs.now in
    let prices_are : c.in_ok-prices.prices.items ≡ counted_prices tree costs m.net = c.in_ok-prices.ensures ∙ ap (counted_prices tree costs) c.requires.net in
    let long : length c.in_ok-prices.prices.items ≡ length m.net.procs = ap length prices_are ∙ prices_long tree costs m.net.procs in
    let count = c.size.ensures in
    let room = c.in_ok-moments.ensures.0 in
    let size = c.look_at_all.ensures.size in
    subst (λ xs. IsKept c.in_ok-prices.prices.items xs c.look_at_all.new.moments 0 0) (sym (c.in_ok-busy.ensures.items_if_clones_equal (λ y h. h)))
    (kept_first m c.in_ok-prices.prices.items c.len.result c.look_at_all.new.moments long (omega (arith, long, count)) (let ok = c.in_ok-prices.prices.ok.0 in let len = c.len.ensures in omega (arith, ok, len))
    (omega (arith, long, count, room, size))
    (λ r. subst (λ ps. price_at ps r < 2 ^ 48) (sym prices_are) (small_prices tree costs m.net.procs r))
    (subst (λ ps. (r : ℕ) → due_at c.look_at_all.new.moments r ≡ renewed (can_step m) (price_at ps) 0 (λ q. None) r) c.as_slice.ensures.value c.look_at_all.ensures.due))
