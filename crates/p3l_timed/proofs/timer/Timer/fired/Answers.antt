use Rattle.std.proofs.Common.{◌≡◌, ◌≢◌, ◌+◌, ℕ, None, length, slice_set, slice_index, sym, ap, ap₂, ◌∙◌, subst, arith, inl, inr}
use Rattle.std.specs.Prelude.{unwrap_or}
use Rattle.std.proofs.lemmas.Bool.{cases_Bool}
use Rattle.p3l_net.specs.Machine.{can_step}
use Rattle.p3l_timed.specs.Moments.{due_at}
use Rattle.p3l_timed.specs.Clock.{Clock, IsKept}
use Rattle.p3l_timed.specs.Due.{renewed, without}
use Rattle.p3l_timed.specs.Price.{price_at}
use Rattle.p3l_timed.proofs.Keeping.{due_is_there, kept_fired, kept_over, read_at, shown_due}
use Rattle.p3l_timed.proofs.timer.Timer.fired.Goals as goal

pub invariant_of-self : goal.invariant_of-self
invariant_of-self c =
    let m = c.args.machine.now in
    let p = c.args.p in
    let inside = c.self.inside in
    let kept = c.self.invariant in
    let due = shown_due inside.over inside.moments p (subst (λ (x : Clock). due_at x.due p ≢ None) (sym c.self.view_is) c.requires.due) in
    let there = due_is_there kept p due.0 in
    let size : length m.net.procs ≡ length inside.prices.items = c.requires.size ∙ ap (λ (x : Clock). length x.prices) (sym c.self.view_is) in
    let up : c.fired-self-inside.result ≡ inside.fired + 1 = c.fired-self-inside.ensures ∙ c.requires.count ∙ ap (λ (x : Clock). x.fired + 1) (sym c.self.view_is) in
    let now : c.unwrap_or-self-inside.result ≡ unwrap_or (due_at inside.moments p) inside.moment = c.unwrap_or-self-inside.ensures ∙ ap (λ o. unwrap_or o inside.moment) c.due.ensures in
    let more : c.index_mut.result.now + c.index.result.now ≡ slice_index inside.busy.items p + price_at inside.prices.items p = ap₂ (λ a b. a + b) (c.index_mut.ensures.value ∙ read_at inside.busy.items p _ (let long = kept.as_many in omega (arith, there, long))) (c.index.ensures ∙ read_at inside.prices.items p _ there) in
    subst (λ n. IsKept inside.prices.items (slice_set inside.busy.items p n) c.look_after-self-inside.new.moments c.unwrap_or-self-inside.result c.fired-self-inside.result) (sym more)
    (elim (cases_Bool m.trapped) [
      | inl trap ↦
          subst (λ ds. IsKept inside.prices.items (slice_set inside.busy.items p (slice_index inside.busy.items p + price_at inside.prices.items p)) ds c.unwrap_or-self-inside.result c.fired-self-inside.result) (sym (c.look_after-self-inside.ensures.rest trap))
          (kept_over inside.prices.items inside.busy.items inside.moments inside.moment inside.fired c.unwrap_or-self-inside.result c.fired-self-inside.result p kept there now up)
      | inr untrapped ↦
          kept_fired m inside.prices.items inside.busy.items inside.moments c.look_after-self-inside.new.moments inside.moment inside.fired c.unwrap_or-self-inside.result c.fired-self-inside.result p kept size there now up c.look_after-self-inside.ensures.size
          (subst (λ ps. (r : ℕ) → due_at c.look_after-self-inside.new.moments r ≡ renewed (can_step m) (price_at ps) c.unwrap_or-self-inside.result (without p (due_at inside.moments)) r) c.as_slice.ensures.value (c.look_after-self-inside.ensures.due untrapped))
    ])
