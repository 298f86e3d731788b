-- The slots of workers that are left, at one of them.
use Rattle.std.proofs.Common.{◌≡◌, ◌+◌, ◌<◌, ◌≤◌, [], ◌∷◌, ℕ, suc, ◌-◌, ap, ap₂, ◌∙◌, arith}
use Rattle.p3l_template.specs.Shape.{fan_slots}

pub slots_step : (i o w n : ℕ) → w < n →
    fan_slots (i + w) (o + w) (n - w)
    ≡ record { input = i + w; output = o + w; part = 0 } ∷ fan_slots (i + (w + 1)) (o + (w + 1)) (n - (w + 1))
unfolding fan_slots
slots_step i o w n h =
    let e : n - w ≡ suc (n - (w + 1)) = omega arith in
    ap (fan_slots (i + w) (o + w)) e
    ∙ ap₂ (λ a b. record { input = i + w; output = o + w; part = 0 } ∷ fan_slots a b (n - (w + 1))) (omega arith) (omega arith)

pub slots_end : (i o w n : ℕ) → n ≤ w → fan_slots i o (n - w) ≡ []
unfolding fan_slots
slots_end i o w n h = let e : n - w ≡ 0 = omega arith in ap (fan_slots i o) e
