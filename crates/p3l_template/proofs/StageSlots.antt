-- The slots of the stages that are left, at one of them.
use Rattle.std.proofs.Common.{◌≡◌, ◌+◌, ◌<◌, ◌≤◌, [], ◌∷◌, ℕ, suc, ◌-◌, ap, ap₂, ◌∙◌, arith}
use Rattle.p3l_template.specs.Pipe.{stage_slots}

pub stage_step : (v x c y last : ℕ) → v < last →
    stage_slots v x c y (last - v) ≡ record { input = x; output = c; part = v } ∷ stage_slots (v + 1) c (c + 1) y (last - (v + 1))
unfolding stage_slots
stage_step v x c y last h =
    let e : last - v ≡ suc (last - (v + 1)) = omega arith in
    ap (stage_slots v x c y) e
    ∙ ap₂ (λ a b. record { input = x; output = c; part = v } ∷ stage_slots a c b y (last - (v + 1))) (omega arith) (omega arith)

pub stage_end : (v x c y last : ℕ) → last ≤ v → stage_slots v x c y (last - v) ≡ record { input = x; output = y; part = v } ∷ []
unfolding stage_slots
stage_end v x c y last h = let e : last - v ≡ 0 = omega arith in ap (stage_slots v x c y) e
