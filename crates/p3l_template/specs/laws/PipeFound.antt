-- WHAT IS FOUND IN A PIPE is what its part is.
use Rattle.std.proofs.Common.{◌≡◌, ℕ, zero, suc, List, [], ◌∷◌, ◌++◌, map, refl, sym, ap, ap₂, ◌∙◌}
use Rattle.std.proofs.lemmas.List.{map-append, length-replicate}
use Rattle.p3l_firing.specs.State.{State}
use Rattle.p3l_firing.specs.Token.{over}
use Rattle.p3l_firing.specs.declared.token.Token.{Token}
use Rattle.p3l_template.specs.Part.{Part, all_orderly}
use Rattle.p3l_template.specs.Pipe.{stage_slots, stages_pending, pipe_pending, pipe_shape}
use Rattle.p3l_template.specs.Finding.{bare, bares, pending_of, AreSlots, IsFoundShape}
use Rattle.p3l_template.specs.PipeKind.{after_stages, in_stages, pipe_finds}
use Rattle.p3l_template.specs.laws.BareLaw.{bares-bares, bares-over, and-true}

-- one stage more
stage-bare : (s : State) (q : List Token) (P : Part) (c : ℕ) → P.input ≡ c →
    bares (pending_of s P) ++ (bares (s.tokens c) ++ bares q) ≡ bares (P.pending s ++ map (over P.meaning) (s.tokens P.input ++ q))
stage-bare s q P c i =
    ap₂ (λ a d. a ++ (bares (s.tokens d) ++ bares q)) (bares-bares (P.pending s)) (sym i)
    ∙ ap (λ z. bares (P.pending s) ++ z)
    (sym (map-append bare (s.tokens P.input) q) ∙ sym (bares-over P.meaning (s.tokens P.input ++ q)))
    ∙ sym (map-append bare (P.pending s) _)

stages-bare : (s : State) (q : List Token) (k v c y : ℕ) (parts : List Part) → AreSlots (stage_slots v c (suc c) y k) parts →
    after_stages s (bares q) c (map (pending_of s) parts) ≡ bares (stages_pending s q parts)
unfolding after_stages stages_pending stage_slots AreSlots
stages-bare s q zero v c y [] slotted = absurd slotted
stages-bare s q zero v c y (P ∷ []) slotted = stage-bare s q P c slotted.0.0
stages-bare s q zero v c y (P ∷ (Q ∷ Qs)) slotted = absurd slotted.1
stages-bare s q (suc k) v c y [] slotted = absurd slotted
stages-bare s q (suc k) v c y (P ∷ Ps) slotted =
    ap (λ z. after_stages s z (suc c) (map (pending_of s) Ps)) (stage-bare s q P c slotted.0.0)
    ∙ stages-bare s (P.pending s ++ map (over P.meaning) (s.tokens P.input ++ q)) k (suc v) (suc c) y Ps slotted.1

pipe-bare : (s : State) (k x c y : ℕ) (parts : List Part) → AreSlots (stage_slots 0 x c y k) parts →
    bares (pipe_pending parts s) ≡ in_stages s c (map (pending_of s) parts)
unfolding in_stages after_stages pipe_pending stages_pending stage_slots AreSlots
pipe-bare s zero x c y [] slotted = absurd slotted
pipe-bare s zero x c y (P ∷ []) slotted = sym (bares-bares (P.pending s))
pipe-bare s zero x c y (P ∷ (Q ∷ Qs)) slotted = absurd slotted.1
pipe-bare s (suc k) x c y [] slotted = absurd slotted
pipe-bare s (suc k) x c y (P ∷ Ps) slotted =
    sym (ap (λ z. after_stages s z c (map (pending_of s) Ps)) (bares-bares (P.pending s))
    ∙ stages-bare s (P.pending s) k 1 c y Ps slotted.1)

pub pipe_found : (k : ℕ) → IsFoundShape (pipe_shape k) pipe_finds
unfolding pipe_finds
pipe_found k = record {
  orderly = λ units roles base parts s slotted. sym (and-true (all_orderly parts s));
  pending = λ units roles base parts s slotted. pipe-bare s k base.input base.chan base.output parts slotted;
  ends = λ units roles base parts slotted. record { input = refl; output = refl; proc_to = refl; chan_to = refl };
  laid = λ cap base. length-replicate k _;
}
