use Rattle.std.proofs.Common.{◌≡◌, ℕ, zero, suc, ◌+◌, ◌-◌, ◌<◌, ◌++◌, [], map, subst, refl, sym, ap, ap₂, ◌∙◌, arith, append_assoc, append-nil}
use Rattle.p3l_base.specs.Memory.{IfGiven}
use Rattle.p3l_firing.specs.Shot.{state_of, token_of}
use Rattle.p3l_firing.specs.State.{State}
use Rattle.p3l_template.specs.Finding.{bares}
use Rattle.p3l_template.specs.PipeKind.{waiting}
use Rattle.p3l_template.proofs.pipe.add_stage.Goals as goal

first_waits : (s : State) (c n : ℕ) → n ≡ 0 → waiting s c n ≡ []
unfolding waiting
first_waits s c zero h = refl
first_waits s c (suc n) h = absurd (omega (arith, h))

later_waits : (s : State) (c n : ℕ) → 0 < n → waiting s c n ≡ bares (s.tokens (c + (n - 1)))
unfolding waiting
later_waits s c zero l = absurd (omega (arith, l))
later_waits s c (suc n) l = let e : n ≡ suc n - 1 = omega arith in ap (λ m. bares (s.tokens (c + m))) e

pub returns-then-stage-eq0 : goal.returns-then-stage-eq0
returns-then-stage-eq0 c =
    c.in_ok-add_bare.ensures ∙ ap (λ z. c.args.list.now ++ bares z) c.as_slice.ensures
    ∙ ap (λ z. c.args.list.now ++ z)
    (sym (append-nil (bares c.args.pending.now))
    ∙ ap (λ z. bares c.args.pending.now ++ z) (sym (first_waits (state_of c.args.shot.now) c.args.chan c.args.stage c.if-stage-eq0.true)))

pub returns : goal.returns
returns c =
    let s = state_of c.args.shot.now in
    let some : 0 < c.args.stage = omega (arith, c.if-stage-eq0.false) in
    let path = ap₂ (λ x y. x ++ bares (map token_of y)) (c.in_ok-add_bare.ensures ∙ ap (λ z. c.args.list.now ++ bares z) c.as_slice.ensures) c.tokens.ensures.saved
    ∙ append_assoc c.args.list.now (bares c.args.pending.now) _
    ∙ ap (λ z. c.args.list.now ++ (bares c.args.pending.now ++ z)) (sym (later_waits s c.args.chan c.args.stage some)) in
    subst (λ z. IfGiven c.add_saved.result (λ x. c.add_saved.new.to ≡ z)) path c.add_saved.ensures
