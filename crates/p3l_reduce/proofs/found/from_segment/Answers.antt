use Rattle.std.proofs.Common.{◌≡◌, ◌+◌, ◌-◌, ◌<◌, ◌≤◌, ◌++◌, inl, inr, get_or, length, map, sym, ap, ap₂, ◌∙◌, subst, arith}
use Rattle.std.proofs.lemmas.List.{get_or-map, length-map}
use Rattle.p3l_template.specs.Shape.{Base}
use Rattle.p3l_template.specs.Finding.{bares}
use Rattle.p3l_firing.specs.Shot.{state_of, token_of}
use Rattle.p3l_reduce.proofs.ReduceSteps.{segment_alone, segment_and_held}
use Rattle.p3l_reduce.proofs.found.from_segment.Goals as goal
use Rattle.p3l_reduce.proofs.found.from_segment.Goals.{then-held-eq0-via-then-held-eq0, then-held-eq0-via-else-held-eq0+then-segment-number}

pub returns-then-held-eq0 : goal.returns-then-held-eq0
returns-then-held-eq0 c =
    let s = state_of c.args.shot.now in
    let base = c.args.place.now in
    let list : c.add_saved.new.to ≡ bares (s.tokens (base.chan + (c.args.q - c.args.count))) =
    c.in_ok-add_saved.ensures
    ∙ ap₂ (λ x y. x ++ bares y) c.new-list.ensures
    (ap (map token_of) c.tokens.ensures.saved ∙ ap (λ (x : Base). s.tokens (x.chan + (c.args.q - c.args.count))) c.place.view_is) in
    let held : map token_of c.held-held.result.now ≡ (s.own base.proc).held =
    ap (map token_of) c.held-held.ensures.saved ∙ ap (λ (x : Base). (s.own x.proc).held) c.place.view_is in
    segment_alone c.args.count base s c.args.q c.add_saved.new.to list
    (elim c.then-held-eq0.branch [
      | then-held-eq0-via-then-held-eq0 w ↦ inl (ap length (sym held) ∙ length-map c.held-held.result.now token_of ∙ w.if-held-eq0.true)
      | then-held-eq0-via-else-held-eq0+then-segment-number w ↦
          inr (subst (λ n. c.args.q - c.args.count < n)
          (w.number.ensures ∙ ap (λ (x : Base). (s.own x.proc).number) c.place.view_is) w.if-segment-number.true)
    ])

pub returns : goal.returns
returns c =
    let s = state_of c.args.shot.now in
    let base = c.args.place.now in
    let list : c.add_saved.new.to ≡ bares (s.tokens (base.chan + (c.args.q - c.args.count))) =
    c.in_ok-add_saved.ensures
    ∙ ap₂ (λ x y. x ++ bares y) c.new-list.ensures
    (ap (map token_of) c.tokens.ensures.saved ∙ ap (λ (x : Base). s.tokens (x.chan + (c.args.q - c.args.count))) c.place.view_is) in
    let held : map token_of c.held-held.result.now ≡ (s.own base.proc).held =
    ap (map token_of) c.held-held.ensures.saved ∙ ap (λ (x : Base). (s.own x.proc).held) c.place.view_is in
    let tokens = c.held-held.result.now in
    let many = length-map tokens token_of in
    let some : 0 < length tokens = omega (arith, c.if-held-eq0.false) in
    c.in_ok-push.ensures.ok
    ∙ segment_and_held c.args.count base s c.args.q c.add_saved.new.to c.bare_saved.result (token_of c.index-held-0.result) (map token_of tokens) list held
    (λ e. c.if-held-eq0.false (sym many ∙ e))
    (subst (λ n. n ≤ c.args.q - c.args.count)
    (c.number.ensures ∙ ap (λ (x : Base). (s.own x.proc).number) c.place.view_is) c.if-segment-number.false)
    c.bare_saved.ensures
    (ap token_of c.index-held-0.is ∙ sym (get_or-map token_of tokens 0 c.index-held-0.result (token_of c.index-held-0.result) some))
