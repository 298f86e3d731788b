use Rattle.std.proofs.Common.{length, map, nat_lt, sym, ap, ◌∙◌}
use Rattle.std.proofs.lemmas.List.{length-map}
use Rattle.p3l_template.specs.Shape.{Base}
use Rattle.p3l_firing.specs.Shot.{state_of, token_of}
use Rattle.p3l_reduce.proofs.ReduceSteps.{none_to_send, one_to_send}
use Rattle.p3l_reduce.proofs.found.is_at_segment.Goals as goal

pub returns-then-held-eq0 : goal.returns-then-held-eq0
returns-then-held-eq0 c =
    let s = state_of c.args.shot.now in
    none_to_send c.args.count c.args.place.now s (length c.held.result.now)
    (sym (length-map c.held.result.now token_of)
    ∙ ap length (ap (map token_of) c.held.ensures.saved ∙ ap (λ (x : Base). (s.own x.proc).held) c.place.view_is)) c.if-held-eq0.true

pub returns : goal.returns
returns c =
    let s = state_of c.args.shot.now in
    ap (λ n. nat_lt n c.args.count) (c.number.ensures ∙ ap (λ (x : Base). (s.own x.proc).number) c.place.view_is)
    ∙ one_to_send c.args.count c.args.place.now s (length c.held.result.now)
    (sym (length-map c.held.result.now token_of)
    ∙ ap length (ap (map token_of) c.held.ensures.saved ∙ ap (λ (x : Base). (s.own x.proc).held) c.place.view_is)) c.if-held-eq0.false
