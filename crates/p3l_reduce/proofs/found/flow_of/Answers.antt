use Rattle.std.proofs.Common.{◌+◌, ◌++◌, map, ap, ap₂, ◌∙◌}
use Rattle.p3l_template.specs.Finding.{bares}
use Rattle.p3l_template.specs.Shape.{Base}
use Rattle.p3l_firing.specs.Shot.{state_of, token_of}
use Rattle.p3l_reduce.specs.Reduce.{tee_by}
use Rattle.p3l_reduce.proofs.found.flow_of.Goals as goal

pub returns : goal.returns
returns c =
    let s = state_of c.args.shot.now in
    let tokens = ap (map token_of) c.tokens.ensures.saved
    ∙ ap s.tokens (c.tee-chan.ensures ∙ ap (λ (x : Base). tee_by x.output (x.chan + c.args.count) c.args.q) c.place.view_is) in
    c.in_ok-add_bare.ensures
    ∙ ap₂ (λ x y. x ++ bares y)
    (c.in_ok-add_saved.ensures ∙ ap₂ (λ x y. x ++ bares y) c.new-flow.ensures tokens)
    c.as_slice.ensures
