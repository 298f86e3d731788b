use Rattle.std.proofs.Common.{◌≡◌, ◌∙◌, ◌++◌, take, length, arith, ap, append-nil, sym, length-take}
use Rattle.p3l_skel.proofs.Elements.{elements-none, elements-more, sized-more}
use Rattle.p3l_skel.proofs.element.elements.Goals as goal

pub loop-rest-preserved : goal.loop-rest-preserved
loop-rest-preserved c =
    let front : c.in_ok-copy.copy ≡ take c.args.size c.loop-rest.rest.now = c.in_ok-copy.ensures ∙ c.split_at.ensures.front in
    let long : length c.in_ok-copy.copy ≡ c.args.size = omega (arith, ap length front, length-take c.args.size c.loop-rest.rest.now) in
    record {
      so_far = elements-more c.args.size _ _ _ c.loop-rest.rest.now _ _ c.requires (omega arith) front c.split_at.ensures.back c.in_ok-push.ensures.ok c.loop-rest.invariant.so_far;
      sized = sized-more c.args.size _ _ _ long c.in_ok-push.ensures.ok c.loop-rest.invariant.sized;
    }

pub returns-clause-elements : goal.returns-clause-elements
returns-clause-elements c =
    let none = elements-none c.args.size c.loop-rest.rest.now (omega arith) in
    sym (append-nil c.loop-rest.list) ∙ (ap (λ es. c.loop-rest.list ++ es) (sym none) ∙ c.loop-rest.invariant.so_far)
