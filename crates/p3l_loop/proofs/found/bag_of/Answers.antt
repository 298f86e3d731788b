use Rattle.std.proofs.Common.{◌++◌, map, ap, ap₂, ◌∙◌}
use Rattle.p3l_firing.specs.Token.{untagged}
use Rattle.p3l_template.specs.Finding.{bares}
use Rattle.p3l_loop.specs.LoopKind.{seen_bag}
use Rattle.p3l_loop.proofs.found.bag_of.Goals as goal

pub returns : goal.returns
unfolding seen_bag
returns c =
    c.in_ok-add_untagged-2.ensures
    ∙ ap₂ (λ a b. a ++ map untagged (bares b))
    (c.in_ok-add_untagged.ensures ∙ ap₂ (λ a b. a ++ map untagged (bares b)) c.new-bag.ensures c.as_slice.ensures) c.as_slice-2.ensures
    ∙ ap seen_bag c.seen.view_is
