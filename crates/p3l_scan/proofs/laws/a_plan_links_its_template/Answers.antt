use Rattle.std.proofs.Common.{◌≡◌, ◌-◌, length, ◌*◌, ap, ap₂, arith, ◌∙◌}
use Rattle.p3l_link.specs.Net.{end_net, linked_net, own_piece, root_base, with_piece}
use Rattle.p3l_scan.specs.Template.{scan_shape}
use Rattle.p3l_scan.proofs.Building.{counts-length}
use Rattle.p3l_scan.proofs.Planned.{plan_linked}
use Rattle.p3l_scan.proofs.Scannable.{small, some_words}
use Rattle.p3l_scan.proofs.laws.a_plan_links_its_template.Goals as goal

pub returns : goal.returns
returns c = λ tree segments cap plan lawful is.
    let can = is.can in
    let levels : can.levels ≡ length plan.counts.list - 1 =
    omega (arith, ap (λ ns. length ns) is.counts_are, counts-length can.levels) in
    ap₂ (λ t ns. linked_net t ns cap) is.tree_is is.counts_are
    ∙ plan_linked can.levels (can.size * can.elem) can.few (some_words tree lawful segments can) (small tree lawful segments can) cap
    ∙ ap (λ d. with_piece (end_net cap) (own_piece (scan_shape d) cap root_base)) levels
