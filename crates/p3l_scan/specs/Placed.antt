-- The linked net of a plan.
use Rattle.std.specs.Prelude.{◌≡◌, ℕ, ◌-◌, length}
use Rattle.p3l_skel.specs.declared.tree.Tree.{Tree}
use Rattle.p3l_skel.specs.Lawful.{IsLawfulTree}
use Rattle.p3l_link.specs.Net.{end_net, linked_net, own_piece, root_base, with_piece}
use Rattle.p3l_scan.specs.declared.plan.ScanPlan.{ScanPlan}
use Rattle.p3l_scan.specs.Planned.{IsPlanOf}
use Rattle.p3l_scan.specs.Template.{scan_shape}

-- the linked net of a plan of a lawful tree is the source, the sink and the scan's template between channels 0 and 1
abbrev pub LinksTheTemplate : Type 0
LinksTheTemplate =
    (tree : Tree) (segments cap : ℕ) (plan : ScanPlan) → IsLawfulTree tree → IsPlanOf tree segments plan →
    linked_net plan.tree plan.counts.list cap
    ≡ with_piece (end_net cap) (own_piece (scan_shape (length plan.counts.list - 1)) cap root_base)
