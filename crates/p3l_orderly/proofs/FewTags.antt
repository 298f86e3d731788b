-- In a shot that fits a linked net no token has more tags than a token may have: each level of nodes adds two at most.
use Rattle.std.proofs.Common.{ℕ, zero, suc, ◌+◌, ◌*◌, ◌≤◌, List, [], ◌∷◌, ◌++◌, arith}
use Rattle.std.specs.List.{AllByRecursion}
use Rattle.p3l_skel.specs.declared.tree.Tree.{Tree}
use Rattle.p3l_skel.specs.Counts.{count_of}
use Rattle.p3l_skel.specs.Tree.{nesting, part_at}
use Rattle.p3l_firing.specs.Token.{most_tags}
use Rattle.p3l_firing.specs.Shot.{HaveFewTags}
use Rattle.p3l_firing.specs.declared.net.Net.{Net}
use Rattle.p3l_firing.specs.declared.shot.Shot.{Shot}
use Rattle.p3l_net.specs.Fitting.{Fitting}
use Rattle.p3l_net.proofs.Saving.{fits_held}
use Rattle.p3l_template.specs.Kind.{Kind}
use Rattle.p3l_template.specs.Shape.{Base, Slot}
use Rattle.p3l_template.specs.Tagged.{IsNear}
use Rattle.p3l_template.specs.Width.{width_at}
use Rattle.p3l_template.specs.declared.width.Width.{Width}
use Rattle.p3l_link.specs.Net.{base_at, root_base}
use Rattle.p3l_link.specs.Shape.{kind_at}
use Rattle.p3l_link.proofs.AnyKind.{tagged_at}
use Rattle.p3l_fitting.specs.Survey.{inner_survey, linked_loops, linked_survey, linked_widths, node_survey}
use Rattle.p3l_fitting.specs.declared.survey.Survey.{Survey}
use Rattle.p3l_orderly.proofs.SavedSteps.{few_of_held}

abbrev IsFew : ℕ → Width → Type 0
IsFew most x = x.tags ≤ most

abbrev AreFew : ℕ → List Width → Type 0
AreFew most row = AllByRecursion (IsFew most) row

few_append : (most : ℕ) (xs ys : List Width) → AreFew most xs → AreFew most ys → AreFew most (xs ++ ys)
few_append most [] ys one other = other
few_append most (x ∷ xs) ys one other = (one.0, few_append most xs ys one.1 other)

few_at : (most : ℕ) (row : List Width) (c : ℕ) → AreFew most row → (width_at row c).tags ≤ most
few_at most [] c few = omega arith
few_at most (x ∷ xs) zero few = few.0
few_at most (x ∷ xs) (suc c) few = few_at most xs c few.1

-- the channels that a node places itself have two tags more at most
few_near : (most t : ℕ) (row : List Width) → t + 2 ≤ most → AllByRecursion (IsNear t) row → AreFew most row
few_near most t [] low near = tt
few_near most t (x ∷ xs) low near = (omega (arith, low, near.0.1), few_near most t xs low near.1)

few_inner : (most : ℕ) (g : ℕ → Base → Survey) → ((v : ℕ) (b : Base) → AreFew most (g v b).widths) → (slots : List Slot) (p c : ℕ) →
    AreFew most (inner_survey g slots p c).widths
unfolding inner_survey
few_inner most g each [] p c = tt
few_inner most g each (x ∷ xs) p c = few_append most _ _ (each x.part (base_at x p c)) (few_inner most g each xs _ _)

few_node : (tree : Tree) (count : ℕ → ℕ) (most d k t : ℕ) (base : Base) → t + 2 * d ≤ most →
    AreFew most (node_survey tree count d k t base).widths
unfolding node_survey
few_node tree count most zero k t base low = tt
few_node tree count most (suc d) k t base low =
    let kind : Kind = kind_at tree count k in
    let tagged = tagged_at tree count k in
    let shallow = tagged.shallow in
    few_append most (kind.widths tree k t) _ (few_near most t (kind.widths tree k t) (omega (arith, low)) (tagged.near t))
    (few_inner most (λ v. node_survey tree count d (part_at tree k v) (t + kind.deeper))
    (λ v b. few_node tree count most d (part_at tree k v) (t + kind.deeper) b (omega (arith, low, shallow))) (kind.shape.slots base) _ _)

few_linked : (tree : Tree) (counts : List ℕ) (c : ℕ) → (linked_widths tree counts).tags c ≤ most_tags
unfolding linked_survey
few_linked tree counts c =
    few_at most_tags (linked_survey tree counts).widths c
    (omega arith, (omega arith, few_node tree (count_of tree counts) most_tags nesting 0 0 root_base (omega arith)))

pub fitting_few : (tree : Tree) (counts : List ℕ) (net : Net) (shot : Shot) →
    Fitting tree net (linked_widths tree counts) (linked_loops tree counts) shot → HaveFewTags shot
fitting_few tree counts net shot fitting =
    few_of_held net shot (fits_held tree net (linked_widths tree counts) (few_linked tree counts) shot fitting.fits)
