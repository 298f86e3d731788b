-- Properties of the kind of every node of a tree, whatever its form and its number.
use Rattle.std.proofs.Common.{◌≡◌, ℕ, List, ap, ap₂, ◌∙◌}
use Rattle.p3l_skel.specs.declared.tree.Tree.{Tree}
use Rattle.p3l_template.specs.Finding.{IsFoundShape}
use Rattle.p3l_template.specs.Kind.{Kind}
use Rattle.p3l_template.specs.Shape.{Base, Slot}
use Rattle.p3l_template.specs.Tagged.{IsTagged}
use Rattle.p3l_link.specs.Node.{kind_of}
use Rattle.p3l_link.specs.NodeLaw.{kind_found, kind_tagged}
use Rattle.p3l_link.specs.Shape.{kind_at, kind_row, template_at}
use Rattle.p3l_link.specs.declared.node.NodeTemplate.{NodeTemplate}

module _ (tree : Tree) (count : ℕ → ℕ) (k : ℕ) where
  -- a template that is the node's is of its kind
  pub kind_is : (t : NodeTemplate) → t ≡ template_at tree count k → kind_of t ≡ kind_at tree count k
  unfolding kind_at kind_row
  kind_is t e = ap kind_of e

  -- the slots that it gives at a place
  pub slots_are : (t : NodeTemplate) → kind_of t ≡ kind_at tree count k → (one base : Base) → one ≡ base → (slots : List Slot) →
      slots ≡ (kind_of t).shape.slots one → slots ≡ (kind_at tree count k).shape.slots base
  slots_are t is one base same slots e = e ∙ ap₂ (λ (z : Kind) (b : Base). z.shape.slots b) is same

  pub tagged_at : IsTagged (kind_at tree count k).deeper ((kind_at tree count k).widths tree k)
  unfolding kind_at kind_row
  tagged_at = kind_tagged (template_at tree count k) tree k

  pub found_at : IsFoundShape (kind_at tree count k).shape (kind_at tree count k).finds
  unfolding kind_at kind_row
  found_at = kind_found (template_at tree count k)
