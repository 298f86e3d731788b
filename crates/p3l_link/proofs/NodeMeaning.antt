-- Meanings of the nodes of a lawful tree, as functions of outcomes, by form and parts.
use Rattle.std.proofs.Common.{◌≡◌, ℕ, ℤ, ◌<◌, List, [], ◌∷◌, length, slice_index, Option, refl, sym, ap, ◌∙◌, subst}
use Rattle.p3l_base.specs.declared.outcome.Outcome.{Outcome}
use Rattle.p3l_base.specs.declared.outcome.Outcome.TheVariants.{Value, Trapped}
use Rattle.p3l_skel.specs.declared.tree.Form.{Form}
use Rattle.p3l_skel.specs.declared.tree.Form.TheVariants.{Farm}
use Rattle.p3l_skel.specs.Tree.{node_at, part_at, HasLength, GivesOuts}
use Rattle.p3l_skel.specs.Item.{item, item_row, rescued_at}
use Rattle.p3l_skel.specs.Lawful.{IsLawfulTree, IsLawfulForm, HasOnePart, HasWords}
use Rattle.p3l_skel.proofs.Depth.{lawful_at, item-by_parts}
use Rattle.p3l_skel.proofs.Kept.{item-keeps}
use Rattle.p3l_firing.proofs.LawfulForms.{fits_ins}
use Rattle.p3l_template.specs.Units.{Units, outcome_at}
use Rattle.p3l_link.specs.Means.{Means}

one_part : (P : ℕ → Type 0) (parts : List ℕ) → HasOnePart P parts → P (slice_index parts 0)
one_part P [] h = absurd h
one_part P (p ∷ []) h = h
one_part P (p ∷ (r ∷ parts)) h = absurd h

module _ (units : Units) (lawful : IsLawfulTree units.tree) (node : ℕ) (inside : node < length units.tree.nodes) where
  pub form_at : (form : Form) → (node_at units.tree node).form ≡ form →
      IsLawfulForm units.tree form (node_at units.tree node).ins (node_at units.tree node).outs (node_at units.tree node).parts
  form_at form is =
      subst (λ f. IsLawfulForm units.tree f (node_at units.tree node).ins (node_at units.tree node).outs
      (node_at units.tree node).parts)
      is (lawful_at units.tree lawful node inside).form

  pub item_at : (form : Form) (words : List ℤ) → (node_at units.tree node).form ≡ form →
      item units.tree units.leaf node words
      ≡ item_row (rescued_at units.tree node) units.leaf (node_at units.tree node).module form (node_at units.tree node).parts (item units.tree units.leaf) words
  item_at form words is =
      item-by_parts units.tree units.leaf lawful node words inside
      ∙ ap (λ f. item_row (rescued_at units.tree node) units.leaf (node_at units.tree node).module f (node_at units.tree node).parts
      (item units.tree units.leaf) words) is

  -- the node's outcome for its in words has its out words
  pub outcome-keeps : GivesOuts units.tree units.leaf → (o : Outcome) → HasLength (node_at units.tree node).ins o →
      HasLength (node_at units.tree node).outs (outcome_at units node o)
  outcome-keeps gives (Trapped trap) long = tt
  outcome-keeps gives (Value words) long =
      let here = lawful_at units.tree lawful node inside in
      item-keeps units.tree units.leaf lawful gives node words inside
      (fits_ins units.tree (node_at units.tree node).form (node_at units.tree node).ins (node_at units.tree node).outs
      (length words)
      (node_at units.tree node).parts here.ins here.form long)

  -- a node that is one process
  pub run_means : Means units node (outcome_at units node)
  run_means = record { same = λ o long. refl }

  pub farm_part : {workers : Option ℕ} → (node_at units.tree node).form ≡ Farm workers →
      HasWords units.tree (part_at units.tree node 0) (node_at units.tree node).ins (node_at units.tree node).outs
  farm_part {workers = workers} is = one_part _ (node_at units.tree node).parts (form_at (Farm workers) is)

  farm_outcome : {workers : Option ℕ} → (node_at units.tree node).form ≡ Farm workers → (o : Outcome) →
      outcome_at units (part_at units.tree node 0) o ≡ outcome_at units node o
  farm_outcome is (Trapped trap) = refl
  farm_outcome {workers = workers} is (Value words) = sym (item_at (Farm workers) words is)

  -- a farm does what its part does
  pub farm_means : {workers : Option ℕ} (f : Outcome → Outcome) → (node_at units.tree node).form ≡ Farm workers →
      Means units (part_at units.tree node 0) f → Means units node f
  farm_means f is part =
      record {
        same = λ o long.
            part.same o (subst (λ n. HasLength n o) (sym (farm_part is).takes) long) ∙ farm_outcome is o;
      }
