use Rattle.std.proofs.Common.{◌≡◌, ◌≤◌, ◌+◌, ◌-◌, ℕ, zero, suc, List, [], ◌∷◌, length, slice_index_or, Option, refl, sym, ap, ◌∙◌, arith}
use Rattle.p3l_base.specs.Cut.{element_count}
use Rattle.p3l_base.specs.declared.cut.Cut.{Cut}
use Rattle.p3l_skel.specs.declared.tree.Form.{Form}
use Rattle.p3l_skel.specs.declared.tree.Form.TheVariants as form
use Rattle.p3l_skel.specs.declared.tree.Node.{Node}
use Rattle.p3l_skel.specs.Tree.{no_node}
use Rattle.p3l_firing.specs.Nodes.{cut_of, last_element}
use Rattle.p3l_map.proofs.found.number_of_pieces.Goals as goal

past : (nodes : List Node) (k : ℕ) → length nodes ≤ k → slice_index_or nodes k no_node ≡ no_node
past [] k l = refl
past (x ∷ xs) zero l = absurd (omega arith)
past (x ∷ xs) (suc k) l = past xs k (omega arith)

pub returns-in_default : goal.returns-in_default
unfolding last_element
returns-in_default c = ap (λ (n : Node). suc (element_count (cut_of n.form) - 1)) (sym (past c.args.tree.now.nodes c.args.node c.in_default.ensures.past))

pub returns-in-Map : goal.returns-in-Map
unfolding last_element
returns-in-Map c =
    let one : c.saturating_sub.result + 1 ≡ suc c.saturating_sub.result = omega arith in
    one ∙ ap suc c.saturating_sub.ensures
    ∙ ap (λ f. suc (element_count (cut_of f) - 1)) (sym c.in-Map.is)
    ∙ ap (λ (n : Node). suc (element_count (cut_of n.form) - 1)) c.in-Some.ensures.found

others : (f : Form) → ((workers : Option ℕ) (cut : Cut) → f ≡ form.Map workers cut → ⊥) → 1 ≡ suc (element_count (cut_of f) - 1)
others form.Seq h = refl
others form.Comp h = refl
others form.Pipe h = refl
others (form.Farm workers) h = refl
others (form.Map workers cut) h = absurd (h workers cut refl)
others (form.Reduce workers len elem) h = refl
others (form.Loop turns tokens) h = refl

pub returns-in_default-form : goal.returns-in_default-form
unfolding last_element
returns-in_default-form c =
    others c.in-Some.found.now.form c.in_default-form.not-Map ∙ ap (λ (n : Node). suc (element_count (cut_of n.form) - 1)) c.in-Some.ensures.found
