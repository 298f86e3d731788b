use Rattle.std.proofs.Common.{◌≡◌, ℕ, ◌≤◌, List, [], ◌∷◌, length, slice_index_or, refl, sym, ap, ◌∙◌, zero, suc, arith}
use Rattle.p3l_skel.specs.declared.tree.Form.{Form}
use Rattle.p3l_skel.specs.declared.tree.Form.TheVariants as form
use Rattle.p3l_skel.specs.declared.tree.Node.{Node}
use Rattle.p3l_skel.specs.Tree.{no_node}
use Rattle.p3l_firing.specs.Nodes.{turns_of, most_turns}
use Rattle.p3l_loop.proofs.found.turns_of.Goals as goal

past : (nodes : List Node) (k : ℕ) → length nodes ≤ k → slice_index_or nodes k no_node ≡ no_node
past [] k l = refl
past (x ∷ xs) zero l = absurd (omega arith)
past (x ∷ xs) (suc k) l = past xs k (omega arith)

pub returns-in_default : goal.returns-in_default
unfolding turns_of
returns-in_default c = ap (λ (n : Node). most_turns n.form) (sym (past c.args.tree.now.nodes c.args.node c.in_default.ensures.past))

pub returns-in-Loop : goal.returns-in-Loop
unfolding turns_of
returns-in-Loop c = ap most_turns (sym c.in-Loop.is) ∙ ap (λ (n : Node). most_turns n.form) c.in-Some.ensures.found

others : (f : Form) → ((turns tokens : ℕ) → f ≡ form.Loop turns tokens → ⊥) → 0 ≡ most_turns f
others form.Seq h = refl
others form.Comp h = refl
others form.Pipe h = refl
others (form.Farm workers) h = refl
others (form.Map workers cut) h = refl
others (form.Reduce workers len elem) h = refl
others (form.Loop turns tokens) h = absurd (h turns tokens refl)

pub returns-in_default-form : goal.returns-in_default-form
unfolding turns_of
returns-in_default-form c = others c.in-Some.found.now.form c.in_default-form.not-Loop ∙ ap (λ (n : Node). most_turns n.form) c.in-Some.ensures.found
