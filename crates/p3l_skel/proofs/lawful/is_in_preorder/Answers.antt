use Rattle.std.proofs.Common.{eq-eqb, eqb-true, sym, ◌∙◌, subst}
use Rattle.p3l_skel.specs.Lawful.{IsSubtree}
use Rattle.p3l_skel.proofs.Subtrees.{IsSubtree-unique}
use Rattle.p3l_skel.proofs.lawful.is_in_preorder.Goals as goal

pub returns-in-Some : goal.returns-in-Some
returns-in-Some c = (
  λ yes. subst (λ end. IsSubtree 6 c.args.tree.now 0 end) (eqb-true _ _ yes ∙ c.len.ensures) c.in-Some.ensures.ok,
  λ whole. eq-eqb _ _ (IsSubtree-unique 6 c.args.tree.now 0 _ _ c.in-Some.ensures.ok whole ∙ sym c.len.ensures),
)
