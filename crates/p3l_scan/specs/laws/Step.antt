-- Results of the steps of a plan have the words of their nodes.
use Rattle.std.proofs.Common.{◌≡◌, ℕ, ℤ, ◌*◌, ◌^◌, ◌<◌, Bool, true, false, inl, inr, List, length, refl, arith, ap, sym, ◌∙◌, subst}
use Rattle.std.specs.Prelude.{nat_eq}
use Rattle.std.proofs.lemmas.Bool.Decides.{nat_tests}
use Rattle.p3l_base.specs.declared.outcome.Outcome.{Outcome}
use Rattle.p3l_base.specs.declared.outcome.Outcome.TheVariants.{Value, Trapped}
use Rattle.p3l_skel.specs.declared.tree.Form.TheVariants.{Seq, Pipe}
use Rattle.p3l_skel.specs.declared.tree.Node.{Node}
use Rattle.p3l_skel.specs.Tree.{GivesOuts, HasLength, node_at}
use Rattle.p3l_scan.specs.Plan.{plan_tree, step_node, step_of}
use Rattle.p3l_scan.specs.Step.{fitted, step_leaf}
use Rattle.p3l_scan.specs.laws.Nodes.{node-cases, nodes-length, root_is, stage_is, step_is}

fits : (n home : ℕ) (words : List ℤ) (b : Bool) → nat_eq (length words) n ≡ b → HasLength n (fitted n home (Value words))
fits n home words true e = let same : length words ≡ n = grind (arith, nat_tests) in rw e same
fits n home words false e = rw e tt

-- a fitted outcome has `n` words
pub fitted_fits : (n home : ℕ) (outcome : Outcome) → HasLength n (fitted n home outcome)
fitted_fits n home (Trapped trap) = tt
fitted_fits n home (Value words) = fits n home words (nat_eq (length words) n) refl

pub leaf_fits : (elem : ℕ) (operator : List ℤ → Outcome) (home n : ℕ) (words : List ℤ) → length words ≡ n →
    HasLength n (step_leaf elem operator home words)
unfolding step_leaf
leaf_fits elem operator home n words e =
    subst (λ k. HasLength k (step_leaf elem operator home words)) e (fitted_fits (length words) home _)

pub gives_outs : (d words elem : ℕ) (operator : List ℤ → Outcome) → GivesOuts (plan_tree d words) (step_leaf elem operator)
gives_outs d words elem operator k ws there form long =
    elim (node-cases d k (subst (λ n. k < n) (nodes-length d words) there)) [
      | inl e ↦
          let never : Pipe ≡ Seq =
          sym (ap (λ (n : Node). n.form) (ap (node_at (plan_tree d words)) e ∙ root_is d words)) ∙ form in cc
      | inr more ↦ elim more [
        | inl (s, l, e) ↦
            let is = ap (node_at (plan_tree d words)) e ∙ stage_is d words s l in
            let never = sym (ap (λ (n : Node). n.form) is) ∙ form in cc
        | inr (s, l, e) ↦
            let is = ap (node_at (plan_tree d words)) e ∙ step_is d words s l in
            let takes : length ws ≡ (step_of s (2 ^ s * words)).ins = long ∙ ap (λ (n : Node). n.ins) is in
            subst (λ (n : Node). HasLength n.outs (step_leaf elem operator n.module ws)) (sym is)
            (leaf_fits elem operator (step_node s) (step_of s (2 ^ s * words)).ins ws takes)
      ]
    ]
