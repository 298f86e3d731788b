-- Programs that serve in another's place, decided by their trees.
use Rattle.std.proofs.Common.{◌≡◌, ℕ, Option, Some, None, sym, ap, ◌∙◌, subst}
use Rattle.p3l_ast.specs.Tree.{ProgramTree}
use Rattle.p3l_skel.specs.declared.tree.Tree.{Tree}
use Rattle.p3l_skel.specs.Numbers.{Fits}
use Rattle.p3l_cost.specs.declared.costs.Costs.{Costs}
use Rattle.p3l_cost.specs.Costs.{AreCostsOf}
use Rattle.p3l_check.specs.Resolving.{ResolvedTree}
use Rattle.p3l_model.specs.Optimal.{IsChosen}
use Rattle.p3l_model.specs.Service.{service}
use Rattle.p3l_rewrite.specs.Rewriting.{IsAccepted, costs_for, IsServed}
use Rattle.p3l_rewrite.specs.Costs.{KeepsCosts}
use Rattle.p3l_rewrite.specs.Serving.{HasTree, IsServiceTime}
use Rattle.p3l_rewrite.proofs.Best.{one_whole}

module _ (tree : Tree) (costs : Costs) (processors : ℕ) (other : ProgramTree) (own : Tree) (has : HasTree other own) where
  whole_tree : (a : IsAccepted other) → a.whole.tree ≡ own
  whole_tree a = ap (λ (w : ResolvedTree). w.tree) (one_whole other a has.accepted) ∙ sym has.tree_is

  -- its costs are costs of its tree, if they are of whatever tree it has
  pub own_costs : KeepsCosts tree costs other → AreCostsOf own (costs_for tree costs own)
  own_costs keeps =
      subst (λ t. AreCostsOf t (costs_for tree costs t)) (sym has.tree_is) (keeps has.accepted.whole has.accepted.resolves has.accepted.lawful)

  pub by_time : (o : Option ℕ) → IsServiceTime own (costs_for tree costs own) processors o → IsServed tree costs processors other o
  by_time None none = λ n s. none s.counts (subst (λ t. Fits t processors s.counts) (whole_tree s.accepted) s.chosen.optimal.fit)
  by_time (Some time) best = record {
    accepted = has.accepted;
    counts = best.counts;
    chosen = subst (λ t. IsChosen t (costs_for tree costs t) processors best.counts) has.tree_is best.chosen;
    time_is = best.time_is ∙ ap (λ t. service t (costs_for tree costs t) best.counts 0) has.tree_is;
  }
