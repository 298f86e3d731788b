-- The whole tree and the tree with its costs put in.
use Rattle.std.proofs.Common.{◌≡◌, ℕ, ◌≤◌, List, length, refl, arith}
use Rattle.p3l_skel.specs.declared.tree.Tree.{Tree}
use Rattle.p3l_skel.specs.Counts.{count_of, HasLawfulCounts}
use Rattle.p3l_skel.specs.Lawful.{IsLawfulTree}
use Rattle.p3l_skel.specs.Numbers.{Fits, procs}
use Rattle.p3l_cost.specs.declared.costs.Costs.{Costs}
use Rattle.p3l_cost.specs.Costs.{AreCostsOf}
use Rattle.p3l_model.specs.Service.{service}
use Rattle.p3l_model.specs.Costed.{costed, run_procs, run_service}
use Rattle.p3l_model.specs.Least.{FitsRun}
use Rattle.p3l_model.proofs.Bounds.{slowest-root}
use Rattle.p3l_model.proofs.Connect.{IsCostedAt, costed_at}

module _ (tree : Tree) (costs : Costs) (lawful : IsLawfulTree tree) (priced : AreCostsOf tree costs) where
  pub root_costed : IsCostedAt tree costs 6 0
  root_costed = costed_at tree costs lawful priced 6 0 (length tree.nodes) lawful.preorder

  pub procs_whole : (counts : List ℕ) → HasLawfulCounts tree counts → procs tree counts 0 ≡ run_procs (costed tree costs 0) counts
  procs_whole counts takes = root_costed.matches.procs_is (count_of tree counts) counts (λ x h. refl) takes

  pub service_whole : (counts : List ℕ) → HasLawfulCounts tree counts → service tree costs counts 0 ≡ run_service (costed tree costs 0) counts
  service_whole counts takes = root_costed.matches.service_is (count_of tree counts) counts (λ x h. refl) takes (slowest-root tree costs lawful priced)

  pub fits_run : (processors : ℕ) (counts : List ℕ) → Fits tree processors counts → FitsRun (costed tree costs 0) processors counts
  fits_run processors counts fits = record {
    lawful = root_costed.matches.into counts fits.lawful;
    few = let few = fits.few in omega (arith, few, procs_whole counts fits.lawful);
  }

  pub run_fits : (processors : ℕ) (counts : List ℕ) → FitsRun (costed tree costs 0) processors counts → Fits tree processors counts
  run_fits processors counts run =
      let takes = root_costed.matches.out counts run.lawful in
      record { lawful = takes; few = let few = run.few in omega (arith, few, procs_whole counts takes) }
