-- The service time and the processes that the best counts have.
use Rattle.std.specs.Prelude.{◌≡◌, ℕ, List, slice_index_or}
use Rattle.p3l_skel.specs.declared.tree.Tree.{Tree}
use Rattle.p3l_skel.specs.Numbers.{procs}
use Rattle.p3l_cost.specs.declared.costs.Costs.{Costs}
use Rattle.p3l_model.specs.NodeCost.{never}
use Rattle.p3l_model.specs.Optimal.{IsOptimal}
use Rattle.p3l_model.specs.Service.{service}
use Rattle.p3l_alloc.specs.declared.allocation.Best.{Best}
use Rattle.p3l_alloc.specs.Table.{row_in}
use Rattle.p3l_alloc.specs.Walk.{first_within}

-- the service time and the processes of optimal counts, which are the same of all optimal counts
pub record IsBest (tree : Tree) (costs : Costs) (processors : ℕ) (best : Best) : Type 0 where
  pub counts : List ℕ
  pub optimal : IsOptimal tree costs processors counts
  pub time : best.service ≡ service tree costs counts 0
  pub processes : best.used ≡ procs tree counts 0

-- the best of a table for a number of processors: the soonest service time of the root, and the first number
-- of processes with which the root has it
abbrev pub best_at : Tree → List (List ℕ) → ℕ → Best
best_at tree rows processors = record {
  service = slice_index_or (row_in tree rows 0) processors never;
  used = first_within (slice_index_or (row_in tree rows 0) processors never) (row_in tree rows 0);
}
