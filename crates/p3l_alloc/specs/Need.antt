-- The least number of processes of any lawful counts.
use Rattle.std.specs.Prelude.{◌≡◌, ℕ, ◌≤◌, unwrap_or, List}
use Rattle.p3l_skel.specs.declared.tree.Form.{Form}
use Rattle.p3l_skel.specs.declared.tree.Tree.{Tree}
use Rattle.p3l_skel.specs.Tree.{node_at}
use Rattle.p3l_skel.specs.Counts.{workers_of, HasLawfulCounts}
use Rattle.p3l_skel.specs.Numbers.{procs}

-- the least lawful number of workers of a node of this form: its clause's number, else 1
abbrev pub least_count : Form → ℕ
least_count form = unwrap_or (workers_of form) 1

-- the least lawful number of workers of a node
abbrev pub least_at : Tree → ℕ → ℕ
least_at tree node = least_count (node_at tree node).form

-- no lawful counts have fewer processes, and some have this number
pub record IsLeastProcs (tree : Tree) (need : ℕ) : Type 0 where
  pub below : (counts : List ℕ) → HasLawfulCounts tree counts → need ≤ procs tree counts 0
  pub reached : (counts : List ℕ) × HasLawfulCounts tree counts × (procs tree counts 0 ≡ need)
