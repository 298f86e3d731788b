-- Laws of every timed run, of any net, at any prices.
use Rattle.std.specs.Prelude.{◌≡◌, ℕ, ℤ, ◌≤◌, List, length}
use Rattle.p3l_skel.specs.declared.tree.Tree.{Tree}
use Rattle.p3l_firing.specs.declared.net.Net.{Net}
use Rattle.p3l_firing.specs.Fire.{IsStuck}
use Rattle.p3l_firing.specs.Nodes.{Leaf}
use Rattle.p3l_firing.specs.Run.{run}
use Rattle.p3l_timed.specs.Timed.{IsTimed, all_busy, busy_of, finish_of, timed_after, timing_from}

-- the picks of a timed run make the run of the net that any schedule's picks make: each of them fires, and at the end nothing can
pub record IsRun (tree : Tree) (leaf : Leaf) (net : Net) (price : ℕ → ℕ) (items : List (List ℤ)) (picks : List ℕ) : Type 0 where
  pub course : (timed_after tree leaf net price (timing_from tree net price items) picks).course ≡ run tree leaf net items picks
  pub each_fires : (run tree leaf net items picks).fired ≡ length picks
  pub none_idle : (run tree leaf net items picks).idle ≡ 0
  pub stuck : IsStuck tree net (run tree leaf net items picks).state

abbrev pub EveryTimedRunIsARun : Type 0
EveryTimedRunIsARun =
    (tree : Tree) (leaf : Leaf) (net : Net) (price : ℕ → ℕ) (items : List (List ℤ)) (picks : List ℕ)
    → IsTimed tree leaf net price items picks → IsRun tree leaf net price items picks

-- it lasts as long as any one process is busy at least, and at most as long as all are
pub record IsWithinBusy (tree : Tree) (leaf : Leaf) (net : Net) (price : ℕ → ℕ) (items : List (List ℤ)) (picks : List ℕ) : Type 0 where
  pub no_sooner : (p : ℕ) → busy_of price picks p ≤ finish_of tree leaf net price items picks
  pub no_later : finish_of tree leaf net price items picks ≤ all_busy price picks (length net.procs)

abbrev pub EveryFinishIsWithinBusy : Type 0
EveryFinishIsWithinBusy =
    (tree : Tree) (leaf : Leaf) (net : Net) (price : ℕ → ℕ) (items : List (List ℤ)) (picks : List ℕ)
    → IsTimed tree leaf net price items picks → IsWithinBusy tree leaf net price items picks
