-- The walk down the tree that takes the first counts within a service time and a number of processes.
use Rattle.std.specs.Prelude.{◌≡◌, ℕ, suc, ◌+◌, ◌-◌, ◌/◌, ◌<◌, ◌≤◌, min, List, [], ◌∷◌, ◌++◌, nat_le, if◌then◌else◌, slice_index_or}
use Rattle.p3l_skel.specs.declared.tree.Tree.{Tree}
use Rattle.p3l_skel.specs.Lawful.{IsSubtree}
use Rattle.p3l_skel.specs.Numbers.{joined_procs}
use Rattle.p3l_model.specs.declared.cost.Span.{Span}
use Rattle.p3l_model.specs.declared.cost.Sharing.{Sharing}
use Rattle.p3l_model.specs.declared.cost.FoldCost.{FoldCost}
use Rattle.p3l_model.specs.NodeCost.{never, segments_service}
use Rattle.p3l_model.specs.Costed.{Costed, IsIn, AreSegments, run_procs}
use Rattle.p3l_model.specs.Least.{Serves, part_bound}
use Rattle.p3l_model.specs.Optimal.{IsNoLater}
use Rattle.p3l_alloc.specs.Table.{row_in}

-- the first number of processes with which a row stays within a time
abbrev pub first_within : ℕ → List ℕ → ℕ
first_within time [] = 0
first_within time (x ∷ xs) = if nat_le x time then 0 else suc (first_within time xs)

-- the processes with which some stages stay within a time, each with as few as it can
abbrev pub least_of : Tree → List (List ℕ) → ℕ → ℕ → ℕ
least_of tree rows time part = first_within time (row_in tree rows part)

-- the last time before never
abbrev pub latest : ℕ
latest = 1267650600228229401496703205375

-- the time within which the part of n workers has to stay, as far as times are counted
abbrev pub part_time : Sharing → ℕ → ℕ → ℕ
part_time h time n = min (part_bound h time n) latest

-- the counts are the first that stay within a time t and p processes
pub record IsFirst (a : Costed) (t p : ℕ) (xs : List ℕ) : Type 0 where
  pub serves : Serves a t xs
  pub few : run_procs a xs ≤ p
  pub first : (ys : List ℕ) → Serves a t ys → run_procs a ys ≤ p → IsNoLater xs ys

-- some counts stay within a time t and p processes
pub record CanServe (a : Costed) (t p : ℕ) : Type 0 where
  pub counts : List ℕ
  pub serves : Serves a t counts
  pub few : run_procs a counts ≤ p

-- l is the least number of processes of counts that stay within a time, where some do with no more than cap
pub record IsFewest (a : Costed) (t cap l : ℕ) : Type 0 where
  pub below : (xs : List ℕ) → Serves a t xs → run_procs a xs ≤ cap → l ≤ run_procs a xs
  pub reached : (xs : List ℕ) × Serves a t xs × (run_procs a xs ≡ l)

-- a list has grown by the first counts, which take `used` processes
pub record AddsFirst (a : Costed) (t p : ℕ) (before after : List ℕ) (used : ℕ) : Type 0 where
  pub counts : List ℕ
  pub joined : after ≡ before ++ counts
  pub first : IsFirst a t p counts
  pub cost : used ≡ run_procs a counts

-- the first number of workers with which the part can stay within its time
pub record IsFirstCount (r : Span) (h : Sharing) (row : List ℕ) (t p n : ℕ) : Type 0 where
  pub inside : IsIn r n
  pub room : n + 2 ≤ p
  pub here : slice_index_or row ((p - 2) / n) never ≤ part_time h t n
  pub before : (m : ℕ) → IsIn r m → m < n → part_time h t m < slice_index_or row ((p - 2) / m) never

-- the first number of segments that stays within a time t and p processes
pub record IsFirstSegments (r : Span) (fold : FoldCost) (t p m : ℕ) : Type 0 where
  pub inside : AreSegments r m
  pub few : joined_procs m ≤ p
  pub soon : segments_service fold m ≤ t
  pub before : (n : ℕ) → AreSegments r n → n < m → joined_procs n ≤ p → t < segments_service fold n

-- `levels` levels are enough for a node
pub record IsWithin (tree : Tree) (levels node : ℕ) : Type 0 where
  pub next : ℕ
  pub deep : IsSubtree levels tree node next
