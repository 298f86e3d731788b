-- A tree with its costs put in, and what counts make of it. The counts of a tree are a list, one for each farm,
-- map and reduce outside units in preorder; those of a part are a run of that list.
use Rattle.std.specs.Prelude.{◌≡◌, ℕ, zero, suc, ◌+◌, ◌*◌, ◌≤◌, ◌<◌, max, List, [], ◌∷◌, take, drop, slice_index, ⊤}
use Rattle.std.specs.Int.{IsPowerOfTwo}
use Rattle.p3l_skel.specs.declared.tree.Tree.{Tree}
use Rattle.p3l_skel.specs.Tree.{node_at, by_parts, nesting}
use Rattle.p3l_skel.specs.Numbers.{joined_procs}
use Rattle.p3l_cost.specs.declared.costs.Costs.{Costs}
use Rattle.p3l_model.specs.declared.cost.Span.{Span}
use Rattle.p3l_model.specs.declared.cost.Sharing.{Sharing}
use Rattle.p3l_model.specs.declared.cost.Sharing.TheVariants.{Items, Elements}
use Rattle.p3l_model.specs.declared.cost.FoldCost.{FoldCost}
use Rattle.p3l_model.specs.declared.cost.NodeCost.{NodeCost}
use Rattle.p3l_model.specs.declared.cost.NodeCost.TheVariants as cost
use Rattle.p3l_model.specs.NodeCost.{shared, segments_service, node_cost}

pub data Costed : Type 0 where
  -- no stage
  Empty : Costed
  -- a process with its service time
  Leaf : ℕ → Costed
  -- a stage and those that follow it
  Both : Costed → Costed → Costed
  -- the lawful numbers of workers, how they share the work, the greater of the two ends, the part
  Workers : Span → Sharing → ℕ → Costed → Costed
  -- the lawful numbers of segments, and what they cost
  Segments : Span → FoldCost → Costed
  -- the expected turns, the greater of the two ends, the body
  Loop : ℕ → ℕ → Costed → Costed

-- a number lies in a span
abbrev pub IsIn : Span → ℕ → Type 0
IsIn r n = (1 ≤ n) × (r.low ≤ n) × (n ≤ r.high)

-- a number of segments is a power of two that lies in a span
abbrev pub AreSegments : Span → ℕ → Type 0
AreSegments r m = IsPowerOfTwo m × IsIn r m

-- the number of counts of a tree
unfoldable pub size : Costed → ℕ
size Empty = 0
size (Leaf s) = 0
size (Both a b) = size a + size b
size (Workers r h e a) = 1 + size a
size (Segments r fold) = 1
size (Loop t e a) = size a

-- the processes that a run of counts makes
unfoldable pub run_procs : Costed → List ℕ → ℕ
run_procs Empty xs = 0
run_procs (Leaf s) xs = 1
run_procs (Both a b) xs = run_procs a (take (size a) xs) + run_procs b (drop (size a) xs)
run_procs (Workers r h e a) [] = 0
run_procs (Workers r h e a) (n ∷ xs) = 2 + n * run_procs a xs
run_procs (Segments r fold) [] = 0
run_procs (Segments r fold) (m ∷ xs) = joined_procs m
run_procs (Loop t e a) xs = 2 + run_procs a xs

-- the service time with a run of counts
unfoldable pub run_service : Costed → List ℕ → ℕ
run_service Empty xs = 0
run_service (Leaf s) xs = s
run_service (Both a b) xs = max (run_service a (take (size a) xs)) (run_service b (drop (size a) xs))
run_service (Workers r h e a) [] = 0
run_service (Workers r h e a) (n ∷ xs) = max e (shared h n (run_service a xs))
run_service (Segments r fold) [] = 0
run_service (Segments r fold) (m ∷ xs) = segments_service fold m
run_service (Loop t e a) xs = max e (t * run_service a xs)

-- lawful counts, as many as the tree has
unfoldable pub IsLawfulRun : Costed → List ℕ → Type 0
IsLawfulRun Empty xs = xs ≡ []
IsLawfulRun (Leaf s) xs = xs ≡ []
IsLawfulRun (Both a b) xs = IsLawfulRun a (take (size a) xs) × IsLawfulRun b (drop (size a) xs)
IsLawfulRun (Workers r h e a) [] = ⊥
IsLawfulRun (Workers r h e a) (n ∷ xs) = IsIn r n × IsLawfulRun a xs
IsLawfulRun (Segments r fold) [] = ⊥
IsLawfulRun (Segments r fold) (m ∷ xs) = AreSegments r m × (xs ≡ [])
IsLawfulRun (Loop t e a) xs = IsLawfulRun a xs

-- the greatest of f up to a number, from 1 on
unfoldable pub greatest_up_to : (ℕ → ℕ) → ℕ → ℕ
greatest_up_to f zero = 0
greatest_up_to f (suc n) = max (greatest_up_to f n) (f (suc n))

-- no counts have a greater service time
unfoldable pub slowest : Costed → ℕ
slowest Empty = 0
slowest (Leaf s) = s
slowest (Both a b) = max (slowest a) (slowest b)
slowest (Workers r (Items) e a) = max e (slowest a)
slowest (Workers r (Elements m) e a) = max e (m * slowest a)
slowest (Segments r fold) = greatest_up_to (segments_service fold) r.high
slowest (Loop t e a) = max e (t * slowest a)

-- the tree takes a process
unfoldable pub HasProcess : Costed → Type 0
HasProcess Empty = ⊥
HasProcess (Leaf s) = ⊤
HasProcess (Both a b) = HasProcess a
HasProcess (Workers r h e a) = ⊤
HasProcess (Segments r fold) = ⊤
HasProcess (Loop t e a) = ⊤

-- workers have something to share
abbrev pub IsSharing : Sharing → Type 0
IsSharing Items = ⊤
IsSharing (Elements m) = 0 < m

-- farms and maps have a part that takes a process, and loops turn
unfoldable pub IsSound : Costed → Type 0
IsSound Empty = ⊤
IsSound (Leaf s) = ⊤
IsSound (Both a b) = IsSound a × IsSound b
IsSound (Workers r h e a) = IsSharing h × HasProcess a × IsSound a
IsSound (Segments r fold) = ⊤
IsSound (Loop t e a) = (0 < t) × IsSound a

-- the stages of a pipe
unfoldable pub stages : (ℕ → Costed) → List ℕ → Costed
stages below [] = Empty
stages below (p ∷ ps) = Both (below p) (stages below ps)

-- a node of this cost over its parts
unfoldable pub costed_row : NodeCost → (ℕ → Costed) → List ℕ → Costed
costed_row (cost.Unit s) below parts = Leaf s
costed_row cost.Stages below parts = stages below parts
costed_row (cost.Workers r h e) below parts = Workers r h e (below (slice_index parts 0))
costed_row (cost.Segments r fold) below parts = Segments r fold
costed_row (cost.Loop t e) below parts = Loop t e (below (slice_index parts 0))

-- a node with its costs put in, down to a depth
unfoldable pub costed_by : Tree → Costs → ℕ → ℕ → Costed
costed_by tree costs =
    by_parts (λ below k. costed_row (node_cost tree costs k) below (node_at tree k).parts) (λ k. Empty)

-- a node with its costs put in
abbrev pub costed : Tree → Costs → ℕ → Costed
costed tree costs node = costed_by tree costs nesting node
