-- The nodes that have a number of workers, and which numbers are lawful.
use Rattle.std.specs.Prelude.{◌≡◌, ℕ, ◌==◌, ◌≤◌, if◌then◌else◌, Option, Some, None, List, [], ◌∷◌, ◌++◌, take, ⊤}
use Rattle.std.specs.List.{flat_map}
use Rattle.std.specs.Int.{IsPowerOfTwo}
use Rattle.p3l_base.specs.Cut.{element_count}
use Rattle.p3l_base.specs.Limits.{most_workers}
use Rattle.p3l_skel.specs.declared.tree.Form.{Form}
use Rattle.p3l_skel.specs.declared.tree.Form.TheVariants.{Seq, Comp, Pipe, Farm, Map, Reduce, Loop}
use Rattle.p3l_skel.specs.declared.tree.Tree.{Tree}
use Rattle.p3l_skel.specs.Tree.{node_at, by_parts, nesting}

-- the parts of a node of this form, itself outside units, that are outside units too: what lies
-- below a comp or a reduce, or in a loop's condition, is in a unit
abbrev pub outside_parts : Form → List ℕ → List ℕ
outside_parts Seq parts = []
outside_parts Comp parts = []
outside_parts Pipe parts = parts
outside_parts (Farm w) parts = take 1 parts
outside_parts (Map w cut) parts = take 1 parts
outside_parts (Reduce w len elem) parts = []
outside_parts (Loop turns tokens) parts = take 1 parts

-- a node outside units and the nodes below it that are outside units, in preorder, down to a depth
unfoldable pub outside_from : Tree → ℕ → ℕ → List ℕ
outside_from tree =
    by_parts (λ below k. k ∷ flat_map below (outside_parts (node_at tree k).form (node_at tree k).parts)) (λ k. k ∷ [])

-- the nodes outside units, in preorder
abbrev pub outside : Tree → List ℕ
outside tree = outside_from tree nesting 0

-- the node itself, if it has a number of workers or segments
abbrev pub own_counted : Form → ℕ → List ℕ
own_counted Seq node = []
own_counted Comp node = []
own_counted Pipe node = []
own_counted (Farm w) node = node ∷ []
own_counted (Map w cut) node = node ∷ []
own_counted (Reduce w len elem) node = node ∷ []
own_counted (Loop turns tokens) node = []

-- of a node outside units and the nodes below it that are outside units the farms, maps and
-- reduces, in preorder, down to a depth
unfoldable pub counted_from : Tree → ℕ → ℕ → List ℕ
counted_from tree =
    by_parts (λ below k. own_counted (node_at tree k).form k ++ flat_map below (outside_parts (node_at tree k).form (node_at tree k).parts)) (λ k. [])

-- the nodes that have a number of workers or segments: the farms, maps and reduces outside units,
-- in preorder
abbrev pub counted : Tree → List ℕ
counted tree = counted_from tree nesting 0

-- a number of workers that a node of this form may have, whatever its clause says
abbrev pub IsCountInRange : Form → ℕ → Type 0
IsCountInRange Seq n = ⊥
IsCountInRange Comp n = ⊥
IsCountInRange Pipe n = ⊥
IsCountInRange (Farm w) n = (1 ≤ n) × (n ≤ most_workers)
IsCountInRange (Map w cut) n = (1 ≤ n) × (n ≤ element_count cut) × (n ≤ most_workers)
IsCountInRange (Reduce w len elem) n = IsPowerOfTwo n × (n ≤ len) × (n ≤ most_workers)
IsCountInRange (Loop turns tokens) n = ⊥

-- the `workers` clause of a form
abbrev pub workers_of : Form → Option ℕ
workers_of Seq = None
workers_of Comp = None
workers_of Pipe = None
workers_of (Farm w) = w
workers_of (Map w cut) = w
workers_of (Reduce w len elem) = w
workers_of (Loop turns tokens) = None

-- a number is the one that a clause gives, if it gives one
abbrev pub MeetsClause : Option ℕ → ℕ → Type 0
MeetsClause None n = ⊤
MeetsClause (Some m) n = n ≡ m

-- a lawful number of workers of a node of this form
abbrev pub IsLawfulCount : Form → ℕ → Type 0
IsLawfulCount form n = MeetsClause (workers_of form) n × IsCountInRange form n

-- the first of the numbers are lawful ones of these nodes, and the rest is left over
abbrev pub TakesLawful : Tree → List ℕ → List ℕ → List ℕ → Type 0
TakesLawful tree [] ns rest = ns ≡ rest
TakesLawful tree (k ∷ ks) [] rest = ⊥
TakesLawful tree (k ∷ ks) (n ∷ ns) rest = IsLawfulCount (node_at tree k).form n × TakesLawful tree ks ns rest

-- lawful counts of a tree: each node that has a number has a lawful one, and none is left over
abbrev pub HasLawfulCounts : Tree → List ℕ → Type 0
HasLawfulCounts tree counts = TakesLawful tree (counted tree) counts []

-- the number at the place of a node in these nodes, and 0 where it is none of them
abbrev pub count_in : List ℕ → List ℕ → ℕ → ℕ
count_in [] ns node = 0
count_in (k ∷ ks) [] node = 0
count_in (k ∷ ks) (n ∷ ns) node = if k == node then n else count_in ks ns node

-- the number of workers that the counts of a tree give a node
abbrev pub count_of : Tree → List ℕ → ℕ → ℕ
count_of tree counts node = count_in (counted tree) counts node
