-- Nodes that can be placed: they are there, and those that have a number of workers or segments
-- have a lawful one.
use Rattle.std.specs.Prelude.{ℕ, zero, suc, ◌<◌, length, ⊤}
use Rattle.std.specs.List.{AllByRecursion}
use Rattle.p3l_skel.specs.declared.tree.Form.{Form}
use Rattle.p3l_skel.specs.declared.tree.Form.TheVariants.{Seq, Comp, Pipe, Farm, Map, Reduce, Loop}
use Rattle.p3l_skel.specs.declared.tree.Tree.{Tree}
use Rattle.p3l_skel.specs.Counts.{IsLawfulCount, outside_parts}
use Rattle.p3l_skel.specs.Tree.{node_at}

-- the number of a node of this form, if it has one, is lawful
abbrev pub HasOwnCount : Form → ℕ → Type 0
HasOwnCount Seq n = ⊤
HasOwnCount Comp n = ⊤
HasOwnCount Pipe n = ⊤
HasOwnCount (Farm workers) n = IsLawfulCount (Farm workers) n
HasOwnCount (Map workers cut) n = IsLawfulCount (Map workers cut) n
HasOwnCount (Reduce workers len elem) n = IsLawfulCount (Reduce workers len elem) n
HasOwnCount (Loop turns tokens) n = ⊤

-- node k is there, nested at most d deep, and so are its parts outside units; each has a lawful
-- number, if it has one
unfoldable pub IsCounted : Tree → (ℕ → ℕ) → (d k : ℕ) → Type 0
IsCounted tree count zero k = ⊥
IsCounted tree count (suc d) k =
    (k < length tree.nodes) × HasOwnCount (node_at tree k).form (count k)
    × AllByRecursion (IsCounted tree count d) (outside_parts (node_at tree k).form (node_at tree k).parts)
