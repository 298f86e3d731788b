-- The processes of a node read its in channel and its own channels, and write its out channel and its own channels, each once: by one
-- recursion on the depth, from the templates' own law.
use Rattle.std.proofs.Common.{ℕ, zero, suc}
use Rattle.p3l_skel.specs.declared.tree.Tree.{Tree}
use Rattle.p3l_skel.specs.Lawful.{IsLawfulTree}
use Rattle.p3l_skel.specs.Tree.{part_at}
use Rattle.p3l_template.specs.Shape.{Base}
use Rattle.p3l_link.specs.Counts.{IsCounted}
use Rattle.p3l_link.specs.Net.{piece_of}
use Rattle.p3l_link.specs.Shape.{shape_at}
use Rattle.p3l_link.proofs.Counted.{slot_counted, shape_lawful}
use Rattle.p3l_link.proofs.Once.{HasOnce, whole_once}
use Rattle.p3l_link.proofs.Typing.{shape_typed}

-- the piece of any node reads and writes each of its channels once
pub piece_once : (tree : Tree) (count : ℕ → ℕ) (cap : ℕ) → IsLawfulTree tree → (d k : ℕ) (base : Base) → IsCounted tree count d k →
    HasOnce base (piece_of tree count cap d k base)
unfolding piece_of IsCounted
piece_once tree count cap lawful zero k base h = absurd h
piece_once tree count cap lawful (suc d) k base h =
    whole_once tree k cap (shape_at tree count k) (shape_lawful tree count k lawful h.0 h.1) (shape_typed tree count k lawful h.0 h.1)
    (λ v. piece_of tree count cap d (part_at tree k v)) base
    (λ v low b. piece_once tree count cap lawful d _ b (slot_counted tree count k lawful h.0 base v low d h))
