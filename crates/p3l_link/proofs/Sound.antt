-- THE INDUCTION OVER THE TREE, from the templates' law alone: every placed node is a lawful part, means what its node means, fires
-- as often, and lies where its piece does.
use Rattle.std.proofs.Common.{ℕ, zero, suc, ◌<◌}
use Rattle.p3l_skel.specs.Tree.{part_at}
use Rattle.p3l_skel.specs.Lawful.{IsLawfulTree}
use Rattle.p3l_firing.specs.declared.net.Net.{Net}
use Rattle.p3l_template.specs.Placed.{IsGoodBase, AreStanding, AreLaid}
use Rattle.p3l_template.specs.Shape.{Base}
use Rattle.p3l_template.specs.Units.{Units}
use Rattle.p3l_link.specs.Counts.{IsCounted}
use Rattle.p3l_link.specs.Laws.{IsPartAt, EveryPlacedNodeIsAPart}
use Rattle.p3l_link.specs.Net.{piece_of}
use Rattle.p3l_link.specs.Part.{role_of, part_of}
use Rattle.p3l_link.specs.Shape.{shape_at}
use Rattle.p3l_link.proofs.Counted.{counted_there, counted_own, shape_lawful, slot_counted}
use Rattle.p3l_link.proofs.ShapeSound.{shape_sound}

-- every placed node is sound
module _ (net : Net) (units : Units) (lawful : IsLawfulTree units.tree) (count : ℕ → ℕ) (cap : ℕ) (pos : 0 < cap) where
  pub sound : (d k : ℕ) (base : Base) → IsCounted units.tree count d k → IsGoodBase net base →
      AreStanding net base.proc (piece_of units.tree count cap d k base).procs →
      AreLaid net base.chan (piece_of units.tree count cap d k base).chans →
      IsPartAt net units (role_of units count d k) base (piece_of units.tree count cap d k base) (part_of units count d k base)
  unfolding piece_of part_of role_of IsCounted
  sound zero k base counted good s o = absurd counted
  sound (suc d) k base counted good s o =
      let there = counted_there units.tree count (suc d) k counted in
      shape_sound net units (shape_at units.tree count k)
      (shape_lawful units.tree count k lawful there (counted_own units.tree count (suc d) k counted))
      (λ v. IsCounted units.tree count d (part_at units.tree k v))
      (λ v. role_of units count d (part_at units.tree k v))
      (λ v. piece_of units.tree count cap d (part_at units.tree k v))
      (λ v. part_of units count d (part_at units.tree k v))
      cap pos (λ v b may. sound d (part_at units.tree k v) b may)
      base (λ v slot. slot_counted units.tree count k lawful there base v slot d counted) good s o

pub placed_part : EveryPlacedNodeIsAPart
placed_part net units count cap d k base lawful pos counted stands =
    sound net units lawful count cap pos d k base counted stands.good stands.procs stands.chans
