-- A node of a tree as a part of the net: what it makes of an outcome, and what its processes and
-- channels hold for it, by the same recursion as its processes and channels themselves.
use Rattle.std.specs.Prelude.{ℕ, zero, suc, ◌+◌, List, [], ◌∷◌, length}
use Rattle.p3l_skel.specs.Counts.{count_of}
use Rattle.p3l_skel.specs.Tree.{part_at, nesting}
use Rattle.p3l_template.specs.Part.{Part}
use Rattle.p3l_template.specs.Run.{run_part}
use Rattle.p3l_template.specs.Shape.{Base, Role, Slot, Blueprint}
use Rattle.p3l_template.specs.Units.{Units, outcome_at}
use Rattle.p3l_link.specs.Net.{base_at, root_base}
use Rattle.p3l_link.specs.Shape.{shape_at}

-- the outcome of node k for an outcome, and the number of its firings for a token, down to depth d; at depth 0
-- it is one process
unfoldable pub role_of : Units → (ℕ → ℕ) → (d k : ℕ) → Role
role_of units count zero k = record { meaning = outcome_at units k; firings = 1 }
role_of units count (suc d) k =
    let roles : ℕ → Role = λ v. role_of units count d (part_at units.tree k v) in
    record {
      meaning = (shape_at units.tree count k).meaning units roles;
      firings = (shape_at units.tree count k).firings units roles;
    }

-- the inner parts at these slots, one after the other, from process p and channel c on
unfoldable pub inner_parts : (ℕ → Base → Part) → List Slot → (p c : ℕ) → List Part
inner_parts part [] p c = []
inner_parts part (slot ∷ slots) p c =
    let here : Part = part slot.part (base_at slot p c) in here ∷ inner_parts part slots here.proc_to here.chan_to

-- a template round its inner parts, where it is known what each part of its node does, and what
-- part of the net it is
abbrev pub whole_part : Blueprint → Units → (ℕ → Role) → (ℕ → Base → Part) → Base → Part
whole_part shape units roles part base =
    shape.part units roles base
    (inner_parts part (shape.slots base) (base.proc + length (shape.procs base)) (base.chan + shape.chans base))

-- node k, with all that is below it down to depth d
unfoldable pub part_of : Units → (ℕ → ℕ) → (d k : ℕ) → Base → Part
part_of units count zero k base = run_part (outcome_at units k) base
part_of units count (suc d) k base =
    whole_part (shape_at units.tree count k) units (λ v. role_of units count d (part_at units.tree k v))
    (λ v. part_of units count d (part_at units.tree k v)) base

-- the root
unfoldable pub root_part : Units → List ℕ → Part
root_part units counts = part_of units (count_of units.tree counts) nesting 0 root_base
