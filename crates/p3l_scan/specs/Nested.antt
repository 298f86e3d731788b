-- Templates of templates: the template that is another one with a template at each of its slots.
use Rattle.std.specs.Prelude.{◌≡◌, ℕ, ◌<◌, [], length, drop, get_or}
use Rattle.p3l_skel.specs.declared.tree.Tree.{Tree}
use Rattle.p3l_skel.specs.Tree.{part_at}
use Rattle.p3l_firing.specs.declared.net.Net.{Net}
use Rattle.p3l_template.specs.Part.{Part}
use Rattle.p3l_template.specs.Placed.{IsLawfulShape}
use Rattle.p3l_template.specs.Shape.{Base, Role, Blueprint, base_of, no_slot}
use Rattle.p3l_template.specs.Typing.{IsTypedShape}
use Rattle.p3l_template.specs.declared.template.Ports.{Ports}
use Rattle.p3l_template.specs.Units.{Units}
use Rattle.p3l_link.specs.Net.{Piece, inner_pieces, own_piece, whole_piece, with_piece}
use Rattle.p3l_link.specs.Part.{whole_part}

-- the role of a part that isn't there
abbrev pub no_role : Role
no_role = record { meaning = λ o. o; firings = 0 }

-- the role of a template without inner parts, and its part of the net
abbrev pub closed_role : Units → Blueprint → Role
closed_role units shape =
    record { meaning = shape.meaning units (λ v. no_role); firings = shape.firings units (λ v. no_role) }

abbrev pub closed_part : Units → Blueprint → Base → Part
closed_part units shape base = shape.part units (λ v. no_role) base []

abbrev pub nested_piece : Blueprint → (ℕ → Blueprint) → (cap : ℕ) → Base → Piece
nested_piece outer inner cap base = whole_piece outer cap (λ v. own_piece (inner v) cap) base

-- THE TEMPLATE OUTER WITH A TEMPLATE AT EACH SEAT: for part v the template that inner gives, which has no inner part itself. Its
-- processes don't depend on the capacity of channels.
abbrev pub nested : Blueprint → (ℕ → Blueprint) → Blueprint
nested outer inner =
    record {
      procs = λ base. (nested_piece outer inner 1 base).procs;
      chans = λ base. length (nested_piece outer inner 1 base).chans;
      laid = λ cap base. (nested_piece outer inner cap base).chans;
      inner = 0;
      slots = λ base. [];
      meaning = λ units roles. outer.meaning units (λ v. closed_role units (inner v));
      firings = λ units roles. outer.firings units (λ v. closed_role units (inner v));
      part = λ units roles base parts.
          whole_part outer units (λ v. closed_role units (inner v)) (λ v. closed_part units (inner v)) base;
    }

-- part `which v` stands at slot v of outer, and the template of each such part is lawful and has no inner part
pub record AreInner (outer : Blueprint) (which : ℕ → ℕ) (inner : ℕ → Blueprint) : Type 0 where
  pub part : (base : Base) (v : ℕ) → v < outer.inner → (get_or (outer.slots base) v no_slot).part ≡ which v
  pub lawful : (v : ℕ) → v < outer.inner → IsLawfulShape (inner (which v))
  pub closed : (v : ℕ) → v < outer.inner → (inner (which v)).inner ≡ 0

-- part `which v` stands at slot v of outer, and the template of each such part is typed for that part of the node
pub record AreTypedInner (tree : Tree) (node : ℕ) (outer : Blueprint) (which : ℕ → ℕ) (inner : ℕ → Blueprint) : Type 0 where
  pub each : (v : ℕ) → v < outer.inner → IsTypedShape tree (part_at tree node (which v)) (inner (which v))

-- BUILDING

-- with the inner templates at the slots from i on, b is the whole: what b0 is with the nested template placed at these ports
abbrev pub IsBuilt : Blueprint → (ℕ → Blueprint) → (cap : ℕ) → Ports → Net → Net → ℕ → Type 0
IsBuilt outer inner cap at b0 b i =
    with_piece b (inner_pieces (λ v. own_piece (inner v) cap) (drop i (outer.slots (base_of at b0))) (length b.procs)
    (length b.chans)) ≡ with_piece b0 (nested_piece outer inner cap (base_of at b0))
