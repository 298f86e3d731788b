-- Conditions on templates for the typing of nets: the words and tags that their channels carry, and that their processes fit there.
use Rattle.std.specs.Prelude.{◌≡◌, ℕ, ◌+◌, ◌<◌, ◌≤◌, List, ◌∷◌, ◌++◌, map, length, get_or, ⊤}
use Rattle.std.specs.List.{AllByRecursion}
use Rattle.p3l_skel.specs.declared.tree.Tree.{Tree}
use Rattle.p3l_skel.specs.Tree.{node_at, part_at}
use Rattle.p3l_skel.specs.Lawful.{IsChain}
use Rattle.p3l_firing.specs.declared.process.Proc.{Proc}
use Rattle.p3l_firing.specs.declared.process.ProcKind.{ProcKind}
use Rattle.p3l_firing.specs.declared.process.ProcKind.TheVariants.{Source, Sink}
use Rattle.p3l_firing.specs.Process.{all_ins, all_outs, times}
use Rattle.p3l_firing.specs.State.{no_chan}
use Rattle.p3l_firing.specs.Typed.{FitsKind}
use Rattle.p3l_firing.specs.Widths.{Widths, Carries}
use Rattle.p3l_firing.specs.kinds.Run.{Takes}
use Rattle.p3l_template.specs.Shape.{Base, Slot, Blueprint, no_slot, numbers_from}
use Rattle.p3l_template.specs.Width.{no_width}
use Rattle.p3l_template.specs.declared.width.Width.{Width}

-- the channels from number c on carry these widths, in order
unfoldable pub Carry : Widths → ℕ → List Width → Type 0
Carry widths c row = (k : ℕ) → k < length row → Carries widths (c + k) (get_or row k no_width).words (get_or row k no_width).tags

-- a process of this kind is inside, not at an end of the net
abbrev pub IsInner : ProcKind → Type 0
IsInner Source = ⊥
IsInner Sink = ⊥
IsInner _ = ⊤

-- the channels that the inner parts at these slots read, and those that they write
abbrev pub slot_ins : List Slot → List ℕ
slot_ins = map (λ slot. slot.input)

abbrev pub slot_outs : List Slot → List ℕ
slot_outs = map (λ slot. slot.output)

-- the template is placed: its port channels carry the words of its node, with t tags, and its own
-- channels carry this row
pub record StandsTyped (tree : Tree) (node : ℕ) (widths : Widths) (base : Base) (t : ℕ) (row : List Width) : Type 0 where
  pub input : Carries widths base.input (node_at tree node).ins t
  pub output : Carries widths base.output (node_at tree node).outs t
  pub own : Carry widths base.chan row

-- an inner part has channels at its slot that carry the words of its node, with t tags
pub record SlotFits (tree : Tree) (node : ℕ) (widths : Widths) (t : ℕ) (slot : Slot) : Type 0 where
  pub input : Carries widths slot.input (node_at tree (part_at tree node slot.part)).ins t
  pub output : Carries widths slot.output (node_at tree (part_at tree node slot.part)).outs t

-- THE TYPING LAW OF A TEMPLATE for a node of a tree
pub record IsTypedShape (tree : Tree) (node : ℕ) (shape : Blueprint) : Type 0 where
  -- the widths of its own channels, in order, if tokens outside have t tags
  pub widths : ℕ → List Width
  -- the number of extra tags of the tokens at its inner parts
  pub deeper : ℕ
  pub shallow : deeper ≤ 2
  pub count : (t : ℕ) (base : Base) → length (widths t) ≡ shape.chans base
  pub tags : (t k : ℕ) → (get_or (widths t) k no_width).tags ≤ t + 2
  -- a channel has no more credits than room, and what has credits carries no words and no tags
  pub credits : (cap : ℕ) (base : Base) (t k : ℕ) → k < length (shape.laid cap base) →
      ((get_or (shape.laid cap base) k no_chan).credits ≤ (get_or (shape.laid cap base) k no_chan).cap)
      × (0 < (get_or (shape.laid cap base) k no_chan).credits → get_or (widths t) k no_width ≡ no_width)
  -- its processes and inner parts read its in channel and its own channels, and write its out channel and its own channels,
  -- each once
  pub reads : (base : Base) (c : ℕ) →
      times c (all_ins (shape.procs base) ++ slot_ins (shape.slots base))
      ≡ times c (base.input ∷ numbers_from base.chan (shape.chans base))
  pub writes : (base : Base) (c : ℕ) →
      times c (all_outs (shape.procs base) ++ slot_outs (shape.slots base))
      ≡ times c (base.output ∷ numbers_from base.chan (shape.chans base))
  pub inner : (base : Base) → AllByRecursion (λ (q : Proc). IsInner q.kind) (shape.procs base)
  pub procs : (w : Widths) (base : Base) (t : ℕ) → StandsTyped tree node w base t (widths t) →
      AllByRecursion (λ (q : Proc). FitsKind q.kind tree w q) (shape.procs base)
  pub slots : (w : Widths) (base : Base) (t : ℕ) → StandsTyped tree node w base t (widths t) → (v : ℕ) →
      v < length (shape.slots base) → SlotFits tree node w (t + deeper) (get_or (shape.slots base) v no_slot)

-- a node of a tree that is one process
pub record IsRunNode (tree : Tree) (node : ℕ) : Type 0 where
  pub there : node < length tree.nodes
  pub takes : Takes (node_at tree node).form (node_at tree node).ins 0 (node_at tree node).ins

-- a node of a tree that is a pipe of `stages` stages
pub record IsPipeNode (tree : Tree) (node stages : ℕ) : Type 0 where
  pub some : 1 ≤ stages
  pub parts : length (node_at tree node).parts ≡ stages
  pub chain : IsChain tree (node_at tree node).ins (node_at tree node).outs (node_at tree node).parts
