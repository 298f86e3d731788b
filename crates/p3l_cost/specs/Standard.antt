-- The costs that are used where none are given.
use Rattle.std.specs.Prelude.{ℕ, ◌==◌, if◌then◌else◌, Option, Some, None, unwrap_or, List, [], ◌∷◌, length, map}
use Rattle.std.specs.List.{range_with_len}
use Rattle.p3l_skel.specs.declared.tree.Form.{Form}
use Rattle.p3l_skel.specs.declared.tree.Form.TheVariants.{Seq, Comp, Pipe, Farm, Map, Reduce, Loop}
use Rattle.p3l_skel.specs.declared.tree.ModuleInfo.{ModuleInfo}
use Rattle.p3l_skel.specs.declared.tree.ModuleKind.{ModuleKind}
use Rattle.p3l_skel.specs.declared.tree.ModuleKind.TheVariants as kind
use Rattle.p3l_skel.specs.declared.tree.Node.{Node}
use Rattle.p3l_skel.specs.declared.tree.Tree.{Tree}
use Rattle.p3l_cost.specs.declared.costs.Costs.{Costs}

-- the standard ticks of a module
abbrev pub standard_ticks : ModuleKind → ℕ
standard_ticks kind.Seq = 100
standard_ticks kind.Comp = 0
standard_ticks kind.Pipe = 0
standard_ticks kind.Farm = 0
standard_ticks kind.Map = 0
standard_ticks kind.Reduce = 0
standard_ticks kind.Loop = 0

-- the turns that a node of this form allows, if it is a loop
abbrev pub turns_of : Form → Option ℕ
turns_of Seq = None
turns_of Comp = None
turns_of Pipe = None
turns_of (Farm w) = None
turns_of (Map w cut) = None
turns_of (Reduce w len elem) = None
turns_of (Loop turns tokens) = Some turns

-- the turns that a node allows, if it is a loop of this module
abbrev pub turns_in : Node → ℕ → Option ℕ
turns_in node home = if node.module == home then turns_of node.form else None

-- the turns that a loop module allows of which one of these nodes is, and else another number
abbrev pub turns_or : ℕ → List Node → ℕ → ℕ
turns_or other [] home = other
turns_or other (node ∷ nodes) home = unwrap_or (turns_in node home) (turns_or other nodes home)

-- the turns that a loop module allows, and 1 for a module of no loop
abbrev pub full_turns : List Node → ℕ → ℕ
full_turns = turns_or 1

-- the standard costs of a tree
abbrev pub standard_costs : Tree → Costs
standard_costs tree = record {
  setup = 10;
  word = 1;
  ticks = map (λ (m : ModuleInfo). standard_ticks m.kind) tree.modules;
  turns = map (full_turns tree.nodes) (range_with_len 0 (length tree.modules));
}
