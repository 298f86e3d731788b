-- The template of a node, one constructor a kind, and what the crate of its kind says of it.
use Rattle.std.specs.Prelude.{◌≡◌, ℕ, ◌≤◌}
use Rattle.p3l_skel.specs.declared.tree.Tree.{Tree}
use Rattle.p3l_firing.specs.Segments.{level_of}
use Rattle.p3l_template.specs.Kind.{Kind}
use Rattle.p3l_template.specs.PipeKind.{pipe_kind}
use Rattle.p3l_template.specs.RunKind.{run_kind}
use Rattle.p3l_template.specs.Typing.{IsPipeNode, IsRunNode}
use Rattle.p3l_farm.specs.FarmKind.{farm_kind}
use Rattle.p3l_farm.specs.Farm.{IsFarmNode}
use Rattle.p3l_map.specs.MapKind.{map_kind}
use Rattle.p3l_map.specs.MapShape.{IsMapNode}
use Rattle.p3l_reduce.specs.ReduceKind.{reduce_kind}
use Rattle.p3l_reduce.specs.Reduce.{IsReduceNode}
use Rattle.p3l_loop.specs.LoopKind.{loop_kind}
use Rattle.p3l_loop.specs.Loop.{IsLoopNode}
use Rattle.p3l_link.specs.declared.node.NodeTemplate.{NodeTemplate}
use Rattle.p3l_link.specs.declared.node.NodeTemplate.TheVariants.{Run, Pipe, Farm, Map, Reduce, Loop}

-- the kind of a node with this template
abbrev pub kind_of : NodeTemplate → Kind
kind_of (Run t) = run_kind t.node
kind_of (Pipe t) = pipe_kind t.stages
kind_of (Farm t) = farm_kind t.node t.workers
kind_of (Map t) = map_kind t.node t.workers
kind_of (Reduce t) = reduce_kind t.node t.len (level_of t.segments)
kind_of (Loop t) = loop_kind t.node t.tokens

-- the numbers of a template are in range
abbrev pub IsFit : NodeTemplate → Type 0
IsFit (Run t) = Unit {0}
IsFit (Pipe t) = 1 ≤ t.stages
IsFit (Farm t) = 1 ≤ t.workers
IsFit (Map t) = 1 ≤ t.workers
IsFit (Reduce t) = 1 ≤ t.segments
IsFit (Loop t) = 1 ≤ t.tokens

-- the node of a tree is one that the template is made for
abbrev pub Serves : NodeTemplate → Tree → ℕ → Type 0
Serves (Run t) tree node = (t.node ≡ node) × IsRunNode tree node
Serves (Pipe t) tree node = IsPipeNode tree node t.stages
Serves (Farm t) tree node = (t.node ≡ node) × IsFarmNode tree node t.workers
Serves (Map t) tree node = (t.node ≡ node) × IsMapNode tree node t.workers
Serves (Reduce t) tree node = (t.node ≡ node) × IsReduceNode tree node t.segments t.len
Serves (Loop t) tree node = (t.node ≡ node) × IsLoopNode tree node
