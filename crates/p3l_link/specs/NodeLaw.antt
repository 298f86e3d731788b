-- WHAT HOLDS OF EVERY KIND OF NODE, by the laws of each kind's own crate.
use Rattle.std.proofs.Common.{◌≡◌, ℕ, ◌-◌, length, refl}
use Rattle.p3l_skel.specs.declared.tree.Tree.{Tree}
use Rattle.p3l_firing.specs.Segments.{level_of}
use Rattle.p3l_template.specs.Finding.{IsFoundShape}
use Rattle.p3l_template.specs.Placed.{IsLawfulShape}
use Rattle.p3l_template.specs.Shape.{Base}
use Rattle.p3l_template.specs.Tagged.{IsTagged}
use Rattle.p3l_template.specs.Typing.{IsTypedShape}
use Rattle.p3l_template.specs.laws.FanTyping.{rows_count}
use Rattle.p3l_template.specs.laws.PipeFound.{pipe_found}
use Rattle.p3l_template.specs.laws.PipeLaw.{pipe_lawful}
use Rattle.p3l_template.specs.laws.PipeTyping.{pipe_counted, pipe_serves}
use Rattle.p3l_template.specs.laws.RunFound.{run_found}
use Rattle.p3l_template.specs.laws.RunLaw.{run_lawful}
use Rattle.p3l_template.specs.laws.RunTyping.{run_serves}
use Rattle.p3l_template.specs.laws.Widths.{pipe_tagged, run_tagged}
use Rattle.p3l_farm.specs.laws.FarmFound.{farm_found}
use Rattle.p3l_farm.specs.laws.FarmLaw.{farm_lawful}
use Rattle.p3l_farm.specs.laws.FarmTyping.{farm_serves}
use Rattle.p3l_farm.specs.laws.FarmWidths.{farm_tagged}
use Rattle.p3l_map.specs.laws.MapFound.{map_found}
use Rattle.p3l_map.specs.laws.MapLaw.{map_lawful}
use Rattle.p3l_map.specs.laws.MapTyping.{map_serves}
use Rattle.p3l_map.specs.laws.MapWidths.{map_tagged}
use Rattle.p3l_reduce.specs.laws.ReduceFound.{reduce_found}
use Rattle.p3l_reduce.specs.laws.ReduceLaw.{reduce_lawful}
use Rattle.p3l_reduce.specs.laws.ReduceTyping.{reduce_counted, reduce_serves}
use Rattle.p3l_reduce.specs.laws.ReduceWidths.{reduce_tagged}
use Rattle.p3l_loop.specs.laws.LoopFound.{loop_found}
use Rattle.p3l_loop.specs.laws.LoopLaw.{loop_lawful}
use Rattle.p3l_loop.specs.laws.LoopTyping.{loop_serves}
use Rattle.p3l_loop.specs.laws.LoopWidths.{loop_tagged}
use Rattle.p3l_link.specs.Node.{IsFit, Serves, kind_of}
use Rattle.p3l_link.specs.declared.node.NodeTemplate.{NodeTemplate}
use Rattle.p3l_link.specs.declared.node.NodeTemplate.TheVariants.{Run, Pipe, Farm, Map, Reduce, Loop}

-- it is lawful
pub kind_lawful : (t : NodeTemplate) → IsFit t → IsLawfulShape (kind_of t).shape
kind_lawful (Run t) fit = run_lawful t.node
kind_lawful (Pipe t) fit = pipe_lawful (t.stages - 1)
kind_lawful (Farm t) fit = farm_lawful t.node t.workers fit
kind_lawful (Map t) fit = map_lawful t.node t.workers fit
kind_lawful (Reduce t) fit = reduce_lawful t.node t.len (level_of t.segments)
kind_lawful (Loop t) fit = loop_lawful t.node t.tokens fit

-- it is typed for the nodes that it serves
pub kind_typed : (t : NodeTemplate) (tree : Tree) (node : ℕ) → Serves t tree node → IsTypedShape tree node (kind_of t).shape
kind_typed (Run t) tree node s = run_serves tree t.node node s
kind_typed (Pipe t) tree node s = pipe_serves tree t.stages node s
kind_typed (Farm t) tree node s = farm_serves tree t.node node t.workers s
kind_typed (Map t) tree node s = map_serves tree t.node node t.workers s
kind_typed (Reduce t) tree node s = reduce_serves tree t.node node t.segments t.len s
kind_typed (Loop t) tree node s = loop_serves tree t.node node t.tokens s

-- the finding in it by the tags alone is that of its part
pub kind_found : (t : NodeTemplate) → IsFoundShape (kind_of t).shape (kind_of t).finds
kind_found (Run t) = run_found t.node
kind_found (Pipe t) = pipe_found (t.stages - 1)
kind_found (Farm t) = farm_found t.node t.workers
kind_found (Map t) = map_found t.node t.workers
kind_found (Reduce t) = reduce_found t.node t.len (level_of t.segments)
kind_found (Loop t) = loop_found t.node t.tokens

-- it adds few tags
pub kind_tagged : (t : NodeTemplate) (tree : Tree) (node : ℕ) → IsTagged (kind_of t).deeper ((kind_of t).widths tree node)
kind_tagged (Run t) tree node = run_tagged t.node tree node
kind_tagged (Pipe t) tree node = pipe_tagged t.stages tree node
kind_tagged (Farm t) tree node = farm_tagged t.node t.workers tree node
kind_tagged (Map t) tree node = map_tagged t.node t.workers tree node
kind_tagged (Reduce t) tree node = reduce_tagged t.node t.len (level_of t.segments) tree node
kind_tagged (Loop t) tree node = loop_tagged t.node t.tokens tree node

-- it has a width for each of its own channels
pub kind_counted : (t : NodeTemplate) (tree : Tree) (node tags : ℕ) (base : Base) → Serves t tree node →
    length ((kind_of t).widths tree node tags) ≡ (kind_of t).shape.chans base
kind_counted (Run t) tree node tags base s = refl
kind_counted (Pipe t) tree node tags base s = pipe_counted tree t.stages node tags s
kind_counted (Farm t) tree node tags base s = rows_count t.workers _ _
kind_counted (Map t) tree node tags base s = rows_count t.workers _ _
kind_counted (Reduce t) tree node tags base s = reduce_counted tree t.node node t.len (level_of t.segments) tags base
kind_counted (Loop t) tree node tags base s = refl
