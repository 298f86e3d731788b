-- The template of each node: the one table of kinds.
use Rattle.std.specs.Prelude.{ℕ, List, length}
use Rattle.p3l_skel.specs.declared.tree.Form.{Form}
use Rattle.p3l_skel.specs.declared.tree.Form.TheVariants as form
use Rattle.p3l_skel.specs.declared.tree.Tree.{Tree}
use Rattle.p3l_skel.specs.Counts.{count_of}
use Rattle.p3l_skel.specs.Tree.{node_at}
use Rattle.p3l_template.specs.Kind.{Kind}
use Rattle.p3l_template.specs.Shape.{Blueprint}
use Rattle.p3l_link.specs.Node.{kind_of}
use Rattle.p3l_link.specs.declared.node.NodeTemplate.{NodeTemplate}
use Rattle.p3l_link.specs.declared.node.NodeTemplate.TheVariants.{Run, Pipe, Farm, Map, Reduce, Loop}

-- the template of node k, which has this form, this number of parts, and n workers or segments: a
-- `seq` and a `comp` are one process
abbrev pub template_row : Form → (k parts n : ℕ) → NodeTemplate
template_row form.Seq k parts n = Run (record { node = k })
template_row form.Comp k parts n = Run (record { node = k })
template_row form.Pipe k parts n = Pipe (record { stages = parts })
template_row (form.Farm workers) k parts n = Farm (record { node = k; workers = n })
template_row (form.Map workers cut) k parts n = Map (record { node = k; workers = n })
template_row (form.Reduce workers len elem) k parts n = Reduce (record { node = k; segments = n; len = len })
template_row (form.Loop turns tokens) k parts n = Loop (record { node = k; tokens = tokens })

-- the template of node k of a tree, where it is known how many workers or segments each node has
abbrev pub template_at : Tree → (ℕ → ℕ) → ℕ → NodeTemplate
template_at tree count k = template_row (node_at tree k).form k (length (node_at tree k).parts) (count k)

-- the kind of a template by its form
unfoldable pub kind_row : Form → (k parts n : ℕ) → Kind
kind_row f k parts n = kind_of (template_row f k parts n)

unfoldable pub kind_at : Tree → (ℕ → ℕ) → ℕ → Kind
kind_at tree count k = kind_row (node_at tree k).form k (length (node_at tree k).parts) (count k)

-- its processes and channels
abbrev pub shape_row : Form → (k parts n : ℕ) → Blueprint
shape_row f k parts n = (kind_row f k parts n).shape

abbrev pub shape_at : Tree → (ℕ → ℕ) → ℕ → Blueprint
shape_at tree count k = (kind_at tree count k).shape

-- the same under the counts of a tree
abbrev pub shape_of : Tree → List ℕ → ℕ → Blueprint
shape_of tree counts k = shape_at tree (count_of tree counts) k
