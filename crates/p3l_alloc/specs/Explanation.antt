-- The text of an allocation: the whole in a line, and a line for each node that has processes of its own.
use Rattle.std.specs.Prelude.{ℕ, List, [], ◌++◌, codes, slice_index_or}
use Rattle.std.specs.Fmt.{decimal}
use Rattle.std.specs.List.{flat_map}
use Rattle.p3l_skel.specs.declared.tree.Form.{Form}
use Rattle.p3l_skel.specs.declared.tree.Form.TheVariants.{Seq, Comp, Pipe, Farm, Map, Reduce, Loop}
use Rattle.p3l_skel.specs.declared.tree.Tree.{Tree}
use Rattle.p3l_skel.specs.Counts.{count_of, outside}
use Rattle.p3l_skel.specs.Numbers.{procs}
use Rattle.p3l_skel.specs.Tree.{node_at, no_module}
use Rattle.p3l_cost.specs.declared.costs.Costs.{Costs}
use Rattle.p3l_model.specs.Service.{service}

-- the name of the module of this number
abbrev pub module_name : Tree → ℕ → List ℕ
module_name tree k = (slice_index_or tree.modules k no_module).name

-- the name of a form's skeleton
abbrev pub kind_name : Form → List ℕ
kind_name Seq = codes "seq"
kind_name Comp = codes "comp"
kind_name Pipe = codes "pipe"
kind_name (Farm w) = codes "farm"
kind_name (Map w cut) = codes "map"
kind_name (Reduce w len elem) = codes "reduce"
kind_name (Loop turns tokens) = codes "loop"

-- processors P used U service T
abbrev pub whole_line : (processors used time : ℕ) → List ℕ
whole_line processors used time =
    codes "processors " ++ (decimal processors ++ (codes " used " ++ (decimal used ++ (codes " service " ++ (decimal time ++ codes "\n")))))

--  count C, of a node that has one
abbrev pub count_words : Form → ℕ → List ℕ
count_words Seq count = []
count_words Comp count = []
count_words Pipe count = []
count_words (Farm w) count = codes " count " ++ decimal count
count_words (Map w cut) count = codes " count " ++ decimal count
count_words (Reduce w len elem) count = codes " count " ++ decimal count
count_words (Loop turns tokens) count = []

-- NODE KIND NAME procs U service T
abbrev pub node_words : Tree → Costs → List ℕ → ℕ → List ℕ
node_words tree costs counts k =
    decimal k ++ (codes " " ++ (kind_name (node_at tree k).form ++ (codes " " ++ (module_name tree (node_at tree k).module
    ++ (codes " procs " ++ (decimal (procs tree counts k) ++ (codes " service " ++ decimal (service tree costs counts k))))))))

-- the line of a node
abbrev pub node_line : Tree → Costs → List ℕ → ℕ → List ℕ
node_line tree costs counts k =
    node_words tree costs counts k ++ (count_words (node_at tree k).form (count_of tree counts k) ++ codes "\n")

-- the lines of these nodes
abbrev pub node_lines : Tree → Costs → List ℕ → List ℕ → List ℕ
node_lines tree costs counts nodes = flat_map (node_line tree costs counts) nodes

-- the text of counts for this number of processors: the nodes outside units are in preorder
abbrev pub allocation_text : Tree → Costs → (processors : ℕ) → List ℕ → (used time : ℕ) → List ℕ
allocation_text tree costs processors counts used time =
    whole_line processors used time ++ node_lines tree costs counts (outside tree)
