-- The nodes of a tree, and what is computed from the root down.
use Rattle.std.specs.Prelude.{◌≡◌, ℕ, ℤ, zero, suc, ◌*◌, ◌<◌, ◌≤◌, Bool, true, false, IsTrue, List, [], ◌∷◌, length, slice_index, slice_index_or, Option, None, ⊤}
use Rattle.p3l_base.specs.declared.outcome.Outcome.{Outcome}
use Rattle.p3l_base.specs.declared.outcome.Outcome.TheVariants.{Value, Trapped}
use Rattle.p3l_skel.specs.declared.tree.Form.{Form}
use Rattle.p3l_skel.specs.declared.tree.Form.TheVariants.{Seq, Comp, Pipe, Farm, Map, Reduce, Loop}
use Rattle.p3l_skel.specs.declared.tree.ModuleKind.TheVariants as kind
use Rattle.p3l_skel.specs.declared.tree.ModuleInfo.{ModuleInfo}
use Rattle.p3l_skel.specs.declared.tree.Node.{Node}
use Rattle.p3l_skel.specs.declared.tree.Tree.{Tree}

-- the greatest depth of nested nodes, the root counting as one level
abbrev pub nesting : ℕ
nesting = 6

-- the node for a number past the nodes: a pipe of nothing
abbrev pub no_node : Node
no_node = record { form = Pipe; «module» = 0; ins = 0; outs = 0; parts = [] }

-- the tree of a program of one `seq` module, with the module's name and words
unfoldable pub seq_tree : List ℕ → ℕ → ℕ → Tree
seq_tree name ins outs = record {
  nodes = record { form = Seq; «module» = 0; ins = ins; outs = outs; parts = [] } ∷ [];
  modules = record { name = name; kind = kind.Seq; rescue = None } ∷ [];
}

-- the node of this number
abbrev pub node_at : Tree → ℕ → Node
node_at tree node = slice_index_or tree.nodes node no_node

-- the module for a number past the modules: a module with no name
abbrev pub no_module : ModuleInfo
no_module = record { name = []; kind = kind.Seq; rescue = None }

-- the rescue number of a module, if it has one
abbrev pub rescue_of : Tree → ℕ → Option ℤ
rescue_of tree home = (slice_index_or tree.modules home no_module).rescue

-- the number of a node's part k
abbrev pub part_at : Tree → ℕ → ℕ → ℕ
part_at tree node k = slice_index (node_at tree node).parts k

-- the value of a node, which `row` makes from the values of other nodes; at depth 0 it is
-- the node's value as a leaf
unfoldable pub by_parts : {X : Type 0} → ((ℕ → X) → ℕ → X) → (ℕ → X) → ℕ → ℕ → X
by_parts row leaf zero node = leaf node
by_parts row leaf (suc d) node = row (by_parts row leaf d) node

-- true exactly if a node of this form is sequential, given whether its first part is
abbrev pub sequential_row : Form → Bool → Bool
sequential_row Seq part = true
sequential_row Comp part = true
sequential_row Pipe part = false
sequential_row (Farm w) part = false
sequential_row (Map w cut) part = part
sequential_row (Reduce w len elem) part = part
sequential_row (Loop turns tokens) part = false

-- true exactly if a node is sequential, down to a depth
unfoldable pub sequential_to : Tree → ℕ → ℕ → Bool
sequential_to tree =
    by_parts (λ below k. sequential_row (node_at tree k).form (below (slice_index (node_at tree k).parts 0))) (λ k. false)

-- true exactly if a node is sequential: a seq, a comp, or a map or reduce of a sequential part
abbrev pub is_sequential : Tree → ℕ → Bool
is_sequential tree node = sequential_to tree nesting node

-- a node that one process can run
pub record IsUnit (tree : Tree) (node : ℕ) : Type 0 where
  pub in_tree : node < length tree.nodes
  pub sequential : IsTrue (is_sequential tree node)

-- n words are what a node of this form takes: a reduce takes any positive number of elements
abbrev pub FitsForm : Form → ℕ → ℕ → Type 0
FitsForm (Reduce w len elem) ins n = (k : ℕ) × (1 ≤ k) × (n ≡ k * elem)
FitsForm Seq ins n = n ≡ ins
FitsForm Comp ins n = n ≡ ins
FitsForm Pipe ins n = n ≡ ins
FitsForm (Farm w) ins n = n ≡ ins
FitsForm (Map w cut) ins n = n ≡ ins
FitsForm (Loop turns tokens) ins n = n ≡ ins

-- a node takes n words
abbrev pub HasFittingLength : Tree → ℕ → ℕ → Type 0
HasFittingLength tree node n = FitsForm (node_at tree node).form (node_at tree node).ins n

-- a value has n words
abbrev pub HasLength : ℕ → Outcome → Type 0
HasLength n (Value words) = length words ≡ n
HasLength n (Trapped trap) = ⊤

-- the results of the `seq` modules have the out words of their nodes
abbrev pub GivesOuts : Tree → (ℕ → List ℤ → Outcome) → Type 0
GivesOuts tree leaf =
    (node : ℕ) (words : List ℤ) → node < length tree.nodes → (node_at tree node).form ≡ Seq →
    length words ≡ (node_at tree node).ins → HasLength (node_at tree node).outs (leaf (node_at tree node).module words)
