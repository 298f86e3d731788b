-- The tree of a module: its instance, and the instances of the modules that it calls, in preorder.
use Rattle.std.specs.Prelude.{ℕ, ◌+◌, List, [], ◌∷◌, ◌++◌, length}
use Rattle.p3l_skel.specs.declared.tree.ModuleInfo.{ModuleInfo}
use Rattle.p3l_skel.specs.declared.tree.Node.{Node}
use Rattle.p3l_skel.specs.declared.tree.Tree.{Tree}
use Rattle.p3l_skel.specs.Tree.{by_parts, nesting}
use Rattle.p3l_check.specs.declared.callables.Callable.{Callable}
use Rattle.p3l_check.specs.Wiring.{module_at}

-- the nodes of instances of these modules one after another, where the first node has the number
-- `at`; `below` gives those of one
abbrev pub instances_of : (ℕ → ℕ → List Node) → List ℕ → ℕ → List Node
instances_of below [] at = []
instances_of below (c ∷ cs) at = below c at ++ instances_of below cs (at + length (below c at))

-- the numbers of the first nodes of these instances
abbrev pub firsts_of : (ℕ → ℕ → List Node) → List ℕ → ℕ → List ℕ
firsts_of below [] at = []
firsts_of below (c ∷ cs) at = at ∷ firsts_of below cs (at + length (below c at))

-- a node of a module, with these parts
abbrev pub node_of : Callable → ℕ → List ℕ → Node
node_of m k parts = record { form = m.form; «module» = k; ins = m.ins; outs = m.outs; parts = parts }

-- the first node of an instance of a module, whose number is `at`
abbrev pub first_node : List Callable → (ℕ → ℕ → List Node) → ℕ → ℕ → Node
first_node callables below k at = node_of (module_at callables k) k (firsts_of below (module_at callables k).calls (at + 1))

-- the nodes of an instance of a module whose first node has the number `at`, down to a depth
unfoldable pub instance : List Callable → ℕ → ℕ → ℕ → List Node
instance callables =
    by_parts (λ below k at. first_node callables below k at ∷ instances_of below (module_at callables k).calls (at + 1)) (λ k at. [])

-- the tree of the module `root`
abbrev pub tree_of : List ModuleInfo → List Callable → ℕ → Tree
tree_of infos callables root = record { nodes = instance callables nesting root 0; modules = infos }
