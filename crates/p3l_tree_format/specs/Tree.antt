-- The format of trees and of the counts of workers.
use Rattle.std.specs.Prelude.{ℕ, List, length, Option, Some, None}
use Rattle.std.specs.List.{slice_get}
use Rattle.p3l_base.specs.Limits.{most_nodes, most_words, most_workers}
use Rattle.p3l_skel.specs.declared.tree.ModuleKind.{ModuleKind}
use Rattle.p3l_skel.specs.declared.tree.ModuleKind.TheVariants.{Seq}
use Rattle.p3l_skel.specs.declared.tree.ModuleInfo.{ModuleInfo}
use Rattle.p3l_skel.specs.declared.tree.Node.{Node}
use Rattle.p3l_skel.specs.declared.tree.Tree.{Tree}
use Rattle.p3l_format.specs.Format.{Format, both, pair, record_of, counted}
use Rattle.p3l_format.specs.Numbers.{u32_in, u32_below}
use Rattle.p3l_tree_format.specs.declared.version.Version.{Version}
use Rattle.p3l_tree_format.specs.Module.{module_format}
use Rattle.p3l_tree_format.specs.Form.{form_format}

abbrev pub kind_in : Option ModuleInfo → ModuleKind
kind_in None = Seq
kind_in (Some info) = info.kind

-- the kind of a module
abbrev pub kind_at : List ModuleInfo → ℕ → ModuleKind
kind_at modules m = kind_in (slice_get modules m)

-- numbers below a limit, which name nodes or channels
abbrev pub indices_format : ℕ → Format ℕ (List ℕ)
indices_format limit = counted (u32_in 0 4294967295) (λ _. u32_below limit)

-- a node of these modules, in a tree of n nodes
unfoldable pub node_format : List ModuleInfo → ℕ → Format ℕ Node
node_format modules nodes = record_of
    (λ p. record { «module» = p.0; ins = p.1.0; outs = p.1.1.0; form = p.1.1.1.0; parts = p.1.1.1.1 })
    (λ n. (n.module, (n.ins, (n.outs, (n.form, n.parts)))))
    (pair (u32_below (length modules)) (λ m.
    both (u32_in 1 most_words) (both (u32_in 1 most_words) (both (form_format (kind_at modules m)) (indices_format nodes)))))

unfoldable pub nodes_format : List ModuleInfo → Format ℕ (List Node)
nodes_format modules = counted (u32_in 1 most_nodes) (λ nodes. node_format modules nodes)

abbrev pub modules_format : Version → Format ℕ (List ModuleInfo)
modules_format version = counted (u32_in 1 4294967295) (λ _. module_format version)

unfoldable pub tree_format : Version → Format ℕ Tree
tree_format version =
    record_of (λ p. record { modules = p.0; nodes = p.1 }) (λ t. (t.modules, t.nodes)) (pair (modules_format version) nodes_format)

abbrev pub counts_format : Format ℕ (List ℕ)
counts_format = counted (u32_in 0 4294967295) (λ _. u32_in 1 most_workers)
