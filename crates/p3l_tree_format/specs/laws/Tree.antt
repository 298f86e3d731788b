-- Trees and counts are read as they are spelled.
use Rattle.std.proofs.Common.{ℕ, List, refl}
use Rattle.p3l_base.specs.Limits.{most_nodes, most_workers}
use Rattle.p3l_skel.specs.declared.tree.ModuleInfo.{ModuleInfo}
use Rattle.p3l_format.specs.Lawful.{IsLawful}
use Rattle.p3l_format.specs.laws.Formats.{lawful_pair, lawful_both, lawful_record, lawful_counted}
use Rattle.p3l_format.specs.laws.Numbers.{lawful_u32_in, lawful_u32_below}
use Rattle.p3l_tree_format.specs.declared.version.Version.{Version}
use Rattle.p3l_tree_format.specs.Tree.{indices_format, node_format, nodes_format, modules_format, tree_format, counts_format}
use Rattle.p3l_tree_format.specs.laws.Module.{lawful_module}
use Rattle.p3l_tree_format.specs.laws.Form.{lawful_form_of}

-- the laws of the parts, by which `search` finds those of what is put together
ruleset parts = (lawful_pair, lawful_both, lawful_u32_in, lawful_u32_below)

pub lawful_indices : (limit : ℕ) → IsLawful (indices_format limit)
lawful_indices limit = lawful_counted _ _ (lawful_u32_in 0 4294967295) (λ _. lawful_u32_below limit)

pub lawful_node : (modules : List ModuleInfo) (nodes : ℕ) → IsLawful (node_format modules nodes)
unfolding node_format
lawful_node modules nodes = lawful_record _ _ _ (λ _. refl) (λ _. refl) (search (parts, lawful_form_of, lawful_indices) depth 12)

pub lawful_nodes : (modules : List ModuleInfo) → IsLawful (nodes_format modules)
unfolding nodes_format
lawful_nodes modules = lawful_counted _ _ (lawful_u32_in 1 most_nodes) (λ nodes. lawful_node modules nodes)

pub lawful_modules : (version : Version) → IsLawful (modules_format version)
lawful_modules version = lawful_counted _ _ (lawful_u32_in 1 4294967295) (λ _. lawful_module version)

pub lawful_tree : (version : Version) → IsLawful (tree_format version)
unfolding tree_format
lawful_tree version = lawful_record _ _ _ (λ _. refl) (λ _. refl) (lawful_pair _ _ (lawful_modules version) lawful_nodes)

pub lawful_counts : IsLawful counts_format
lawful_counts = lawful_counted _ _ (lawful_u32_in 0 4294967295) (λ _. lawful_u32_in 1 most_workers)
