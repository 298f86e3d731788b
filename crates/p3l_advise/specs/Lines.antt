-- The tree with its counts, a line a node.
use Rattle.std.specs.Prelude.{ℕ, zero, suc, ◌-◌, ◌==◌, ◌++◌, List, [], codes, if◌then◌else◌}
use Rattle.std.specs.Fmt.{decimal}
use Rattle.std.specs.List.{flat_map, range_with_len}
use Rattle.p3l_skel.specs.declared.tree.Tree.{Tree}
use Rattle.p3l_skel.specs.Counts.{count_of, outside_parts}
use Rattle.p3l_skel.specs.Tree.{node_at, nesting}
use Rattle.p3l_cost.specs.declared.costs.Costs.{Costs}
use Rattle.p3l_model.specs.Service.{service}
use Rattle.p3l_alloc.specs.Explanation.{count_words, kind_name, module_name}
use Rattle.p3l_advise.specs.Bottleneck.{bottleneck, term_row}
use Rattle.p3l_advise.specs.declared.bottleneck.Term.{Term}
use Rattle.p3l_advise.specs.declared.bottleneck.Term.TheVariants.{Reading, Work, Writing}

-- two blanks a level
abbrev pub indent : ℕ → List ℕ
indent depth = flat_map (λ level. codes "  ") (range_with_len 0 depth)

-- the name of a part of a node's time
abbrev pub term_name : Term → List ℕ
term_name Reading = codes "reading"
term_name Work = codes "its work"
term_name Writing = codes "writing"

-- the mark of the bottleneck
abbrev pub mark : Tree → Costs → (counts : List ℕ) → ℕ → List ℕ
mark tree costs counts k =
    if k == bottleneck tree costs counts then codes " bottleneck: " ++ term_name (term_row tree costs k (node_at tree k).form (service tree costs counts k) (count_of tree counts k))
    else []

-- NAME KIND count C service T, as deep as the node lies, and the mark where it is the bottleneck
abbrev pub node_line : Tree → Costs → (counts : List ℕ) → (depth k : ℕ) → List ℕ
node_line tree costs counts depth k =
    indent depth ++ (module_name tree (node_at tree k).module ++ (codes " " ++ (kind_name (node_at tree k).form
    ++ (count_words (node_at tree k).form (count_of tree counts k) ++ (codes " service " ++ (decimal (service tree costs counts k) ++ (mark tree costs counts k ++ codes "\n")))))))

-- the lines of a node and of the nodes below it that have processes of their own, with so many levels left
unfoldable pub lines_from : Tree → Costs → (counts : List ℕ) → (levels k : ℕ) → List ℕ
lines_from tree costs counts zero k = node_line tree costs counts nesting k
lines_from tree costs counts (suc levels) k =
    node_line tree costs counts (nesting - suc levels) k ++ flat_map (lines_from tree costs counts levels) (outside_parts (node_at tree k).form (node_at tree k).parts)

-- the lines of the tree
abbrev pub tree_lines : Tree → Costs → (counts : List ℕ) → List ℕ
tree_lines tree costs counts = lines_from tree costs counts nesting 0
