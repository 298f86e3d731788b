-- The lines of a tree, node by node.
use Rattle.std.proofs.Common.{◌≡◌, ℕ, zero, suc, ◌+◌, ◌-◌, ◌==◌, ◌<◌, ◌++◌, List, true, refl, ap, ◌∙◌, arith, add-one, drop, get_or, length, append_assoc}
use Rattle.std.specs.Prelude.{codes}
use Rattle.std.specs.List.{flat_map}
use Rattle.std.proofs.lemmas.Bool.Decides.{nat_tests}
use Rattle.std.proofs.lemmas.List.{drop_more}
use Rattle.p3l_skel.specs.declared.tree.Tree.{Tree}
use Rattle.p3l_skel.specs.Counts.{count_of, outside_parts}
use Rattle.p3l_skel.specs.Tree.{node_at, nesting}
use Rattle.p3l_cost.specs.declared.costs.Costs.{Costs}
use Rattle.p3l_model.specs.Service.{service}
use Rattle.p3l_advise.specs.Bottleneck.{bottleneck, term_row}
use Rattle.p3l_advise.specs.Lines.{indent, lines_from, mark, node_line, term_name}
use Rattle.p3l_advise.proofs.Numbers.{lines_more}

pub indent_more : (depth : ℕ) → indent (depth + 1) ≡ indent depth ++ codes "  "
indent_more depth = rw add-one (lines_more (λ level. codes "  ") 0 depth depth (omega arith))

same_node : (k worst : ℕ) → k ≡ worst → (k == worst) ≡ true
same_node k worst is = grind (arith, nat_tests)

pub mark_here : (tree : Tree) (costs : Costs) (counts : List ℕ) (k : ℕ) → k ≡ bottleneck tree costs counts →
    mark tree costs counts k ≡ codes " bottleneck: " ++ term_name (term_row tree costs k (node_at tree k).form (service tree costs counts k) (count_of tree counts k))
mark_here tree costs counts k is = rw (same_node k (bottleneck tree costs counts) is) refl

pub lines_from-zero : (tree : Tree) (costs : Costs) (counts : List ℕ) (k : ℕ) → lines_from tree costs counts 0 k ≡ node_line tree costs counts nesting k
unfolding lines_from
lines_from-zero tree costs counts k = refl

pub lines_from-step : (tree : Tree) (costs : Costs) (counts : List ℕ) (d k : ℕ) → 0 < d →
    lines_from tree costs counts d k ≡ node_line tree costs counts (nesting - d) k ++ flat_map (lines_from tree costs counts (d - 1)) (outside_parts (node_at tree k).form (node_at tree k).parts)
unfolding lines_from
lines_from-step tree costs counts zero k some = absurd (omega arith)
lines_from-step tree costs counts (suc d) k some = let e : suc d - 1 ≡ d = omega arith in rw e refl

pub parts_step : (below : ℕ → List ℕ) (parts : List ℕ) (i d : ℕ) (text : List ℕ) → i < length parts →
    (text ++ below (get_or parts i d)) ++ flat_map below (drop (i + 1) parts) ≡ text ++ flat_map below (drop i parts)
parts_step below parts i d text inside =
    rw (drop_more parts i d inside) (append_assoc text (below (get_or parts i d)) (flat_map below (drop (i + 1) parts)))

-- a text has grown by words
pub grown : (text before words other : List ℕ) → text ≡ before ++ words → words ≡ other → text ≡ before ++ other
grown text before words other made same = made ∙ ap (λ (xs : List ℕ). before ++ xs) same

-- a text that has grown by the pieces of a node's line
pub pieces : (t0 t1 t2 t3 t4 t5 t6 t7 t8 a b c d e s n m l : List ℕ) → t1 ≡ t0 ++ a → t2 ≡ t1 ++ b → t3 ≡ t2 ++ c → t4 ≡ t3 ++ d → t5 ≡ t4 ++ e → t6 ≡ t5 ++ (s ++ n) → t7 ≡ t6 ++ m → t8 ≡ t7 ++ l → t8 ≡ t0 ++ (a ++ (b ++ (c ++ (d ++ (e ++ (s ++ (n ++ (m ++ l))))))))
pieces t0 t1 t2 t3 t4 t5 t6 t7 t8 a b c d e s n m l e1 e2 e3 e4 e5 e6 e7 e8 = rw (e8, e7, e6, e5, e4, e3, e2, e1) (simp append_assoc)
