-- Facts about the nodes of a tree that processes need: first those of the tree alone, then the results
-- of its nodes on outcomes.
use Rattle.std.specs.Prelude.{ℕ, ℤ, ◌-◌, List, []}
use Rattle.p3l_base.specs.declared.cut.Cut.{Cut}
use Rattle.p3l_base.specs.declared.outcome.Outcome.{Outcome}
use Rattle.p3l_base.specs.declared.outcome.Outcome.TheVariants.{Value}
use Rattle.p3l_base.specs.Cut.{element_count, element_words, joined_words}
use Rattle.p3l_skel.specs.declared.tree.Form.{Form}
use Rattle.p3l_skel.specs.declared.tree.Form.TheVariants.{Seq, Comp, Pipe, Farm, Map, Reduce, Loop}
use Rattle.p3l_skel.specs.declared.tree.Tree.{Tree}
use Rattle.p3l_skel.specs.Tree.{node_at, part_at}
use Rattle.p3l_skel.specs.Fold.{combined, tree_fold}
use Rattle.p3l_skel.specs.Item.{item, on_value, gathered, turns_spent}
use Rattle.p3l_firing.specs.Segments.{segment_words}

-- the outcomes of a tree's `seq` modules on words, by their numbers
abbrev pub Leaf : Type 0
Leaf = ℕ → List ℤ → Outcome

-- the cut of a form that is none of a map: nothing is cut
abbrev pub no_cut : Cut
no_cut = record { first = 0; second = 0; ins = []; outs = [] }

-- the cut of a form's token if the form is a map, otherwise no cut
abbrev pub cut_of : Form → Cut
cut_of Seq = no_cut
cut_of Comp = no_cut
cut_of Pipe = no_cut
cut_of (Farm workers) = no_cut
cut_of (Map workers cut) = cut
cut_of (Reduce workers len elem) = no_cut
cut_of (Loop turns tokens) = no_cut

-- the words of an element of a form, if it is that of a reduce
abbrev pub elem_of : Form → ℕ
elem_of Seq = 0
elem_of Comp = 0
elem_of Pipe = 0
elem_of (Farm workers) = 0
elem_of (Map workers cut) = 0
elem_of (Reduce workers len elem) = elem
elem_of (Loop turns tokens) = 0

-- the most turns of a form, if it is that of a loop
abbrev pub most_turns : Form → ℕ
most_turns Seq = 0
most_turns Comp = 0
most_turns Pipe = 0
most_turns (Farm workers) = 0
most_turns (Map workers cut) = 0
most_turns (Reduce workers len elem) = 0
most_turns (Loop turns tokens) = turns

-- of a loop: its most turns, and the trap where they are spent
unfoldable pub turns_of : Tree → ℕ → ℕ
turns_of tree node = most_turns (node_at tree node).form

unfoldable pub spent_of : Tree → ℕ → Outcome
spent_of tree node = turns_spent (node_at tree node).module

-- of a map: the number of its last element, element k of an outcome, and the outcomes of all elements made one
unfoldable pub last_element : Tree → ℕ → ℕ
last_element tree node = element_count (cut_of (node_at tree node).form) - 1

unfoldable pub element_of : Tree → ℕ → ℕ → Outcome → Outcome
element_of tree node k =
    let cut : Cut = cut_of (node_at tree node).form in on_value (λ words. Value (element_words cut.ins cut.second words k))

unfoldable pub joined_of : Tree → ℕ → List Outcome → Outcome
joined_of tree node = gathered (joined_words (cut_of (node_at tree node).form))

-- of a reduce: segment s of n of an outcome
unfoldable pub segment_of : Tree → ℕ → ℕ → ℕ → Outcome → Outcome
segment_of tree node n s = on_value (λ words. Value (segment_words (elem_of (node_at tree node).form) n s words))

-- the outcome of a node on an outcome: a trap stays as it is
abbrev pub outcome_of : Tree → Leaf → ℕ → Outcome → Outcome
outcome_of tree leaf node = on_value (item tree leaf node)

-- the outcome of a loop's condition on an outcome
unfoldable pub test_of : Tree → Leaf → ℕ → Outcome → Outcome
test_of tree leaf node = outcome_of tree leaf (part_at tree node 1)

-- the outcome of a reduce's operator on two outcomes, and on several by halves
unfoldable pub operator_of : Tree → Leaf → ℕ → Outcome → Outcome → Outcome
operator_of tree leaf node = combined (item tree leaf (part_at tree node 0))

unfoldable pub fold_of : Tree → Leaf → ℕ → List Outcome → Outcome
fold_of tree leaf node = tree_fold (item tree leaf (part_at tree node 0))
