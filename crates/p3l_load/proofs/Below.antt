-- The parts of a node, and the nodes that are counted, are nodes of the tree.
use Rattle.std.proofs.Common.{◌≡◌, ℕ, zero, suc, ◌+◌, ◌-◌, ◌<◌, ◌≤◌, ◌^◌, true, List, [], ◌∷◌, ◌++◌, length, refl, sym, ap, ◌∙◌, subst, arith, length-append}
use Rattle.std.specs.Prelude.{take}
use Rattle.std.specs.List.{flat_map, list_all}
use Rattle.p3l_skel.specs.declared.tree.Form.{Form}
use Rattle.p3l_skel.specs.declared.tree.Form.TheVariants.{Seq, Comp, Pipe, Farm, Map, Reduce, Loop}
use Rattle.p3l_skel.specs.declared.tree.Tree.{Tree}
use Rattle.p3l_skel.specs.Counts.{IsCountInRange, TakesLawful, counted, counted_from, outside_parts, own_counted}
use Rattle.p3l_skel.specs.Lawful.{AreSubtrees, IsLawfulTree, IsSubtree}
use Rattle.p3l_skel.specs.Tree.{node_at, nesting}
use Rattle.p3l_skel.proofs.Below.{counted_from-step}
use Rattle.p3l_skel.proofs.Depth.{IsSubtree-grows, subtree_at}
use Rattle.p3l_skel.proofs.Subtrees.{IsSubtree-step}
use Rattle.std.proofs.lemmas.Nat.{pow_pos}
use Rattle.p3l_format.specs.Numbers.{u32_in, u32_below}
use Rattle.p3l_format.specs.laws.Parts.{both_true}
use Rattle.p3l_load.proofs.Ranges.{fits_below, fits_in}

-- subtrees side by side end where the last of them does
ends : (Is : ℕ → ℕ → Type 0) (limit : ℕ) → ((p next : ℕ) → Is p next → next ≤ limit) → (ps : List ℕ) (from next : ℕ) → AreSubtrees Is ps from next → from ≤ limit → next ≤ limit
ends Is limit each [] from next are fits = omega (arith, are, fits)
ends Is limit each (p ∷ ps) from next are fits = ends Is limit each ps are.1.0 next are.1.2 (each p are.1.0 are.1.1)

subtree_ends : (d : ℕ) (tree : Tree) (k next : ℕ) → IsSubtree d tree k next → next ≤ length tree.nodes
unfolding IsSubtree
subtree_ends zero tree k next is = absurd is
subtree_ends (suc d) tree k next is =
    ends (IsSubtree d tree) (length tree.nodes) (subtree_ends d tree) (node_at tree k).parts (k + 1) next is.1 (omega (arith, is.0))

-- the subtrees begin below the limit, and are no more than the nodes from `from` to next
side_by_side : (Is : ℕ → ℕ → Type 0) (limit : ℕ) → limit < 2 ^ 32 → ((p next : ℕ) → Is p next → (p < next) × (p < limit)) → (ps : List ℕ) (from next : ℕ)
    → AreSubtrees Is ps from next → (list_all (u32_below limit).fits ps ≡ true) × (length ps + from ≤ next)
side_by_side Is limit small each [] from next are = (refl, omega (arith, are))
side_by_side Is limit small each (p ∷ ps) from next are =
    let own = each p are.1.0 are.1.1 in
    let rest = side_by_side Is limit small each ps are.1.0 next are.1.2 in (
      both_true ((u32_below limit).fits p) (list_all (u32_below limit).fits ps) (fits_below limit p own.1 (omega (arith, own.1, small))) rest.0,
      omega (arith, rest.1, own.0, are.0),
    )

inside : (d : ℕ) (tree : Tree) (p next : ℕ) → IsSubtree d tree p next → (p < next) × (p < length tree.nodes)
inside d tree p next is = (IsSubtree-grows d tree p next is, omega (arith, IsSubtree-grows d tree p next is, subtree_ends d tree p next is))

pub parts_fit : (tree : Tree) → IsLawfulTree tree → (k : ℕ) → k < length tree.nodes
    → (list_all (u32_below (length tree.nodes)).fits (node_at tree k).parts ≡ true) × (length (node_at tree k).parts < 2 ^ 32)
parts_fit tree lawful k there =
    let at = subtree_at tree lawful k there in
    let below = ((IsSubtree-step nesting tree k at.0 (omega arith)).0 at.1).1 in
    let are = side_by_side (IsSubtree 5 tree) (length tree.nodes) (omega (arith, lawful.few_nodes)) (inside 5 tree) (node_at tree k).parts (k + 1) at.0 below in
    (are.0, omega (arith, are.1, subtree_ends nesting tree k at.0 at.1, lawful.few_nodes))

-- ---- counts

pub count_range : (form : Form) (n : ℕ) → IsCountInRange form n → (1 ≤ n) × (n ≤ 512)
count_range Seq n is = absurd is
count_range Comp n is = absurd is
count_range Pipe n is = absurd is
count_range (Farm w) n is = is
count_range (Map w cut) n is = (is.0, is.2)
count_range (Reduce w len elem) n is =
    let some : 0 < 2 ^ is.0.0 = pow_pos is.0.0 in
    (omega (arith, some, is.0.1), is.2)
count_range (Loop turns tokens) n is = absurd is

pub counts_fit : (tree : Tree) (ks ns : List ℕ) → TakesLawful tree ks ns [] → (list_all (u32_in 1 512).fits ns ≡ true) × (length ns ≡ length ks)
counts_fit tree [] ns takes = subst (λ (ns : List ℕ). (list_all (u32_in 1 512).fits ns ≡ true) × (length ns ≡ 0)) (sym takes) (refl, refl)
counts_fit tree (k ∷ ks) [] takes = absurd takes
counts_fit tree (k ∷ ks) (n ∷ ns) takes =
    let range = count_range (node_at tree k).form n takes.0.1 in
    let rest = counts_fit tree ks ns takes.1 in (
      both_true ((u32_in 1 512).fits n) (list_all (u32_in 1 512).fits ns) (fits_in 1 512 n range.0 range.1 (omega (arith, range.1))) rest.0,
      ap suc rest.1,
    )

own_few : (form : Form) (k : ℕ) → length (own_counted form k) ≤ 1
own_few Seq k = omega arith
own_few Comp k = omega arith
own_few Pipe k = omega arith
own_few (Farm w) k = omega arith
own_few (Map w cut) k = omega arith
own_few (Reduce w len elem) k = omega arith
own_few (Loop turns tokens) k = omega arith

first_less : (f : ℕ → List ℕ) (ps : List ℕ) → length (flat_map f (take 1 ps)) ≤ length (flat_map f ps)
first_less f [] = omega arith
first_less f (p ∷ []) = omega arith
first_less f (p ∷ (q ∷ ps)) = omega (arith, length-append (f p) [], length-append (f p) (flat_map f (q ∷ ps)))

outside_less : (form : Form) (f : ℕ → List ℕ) (ps : List ℕ) → length (flat_map f (outside_parts form ps)) ≤ length (flat_map f ps)
outside_less Seq f ps = omega arith
outside_less Comp f ps = omega arith
outside_less Pipe f ps = omega arith
outside_less (Farm w) f ps = first_less f ps
outside_less (Map w cut) f ps = first_less f ps
outside_less (Reduce w len elem) f ps = omega arith
outside_less (Loop turns tokens) f ps = first_less f ps

below_few : (f : ℕ → List ℕ) (Is : ℕ → ℕ → Type 0) → ((p next : ℕ) → Is p next → length (f p) + p ≤ next) → (ps : List ℕ) (from next : ℕ)
    → AreSubtrees Is ps from next → length (flat_map f ps) + from ≤ next
below_few f Is each [] from next are = omega (arith, are)
below_few f Is each (p ∷ ps) from next are =
    omega (arith, each p are.1.0 are.1.1, below_few f Is each ps are.1.0 next are.1.2, are.0, length-append (f p) (flat_map f ps))

suc_less : (d : ℕ) → suc d - 1 ≡ d
suc_less d = omega arith

counted_few : (d : ℕ) (tree : Tree) (k next : ℕ) → IsSubtree d tree k next → length (counted_from tree d k) + k ≤ next
unfolding IsSubtree
counted_few zero tree k next is = absurd is
counted_few (suc d) tree k next is =
    let node = node_at tree k in
    let below = counted_from tree d in
    let whole : length (counted_from tree (suc d) k) ≡ length (own_counted node.form k ++ flat_map below (outside_parts node.form node.parts)) =
    ap length (counted_from-step tree (suc d) k (omega arith))
    ∙ ap (λ e. length (own_counted node.form k ++ flat_map (counted_from tree e) (outside_parts node.form node.parts))) (suc_less d) in
    omega (
      arith,
      whole,
      length-append (own_counted node.form k) (flat_map below (outside_parts node.form node.parts)),
      own_few node.form k,
      outside_less node.form below node.parts,
      below_few below (IsSubtree d tree) (counted_few d tree) node.parts (k + 1) next is.1,
    )

pub few_counted : (tree : Tree) → IsLawfulTree tree → length (counted tree) ≤ 128
few_counted tree lawful = omega (arith, counted_few 6 tree 0 (length tree.nodes) lawful.preorder, lawful.few_nodes)
