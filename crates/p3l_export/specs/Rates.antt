-- The number of tokens that go through each node for one item of the stream, as far as the model knows.
use Rattle.std.specs.Prelude.{ℕ, zero, suc, ◌*◌, List, [], ◌∷◌, min, max}
use Rattle.std.specs.Int.{div_ceil}
use Rattle.std.specs.List.{flat_map}
use Rattle.p3l_base.specs.Cut.{element_count}
use Rattle.p3l_skel.specs.declared.tree.Form.{Form}
use Rattle.p3l_skel.specs.declared.tree.Form.TheVariants.{Seq, Comp, Pipe, Farm, Map, Reduce, Loop}
use Rattle.p3l_skel.specs.declared.tree.Tree.{Tree}
use Rattle.p3l_skel.specs.Counts.{count_of}
use Rattle.p3l_skel.specs.Tree.{node_at, nesting}
use Rattle.p3l_cost.specs.declared.costs.Costs.{Costs}
use Rattle.p3l_model.specs.Service.{expected_turns}

-- a number, as far as it counts: all above 2 ^ 62 are alike
abbrev pub capped : ℕ → ℕ
capped n = min n 4611686018427387904

-- the number of elements of a form, if it is that of a map
abbrev pub elements_of : Form → ℕ
elements_of Seq = 0
elements_of Comp = 0
elements_of Pipe = 0
elements_of (Farm w) = 0
elements_of (Map w cut) = element_count cut
elements_of (Reduce w len elem) = 0
elements_of (Loop turns tokens) = 0

-- a token for each item, in the parts in which rates are counted
abbrev pub whole_rate : ℕ
whole_rate = 65536

-- the rate of one copy of a part, in a node of this form with n workers and these turns, which has a rate itself
abbrev pub part_rate : Form → (n turns rate : ℕ) → ℕ
part_rate Seq n turns rate = rate
part_rate Comp n turns rate = rate
part_rate Pipe n turns rate = rate
part_rate (Farm w) n turns rate = div_ceil rate (max 1 n)
part_rate (Map w cut) n turns rate = capped (rate * div_ceil (element_count cut) (max 1 n))
part_rate (Reduce w len elem) n turns rate = rate
part_rate (Loop most tokens) n turns rate = capped (rate * turns)

-- the rate of a part of node k
abbrev pub rate_inside : Tree → Costs → (ℕ → ℕ) → (rate k : ℕ) → ℕ
rate_inside tree costs count rate k = part_rate (node_at tree k).form (count k) (expected_turns tree costs k) rate

-- the rate of node k, and then those of the nodes below it in preorder, down to a depth
unfoldable pub rates_from : Tree → Costs → (ℕ → ℕ) → (d rate k : ℕ) → List ℕ
rates_from tree costs count zero rate k = []
rates_from tree costs count (suc d) rate k =
    rate ∷ flat_map (rates_from tree costs count d (rate_inside tree costs count rate k)) (node_at tree k).parts

-- the rates of the nodes, by their numbers
abbrev pub rates : Tree → List ℕ → Costs → List ℕ
rates tree counts costs = rates_from tree costs (count_of tree counts) nesting whole_rate 0
