-- Gathers, which join the results of the elements of a map.
use Rattle.std.specs.Prelude.{◌≡◌, ℕ, ◌+◌, ◌%◌, ◌<◌, ◌≤◌, nat_lt, cond, Bool, Option, List, [], ◌∷◌, length}
use Rattle.std.specs.List.{AllByRecursion}
use Rattle.p3l_base.specs.declared.cut.Cut.{Cut}
use Rattle.p3l_skel.specs.declared.tree.Form.TheVariants.{Map}
use Rattle.p3l_skel.specs.declared.tree.Tree.{Tree}
use Rattle.p3l_skel.specs.Tree.{node_at, part_at}
use Rattle.p3l_skel.specs.Counts.{IsLawfulCount}
use Rattle.p3l_firing.specs.declared.process.Proc.{Proc}
use Rattle.p3l_firing.specs.declared.net.Net.{Net}
use Rattle.p3l_firing.specs.Lists.{has_first, first_or}
use Rattle.p3l_firing.specs.Token.{credit, bodies}
use Rattle.p3l_firing.specs.Nodes.{last_element, joined_of}
use Rattle.p3l_firing.specs.State.{LocalState, State, front, pop, push, set_own, gathering, released, has_room}
use Rattle.p3l_firing.specs.Process.{in_of, out_of}
use Rattle.p3l_firing.specs.Widths.{Widths, AllCarry, HasWidth}

-- the channel of the result that it takes next
abbrev pub line_of : LocalState → Proc → ℕ
line_of o q = in_of q (length o.held % length q.ins)

-- it holds the results of all elements
unfoldable pub is_full : Tree → LocalState → Proc → Bool
is_full tree o q = nat_lt (last_element tree q.node) (length o.held)

-- it can fire where it holds all results, and there is room for the whole; or where it does not, and the next one has come
unfoldable pub can : Tree → Net → State → LocalState → Proc → Bool
can tree net s o q = cond (is_full tree o q) (has_room net s (out_of q 0)) (has_first (s.tokens (line_of o q)))

-- the state after the results held were joined, with the tags of the first
unfoldable pub whole_sent : Tree → State → ℕ → LocalState → Proc → State
whole_sent tree s p o q =
    set_own
    (push s (out_of q 0) (record { tags = (first_or credit o.held).tags; body = joined_of tree q.node (bodies o.held) }))
    p (released o)

-- it joins the results that it holds, if these are all; else it takes the next one
unfoldable pub fire : Tree → State → ℕ → LocalState → Proc → State
fire tree s p o q =
    cond (is_full tree o q) (whole_sent tree s p o q)
    (set_own (pop s (line_of o q)) p (gathering o (front s (line_of o q))))

-- the channels that its condition reads
abbrev pub reads : LocalState → Proc → List ℕ
reads o q = out_of q 0 ∷ (line_of o q ∷ [])

-- it reads the channels of the workers of a map, which carry its part's out words, and writes one
pub record Fits (tree : Tree) (widths : Widths) (q : Proc) : Type 0 where
  pub arg : q.arg ≡ 0
  pub node : q.node < length tree.nodes
  pub workers : Option ℕ
  pub cut : Cut
  pub form : (node_at tree q.node).form ≡ Map workers cut
  pub count : IsLawfulCount (node_at tree q.node).form (length q.ins)
  pub outs : q.outs ≡ out_of q 0 ∷ []
  pub takes : AllCarry widths q.ins (node_at tree (part_at tree q.node 0)).outs (widths.tags (out_of q 0))
  pub gives : widths.words (out_of q 0) ≡ (node_at tree q.node).outs

-- the held tokens fit the in channels, and are no more than the results of all elements
pub record Keeps (tree : Tree) (widths : Widths) (q : Proc) (o : LocalState) : Type 0 where
  pub held : AllByRecursion (HasWidth (node_at tree (part_at tree q.node 0)).outs (widths.tags (out_of q 0))) o.held
  pub few : length o.held ≤ last_element tree q.node + 1
