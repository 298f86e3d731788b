-- Scatters, which cut a token into the elements of a map.
use Rattle.std.specs.Prelude.{◌≡◌, ℕ, ◌%◌, ◌<◌, ◌≤◌, nat_lt, cond, Bool, true, Option, List, [], ◌∷◌, length}
use Rattle.p3l_base.specs.declared.cut.Cut.{Cut}
use Rattle.p3l_skel.specs.declared.tree.Form.TheVariants.{Map}
use Rattle.p3l_skel.specs.declared.tree.Tree.{Tree}
use Rattle.p3l_skel.specs.Tree.{node_at, part_at}
use Rattle.p3l_skel.specs.Counts.{IsLawfulCount}
use Rattle.p3l_firing.specs.declared.process.Proc.{Proc}
use Rattle.p3l_firing.specs.declared.net.Net.{Net}
use Rattle.p3l_firing.specs.Lists.{has_first, first_or}
use Rattle.p3l_firing.specs.Token.{credit, over}
use Rattle.p3l_firing.specs.Nodes.{last_element, element_of}
use Rattle.p3l_firing.specs.State.{LocalState, State, front, pop, push, set_own, counted, holding, fresh, has_room}
use Rattle.p3l_firing.specs.Process.{in_of, out_of}
use Rattle.p3l_firing.specs.Widths.{Widths, AllCarry, AllFit}

-- the channel of the element that it sends next
abbrev pub line_of : LocalState → Proc → ℕ
line_of o q = out_of q (o.number % length q.outs)

-- it can fire where it holds a token, and there is room for the next element; or where it holds none, and a token has come
unfoldable pub can : Net → State → LocalState → Proc → Bool
can net s o q = cond (has_first o.held) (has_room net s (line_of o q)) (has_first (s.tokens (in_of q 0)))

-- the local state after the next element: fresh after the last
unfoldable pub after_element : Tree → LocalState → Proc → LocalState
after_element tree o q = cond (nat_lt o.number (last_element tree q.node)) (counted o) fresh

-- the state after the next element of the token held was sent
unfoldable pub element_sent : Tree → State → ℕ → LocalState → Proc → State
element_sent tree s p o q =
    set_own (push s (line_of o q) (over (element_of tree q.node o.number) (first_or credit o.held))) p (after_element tree o q)

-- it sends the next element of the token that it holds, and releases it after the last; otherwise it takes a token
unfoldable pub fire : Tree → State → ℕ → LocalState → Proc → State
fire tree s p o q =
    cond (has_first o.held) (element_sent tree s p o q) (set_own (pop s (in_of q 0)) p (holding (front s (in_of q 0))))

-- the channels that its condition reads
abbrev pub reads : LocalState → Proc → List ℕ
reads o q = in_of q 0 ∷ (line_of o q ∷ [])

-- it reads one channel, and writes those of the workers of a map, which carry its part's in words
pub record Fits (tree : Tree) (widths : Widths) (q : Proc) : Type 0 where
  pub arg : q.arg ≡ 0
  pub node : q.node < length tree.nodes
  pub workers : Option ℕ
  pub cut : Cut
  pub form : (node_at tree q.node).form ≡ Map workers cut
  pub count : IsLawfulCount (node_at tree q.node).form (length q.outs)
  pub ins : q.ins ≡ in_of q 0 ∷ []
  pub takes : widths.words (in_of q 0) ≡ (node_at tree q.node).ins
  pub gives : AllCarry widths q.outs (node_at tree (part_at tree q.node 0)).ins (widths.tags (in_of q 0))

-- the held token fits the in channel, and has an element of the number in the local state
pub record Keeps (tree : Tree) (widths : Widths) (q : Proc) (o : LocalState) : Type 0 where
  pub held : AllFit widths (in_of q 0) o.held
  pub number : has_first o.held ≡ true → o.number ≤ last_element tree q.node
