-- Processes that gather the outcomes of the segments of a reduce, and fold them.
use Rattle.std.specs.Prelude.{◌≡◌, ℕ, ◌<◌, ◌≤◌, nat_le, cond, Bool, Option, List, [], ◌∷◌, length}
use Rattle.std.specs.List.{AllByRecursion}
use Rattle.p3l_skel.specs.declared.tree.Form.TheVariants.{Reduce}
use Rattle.p3l_skel.specs.declared.tree.Tree.{Tree}
use Rattle.p3l_skel.specs.Tree.{node_at}
use Rattle.p3l_skel.specs.Counts.{IsLawfulCount}
use Rattle.p3l_firing.specs.declared.process.Proc.{Proc}
use Rattle.p3l_firing.specs.declared.net.Net.{Net}
use Rattle.p3l_firing.specs.Lists.{has_first, first_or}
use Rattle.p3l_firing.specs.Token.{credit, bodies}
use Rattle.p3l_firing.specs.Nodes.{Leaf, fold_of}
use Rattle.p3l_firing.specs.State.{LocalState, State, front, pop, push, set_own, gathering, released, has_room}
use Rattle.p3l_firing.specs.Process.{in_of, out_of}
use Rattle.p3l_firing.specs.Widths.{Widths, AllCarry, HasWidth}

-- it holds the outcomes of all segments
unfoldable pub is_full : LocalState → Proc → Bool
is_full o q = nat_le (length q.ins) (length o.held)

-- the channel of the outcome that it takes next
abbrev pub line_of : LocalState → Proc → ℕ
line_of o q = in_of q (length o.held)

-- it can fire where it holds all outcomes, and there is room for their fold; or where it does not, and the next one has come
unfoldable pub can : Net → State → LocalState → Proc → Bool
can net s o q = cond (is_full o q) (has_room net s (out_of q 0)) (has_first (s.tokens (line_of o q)))

-- the state after the outcomes held were folded, with the tags of the first
unfoldable pub fold_sent : Tree → Leaf → State → ℕ → LocalState → Proc → State
fold_sent tree leaf s p o q =
    set_own
    (push s (out_of q 0) (record { tags = (first_or credit o.held).tags; body = fold_of tree leaf q.node (bodies o.held) }))
    p (released o)

-- it folds the outcomes that it holds, if these are all; else it takes the next one
unfoldable pub fire : Tree → Leaf → State → ℕ → LocalState → Proc → State
fire tree leaf s p o q =
    cond (is_full o q) (fold_sent tree leaf s p o q)
    (set_own (pop s (line_of o q)) p (gathering o (front s (line_of o q))))

-- the channels that its condition reads
abbrev pub reads : Proc → List ℕ
reads q = out_of q 0 ∷ q.ins

-- it reads the channels of the segments of a reduce, at least two, and writes one
pub record Fits (tree : Tree) (widths : Widths) (q : Proc) : Type 0 where
  pub arg : q.arg ≡ 0
  pub node : q.node < length tree.nodes
  pub workers : Option ℕ
  pub len : ℕ
  pub elem : ℕ
  pub form : (node_at tree q.node).form ≡ Reduce workers len elem
  pub count : IsLawfulCount (node_at tree q.node).form (length q.ins)
  pub several : 1 < length q.ins
  pub outs : q.outs ≡ out_of q 0 ∷ []
  pub takes : AllCarry widths q.ins (node_at tree q.node).outs (widths.tags (out_of q 0))
  pub gives : widths.words (out_of q 0) ≡ (node_at tree q.node).outs

-- the held tokens fit the in channels, and are no more than one outcome a segment
pub record Keeps (tree : Tree) (widths : Widths) (q : Proc) (o : LocalState) : Type 0 where
  pub held : AllByRecursion (HasWidth (node_at tree q.node).outs (widths.tags (out_of q 0))) o.held
  pub few : length o.held ≤ length q.ins
