-- Splits, which cut a token into the segments of a reduce.
use Rattle.std.specs.Prelude.{◌≡◌, ℕ, suc, ◌*◌, ◌<◌, nat_lt, cond, Bool, true, ◌&&◌, Option, List, [], ◌∷◌, length}
use Rattle.p3l_skel.specs.declared.tree.Form.TheVariants.{Reduce}
use Rattle.p3l_skel.specs.declared.tree.Tree.{Tree}
use Rattle.p3l_skel.specs.Tree.{node_at}
use Rattle.p3l_skel.specs.Counts.{IsLawfulCount}
use Rattle.p3l_firing.specs.declared.process.Proc.{Proc}
use Rattle.p3l_firing.specs.declared.net.Net.{Net}
use Rattle.p3l_firing.specs.Lists.{has_first, first_or}
use Rattle.p3l_firing.specs.Token.{credit, over}
use Rattle.p3l_firing.specs.Segments.{segment_length}
use Rattle.p3l_firing.specs.Nodes.{segment_of}
use Rattle.p3l_firing.specs.State.{LocalState, State, front, pop, push, set_own, counted, holding, fresh, has_room}
use Rattle.p3l_firing.specs.Process.{in_of, out_of}
use Rattle.p3l_firing.specs.Widths.{Widths, Carries, AllFit}

-- it can fire where it holds a token, and there is room for the next segment; or where it holds none, and a token has come.
-- A number past the last segment stops it
unfoldable pub can : Net → State → LocalState → Proc → Bool
can net s o q =
    cond (has_first o.held) (nat_lt o.number (length q.outs) && has_room net s (out_of q o.number))
    (has_first (s.tokens (in_of q 0)))

-- the local state after the next of its segments: fresh after the last
unfoldable pub after_segment : ℕ → LocalState → LocalState
after_segment n o = cond (nat_lt (suc o.number) n) (counted o) fresh

-- the state after the next segment of the token held was sent
unfoldable pub segment_sent : Tree → State → ℕ → LocalState → Proc → State
segment_sent tree s p o q =
    set_own
    (push s (out_of q o.number) (over (segment_of tree q.node (length q.outs) o.number) (first_or credit o.held)))
    p (after_segment (length q.outs) o)

-- it sends the next segment of the token that it holds, and releases it after the last; otherwise it takes a token
unfoldable pub fire : Tree → State → ℕ → LocalState → Proc → State
fire tree s p o q =
    cond (has_first o.held) (segment_sent tree s p o q) (set_own (pop s (in_of q 0)) p (holding (front s (in_of q 0))))

-- the channels that its condition reads
abbrev pub reads : Proc → List ℕ
reads q = in_of q 0 ∷ q.outs

-- it reads one channel, and writes those of the segments of a reduce, at least two
pub record Fits (tree : Tree) (widths : Widths) (q : Proc) : Type 0 where
  pub arg : q.arg ≡ 0
  pub node : q.node < length tree.nodes
  pub workers : Option ℕ
  pub len : ℕ
  pub elem : ℕ
  pub form : (node_at tree q.node).form ≡ Reduce workers len elem
  pub count : IsLawfulCount (node_at tree q.node).form (length q.outs)
  pub several : 1 < length q.outs
  pub ins : q.ins ≡ in_of q 0 ∷ []
  pub takes : widths.words (in_of q 0) ≡ (node_at tree q.node).ins
  pub gives : (s : ℕ) → s < length q.outs →
      Carries widths (out_of q s) (segment_length len (length q.outs) s * elem) (widths.tags (in_of q 0))

-- the held token fits the in channel, and the process has a segment of the number in the local state
pub record Keeps (widths : Widths) (q : Proc) (o : LocalState) : Type 0 where
  pub held : AllFit widths (in_of q 0) o.held
  pub number : has_first o.held ≡ true → o.number < length q.outs
