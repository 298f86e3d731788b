-- Emits, which deal tokens to the workers of a farm.
use Rattle.std.specs.Prelude.{◌≡◌, ℕ, ◌+◌, ◌<◌, nat_le, nat_lt, cond, is_some, Bool, ◌&&◌, Option, None, Some, List, [], ◌∷◌, length}
use Rattle.p3l_skel.specs.declared.tree.Form.TheVariants.{Farm}
use Rattle.p3l_skel.specs.declared.tree.Tree.{Tree}
use Rattle.p3l_skel.specs.Tree.{node_at}
use Rattle.p3l_skel.specs.Counts.{IsLawfulCount}
use Rattle.p3l_firing.specs.declared.process.Proc.{Proc}
use Rattle.p3l_firing.specs.declared.net.Net.{Net}
use Rattle.p3l_firing.specs.Lists.{has_first}
use Rattle.p3l_firing.specs.Token.{tagged}
use Rattle.p3l_firing.specs.State.{LocalState, State, front, pop, push, set_own, counted, has_room}
use Rattle.p3l_firing.specs.Process.{in_of}
use Rattle.p3l_firing.specs.Widths.{Widths, AllCarry}

-- of channel c and one chosen after it: c, if it has room and no more tokens
unfoldable pub fewer : Net → State → ℕ → Option ℕ → Option ℕ
fewer net s c None = cond (has_room net s c) (Some c) None
fewer net s c (Some d) = cond (has_room net s c && nat_le (length (s.tokens c)) (length (s.tokens d))) (Some c) (Some d)

-- of these channels the one with room that has the fewest tokens, the first of several
unfoldable pub emptiest : Net → State → List ℕ → Option ℕ
emptiest net s [] = None
emptiest net s (c ∷ cs) = fewer net s c (emptiest net s cs)

-- of one chosen before it and channel c: c, if it has room and fewer tokens
unfoldable pub better : Net → State → Option ℕ → ℕ → Option ℕ
better net s None c = cond (has_room net s c) (Some c) None
better net s (Some b) c = cond (has_room net s c && nat_lt (length (s.tokens c)) (length (s.tokens b))) (Some c) (Some b)

-- it can fire where a token has come, and some worker has room
unfoldable pub can : Net → State → Proc → Bool
can net s q = has_first (s.tokens (in_of q 0)) && is_some (emptiest net s q.outs)

-- the state after process p sent the first token to channel c, with its number as a tag
unfoldable pub sent_to : Option ℕ → State → ℕ → LocalState → Proc → State
sent_to None s p o q = s
sent_to (Some c) s p o q = set_own (push (pop s (in_of q 0)) c (tagged o.number (front s (in_of q 0)))) p (counted o)

-- it tags the first token with its number, and sends it to the worker with room and the fewest tokens
unfoldable pub fire : Net → State → ℕ → LocalState → Proc → State
fire net s p o q = sent_to (emptiest net s q.outs) s p o q

-- the channels that its condition reads
abbrev pub reads : Proc → List ℕ
reads q = in_of q 0 ∷ q.outs

-- it reads one channel, and writes those of the workers of a farm, with a tag more
pub record Fits (tree : Tree) (widths : Widths) (q : Proc) : Type 0 where
  pub arg : q.arg ≡ 0
  pub node : q.node < length tree.nodes
  pub workers : Option ℕ
  pub form : (node_at tree q.node).form ≡ Farm workers
  pub count : IsLawfulCount (node_at tree q.node).form (length q.outs)
  pub ins : q.ins ≡ in_of q 0 ∷ []
  pub takes : widths.words (in_of q 0) ≡ (node_at tree q.node).ins
  pub gives : AllCarry widths q.outs (node_at tree q.node).ins (widths.tags (in_of q 0) + 1)
