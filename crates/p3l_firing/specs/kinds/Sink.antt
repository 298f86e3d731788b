-- Sinks, which take the outcomes out of the net.
use Rattle.std.specs.Prelude.{◌≡◌, ℕ, Bool, List, [], ◌∷◌, ◌++◌}
use Rattle.p3l_skel.specs.declared.tree.Tree.{Tree}
use Rattle.p3l_skel.specs.Tree.{node_at}
use Rattle.p3l_firing.specs.declared.process.Proc.{Proc}
use Rattle.p3l_firing.specs.Lists.{has_first}
use Rattle.p3l_firing.specs.State.{State, front, pop}
use Rattle.p3l_firing.specs.Process.{in_of}
use Rattle.p3l_firing.specs.Widths.{Widths, Carries}

-- it can fire where a token has come
unfoldable pub can : State → Proc → Bool
can s q = has_first (s.tokens (in_of q 0))

-- it takes the first token, and emits its outcome
unfoldable pub fire : State → Proc → State
fire s q = record (pop s (in_of q 0)) { emitted = s.emitted ++ (front s (in_of q 0)).body ∷ [] }

-- the channels that its condition reads
abbrev pub reads : Proc → List ℕ
reads q = in_of q 0 ∷ []

-- it reads one channel, which carries the root's out words without tags
pub record Fits (tree : Tree) (widths : Widths) (q : Proc) : Type 0 where
  pub node : q.node ≡ 0
  pub arg : q.arg ≡ 0
  pub ins : q.ins ≡ in_of q 0 ∷ []
  pub outs : q.outs ≡ []
  pub takes : Carries widths (in_of q 0) (node_at tree 0).outs 0
