-- Sources, which send the items, one by one.
use Rattle.std.specs.Prelude.{◌≡◌, ℕ, ◌+◌, Bool, ◌&&◌, List, [], ◌∷◌}
use Rattle.p3l_base.specs.declared.outcome.Outcome.TheVariants.{Value}
use Rattle.p3l_skel.specs.declared.tree.Tree.{Tree}
use Rattle.p3l_skel.specs.Tree.{node_at}
use Rattle.p3l_firing.specs.declared.process.Proc.{Proc}
use Rattle.p3l_firing.specs.declared.net.Net.{Net}
use Rattle.p3l_firing.specs.Lists.{has_first, first_or, rest_of}
use Rattle.p3l_firing.specs.Token.{plain}
use Rattle.p3l_firing.specs.State.{State, push, has_room}
use Rattle.p3l_firing.specs.Process.{out_of}
use Rattle.p3l_firing.specs.Widths.{Widths, Carries}

-- it can fire where an item is left, and there is room for it
unfoldable pub can : Net → State → Proc → Bool
can net s q = has_first s.unsent && has_room net s (out_of q 0)

-- it appends the next item as a value without tags
unfoldable pub fire : State → Proc → State
fire s q =
    record (push s (out_of q 0) (plain (Value (first_or [] s.unsent)))) { unsent = rest_of s.unsent; sent = s.sent + 1 }

-- the channels that its condition reads
abbrev pub reads : Proc → List ℕ
reads q = out_of q 0 ∷ []

-- it writes one channel, which carries the root's in words without tags
pub record Fits (tree : Tree) (widths : Widths) (q : Proc) : Type 0 where
  pub node : q.node ≡ 0
  pub arg : q.arg ≡ 0
  pub ins : q.ins ≡ []
  pub outs : q.outs ≡ out_of q 0 ∷ []
  pub gives : Carries widths (out_of q 0) (node_at tree 0).ins 0
