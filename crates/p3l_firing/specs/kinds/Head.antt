-- Heads, which let tokens into a loop.
use Rattle.std.specs.Prelude.{◌≡◌, ℕ, ◌+◌, ◌<◌, cond, Bool, ◌&&◌, ◌||◌, List, [], ◌∷◌, length}
use Rattle.p3l_skel.specs.declared.tree.Form.TheVariants.{Loop}
use Rattle.p3l_skel.specs.declared.tree.Tree.{Tree}
use Rattle.p3l_skel.specs.Tree.{node_at}
use Rattle.p3l_firing.specs.declared.process.Proc.{Proc}
use Rattle.p3l_firing.specs.declared.net.Net.{Net}
use Rattle.p3l_firing.specs.Lists.{has_first}
use Rattle.p3l_firing.specs.Token.{admitted}
use Rattle.p3l_firing.specs.State.{LocalState, State, front, pop, push, set_own, counted, has_room}
use Rattle.p3l_firing.specs.Process.{in_of, out_of}
use Rattle.p3l_firing.specs.Widths.{Widths, Carries}

-- it can fire where there is room in the body, and a token comes back, or one has come from outside and a credit is left
unfoldable pub can : Net → State → Proc → Bool
can net s q =
    has_room net s (out_of q 0)
    && (has_first (s.tokens (in_of q 1)) || (has_first (s.tokens (in_of q 0)) && has_first (s.tokens (in_of q 2))))

-- the state after a token that came back was sent round
unfoldable pub sent_round : State → Proc → State
sent_round s q = push (pop s (in_of q 1)) (out_of q 0) (front s (in_of q 1))

-- the state after process p took a credit, and let a token in, with its number and turn 1
unfoldable pub let_in : State → ℕ → LocalState → Proc → State
let_in s p o q =
    set_own (push (pop (pop s (in_of q 0)) (in_of q 2)) (out_of q 0) (admitted o.number (front s (in_of q 0)))) p (counted o)

-- it sends a token round that came back, if there is one; else it lets one in
unfoldable pub fire : State → ℕ → LocalState → Proc → State
fire s p o q = cond (has_first (s.tokens (in_of q 1))) (sent_round s q) (let_in s p o q)

-- the channels that its condition reads
abbrev pub reads : Proc → List ℕ
reads q = out_of q 0 ∷ (in_of q 1 ∷ (in_of q 0 ∷ (in_of q 2 ∷ [])))

-- it reads what comes from outside, what comes back and the credits, and writes into the body, with two tags more
pub record Fits (tree : Tree) (widths : Widths) (q : Proc) : Type 0 where
  pub arg : q.arg ≡ 0
  pub node : q.node < length tree.nodes
  pub turns : ℕ
  pub tokens : ℕ
  pub form : (node_at tree q.node).form ≡ Loop turns tokens
  pub ins : q.ins ≡ in_of q 0 ∷ (in_of q 1 ∷ (in_of q 2 ∷ []))
  pub outs : q.outs ≡ out_of q 0 ∷ []
  pub takes : widths.words (in_of q 0) ≡ (node_at tree q.node).ins
  pub back : Carries widths (in_of q 1) (node_at tree q.node).ins (widths.tags (in_of q 0) + 2)
  pub credits : Carries widths (in_of q 2) 0 0
  pub gives : Carries widths (out_of q 0) (node_at tree q.node).ins (widths.tags (in_of q 0) + 2)
