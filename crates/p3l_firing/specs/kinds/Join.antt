-- Joins, which combine two outcomes of a reduce.
use Rattle.std.specs.Prelude.{◌≡◌, ℕ, ◌<◌, Bool, ◌&&◌, Option, List, [], ◌∷◌, length}
use Rattle.p3l_base.specs.declared.outcome.Outcome.{Outcome}
use Rattle.p3l_skel.specs.declared.tree.Form.TheVariants.{Reduce}
use Rattle.p3l_skel.specs.declared.tree.Tree.{Tree}
use Rattle.p3l_skel.specs.Tree.{node_at}
use Rattle.p3l_firing.specs.declared.process.Proc.{Proc}
use Rattle.p3l_firing.specs.declared.net.Net.{Net}
use Rattle.p3l_firing.specs.declared.token.Token.{Token}
use Rattle.p3l_firing.specs.Lists.{has_first}
use Rattle.p3l_firing.specs.Nodes.{Leaf, operator_of}
use Rattle.p3l_firing.specs.State.{State, front, pop, push, has_room}
use Rattle.p3l_firing.specs.Process.{in_of, out_of}
use Rattle.p3l_firing.specs.Widths.{Widths, AllCarry}

-- two tokens made one, with the tags of the left
unfoldable pub paired_by : (Outcome → Outcome → Outcome) → Token → Token → Token
paired_by operator left right = record { tags = left.tags; body = operator left.body right.body }

-- it can fire where a token has come on both sides, and there is room for their outcome
unfoldable pub can : Net → State → Proc → Bool
can net s q = has_first (s.tokens (in_of q 0)) && (has_first (s.tokens (in_of q 1)) && has_room net s (out_of q 0))

-- it takes both tokens, and appends what the operator makes of them, with the left one's tags
unfoldable pub fire : Tree → Leaf → State → Proc → State
fire tree leaf s q =
    push (pop (pop s (in_of q 0)) (in_of q 1)) (out_of q 0)
    (paired_by (operator_of tree leaf q.node) (front s (in_of q 0)) (front s (in_of q 1)))

-- the channels that its condition reads
abbrev pub reads : Proc → List ℕ
reads q = out_of q 0 ∷ (in_of q 0 ∷ (in_of q 1 ∷ []))

-- it reads two channels and writes one, all with the out words of a reduce
pub record Fits (tree : Tree) (widths : Widths) (q : Proc) : Type 0 where
  pub arg : q.arg ≡ 0
  pub node : q.node < length tree.nodes
  pub workers : Option ℕ
  pub len : ℕ
  pub elem : ℕ
  pub form : (node_at tree q.node).form ≡ Reduce workers len elem
  pub ins : q.ins ≡ in_of q 0 ∷ (in_of q 1 ∷ [])
  pub outs : q.outs ≡ out_of q 0 ∷ []
  pub takes : AllCarry widths q.ins (node_at tree q.node).outs (widths.tags (out_of q 0))
  pub gives : widths.words (out_of q 0) ≡ (node_at tree q.node).outs
