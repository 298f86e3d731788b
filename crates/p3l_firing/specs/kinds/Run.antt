-- Runs, which apply a node that is one process.
use Rattle.std.specs.Prelude.{◌≡◌, ℕ, ◌*◌, ◌<◌, length, Bool, ◌&&◌, List, [], ◌∷◌}
use Rattle.p3l_skel.specs.declared.tree.Form.{Form}
use Rattle.p3l_skel.specs.declared.tree.Form.TheVariants.{Seq, Comp, Pipe, Farm, Map, Reduce, Loop}
use Rattle.p3l_skel.specs.declared.tree.Tree.{Tree}
use Rattle.p3l_skel.specs.Tree.{node_at}
use Rattle.p3l_firing.specs.declared.process.Proc.{Proc}
use Rattle.p3l_firing.specs.declared.net.Net.{Net}
use Rattle.p3l_firing.specs.Lists.{has_first}
use Rattle.p3l_firing.specs.Token.{over}
use Rattle.p3l_firing.specs.Nodes.{Leaf, outcome_of}
use Rattle.p3l_firing.specs.State.{State, front, pop, push, has_room}
use Rattle.p3l_firing.specs.Process.{in_of, out_of}
use Rattle.p3l_firing.specs.Widths.{Widths, Carries}

-- it can fire where a token has come, and there is room for its outcome
unfoldable pub can : Net → State → Proc → Bool
can net s q = has_first (s.tokens (in_of q 0)) && has_room net s (out_of q 0)

-- it takes the first token, and appends what its node makes of it
unfoldable pub fire : Tree → Leaf → State → Proc → State
fire tree leaf s q = push (pop s (in_of q 0)) (out_of q 0) (over (outcome_of tree leaf q.node) (front s (in_of q 0)))

-- the channels that its condition reads
abbrev pub reads : Proc → List ℕ
reads q = in_of q 0 ∷ (out_of q 0 ∷ [])

-- `words` words are what a run takes for a node of this form with `ins` words: all of them; or
-- those of its segment, of `arg` elements, if it is one of several runs of a reduce
abbrev pub Takes : Form → ℕ → ℕ → ℕ → Type 0
Takes Seq ins arg words = (arg ≡ 0) × (words ≡ ins)
Takes Comp ins arg words = (arg ≡ 0) × (words ≡ ins)
Takes Pipe ins arg words = ⊥
Takes (Farm workers) ins arg words = ⊥
Takes (Map workers cut) ins arg words = ⊥
Takes (Reduce workers len elem) ins arg words = (arg ≡ 0 → words ≡ ins) × (0 < arg → words ≡ arg * elem)
Takes (Loop turns tokens) ins arg words = ⊥

-- it reads one channel and writes one, for a `seq`, `comp` or `reduce` node; its outcomes keep the tags
pub record Fits (tree : Tree) (widths : Widths) (q : Proc) : Type 0 where
  pub node : q.node < length tree.nodes
  pub ins : q.ins ≡ in_of q 0 ∷ []
  pub outs : q.outs ≡ out_of q 0 ∷ []
  pub takes : Takes (node_at tree q.node).form (node_at tree q.node).ins q.arg (widths.words (in_of q 0))
  pub gives : Carries widths (out_of q 0) (node_at tree q.node).outs (widths.tags (in_of q 0))
