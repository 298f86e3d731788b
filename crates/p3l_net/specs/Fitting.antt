-- Shots that fit a net and its loops as every state of a run does, but for the order of tokens.
use Rattle.std.specs.Prelude.{◌≡◌, ℕ, ◌+◌, ◌<◌, ◌≤◌, ⊤, List, length, Some, slice_get, slice_index}
use Rattle.std.specs.List.{All}
use Rattle.p3l_base.specs.declared.outcome.Outcome.{Outcome}
use Rattle.p3l_base.specs.declared.outcome.Outcome.TheVariants.{Value, Trapped}
use Rattle.p3l_skel.specs.declared.tree.Form.{Form}
use Rattle.p3l_skel.specs.declared.tree.Form.TheVariants.{Seq, Comp, Pipe, Farm, Map, Reduce, Loop}
use Rattle.p3l_skel.specs.declared.tree.Tree.{Tree}
use Rattle.p3l_skel.specs.Tree.{node_at}
use Rattle.p3l_firing.specs.declared.net.Net.{Net}
use Rattle.p3l_firing.specs.declared.process.Proc.{Proc}
use Rattle.p3l_firing.specs.declared.process.ProcKind.{ProcKind}
use Rattle.p3l_firing.specs.declared.process.ProcKind.TheVariants as kinds
use Rattle.p3l_firing.specs.Nodes.{turns_of}
use Rattle.p3l_firing.specs.Process.{in_of, out_of}
use Rattle.p3l_firing.specs.State.{chan_at}
use Rattle.p3l_firing.specs.Token.{credit}
use Rattle.p3l_firing.specs.Widths.{Widths}
use Rattle.p3l_firing.specs.Shot.{own_saved_at, saved_at, token_of}
use Rattle.p3l_firing.specs.declared.shot.Own.{Own}
use Rattle.p3l_firing.specs.declared.shot.SavedToken.{SavedToken}
use Rattle.p3l_firing.specs.declared.shot.Shot.{Shot}
use Rattle.p3l_net.specs.Shot.{Fits}

-- the place of a loop in a net: its head and its tail, and the intervals of the processes and of the channels that are its own or
-- its body's
pub record LoopPlace : Type 0 where
  pub head : ℕ
  pub tail : ℕ
  pub proc_from : ℕ
  pub proc_to : ℕ
  pub chan_from : ℕ
  pub chan_to : ℕ

abbrev pub IsCredit : SavedToken → Type 0
IsCredit saved = token_of saved ≡ credit

-- a trap names a module of the tree
abbrev pub IsOfModule : Tree → Outcome → Type 0
IsOfModule tree (Value words) = ⊤
IsOfModule tree (Trapped trap) = trap.module < length tree.modules

abbrev pub NamesModule : Tree → SavedToken → Type 0
NamesModule tree saved = IsOfModule tree saved.body

-- a process that hands out pieces holds one token at most, and a tail no more than there may be credits
abbrev pub HoldsFew : ProcKind → Net → Proc → Own → Type 0
HoldsFew kinds.Source net q o = ⊤
HoldsFew kinds.Sink net q o = ⊤
HoldsFew kinds.Run net q o = ⊤
HoldsFew kinds.Emit net q o = ⊤
HoldsFew kinds.Collect net q o = ⊤
HoldsFew kinds.Scatter net q o = length o.held ≤ 1
HoldsFew kinds.Gather net q o = ⊤
HoldsFew kinds.Split net q o = length o.held ≤ 1
HoldsFew kinds.FoldGather net q o = ⊤
HoldsFew kinds.Join net q o = ⊤
HoldsFew kinds.Head net q o = ⊤
HoldsFew kinds.Tail net q o = length o.held ≤ (chan_at net (out_of q 2)).cap

-- the most tokens that a form lets in at once, if it is that of a loop
abbrev pub most_tokens : Form → ℕ
most_tokens Seq = 0
most_tokens Comp = 0
most_tokens Pipe = 0
most_tokens (Farm workers) = 0
most_tokens (Map workers cut) = 0
most_tokens (Reduce workers len elem) = 0
most_tokens (Loop turns tokens) = tokens

-- of a token in a loop, outside of which tokens have `depth` tags: the loop's own two tags are a number below `next` and a turn from 1
-- to `turns`. What has fewer tags is a credit of a loop inside
abbrev pub IsTurning : ℕ → ℕ → ℕ → SavedToken → Type 0
IsTurning depth next turns saved =
    depth + 2 ≤ length saved.tags
    → (slice_index saved.tags depth < next) × ((1 ≤ slice_index saved.tags (depth + 1)) × (slice_index saved.tags (depth + 1) ≤ turns))

-- a loop at this place, whose head is q: each token that was let in and not out has taken a credit, and all tokens in it are in one
-- of its turns
pub record FitsLoop (tree : Tree) (net : Net) (widths : Widths) (shot : Shot) (place : LoopPlace) (q : Proc) : Type 0 where
  pub ordered : (own_saved_at shot place.tail).number ≤ (own_saved_at shot place.head).number
  pub credits : length (saved_at shot (in_of q 2)) + (own_saved_at shot place.head).number
      ≡ most_tokens (node_at tree q.node).form + (own_saved_at shot place.tail).number
  pub sent : (c : ℕ) → place.chan_from ≤ c → c < place.chan_to
      → All (IsTurning (widths.tags (in_of q 0)) (own_saved_at shot place.head).number (turns_of tree q.node)) (saved_at shot c)
  pub held : (p : ℕ) → place.proc_from ≤ p → p < place.proc_to
      → All (IsTurning (widths.tags (in_of q 0)) (own_saved_at shot place.head).number (turns_of tree q.node)) (own_saved_at shot p).held

-- a shot fits a net whose channels carry these words and tags, and which has loops at these places
pub record Fitting (tree : Tree) (net : Net) (widths : Widths) (loops : List LoopPlace) (shot : Shot) : Type 0 where
  pub fits : Fits tree net widths shot
  pub credits : (p : ℕ) (q : Proc) → slice_get net.procs p ≡ Some q → q.kind ≡ kinds.Head → All IsCredit (saved_at shot (in_of q 2))
  pub sent_traps : (c : ℕ) → All (NamesModule tree) (saved_at shot c)
  pub held_traps : (p : ℕ) → All (NamesModule tree) (own_saved_at shot p).held
  pub held : (p : ℕ) (q : Proc) → slice_get net.procs p ≡ Some q → HoldsFew q.kind net q (own_saved_at shot p)
  pub turning : All (λ (place : LoopPlace). (q : Proc) → slice_get net.procs place.head ≡ Some q → FitsLoop tree net widths shot place q) loops
