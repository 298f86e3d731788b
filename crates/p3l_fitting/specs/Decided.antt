-- Conditions that decide whether a shot fits, on lists and numbers as they are saved.
use Rattle.std.specs.Prelude.{◌≡◌, ◌≢◌, ℕ, ◌+◌, ◌<◌, ◌≤◌, List, [], length, Some, IfSome, EachIndex, slice_get}
use Rattle.std.specs.List.{All}
use Rattle.p3l_base.specs.declared.outcome.Outcome.{Outcome}
use Rattle.p3l_base.specs.declared.outcome.Outcome.TheVariants.{Value, Trapped}
use Rattle.p3l_skel.specs.declared.tree.Tree.{Tree}
use Rattle.p3l_skel.specs.Tree.{node_at, part_at}
use Rattle.p3l_firing.specs.declared.net.Chan.{Chan}
use Rattle.p3l_firing.specs.declared.net.Net.{Net}
use Rattle.p3l_firing.specs.declared.process.Proc.{Proc}
use Rattle.p3l_firing.specs.declared.process.ProcKind.{ProcKind}
use Rattle.p3l_firing.specs.declared.process.ProcKind.TheVariants as kinds
use Rattle.p3l_firing.specs.Nodes.{last_element}
use Rattle.p3l_firing.specs.Process.{in_of, out_of}
use Rattle.p3l_firing.specs.State.{chan_at}
use Rattle.p3l_firing.specs.Shot.{IsCountable, own_saved_at, saved_at}
use Rattle.p3l_firing.specs.declared.shot.Own.{Own}
use Rattle.p3l_firing.specs.declared.shot.SavedToken.{SavedToken}
use Rattle.p3l_firing.specs.declared.shot.Shot.{Shot}
use Rattle.p3l_net.specs.Fitting.{FitsLoop, LoopPlace}
use Rattle.p3l_template.specs.Width.{width_at}
use Rattle.p3l_fitting.specs.Survey.{widths_of}
use Rattle.p3l_template.specs.declared.width.Width.{Width}

-- an outcome has this number of words, or is a trap of a module of the tree
abbrev pub BodyFits : Tree → ℕ → Outcome → Type 0
BodyFits tree n (Value words) = length words ≡ n
BodyFits tree n (Trapped trap) = trap.module < length tree.modules

-- a token has this width, and a trap names a module
abbrev pub TokenFits : Tree → Width → SavedToken → Type 0
TokenFits tree width saved = (length saved.tags ≡ width.tags) × BodyFits tree width.words saved.body

-- a token without tags and words
abbrev pub IsEmptyValue : Outcome → Type 0
IsEmptyValue (Value words) = words ≡ []
IsEmptyValue (Trapped trap) = ⊥

abbrev pub IsBareCredit : SavedToken → Type 0
IsBareCredit saved = (saved.tags ≡ []) × IsEmptyValue saved.body

-- a channel has room for its tokens, and they have its width
abbrev pub QueueFits : Tree → Chan → Width → List SavedToken → Type 0
QueueFits tree chan width saved = (length saved ≤ chan.cap) × All (TokenFits tree width) saved

-- `most` tokens at most are held, of this width
abbrev pub HeldFits : Tree → Width → (most : ℕ) → Own → Type 0
HeldFits tree width most own = (length own.held ≤ most) × All (TokenFits tree width) own.held

-- the saved state of a process of this kind fits it. Beside a head stand the credits of its loop
unfoldable pub OwnFits : ProcKind → Tree → Net → List Width → Shot → Proc → Own → Type 0
OwnFits kinds.Source tree net row shot q own = own.held ≡ []
OwnFits kinds.Sink tree net row shot q own = own.held ≡ []
OwnFits kinds.Run tree net row shot q own = own.held ≡ []
OwnFits kinds.Emit tree net row shot q own = own.held ≡ []
OwnFits kinds.Collect tree net row shot q own = own.held ≡ []
OwnFits kinds.Scatter tree net row shot q own =
    HeldFits tree (width_at row (in_of q 0)) 1 own × (own.held ≢ [] → own.number ≤ last_element tree q.node)
OwnFits kinds.Gather tree net row shot q own =
    HeldFits tree (record { words = (node_at tree (part_at tree q.node 0)).outs; tags = (width_at row (out_of q 0)).tags })
    (last_element tree q.node + 1) own
OwnFits kinds.Split tree net row shot q own =
    HeldFits tree (width_at row (in_of q 0)) 1 own × (own.held ≢ [] → own.number < length q.outs)
OwnFits kinds.FoldGather tree net row shot q own =
    HeldFits tree (record { words = (node_at tree q.node).outs; tags = (width_at row (out_of q 0)).tags }) (length q.ins) own
OwnFits kinds.Join tree net row shot q own = own.held ≡ []
OwnFits kinds.Head tree net row shot q own = (own.held ≡ []) × All IsBareCredit (saved_at shot (in_of q 2))
OwnFits kinds.Tail tree net row shot q own = HeldFits tree (width_at row (in_of q 0)) (chan_at net (out_of q 2)).cap own

-- a loop fits where its head is there
unfoldable pub LoopFits : Tree → Net → List Width → Shot → LoopPlace → Type 0
LoopFits tree net row shot place =
    (q : Proc) → slice_get net.procs place.head ≡ Some q → FitsLoop tree net (widths_of row) shot place q

-- all that is looked at
pub record AllFits (tree : Tree) (net : Net) (row : List Width) (places : List LoopPlace) (shot : Shot) : Type 0 where
  pub chans : length shot.chans ≡ length net.chans
  pub owns : length shot.owns ≡ length net.procs
  pub countable : IsCountable shot
  pub inbox : IfSome shot.inbox (λ item. length item ≡ (node_at tree 0).ins)
  pub queues : EachIndex net.chans (λ c. QueueFits tree (chan_at net c) (width_at row c) (saved_at shot c))
  pub procs : (p : ℕ) (q : Proc) → slice_get net.procs p ≡ Some q → OwnFits q.kind tree net row shot q (own_saved_at shot p)
  pub loops : All (LoopFits tree net row shot) places
