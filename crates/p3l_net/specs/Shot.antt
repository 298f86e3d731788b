-- Saved states of machines, and the machines that are restored from them.
use Rattle.std.specs.Prelude.{◌≡◌, ◌≤◌, List, [], ◌∷◌, length, map, EachIndex, false}
use Rattle.std.specs.List.{All}
use Rattle.p3l_skel.specs.declared.tree.Tree.{Tree}
use Rattle.p3l_firing.specs.declared.net.Chan.{Chan}
use Rattle.p3l_firing.specs.declared.net.Net.{Net}
use Rattle.p3l_firing.specs.Shot.{HasFewTags, IsCountable, own_of, saved_at, saved_own, saved_token, token_of}
use Rattle.p3l_firing.specs.State.{chan_at}
use Rattle.p3l_firing.specs.Typed.{IsTyped, IsFitting}
use Rattle.p3l_firing.specs.Widths.{Widths}
use Rattle.p3l_firing.specs.declared.shot.Own.{Own as SavedOwn}
use Rattle.p3l_firing.specs.declared.shot.SavedToken.{SavedToken}
use Rattle.p3l_firing.specs.declared.shot.Shot.{Shot}
use Rattle.p3l_net.specs.Channel.{Queue}
use Rattle.p3l_net.specs.Machine.{Seen, state_of}

-- the tokens of a queue, as they are saved
abbrev pub saved_queue : Queue → List SavedToken
saved_queue queue = map saved_token queue.tokens

-- the saved state of a machine
unfoldable pub shot_of : Seen → Shot
shot_of m =
    record {
      chans = map saved_queue m.queues;
      owns = map saved_own m.owns;
      inbox = m.inbox;
      sent = m.sent;
      emitted = m.emitted;
    }

-- the queue of a channel that holds these tokens
abbrev pub queue_of : Chan → List SavedToken → Queue
queue_of chan tokens = record { tokens = map token_of tokens; room = chan.cap }

-- the queues of these channels, which hold these tokens: none where no list is left
unfoldable pub queues_of : List Chan → List (List SavedToken) → List Queue
queues_of [] lists = []
queues_of (chan ∷ chans) [] = queue_of chan [] ∷ queues_of chans []
queues_of (chan ∷ chans) (tokens ∷ lists) = queue_of chan tokens ∷ queues_of chans lists

-- the machine that is restored for a tree and a net: it is in the state that was saved, and nothing has fired in it
unfoldable pub restored : Tree → Net → Shot → Seen
restored tree net shot =
    record {
      tree = tree;
      net = net;
      queues = queues_of net.chans shot.chans;
      owns = map own_of shot.owns;
      inbox = shot.inbox;
      fired = 0;
      sent = shot.sent;
      emitted = shot.emitted;
      trapped = false;
    }

-- a channel has room for these tokens
pub record HasRoom (chan : Chan) (saved : List SavedToken) : Type 0 where
  pub room : length saved ≤ chan.cap
  pub tags : All HasFewTags saved

-- there are tokens for each channel of a net, and room for them and for those that processes hold
pub record IsHeld (net : Net) (shot : Shot) : Type 0 where
  pub lists : length shot.chans ≡ length net.chans
  pub chans : EachIndex net.chans (λ c. HasRoom (chan_at net c) (saved_at shot c))
  pub owns : All (λ (own : SavedOwn). All HasFewTags own.held) shot.owns

-- a shot fits a net whose channels carry these words and tags: there is a list for each channel and what each process keeps, the
-- state fits, and what was counted is below 2^63
pub record Fits (tree : Tree) (net : Net) (widths : Widths) (shot : Shot) : Type 0 where
  pub chans : length shot.chans ≡ length net.chans
  pub owns : length shot.owns ≡ length net.procs
  pub state : IsFitting tree net widths (state_of (restored tree net shot) [])
  pub countable : IsCountable shot

-- a machine can be restored from a shot: its net is typed for the tree, and the shot fits it
pub record CanRestore (tree : Tree) (net : Net) (shot : Shot) : Type 0 where
  pub typed : IsTyped tree net
  pub fits : Fits tree net typed.widths shot
