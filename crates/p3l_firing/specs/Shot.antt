-- Tokens and local states as they are saved, and the state that a snapshot stands for.
use Rattle.std.specs.Prelude.{ℕ, ◌^◌, ◌<◌, ◌≤◌, List, [], length, map, reverse, slice_index_or}
use Rattle.std.specs.List.{All}
use Rattle.p3l_firing.specs.State.{LocalState, State}
use Rattle.p3l_firing.specs.Token.{most_tags}
use Rattle.p3l_firing.specs.declared.shot.Own.{Own as SavedOwn}
use Rattle.p3l_firing.specs.declared.shot.SavedToken.{SavedToken}
use Rattle.p3l_firing.specs.declared.shot.Shot.{Shot}
use Rattle.p3l_firing.specs.declared.token.Token.{Token}

-- a token as it is saved, and back: contracts see the tags of a token from the newest to the oldest
abbrev pub saved_token : Token → SavedToken
saved_token token = record { tags = reverse token.tags; body = token.body }

abbrev pub token_of : SavedToken → Token
token_of saved = record { tags = reverse saved.tags; body = saved.body }

-- the local state of a process, as it is saved, and back
abbrev pub saved_own : LocalState → SavedOwn
saved_own o = record { number = o.number; held = map saved_token o.held }

abbrev pub own_of : SavedOwn → LocalState
own_of saved = record { number = saved.number; held = map token_of saved.held }

-- the tokens saved of channel c: none past the channels
abbrev pub saved_at : Shot → ℕ → List SavedToken
saved_at shot c = slice_index_or shot.chans c []

-- the local state saved of process p: past the processes a number 0, and no tokens
abbrev pub own_saved_at : Shot → ℕ → SavedOwn
own_saved_at shot p = slice_index_or shot.owns p (record { number = 0; held = [] })

-- the state that was saved, but for the items, the number sent and the outcomes emitted
abbrev pub state_of : Shot → State
state_of shot =
    record {
      tokens = λ c. map token_of (saved_at shot c);
      own = λ p. own_of (own_saved_at shot p);
      unsent = [];
      sent = 0;
      emitted = [];
    }

-- a token has no more tags than a token may have
abbrev pub HasFewTags : SavedToken → Type 0
HasFewTags saved = length saved.tags ≤ most_tags

-- no token has more tags than a token may have
pub record HaveFewTags (shot : Shot) : Type 0 where
  pub chans : All (All HasFewTags) shot.chans
  pub owns : All (λ (own : SavedOwn). All HasFewTags own.held) shot.owns

-- all counts are below 2^63
pub record IsCountable (shot : Shot) : Type 0 where
  pub numbers : All (λ (own : SavedOwn). own.number < 2 ^ 63) shot.owns
  pub sent : shot.sent < 2 ^ 63
  pub emitted : shot.emitted < 2 ^ 63
