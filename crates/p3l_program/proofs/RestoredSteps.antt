-- Machines that are restored from a shot are in the state that the machine was in.
use Rattle.std.proofs.Common.{◌≡◌, ℕ, List, [], ◌∷◌, map, get_or, refl, sym, ap, ap₂}
use Rattle.std.specs.Option.{option_to_list}
use Rattle.std.proofs.lemmas.List.{reverse-reverse}
use Rattle.p3l_firing.specs.declared.net.Chan.{Chan}
use Rattle.p3l_firing.specs.declared.token.Token.{Token}
use Rattle.p3l_firing.specs.Lists.{rest_of}
use Rattle.p3l_firing.specs.State.{LocalState, State, own_at}
use Rattle.p3l_firing.specs.Shot.{own_of, saved_own, saved_token, token_of}
use Rattle.p3l_net.specs.Channel.{Queue, tokens_at}
use Rattle.p3l_net.specs.Machine.{IsShaped, Seen, state_of}
use Rattle.p3l_net.specs.Shot.{queue_of, queues_of, restored, saved_queue, shot_of}
use Rattle.p3l_run.specs.Start.{uncounted}

token_back : (token : Token) → token_of (saved_token token) ≡ token
token_back token = ap (λ tags. record { tags = tags; body = token.body }) (reverse-reverse token.tags)

tokens_back : (tokens : List Token) → map token_of (map saved_token tokens) ≡ tokens
tokens_back [] = refl
tokens_back (token ∷ tokens) = ap₂ (λ x xs. x ∷ xs) (token_back token) (tokens_back tokens)

own_back : (o : LocalState) → own_of (saved_own o) ≡ o
own_back o = ap (λ held. record { number = o.number; held = held }) (tokens_back o.held)

owns_back : (owns : List LocalState) → map own_of (map saved_own owns) ≡ owns
owns_back [] = refl
owns_back (o ∷ owns) = ap₂ (λ x xs. x ∷ xs) (own_back o) (owns_back owns)

queue_back : (chan : Chan) (queue : Queue) → queue.room ≡ chan.cap → queue_of chan (saved_queue queue) ≡ queue
queue_back chan queue room = ap₂ (λ tokens n. record { tokens = tokens; room = n }) (tokens_back queue.tokens) (sym room)

queues_back : (chans : List Chan) (queues : List Queue) → map (λ (q : Queue). q.room) queues ≡ map (λ (c : Chan). c.cap) chans → queues_of chans (map saved_queue queues) ≡ queues
unfolding queues_of
queues_back [] [] fit = refl
queues_back [] (queue ∷ queues) fit = cc
queues_back (chan ∷ chans) [] fit = cc
queues_back (chan ∷ chans) (queue ∷ queues) fit =
    ap₂ (λ x xs. x ∷ xs) (queue_back chan queue (ap (λ ns. get_or ns 0 0) fit)) (queues_back chans queues (ap (λ (ns : List ℕ). rest_of ns) fit))

-- also where the outcomes are counted from the restoring on
pub state_back : (m : Seen) → IsShaped m → state_of (restored m.tree m.net (uncounted (shot_of m))) [] ≡ state_of m []
unfolding restored shot_of state_of
state_back m shaped =
    let with : List Queue → List LocalState → State = λ queues owns. record { tokens = tokens_at queues; own = own_at owns; unsent = option_to_list m.inbox; sent = m.sent; emitted = [] } in
    ap₂ with (queues_back m.net.chans m.queues shaped.rooms) (owns_back m.owns)
