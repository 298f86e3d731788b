-- A machine is restored as it was saved.
use Rattle.std.proofs.Common.{◌≡◌, ℕ, zero, suc, ◌+◌, ◌^◌, ◌<◌, ◌≤◌, Bool, false, List, [], ◌∷◌, ◌++◌, length, map, take, get_or, slice_get, Some, refl, sym, ap, ap₂, ◌∙◌, subst, arith}
use Rattle.std.specs.List.{AllByRecursion}
use Rattle.std.proofs.lemmas.List.{reverse-reverse, length-reverse, length-map, get_or-map as map_there}
use Rattle.std.proofs.lemmas.List.Elements.{All-from_recursion, recursion_from_All}
use Rattle.p3l_skel.specs.declared.tree.Tree.{Tree}
use Rattle.p3l_firing.specs.declared.net.Chan.{Chan}
use Rattle.p3l_firing.specs.declared.net.Net.{Net}
use Rattle.p3l_firing.specs.declared.process.Proc.{Proc}
use Rattle.p3l_firing.specs.declared.process.ProcKind.{ProcKind}
use Rattle.p3l_firing.specs.declared.process.ProcKind.TheVariants as kinds
use Rattle.p3l_firing.specs.declared.token.Token.{Token}
use Rattle.p3l_firing.specs.Lists.{rest_of}
use Rattle.p3l_firing.specs.State.{LocalState, own_at, fresh, no_chan, chan_at}
use Rattle.p3l_firing.specs.Process.{in_of, out_of}
use Rattle.p3l_firing.specs.Token.{most_tags}
use Rattle.p3l_firing.specs.Typed.{FitsOwn, IsFitting}
use Rattle.p3l_firing.specs.Widths.{Widths, HasWidth, AllFit}
use Rattle.p3l_firing.specs.declared.shot.Own.{Own as SavedOwn}
use Rattle.p3l_firing.specs.declared.shot.SavedToken.{SavedToken}
use Rattle.p3l_firing.specs.declared.shot.Shot.{Shot}
use Rattle.p3l_firing.specs.Shot.{HasFewTags, IsCountable, own_of, saved_at, saved_own, saved_token, token_of}
use Rattle.p3l_net.specs.Channel.{Queue, queue_at, tokens_at}
use Rattle.p3l_net.specs.Machine.{Seen, IsSound, state_of}
use Rattle.p3l_net.specs.Shot.{saved_queue, queue_of, queues_of, shot_of, restored, IsHeld, Fits, CanRestore}
use Rattle.p3l_net.proofs.Queues.{rooms, caps, queue_count}

-- back from what was saved

token_back : (token : Token) → token_of (saved_token token) ≡ token
token_back token = ap (λ tags. record { tags = tags; body = token.body }) (reverse-reverse token.tags)

tokens_back : (tokens : List Token) → map token_of (map saved_token tokens) ≡ tokens
tokens_back [] = refl
tokens_back (token ∷ tokens) = ap₂ (λ x xs. x ∷ xs) (token_back token) (tokens_back tokens)

own_back : (o : LocalState) → own_of (saved_own o) ≡ o
own_back o = ap (λ held. record { number = o.number; held = held }) (tokens_back o.held)

owns_back : (owns : List LocalState) → map own_of (map saved_own owns) ≡ owns
owns_back [] = refl
owns_back (o ∷ owns) = ap₂ (λ x xs. x ∷ xs) (own_back o) (owns_back owns)

queue_back : (chan : Chan) (queue : Queue) → queue.room ≡ chan.cap → queue_of chan (saved_queue queue) ≡ queue
queue_back chan queue room = ap₂ (λ tokens n. record { tokens = tokens; room = n }) (tokens_back queue.tokens) (sym room)

queues_back : (chans : List Chan) (queues : List Queue) → rooms queues ≡ caps chans → queues_of chans (map saved_queue queues) ≡ queues
unfolding queues_of
queues_back [] [] fit = refl
queues_back [] (queue ∷ queues) fit = cc
queues_back (chan ∷ chans) [] fit = cc
queues_back (chan ∷ chans) (queue ∷ queues) fit =
    ap₂ (λ x xs. x ∷ xs) (queue_back chan queue (ap (λ ns. get_or ns 0 0) fit)) (queues_back chans queues (ap (λ (ns : List ℕ). rest_of ns) fit))

-- a sound machine that is saved and restored is the same machine, in which nothing has fired since
pub saved_back : (m : Seen) → IsSound m → m.trapped ≡ false → restored m.tree m.net (shot_of m) ≡ record m { fired = 0 }
unfolding restored shot_of
saved_back m sound untrapped =
    let with : List Queue → List LocalState → Bool → Seen = λ queues owns trapped. record { tree = m.tree; net = m.net; queues = queues; owns = owns; inbox = m.inbox; fired = 0; sent = m.sent; emitted = m.emitted; trapped = trapped } in
    ap₂ (λ queues owns. with queues owns false) (queues_back m.net.chans m.queues sound.shaped.rooms) (owns_back m.owns)
    ∙ ap (with m.queues m.owns) (sym untrapped)

-- the queue of a channel that is there
pub queue-there : (chans : List Chan) (lists : List (List SavedToken)) (c : ℕ) → c < length chans → queue_at (queues_of chans lists) c ≡ queue_of (get_or chans c no_chan) (get_or lists c [])
unfolding queues_of
queue-there [] lists c there = absurd (omega (arith, there))
queue-there (chan ∷ chans) [] zero there = refl
queue-there (chan ∷ chans) [] (suc c) there = queue-there chans [] c (omega (arith, there))
queue-there (chan ∷ chans) (tokens ∷ lists) zero there = refl
queue-there (chan ∷ chans) (tokens ∷ lists) (suc c) there = queue-there chans lists c (omega (arith, there))

-- one channel more
pub queues-more : (chans : List Chan) (lists : List (List SavedToken)) (c : ℕ) → c < length chans → c < length lists → queues_of (take (suc c) chans) (take (suc c) lists) ≡ queues_of (take c chans) (take c lists) ++ queue_of (get_or chans c no_chan) (get_or lists c []) ∷ []
unfolding queues_of
queues-more [] lists c there here = absurd (omega (arith, there))
queues-more (chan ∷ chans) [] c there here = absurd (omega (arith, here))
queues-more (chan ∷ chans) (tokens ∷ lists) zero there here = refl
queues-more (chan ∷ chans) (tokens ∷ lists) (suc c) there here = ap (λ xs. queue_of chan tokens ∷ xs) (queues-more chans lists c (omega (arith, there)) (omega (arith, here)))

rooms-restored : (chans : List Chan) (lists : List (List SavedToken)) → rooms (queues_of chans lists) ≡ caps chans
unfolding queues_of
rooms-restored [] lists = refl
rooms-restored (chan ∷ chans) [] = ap (λ ns. chan.cap ∷ ns) (rooms-restored chans [])
rooms-restored (chan ∷ chans) (tokens ∷ lists) = ap (λ ns. chan.cap ∷ ns) (rooms-restored chans lists)

own_small : (owns : List SavedOwn) (p : ℕ) → AllByRecursion (λ (own : SavedOwn). own.number < 2 ^ 63) owns → (own_at (map own_of owns) p).number < 0 + 2 ^ 63
own_small [] p all = omega arith
own_small (o ∷ owns) zero all = let few = all.0 in omega (arith, few)
own_small (o ∷ owns) (suc p) all = own_small owns p all.1

-- a machine that is restored is sound
pub restored_sound : (tree : Tree) (net : Net) (shot : Shot) → CanRestore tree net shot → IsSound (restored tree net shot)
unfolding restored
restored_sound tree net shot can =
    let fits = can.fits in
    let sent = fits.countable.sent in
    let emitted = fits.countable.emitted in
    record {
      typed = can.typed;
      shaped = record {
        rooms = rooms-restored net.chans shot.chans;
        keeps = length-map shot.owns own_of ∙ fits.owns;
        numbers = λ p. own_small shot.owns p (recursion_from_All _ shot.owns fits.countable.numbers);
        sent = omega (arith, sent);
        emitted = omega (arith, emitted);
      };
      fitting = fits.state;
    }

-- tokens that fit have few tags

few_saved : (w t : ℕ) → t ≤ most_tags → (saved : List SavedToken) → AllByRecursion (HasWidth w t) (map token_of saved) → AllByRecursion HasFewTags saved
few_saved w t few [] all = tt
few_saved w t few (x ∷ xs) all = (let long = all.0.tags in omega (arith, few, long, length-reverse x.tags), few_saved w t few xs all.1)

none_saved : (saved : List SavedToken) → map token_of saved ≡ [] → AllByRecursion HasFewTags saved
none_saved [] e = tt
none_saved (x ∷ xs) e = cc

module _ (tree : Tree) (widths : Widths) (few : (c : ℕ) → widths.tags c ≤ most_tags) (q : Proc) (saved : SavedOwn) where
  few_held : (k : ProcKind) → FitsOwn k tree widths q (own_of saved) → AllByRecursion HasFewTags saved.held
  few_held kinds.Source h = none_saved saved.held h
  few_held kinds.Sink h = none_saved saved.held h
  few_held kinds.Run h = none_saved saved.held h
  few_held kinds.Emit h = none_saved saved.held h
  few_held kinds.Collect h = none_saved saved.held h
  few_held kinds.Scatter h = few_saved _ _ (few (in_of q 0)) saved.held h.held
  few_held kinds.Gather h = few_saved _ _ (few (out_of q 0)) saved.held h.held
  few_held kinds.Split h = few_saved _ _ (few (in_of q 0)) saved.held h.held
  few_held kinds.FoldGather h = few_saved _ _ (few (out_of q 0)) saved.held h.held
  few_held kinds.Join h = none_saved saved.held h
  few_held kinds.Head h = none_saved saved.held h
  few_held kinds.Tail h = few_saved _ _ (few (in_of q 0)) saved.held h

stands_there : (procs : List Proc) (p : ℕ) → p < length procs → (q : Proc) × (slice_get procs p ≡ Some q)
stands_there [] p there = absurd (omega (arith, there))
stands_there (q ∷ procs) zero there = (q, refl)
stands_there (q ∷ procs) (suc p) there = stands_there procs p (omega (arith, there))

-- there is room for all that was saved
pub fits_held : (tree : Tree) (net : Net) (widths : Widths) (few : (c : ℕ) → widths.tags c ≤ most_tags) (shot : Shot) → Fits tree net widths shot → IsHeld net shot
unfolding restored state_of
fits_held tree net widths few_tags shot fits = record {
  lists = fits.chans;
  chans = λ c there.
      let same : tokens_at (queues_of net.chans shot.chans) c ≡ map token_of (saved_at shot c) = ap (λ (queue : Queue). queue.tokens) (queue-there net.chans shot.chans c there) in
      let few : length (tokens_at (queues_of net.chans shot.chans) c) ≤ (chan_at net c).cap = fits.state.rooms c in
      let long = ap length same ∙ length-map (saved_at shot c) token_of in
      record {
        room = omega (arith, few, long);
        tags = All-from_recursion _ _ (few_saved _ _ (few_tags c) (saved_at shot c) (subst (AllFit widths c) same (fits.state.tokens c)));
      };
  owns = λ p d there.
      let stands = stands_there net.procs p (subst (λ n. p < n) fits.owns there) in
      let fit = subst (FitsOwn stands.0.kind tree widths stands.0) (map_there own_of shot.owns p d fresh there) (fits.state.owns p stands.0 stands.1) in
      All-from_recursion _ _ (few_held tree widths few_tags stands.0 (get_or shot.owns p d) stands.0.kind fit);
}

-- a state fits whatever has fired
unfired_fits : (m : Seen) (sound : IsSound m) → IsFitting m.tree m.net sound.typed.widths (state_of (record m { fired = 0 }) [])
unfolding state_of
unfired_fits m sound = sound.fitting

-- the saved state of a sound machine fits
pub saved_fits : (m : Seen) → IsSound m → m.trapped ≡ false → IsCountable (shot_of m) → CanRestore m.tree m.net (shot_of m)
unfolding shot_of
saved_fits m sound untrapped small = record {
  typed = sound.typed;
  fits = record {
    chans = length-map m.queues saved_queue ∙ queue_count m.queues m.net.chans sound.shaped.rooms;
    owns = length-map m.owns saved_own ∙ sound.shaped.keeps;
    state = subst (λ (x : Seen). IsFitting m.tree m.net sound.typed.widths (state_of x [])) (sym (saved_back m sound untrapped)) (unfired_fits m sound);
    countable = small;
  };
}
