-- Facts on the process of a number of a sound machine.
use Rattle.std.proofs.Common.{◌≡◌, ◌≢◌, ℕ, ◌+◌, ◌^◌, ◌<◌, ◌≤◌, true, List, [], ◌∷◌, length, Some, zero, suc, slice_get, get_or, nat_lt, sym, ap, ◌∙◌, subst, arith, length-set}
use Rattle.std.specs.Option.{option_map}
use Rattle.std.specs.Result.{OnErr}
use Rattle.std.proofs.Common.{Result, Ok, Err}
use Rattle.std.specs.List.{AllByRecursion}
use Rattle.std.proofs.lemmas.Bool.{ltb-true}
use Rattle.std.proofs.lemmas.List.{get_or-set_other}
use Rattle.p3l_firing.specs.declared.process.Proc.{Proc}
use Rattle.p3l_firing.specs.declared.process.ProcKind.{ProcKind}
use Rattle.p3l_firing.specs.declared.token.Token.{Token}
use Rattle.p3l_firing.specs.declared.token.Token.{Token}
use Rattle.p3l_firing.specs.Lists.{has_first, first_or}
use Rattle.p3l_firing.specs.Token.{credit}
use Rattle.p3l_firing.specs.State.{LocalState, has_room, own_at}
use Rattle.p3l_firing.specs.Process.{Has, kind_at}
use Rattle.p3l_firing.specs.Widths.{FitsToken}
use Rattle.p3l_firing.specs.Fire.{row_can, row_wants_memory, wants_memory, wants_memory_of}
use Rattle.p3l_firing.specs.Typed.{FitsKind, FitsOwn}
use Rattle.p3l_firing.proofs.Rows.{ready_at as row_ready, length_when_first}
use Rattle.p3l_firing.proofs.Places.{all-has, has-each}
use Rattle.p3l_firing.proofs.Fitting.{all_of_one, all_first}
use Rattle.p3l_net.specs.Channel.{Queue, no_queue, queue_at, tokens_at}
use Rattle.p3l_net.specs.Machine.{Seen, IsSound, Stands, may_want_memory, state_of}
use Rattle.p3l_net.specs.Steps.{CanTake, CanPut, MayFire, ready_at, room_at, without_first, with_last, with_own}
use Rattle.p3l_net.proofs.Queues.{queue_count, room_is_cap, room_after_take, tokens-other-take}

-- the room of a queue is that of the net's channel
pub room-seen : (m : Seen) → IsSound m → (c : ℕ) → room_at m c ≡ has_room m.net (state_of m []) c
unfolding has_room state_of
room-seen m sound c = ap (λ n. nat_lt (length (tokens_at m.queues c)) n) (room_is_cap m.queues m.net.chans sound.shaped.rooms c)

pub one_long : (xs : List ℕ) (x : ℕ) → xs ≡ x ∷ [] → 0 < length xs
one_long xs x e = subst (λ ys. 0 < length ys) (sym e) (omega arith)

pub get_inside : (xs : List Proc) (i : ℕ) (x : Proc) → slice_get xs i ≡ Some x → i < length xs
get_inside [] i x e = cc
get_inside (y ∷ ys) zero x e = omega arith
get_inside (y ∷ ys) (suc i) x e = let r = get_inside ys i x e in omega (arith, r)

pub standing : {m : Seen} {p : ℕ} {q : Proc} → IsSound m → slice_get m.net.procs p ≡ Some q → Stands m p q
standing sound stands = record { sound = sound; stands = stands }

module _ {m : Seen} {p : ℕ} {q : Proc} (h : Stands m p q) where
  -- it is of the kind that is placed there
  pub kind_of : {k : ProcKind} → kind_at m.net p ≡ Some k → q.kind ≡ k
  kind_of {k = k} kind =
      let same : option_map (λ (x : Proc). x.kind) (Some q) ≡ Some k = ap (option_map (λ (x : Proc). x.kind)) (sym h.stands) ∙ kind in
      cc

  pub fits_as : (k : ProcKind) → q.kind ≡ k → FitsKind k m.tree h.sound.typed.widths q
  fits_as k e = subst (λ x. FitsKind x m.tree h.sound.typed.widths q) e (h.sound.typed.processes p q h.stands)

  pub keeps_as : (k : ProcKind) → q.kind ≡ k → FitsOwn k m.tree h.sound.typed.widths q (own_at m.owns p)
  unfolding state_of
  keeps_as k e = subst (λ x. FitsOwn x m.tree h.sound.typed.widths q (own_at m.owns p)) e (h.sound.fitting.owns p q h.stands)

  -- its channels are there
  pub reads_chan : (c : ℕ) → Has q.ins c → c < length m.net.chans
  reads_chan c has = all-has (λ x. x < length m.net.chans) q.ins (all_of_one (λ x. x < length m.net.chans) (λ (x : Proc). x.ins) m.net.procs p q h.stands h.sound.typed.reads) c has

  pub writes_chan : (c : ℕ) → Has q.outs c → c < length m.net.chans
  writes_chan c has = all-has (λ x. x < length m.net.chans) q.outs (all_of_one (λ x. x < length m.net.chans) (λ (x : Proc). x.outs) m.net.procs p q h.stands h.sound.typed.writes) c has

  pub reads_there : (c : ℕ) → Has q.ins c → c < length m.queues
  reads_there c has = subst (λ n. c < n) (sym (queue_count m.queues m.net.chans h.sound.shaped.rooms)) (reads_chan c has)

  pub writes_there : (c : ℕ) → Has q.outs c → c < length m.queues
  writes_there c has = subst (λ n. c < n) (sym (queue_count m.queues m.net.chans h.sound.shaped.rooms)) (writes_chan c has)

  pub all_reads_there : AllByRecursion (λ c. c < length m.queues) q.ins
  all_reads_there = has-each q.ins q.ins (λ c has. has) (λ c. c < length m.queues) reads_there

  pub all_writes_there : AllByRecursion (λ c. c < length m.queues) q.outs
  all_writes_there = has-each q.outs q.outs (λ c has. has) (λ c. c < length m.queues) writes_there

  pub own_there : p < length m.owns
  own_there = subst (λ n. p < n) (sym h.sound.shaped.keeps) (get_inside m.net.procs p q h.stands)

  -- it is ready as its row says
  pub ready_as : (k : ProcKind) → q.kind ≡ k → ready_at m p ≡ row_can k m.tree m.net (state_of m []) (own_at m.owns p) q
  unfolding state_of
  ready_as k e = row_ready m.tree m.net (state_of m []) p q h.stands ∙ ap (λ x. row_can x m.tree m.net (state_of m []) (own_at m.owns p) q) e

  -- a token can be taken from a channel that it reads, and put into one that it writes
  pub can_take : (c : ℕ) → Has q.ins c → has_first (tokens_at m.queues c) ≡ true → CanTake m c
  can_take c has full = record { there = reads_there c has; token = length_when_first (tokens_at m.queues c) full }

  pub can_put : (c : ℕ) → Has q.outs c → has_room m.net (state_of m []) c ≡ true → CanPut m c
  can_put c has room = record { there = writes_there c has; room = ltb-true _ _ (room-seen m h.sound c ∙ room) }

  -- a channel holds no more than it has room for
  pub within_room : (c : ℕ) → length (tokens_at m.queues c) ≤ (queue_at m.queues c).room
  unfolding state_of
  within_room c = subst (λ n. length (tokens_at m.queues c) ≤ n) (sym (room_is_cap m.queues m.net.chans h.sound.shaped.rooms c)) (h.sound.fitting.rooms c)

  -- a first token of a channel fits
  pub first_fits : (c : ℕ) → has_first (tokens_at m.queues c) ≡ true → FitsToken h.sound.typed.widths c (first_or credit (tokens_at m.queues c))
  unfolding state_of
  first_fits c full = all_first (FitsToken h.sound.typed.widths c) credit (tokens_at m.queues c) full (h.sound.fitting.tokens c)

  -- its number is small enough to be counted
  pub own_few : m.fired < 2 ^ 63 → (own_at m.owns p).number + 1 < 2 ^ 64
  own_few count = let few = h.sound.shaped.numbers p in omega (arith, few, count)

  pub own_less : (own_at m.owns p).number + 1 < m.fired + 1 + 2 ^ 63
  own_less = let few = h.sound.shaped.numbers p in omega (arith, few)

-- after a token was taken there is as much room elsewhere, and another channel has its token still
pub put_after_take : {m : Seen} {c : ℕ} (i : ℕ) → i < length m.queues → CanPut m c → CanPut (without_first m i) c
put_after_take {m = m} {c = c} i there can = record { there = subst (λ n. c < n) (sym (length-set m.queues i _)) can.there; room = room_after_take m.queues i c there can.room }

pub take_after_take : {m : Seen} {c : ℕ} (i : ℕ) → c ≢ i → CanTake m c → CanTake (without_first m i) c
take_after_take {m = m} {c = c} i apart can = record {
  there = subst (λ n. c < n) (sym (length-set m.queues i _)) can.there;
  token = subst (λ ts. 0 < length ts) (sym (tokens-other-take m.queues i c apart)) can.token;
}

-- local states don't change the room of channels, and putting into a channel leaves the room of others
pub put_after_own : {m : Seen} (p : ℕ) (o : LocalState) {c : ℕ} → CanPut m c → CanPut (with_own m p o) c
put_after_own p o can = record { there = can.there; room = can.room }

pub put_after_put : {m : Seen} {c : ℕ} (o : ℕ) (token : Token) → c ≢ o → CanPut m c → CanPut (with_last m o token) c
put_after_put {m = m} {c = c} o token apart can = record {
  there = subst (λ n. c < n) (sym (length-set m.queues o _)) can.there;
  room = subst (λ (x : Queue). length x.tokens < x.room) (sym (get_or-set_other m.queues o c _ no_queue apart)) can.room;
}

-- of a process that may fire
module _ {m : Seen} {p : ℕ} {q : Proc} {k : ProcKind} (may : MayFire m p k) (stands : slice_get m.net.procs p ≡ Some q) where
  pub here : Stands m p q
  here = standing may.sound stands

  pub is_kind : q.kind ≡ k
  is_kind = kind_of here may.is

  pub row_holds : row_can k m.tree m.net (state_of m []) (own_at m.owns p) q ≡ true
  row_holds = sym (ready_as here k is_kind) ∙ may.ready

-- the first of the tokens that a process holds
pub first_held : (tokens : List Token) (token : Token) → has_first tokens ≡ true → token ≡ get_or tokens 0 token → token ≡ first_or credit tokens
first_held [] token some is = cc
first_held (first ∷ more) token some is = is

-- a firing may want memory as its row says
pub wants_as : (m : Seen) (p : ℕ) {q : Proc} {k : ProcKind} → slice_get m.net.procs p ≡ Some q → q.kind ≡ k → row_wants_memory k m.net (state_of m []) (own_at m.owns p) q ≡ true → may_want_memory m p ≡ true
unfolding wants_memory wants_memory_of state_of
wants_as m p {q = q} {k = k} stands kind wants =
    ap (λ o. wants_memory_of o m.net (state_of m []) (own_at m.owns p)) stands
    ∙ ap (λ x. row_wants_memory x m.net (state_of m []) (own_at m.owns p) q) kind ∙ wants

-- a fact also holds where a call was refused
pub on_err : {A E : Type 0} {P : Type 0} (r : Result A E) → P → OnErr r P
on_err (Ok x) p = tt
on_err (Err e) p = p
