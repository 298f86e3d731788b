-- The steps that a firing is made of: what a list of them makes of a machine is what it makes of its state, and it touches only the
-- channels and the process that it names.
use Rattle.std.proofs.Common.{◌≡◌, ◌≢◌, ℕ, ◌+◌, ◌<◌, ◌^◌, List, [], ◌∷◌, ◌++◌, length, None, Some, slice_set, refl, sym, ap, ap₂, ◌∙◌, subst, arith, inl, inr, length-set}
use Rattle.std.specs.Prelude.{⊤}
use Rattle.std.specs.Option.{option_to_list}
use Rattle.std.specs.List.{AllByRecursion}
use Rattle.std.proofs.lemmas.Bool.{cases_eq}
use Rattle.std.proofs.lemmas.List.{append-nil, get_or-set_same, get_or-set_other}
use Rattle.p3l_base.specs.declared.outcome.Outcome.{Outcome}
use Rattle.p3l_ready.specs.At.{at}
use Rattle.p3l_firing.specs.declared.process.Proc.{Proc}
use Rattle.p3l_firing.specs.declared.process.ProcKind.{ProcKind}
use Rattle.p3l_firing.specs.declared.token.Token.{Token}
use Rattle.p3l_firing.specs.Lists.{rest_of}
use Rattle.p3l_firing.specs.Token.{has_trap}
use Rattle.p3l_firing.specs.Nodes.{Leaf}
use Rattle.p3l_firing.specs.Process.{Has, IsAt}
use Rattle.p3l_firing.specs.State.{LocalState, State, fresh, own_at}
use Rattle.p3l_firing.specs.Fire.{row_fire}
use Rattle.p3l_firing.proofs.Rows.{fire_at}
use Rattle.p3l_net.specs.Channel.{Queue, no_queue, tokens_at, appended, taken}
use Rattle.p3l_net.specs.Machine.{Seen, IsShaped, Stands, state_of}
use Rattle.p3l_net.specs.Steps.{Done, GrowsByOne, Moves, ShrinksByOne}
use Rattle.p3l_net.proofs.Queues.{rooms, rooms-appended, rooms-taken, queue_count, tokens-appended, tokens-taken, own-written, tokens-other-put, tokens-other-take}

-- a token is taken from a channel or put into one, or the process that fires keeps something else
pub data Step : Type 0 where
  Take : ℕ → Step
  Put : ℕ → Token → Step
  Keep : LocalState → Step

-- the channels that steps touch
abbrev pub channels : List Step → List ℕ
channels [] = []
channels (Take c ∷ steps) = c ∷ channels steps
channels (Put c token ∷ steps) = c ∷ channels steps
channels (Keep o ∷ steps) = channels steps

-- they take nothing from channel c, or put nothing into it
abbrev pub TakesNone : ℕ → List Step → Type 0
TakesNone c [] = ⊤
TakesNone c (Take d ∷ steps) = (c ≢ d) × TakesNone c steps
TakesNone c (Put d token ∷ steps) = TakesNone c steps
TakesNone c (Keep o ∷ steps) = TakesNone c steps

abbrev pub PutsNone : ℕ → List Step → Type 0
PutsNone c [] = ⊤
PutsNone c (Take d ∷ steps) = PutsNone c steps
PutsNone c (Put d token ∷ steps) = (c ≢ d) × PutsNone c steps
PutsNone c (Keep o ∷ steps) = PutsNone c steps

-- process q takes from channels that it reads, and puts into channels that it writes, one token each
abbrev pub AreOwn : Proc → List Step → Type 0
AreOwn q [] = ⊤
AreOwn q (Take c ∷ steps) = Has q.ins c × (TakesNone c steps × AreOwn q steps)
AreOwn q (Put c token ∷ steps) = Has q.outs c × (PutsNone c steps × AreOwn q steps)
AreOwn q (Keep o ∷ steps) = AreOwn q steps

own_channels : (q : Proc) (steps : List Step) → AreOwn q steps → AllByRecursion (IsAt (Some q)) (channels steps)
own_channels q [] own = tt
own_channels q (Take c ∷ steps) own = (inl own.0, own_channels q steps own.1.1)
own_channels q (Put c token ∷ steps) own = (inr own.0, own_channels q steps own.1.1)
own_channels q (Keep o ∷ steps) own = own_channels q steps own

-- a channel that is not read is apart from steps that put nothing into it; one that is not written, from steps that take nothing
unread_apart : (q : Proc) (c : ℕ) → (Has q.ins c → ⊥) → (steps : List Step) → AreOwn q steps → PutsNone c steps → AllByRecursion (λ d. c ≢ d) (channels steps)
unread_apart q c unread [] own none = tt
unread_apart q c unread (Take d ∷ steps) own none = ((λ e. unread (subst (Has q.ins) (sym e) own.0)), unread_apart q c unread steps own.1.1 none)
unread_apart q c unread (Put d token ∷ steps) own none = (none.0, unread_apart q c unread steps own.1.1 none.1)
unread_apart q c unread (Keep o ∷ steps) own none = unread_apart q c unread steps own none

unwritten_apart : (q : Proc) (c : ℕ) → (Has q.outs c → ⊥) → (steps : List Step) → AreOwn q steps → TakesNone c steps → AllByRecursion (λ d. c ≢ d) (channels steps)
unwritten_apart q c unwritten [] own none = tt
unwritten_apart q c unwritten (Take d ∷ steps) own none = (none.0, unwritten_apart q c unwritten steps own.1.1 none.1)
unwritten_apart q c unwritten (Put d token ∷ steps) own none = ((λ e. unwritten (subst (Has q.outs) (sym e) own.0)), unwritten_apart q c unwritten steps own.1.1 none)
unwritten_apart q c unwritten (Keep o ∷ steps) own none = unwritten_apart q c unwritten steps own none

abbrev pub queues_after : List Queue → List Step → List Queue
queues_after queues [] = queues
queues_after queues (Take c ∷ steps) = queues_after (taken queues c) steps
queues_after queues (Put c token ∷ steps) = queues_after (appended queues c token) steps
queues_after queues (Keep o ∷ steps) = queues_after queues steps

abbrev pub owns_after : ℕ → List LocalState → List Step → List LocalState
owns_after p owns [] = owns
owns_after p owns (Take c ∷ steps) = owns_after p owns steps
owns_after p owns (Put c token ∷ steps) = owns_after p owns steps
owns_after p owns (Keep o ∷ steps) = owns_after p (slice_set owns p o) steps

abbrev pub tokens_after : (ℕ → List Token) → List Step → ℕ → List Token
tokens_after tokens [] = tokens
tokens_after tokens (Take c ∷ steps) = tokens_after (at tokens c (rest_of (tokens c))) steps
tokens_after tokens (Put c token ∷ steps) = tokens_after (at tokens c (tokens c ++ token ∷ [])) steps
tokens_after tokens (Keep o ∷ steps) = tokens_after tokens steps

abbrev pub own_after : ℕ → (ℕ → LocalState) → List Step → ℕ → LocalState
own_after p own [] = own
own_after p own (Take c ∷ steps) = own_after p own steps
own_after p own (Put c token ∷ steps) = own_after p own steps
own_after p own (Keep o ∷ steps) = own_after p (at own p o) steps

-- a machine after one firing of these steps, and a state after them
abbrev pub seen_after : ℕ → Seen → List Step → Seen
seen_after p m steps =
    record m { queues = queues_after m.queues steps; owns = owns_after p m.owns steps; fired = m.fired + 1 }

abbrev pub state_after : ℕ → State → List Step → State
state_after p s steps = record s { tokens = tokens_after s.tokens steps; own = own_after p s.own steps }

-- a step is inside a machine with these numbers of queues and processes, and of what a process counts less
abbrev pub IsInside : ℕ → ℕ → ℕ → ℕ → Step → Type 0
IsInside p queues owns most (Take c) = c < queues
IsInside p queues owns most (Put c token) = c < queues
IsInside p queues owns most (Keep o) = (p < owns) × (o.number < most)

module _ (p n k f : ℕ) where
  tokens-after : (queues : List Queue) (steps : List Step) → length queues ≡ n → AllByRecursion (IsInside p n k f) steps → tokens_at (queues_after queues steps) ≡ tokens_after (tokens_at queues) steps
  tokens-after queues [] long all = refl
  tokens-after queues (Take c ∷ steps) long all =
      tokens-after (taken queues c) steps (length-set queues c _ ∙ long) all.1
      ∙ ap (λ t. tokens_after t steps) (tokens-taken queues c (subst (λ x. c < x) (sym long) all.0))
  tokens-after queues (Put c token ∷ steps) long all =
      tokens-after (appended queues c token) steps (length-set queues c _ ∙ long) all.1
      ∙ ap (λ t. tokens_after t steps) (tokens-appended queues c token (subst (λ x. c < x) (sym long) all.0))
  tokens-after queues (Keep o ∷ steps) long all = tokens-after queues steps long all.1

  own-after : (owns : List LocalState) (steps : List Step) → length owns ≡ k → AllByRecursion (IsInside p n k f) steps → own_at (owns_after p owns steps) ≡ own_after p (own_at owns) steps
  own-after owns [] long all = refl
  own-after owns (Take c ∷ steps) long all = own-after owns steps long all.1
  own-after owns (Put c token ∷ steps) long all = own-after owns steps long all.1
  own-after owns (Keep o ∷ steps) long all =
      own-after (slice_set owns p o) steps (length-set owns p o ∙ long) all.1
      ∙ ap (λ t. own_after p t steps) (own-written owns p o (subst (λ x. p < x) (sym long) all.0.0))

  rooms-after : (queues : List Queue) (steps : List Step) → rooms (queues_after queues steps) ≡ rooms queues
  rooms-after queues [] = refl
  rooms-after queues (Take c ∷ steps) = rooms-after (taken queues c) steps ∙ rooms-taken queues c
  rooms-after queues (Put c token ∷ steps) = rooms-after (appended queues c token) steps ∙ rooms-appended queues c token
  rooms-after queues (Keep o ∷ steps) = rooms-after queues steps

  keeps-after : (owns : List LocalState) (steps : List Step) → length (owns_after p owns steps) ≡ length owns
  keeps-after owns [] = refl
  keeps-after owns (Take c ∷ steps) = keeps-after owns steps
  keeps-after owns (Put c token ∷ steps) = keeps-after owns steps
  keeps-after owns (Keep o ∷ steps) = keeps-after (slice_set owns p o) steps ∙ length-set owns p o

  -- the local states of other processes stay
  others-after : (owns : List LocalState) (steps : List Step) (r : ℕ) → r ≢ p → own_at (owns_after p owns steps) r ≡ own_at owns r
  others-after owns [] r e = refl
  others-after owns (Take c ∷ steps) r e = others-after owns steps r e
  others-after owns (Put c token ∷ steps) r e = others-after owns steps r e
  others-after owns (Keep o ∷ steps) r e = others-after (slice_set owns p o) steps r e ∙ get_or-set_other owns p r o fresh e

  abbrev few : List LocalState → Type 0
  few owns = (r : ℕ) → (own_at owns r).number < f

  numbers-after : (owns : List LocalState) (steps : List Step) → length owns ≡ k → AllByRecursion (IsInside p n k f) steps → few owns → few (owns_after p owns steps)
  numbers-after owns [] long all h = h
  numbers-after owns (Take c ∷ steps) long all h = numbers-after owns steps long all.1 h
  numbers-after owns (Put c token ∷ steps) long all h = numbers-after owns steps long all.1 h
  numbers-after owns (Keep o ∷ steps) long all h =
      numbers-after (slice_set owns p o) steps (length-set owns p o ∙ long) all.1
      (λ r. elim (cases_eq r p) [
        | inl e ↦ subst (λ i. (own_at (slice_set owns p o) i).number < f) (sym e) (subst (λ (x : LocalState). x.number < f) (sym (get_or-set_same owns p o fresh (subst (λ x. p < x) (sym long) all.0.0))) all.0.1)
        | inr e ↦ subst (λ (x : LocalState). x.number < f) (sym (get_or-set_other owns p r o fresh e)) (h r)
      ])

  -- channels that are not touched stay
  apart-after : (queues : List Queue) (steps : List Step) (c : ℕ) → AllByRecursion (λ d. c ≢ d) (channels steps) → tokens_at (queues_after queues steps) c ≡ tokens_at queues c
  apart-after queues [] c apart = refl
  apart-after queues (Take d ∷ steps) c apart = apart-after (taken queues d) steps c apart.1 ∙ tokens-other-take queues d c apart.0
  apart-after queues (Put d token ∷ steps) c apart = apart-after (appended queues d token) steps c apart.1 ∙ tokens-other-put queues d token c apart.0
  apart-after queues (Keep o ∷ steps) c apart = apart-after queues steps c apart

  -- a channel that is not read gets one token at most, and one that is not written loses one at most
  grows-after : (q : Proc) (c : ℕ) → (Has q.ins c → ⊥) → (queues : List Queue) (steps : List Step) → length queues ≡ n → AllByRecursion (IsInside p n k f) steps → AreOwn q steps → GrowsByOne (tokens_at queues c) (tokens_at (queues_after queues steps) c)
  grows-after q c unread queues [] long all own = inl refl
  grows-after q c unread queues (Take d ∷ steps) long all own =
      let other : c ≢ d = λ e. unread (subst (Has q.ins) (sym e) own.0) in
      subst (λ ts. GrowsByOne ts (tokens_at (queues_after (taken queues d) steps) c)) (tokens-other-take queues d c other)
      (grows-after q c unread (taken queues d) steps (length-set queues d _ ∙ long) all.1 own.1.1)
  grows-after q c unread queues (Put d token ∷ steps) long all own =
      elim (cases_eq c d) [
        | inl e ↦
            let later : tokens_at (queues_after (appended queues d token) steps) c ≡ tokens_at (appended queues d token) c
            = apart-after (appended queues d token) steps c (unread_apart q c unread steps own.1.1 (subst (λ x. PutsNone x steps) (sym e) own.1.0)) in
            let here : tokens_at (appended queues d token) d ≡ tokens_at queues d ++ token ∷ []
            = ap (λ (x : Queue). x.tokens) (get_or-set_same queues d _ no_queue (subst (λ x. d < x) (sym long) all.0)) in
            inr (token, later ∙ ap (tokens_at (appended queues d token)) e ∙ here ∙ ap (λ x. tokens_at queues x ++ token ∷ []) (sym e))
        | inr other ↦
            subst (λ ts. GrowsByOne ts (tokens_at (queues_after (appended queues d token) steps) c)) (tokens-other-put queues d token c other)
            (grows-after q c unread (appended queues d token) steps (length-set queues d _ ∙ long) all.1 own.1.1)
      ]
  grows-after q c unread queues (Keep o ∷ steps) long all own = grows-after q c unread queues steps long all.1 own

  shrinks-after : (q : Proc) (c : ℕ) → (Has q.outs c → ⊥) → (queues : List Queue) (steps : List Step) → length queues ≡ n → AllByRecursion (IsInside p n k f) steps → AreOwn q steps → ShrinksByOne (tokens_at queues c) (tokens_at (queues_after queues steps) c)
  shrinks-after q c unwritten queues [] long all own = inl refl
  shrinks-after q c unwritten queues (Take d ∷ steps) long all own =
      elim (cases_eq c d) [
        | inl e ↦
            let later : tokens_at (queues_after (taken queues d) steps) c ≡ tokens_at (taken queues d) c
            = apart-after (taken queues d) steps c (unwritten_apart q c unwritten steps own.1.1 (subst (λ x. TakesNone x steps) (sym e) own.1.0)) in
            let here : tokens_at (taken queues d) d ≡ rest_of (tokens_at queues d)
            = ap (λ (x : Queue). x.tokens) (get_or-set_same queues d _ no_queue (subst (λ x. d < x) (sym long) all.0)) in
            inr (later ∙ ap (tokens_at (taken queues d)) e ∙ here ∙ ap (λ x. rest_of (tokens_at queues x)) (sym e))
        | inr other ↦
            subst (λ ts. ShrinksByOne ts (tokens_at (queues_after (taken queues d) steps) c)) (tokens-other-take queues d c other)
            (shrinks-after q c unwritten (taken queues d) steps (length-set queues d _ ∙ long) all.1 own.1.1)
      ]
  shrinks-after q c unwritten queues (Put d token ∷ steps) long all own =
      let other : c ≢ d = λ e. unwritten (subst (Has q.outs) (sym e) own.0) in
      subst (λ ts. ShrinksByOne ts (tokens_at (queues_after (appended queues d token) steps) c)) (tokens-other-put queues d token c other)
      (shrinks-after q c unwritten (appended queues d token) steps (length-set queues d _ ∙ long) all.1 own.1.1)
  shrinks-after q c unwritten queues (Keep o ∷ steps) long all own = shrinks-after q c unwritten queues steps long all.1 own

  inside-channels : (steps : List Step) → AllByRecursion (IsInside p n k f) steps → AllByRecursion (λ c. c < n) (channels steps)
  inside-channels [] all = tt
  inside-channels (Take c ∷ steps) all = (all.0, inside-channels steps all.1)
  inside-channels (Put c token ∷ steps) all = (all.0, inside-channels steps all.1)
  inside-channels (Keep o ∷ steps) all = inside-channels steps all.1

-- of one step
module _ (q : Proc) (queues : List Queue) (c : ℕ) (there : c < length queues) where
  all_inside : (step : Step) → IsInside 0 (length queues) 0 0 step → AllByRecursion (IsInside 0 (length queues) 0 0) (step ∷ [])
  all_inside step inside = (inside, tt)

  module _ (token : Token) (has : Has q.outs c) where
    pub put-grows : (d : ℕ) → (Has q.ins d → ⊥) → GrowsByOne (tokens_at queues d) (tokens_at (appended queues c token) d)
    put-grows d unread = grows-after 0 (length queues) 0 0 q d unread queues (Put c token ∷ []) refl (all_inside (Put c token) there) (has, (tt, tt))

    pub put-shrinks : (d : ℕ) → (Has q.outs d → ⊥) → ShrinksByOne (tokens_at queues d) (tokens_at (appended queues c token) d)
    put-shrinks d unwritten = shrinks-after 0 (length queues) 0 0 q d unwritten queues (Put c token ∷ []) refl (all_inside (Put c token) there) (has, (tt, tt))

  module _ (has : Has q.ins c) where
    pub take-grows : (d : ℕ) → (Has q.ins d → ⊥) → GrowsByOne (tokens_at queues d) (tokens_at (taken queues c) d)
    take-grows d unread = grows-after 0 (length queues) 0 0 q d unread queues (Take c ∷ []) refl (all_inside (Take c) there) (has, (tt, tt))

    pub take-shrinks : (d : ℕ) → (Has q.outs d → ⊥) → ShrinksByOne (tokens_at queues d) (tokens_at (taken queues c) d)
    take-shrinks d unwritten = shrinks-after 0 (length queues) 0 0 q d unwritten queues (Take c ∷ []) refl (all_inside (Take c) there) (has, (tt, tt))

module _ {m : Seen} {p : ℕ} {q : Proc} (h : Stands m p q) (steps : List Step) (own : AreOwn q steps) (all : AllByRecursion (IsInside p (length m.queues) (length m.owns) (m.fired + 1 + 2 ^ 63)) steps) where
  abbrev new : Seen
  new = seen_after p m steps

  -- the steps of the machine are those of its state
  pub seen-state : (es : List Outcome) → state_of new es ≡ state_after p (state_of m es) steps
  unfolding state_of
  seen-state es =
      let with : (ℕ → List Token) → (ℕ → LocalState) → State = λ t o. record { tokens = t; own = o; unsent = option_to_list m.inbox; sent = m.sent; emitted = es } in
      ap₂ with (tokens-after p (length m.queues) (length m.owns) (m.fired + 1 + 2 ^ 63) m.queues steps refl all) (own-after p (length m.queues) (length m.owns) (m.fired + 1 + 2 ^ 63) m.owns steps refl all)

  pub seen-shaped : IsShaped new
  seen-shaped =
      let shaped = h.sound.shaped in
      let sent = shaped.sent in
      let emitted = shaped.emitted in
      record {
        rooms = rooms-after p (length m.queues) (length m.owns) (m.fired + 1 + 2 ^ 63) m.queues steps ∙ shaped.rooms;
        keeps = keeps-after p (length m.queues) (length m.owns) (m.fired + 1 + 2 ^ 63) m.owns steps ∙ shaped.keeps;
        numbers = numbers-after p (length m.queues) (length m.owns) (m.fired + 1 + 2 ^ 63) m.owns steps refl all (λ r. let few = shaped.numbers r in omega (arith, few));
        sent = omega (arith, sent);
        emitted = omega (arith, emitted);
      }

  pub seen-moves : Moves m new p (channels steps)
  seen-moves = record {
    typed = h.sound.typed;
    tree = refl;
    net = refl;
    inside = subst (λ n. AllByRecursion (λ c. c < n) (channels steps)) (queue_count m.queues m.net.chans h.sound.shaped.rooms) (inside-channels p (length m.queues) (length m.owns) (m.fired + 1 + 2 ^ 63) steps all);
    own_channels = subst (λ o. AllByRecursion (IsAt o) (channels steps)) (sym h.stands) (own_channels q steps own);
    queues = apart-after p (length m.queues) (length m.owns) (m.fired + 1 + 2 ^ 63) m.queues steps;
    grows = λ c none. grows-after p (length m.queues) (length m.owns) (m.fired + 1 + 2 ^ 63) q c (none q h.stands) m.queues steps refl all own;
    shrinks = λ c none. shrinks-after p (length m.queues) (length m.owns) (m.fired + 1 + 2 ^ 63) q c (none q h.stands) m.queues steps refl all own;
    owns = others-after p (length m.queues) (length m.owns) (m.fired + 1 + 2 ^ 63) m.owns steps;
    inbox = inr refl;
  }

  -- it has fired, if the row of its kind makes these steps
  pub done : (leaf : Leaf) (k : ProcKind) → q.kind ≡ k → ((es : List Outcome) → state_after p (state_of m es) steps ≡ row_fire k m.tree leaf m.net (state_of m es) p (own_at m.owns p) q) → Done leaf m new p (channels steps) None
  unfolding state_of
  done leaf k e row = record {
    fires = record {
      tree = refl;
      net = refl;
      fired = refl;
      state = λ es.
          ap (state_of new) (append-nil es) ∙ seen-state es ∙ row es
          ∙ ap (λ x. row_fire x m.tree leaf m.net (state_of m es) p (own_at m.owns p) q) (sym e)
          ∙ sym (fire_at m.tree m.net (state_of m es) p q h.stands leaf);
      emitted = λ es has. record { count = has.count ∙ ap length (sym (append-nil es)); trap = has.trap ∙ ap has_trap (sym (append-nil es)) };
    };
    moves = seen-moves;
    shaped = seen-shaped;
  }

  -- as the machine was left, and the channels were handed back
  pub done_as : (leaf : Leaf) (k : ProcKind) → q.kind ≡ k → ((es : List Outcome) → state_after p (state_of m es) steps ≡ row_fire k m.tree leaf m.net (state_of m es) p (own_at m.owns p) q) → (n : Seen) → n ≡ seen_after p m steps → (touched : List ℕ) → touched ≡ channels steps → Done leaf m n p touched None
  done_as leaf k e row n is touched here =
      subst (λ cs. Done leaf m n p cs None) (sym here) (subst (λ x. Done leaf m x p (channels steps) None) (sym is) (done leaf k e row))
