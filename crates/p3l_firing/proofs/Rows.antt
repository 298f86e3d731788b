-- The rows of the table, one lemma for each use: all that is needed of `can_fire` and `fire`.
use Rattle.std.proofs.Common.{◌≡◌, ◌≢◌, ℕ, ℤ, ◌<◌, Bool, true, false, not, ◌&&◌, List, [], ◌∷◌, ◌++◌, length, Some, None, slice_get, refl, sym, ap, ◌∙◌, subst, lt-ltb, arith}
use Rattle.std.proofs.lemmas.Bool.{and_parts, not_from_false}
use Rattle.p3l_base.specs.declared.outcome.Outcome.{Outcome}
use Rattle.p3l_skel.specs.declared.tree.Tree.{Tree}
use Rattle.p3l_firing.specs.declared.process.Proc.{Proc}
use Rattle.p3l_firing.specs.declared.net.Net.{Net}
use Rattle.p3l_firing.specs.declared.token.Token.{Token}
use Rattle.p3l_firing.specs.Lists.{has_first, first_or, rest_of}
use Rattle.p3l_firing.specs.Token.{has_trap}
use Rattle.p3l_ready.proofs.AtLemmas.{at-same, at-other}
use Rattle.p3l_firing.specs.State.{State, pop, push, has_room, chan_at}
use Rattle.p3l_firing.specs.Fire.{row_can, row_fire, ready_of, fire_of, is_ready, can_fire, fire}

-- a list with a first element is that element and the rest
pub front_split : {A : Type 0} (none : A) (xs : List A) → has_first xs ≡ true → xs ≡ first_or none xs ∷ rest_of xs
front_split none [] h = cc
front_split none (x ∷ xs) h = refl

pub no_first : {A : Type 0} (xs : List A) → has_first xs ≡ false → xs ≡ []
no_first [] h = refl
no_first (x ∷ xs) h = cc

pub length_when_first : {A : Type 0} (xs : List A) → has_first xs ≡ true → 0 < length xs
length_when_first [] h = cc
length_when_first (x ∷ xs) h = omega arith

-- a token moves from channel a to channel b
module _ (s : State) (a b : ℕ) (token : Token) (apart : a ≢ b) where
  pub moved-in : (push (pop s a) b token).tokens a ≡ rest_of (s.tokens a)
  unfolding push pop
  moved-in = at-other _ b _ a apart ∙ at-same s.tokens a _

  pub moved-out : (push (pop s a) b token).tokens b ≡ s.tokens b ++ token ∷ []
  unfolding push pop
  moved-out = at-same _ b _ ∙ ap (λ ts. ts ++ token ∷ []) (at-other s.tokens a _ b (λ e. apart (sym e)))

pub moved-other : (s : State) (a b : ℕ) (token : Token) (c : ℕ) → c ≢ a → c ≢ b → (push (pop s a) b token).tokens c ≡ s.tokens c
unfolding push pop
moved-other s a b token c h k = at-other _ b _ c k ∙ at-other s.tokens a _ c h

pub and_left_true : (x y : Bool) → x ≡ true → (x && y) ≡ false → y ≡ false
and_left_true true y h k = k
and_left_true false y h k = cc

pub and_right_true : (x y : Bool) → y ≡ true → (x && y) ≡ false → x ≡ false
and_right_true true y h k = cc
and_right_true false y h k = refl

module _ (tree : Tree) (net : Net) (s : State) (p : ℕ) where
  -- a number without a process is not ready
  pub none_ready : slice_get net.procs p ≡ None → is_ready tree net s p ≡ false
  unfolding is_ready ready_of
  none_ready h = ap (λ o. ready_of o tree net s (s.own p)) h

  module _ (q : Proc) (stands : slice_get net.procs p ≡ Some q) where
    pub ready_at : is_ready tree net s p ≡ row_can q.kind tree net s (s.own p) q
    unfolding is_ready ready_of
    ready_at = ap (λ o. ready_of o tree net s (s.own p)) stands

    pub fire_at : (leaf : ℕ → List ℤ → Outcome) → fire tree leaf net s p ≡ row_fire q.kind tree leaf net s p (s.own p) q
    unfolding fire fire_of
    fire_at leaf = ap (λ o. fire_of o tree leaf net s p (s.own p)) stands

  -- a process that can fire is ready, and no trap was emitted
  pub ready_from_can : can_fire tree net s p ≡ true → is_ready tree net s p ≡ true
  unfolding can_fire
  ready_from_can h = (and_parts _ _ h).1

  pub calm_from_can : can_fire tree net s p ≡ true → not (has_trap s.emitted) ≡ true
  unfolding can_fire
  calm_from_can h = (and_parts _ _ h).0

  -- a process that cannot fire is not ready if no trap was emitted
  pub not_ready : has_trap s.emitted ≡ false → can_fire tree net s p ≡ false → is_ready tree net s p ≡ false
  unfolding can_fire
  not_ready untrapped h = and_left_true _ _ (not_from_false _ untrapped) h

-- process q at p can fire exactly as the row of its kind says, if no trap was emitted
module _ (tree : Tree) (net : Net) (s : State) (p : ℕ) (q : Proc) (stands : slice_get net.procs p ≡ Some q) where
  pub can_at : can_fire tree net s p ≡ true → (not (has_trap s.emitted) ≡ true) × (row_can q.kind tree net s (s.own p) q ≡ true)
  can_at h = (calm_from_can tree net s p h, sym (ready_at tree net s p q stands) ∙ ready_from_can tree net s p h)

  pub cannot_at : has_trap s.emitted ≡ false → can_fire tree net s p ≡ false → row_can q.kind tree net s (s.own p) q ≡ false
  cannot_at untrapped h = sym (ready_at tree net s p q stands) ∙ not_ready tree net s p untrapped h

-- an empty channel with a capacity has room
pub room_when_empty : (net : Net) (s : State) (c : ℕ) → s.tokens c ≡ [] → 0 < (chan_at net c).cap → has_room net s c ≡ true
unfolding has_room
room_when_empty net s c e h = lt-ltb _ _ (subst (λ ts. length ts < (chan_at net c).cap) (sym e) h)
