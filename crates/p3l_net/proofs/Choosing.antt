-- The channel of an emit, chosen from the left as from the right.
use Rattle.std.proofs.Common.{◌≡◌, ℕ, ◌<◌, ◌≤◌, ◌&&◌, Bool, true, false, cond, List, [], ◌∷◌, ◌++◌, length, Option, Some, None, nat_lt, refl, sym, ap, ◌∙◌, arith, lt-ltb}
use Rattle.std.proofs.lemmas.Bool.{cond-true, cond-false}
use Rattle.p3l_firing.specs.declared.net.Net.{Net}
use Rattle.p3l_firing.specs.State.{State, has_room}
use Rattle.p3l_firing.specs.kinds.Emit.{fewer, emptiest, better}
use Rattle.p3l_net.specs.Machine.{Seen, state_of}
use Rattle.p3l_net.specs.Channel.{tokens_at}

module _ (net : Net) (s : State) where
  swapped : (c y : ℕ) (o : Option ℕ) → fewer net s c (better net s o y) ≡ better net s (fewer net s c o) y
  unfolding fewer better
  swapped c y None = grind arith
  swapped c y (Some d) = grind arith

  pub emptiest-last : (cs : List ℕ) (y : ℕ) → emptiest net s (cs ++ y ∷ []) ≡ better net s (emptiest net s cs) y
  unfolding emptiest fewer better
  emptiest-last [] y = refl
  emptiest-last (c ∷ cs) y = ap (fewer net s c) (emptiest-last cs y) ∙ swapped c y (emptiest net s cs)

module _ (m : Seen) (c : ℕ) where
  pub better-first : (o : Option ℕ) → o ≡ None → has_room m.net (state_of m []) c ≡ true → Some c ≡ better m.net (state_of m []) o c
  unfolding better
  better-first None e room = sym (cond-true _ _ _ room)
  better-first (Some b) e room = cc

  pub better-full : (o : Option ℕ) → has_room m.net (state_of m []) c ≡ false → o ≡ better m.net (state_of m []) o c
  unfolding better
  better-full None room = sym (cond-false _ _ _ room)
  better-full (Some b) room = sym (cond-false _ _ _ (ap (λ x. x && nat_lt (length ((state_of m []).tokens c)) (length ((state_of m []).tokens b))) room))

  module _ (o : Option ℕ) (b : ℕ) (e : o ≡ Some b) (room : has_room m.net (state_of m []) c ≡ true) where
    by_load : (x : Bool) → nat_lt (length (tokens_at m.queues c)) (length (tokens_at m.queues b)) ≡ x → better m.net (state_of m []) o c ≡ cond x (Some c) (Some b)
    unfolding better state_of
    by_load x h = ap (λ z. better m.net (state_of m []) z c) e ∙ ap (λ z. cond (z && nat_lt (length (tokens_at m.queues c)) (length (tokens_at m.queues b))) (Some c) (Some b)) room ∙ ap (λ z. cond z (Some c) (Some b)) h

    pub better-here : length (tokens_at m.queues c) < length (tokens_at m.queues b) → Some c ≡ better m.net (state_of m []) o c
    better-here less = sym (by_load true (lt-ltb _ _ less))

    pub better-kept : length (tokens_at m.queues b) ≤ length (tokens_at m.queues c) → Some b ≡ better m.net (state_of m []) o c
    better-kept more = sym (by_load false (not_less _ _ more))
      where
        not_less : (x y : ℕ) → y ≤ x → nat_lt x y ≡ false
        not_less x y h = grind arith
