-- Effects of a pop, a push and a new local state on a state: the channel or process that they name changes as stated, and
-- each other is unchanged. `passed` is a process that takes a token here, puts one there and counts.
-- The laws of farm, loop, map and reduce read their rows through these lemmas.
use Rattle.std.proofs.Common.{◌≡◌, ℕ, ◌≢◌, ◌+◌, [], ◌∷◌, ◌++◌, refl, sym, ap, ◌∙◌}
use Rattle.p3l_firing.specs.Lists.{rest_of}
use Rattle.p3l_firing.specs.State.{LocalState, State, pop, push, set_own, counted}
use Rattle.p3l_firing.specs.declared.token.Token.{Token}
use Rattle.p3l_template.specs.laws.Rows.{at-same, at-other}

pub pop_same : (s : State) (a : ℕ) → (pop s a).tokens a ≡ rest_of (s.tokens a)
unfolding pop
pop_same s a = at-same s.tokens a _

pub pop_other : (s : State) (a c : ℕ) → c ≢ a → (pop s a).tokens c ≡ s.tokens c
unfolding pop
pop_other s a c h = at-other s.tokens a _ c h

pub push_same : (s : State) (b : ℕ) (t : Token) → (push s b t).tokens b ≡ s.tokens b ++ t ∷ []
unfolding push
push_same s b t = at-same s.tokens b _

pub push_other : (s : State) (b : ℕ) (t : Token) (c : ℕ) → c ≢ b → (push s b t).tokens c ≡ s.tokens c
unfolding push
push_other s b t c h = at-other s.tokens b _ c h

pub set_tokens : (s : State) (p : ℕ) (o : LocalState) (c : ℕ) → (set_own s p o).tokens c ≡ s.tokens c
unfolding set_own
set_tokens s p o c = refl

pub own_same : (s : State) (p : ℕ) (o : LocalState) → (set_own s p o).own p ≡ o
unfolding set_own
own_same s p o = at-same s.own p o

pub own_other : (s : State) (p : ℕ) (o : LocalState) (q : ℕ) → q ≢ p → (set_own s p o).own q ≡ s.own q
unfolding set_own
own_other s p o q h = at-other s.own p o q h

pub pop_own : (s : State) (a p : ℕ) → (pop s a).own p ≡ s.own p
unfolding pop
pop_own s a p = refl

pub push_own : (s : State) (b : ℕ) (t : Token) (p : ℕ) → (push s b t).own p ≡ s.own p
unfolding push
push_own s b t p = refl

-- process p took the first token of channel a, put x into channel b, and counted
unfoldable pub passed : State → ℕ → ℕ → ℕ → Token → State
passed s p a b x = set_own (push (pop s a) b x) p (counted (s.own p))

module _ (s : State) (p a b : ℕ) (x : Token) where
  pub passed_in : a ≢ b → (passed s p a b x).tokens a ≡ rest_of (s.tokens a)
  unfolding passed
  passed_in h = set_tokens (push (pop s a) b x) p _ a ∙ push_other (pop s a) b x a h ∙ pop_same s a

  pub passed_out : a ≢ b → (passed s p a b x).tokens b ≡ s.tokens b ++ x ∷ []
  unfolding passed
  passed_out h =
      set_tokens (push (pop s a) b x) p _ b ∙ push_same (pop s a) b x
      ∙ ap (λ z. z ++ x ∷ []) (pop_other s a b (λ e. h (sym e)))

  pub passed_other : (c : ℕ) → c ≢ a → c ≢ b → (passed s p a b x).tokens c ≡ s.tokens c
  unfolding passed
  passed_other c h k = set_tokens (push (pop s a) b x) p _ c ∙ push_other (pop s a) b x c k ∙ pop_other s a c h

  pub passed_count : ((passed s p a b x).own p).number ≡ (s.own p).number + 1
  unfolding passed
  passed_count = ap (λ o. o.number) (own_same (push (pop s a) b x) p _)

  pub passed_own : (q : ℕ) → q ≢ p → (passed s p a b x).own q ≡ s.own q
  unfolding passed
  passed_own q h = own_other (push (pop s a) b x) p _ q h ∙ push_own (pop s a) b x q ∙ pop_own s a q

  pub passed_unsent : (passed s p a b x).unsent ≡ s.unsent
  unfolding passed set_own push pop
  passed_unsent = refl

  pub passed_sent : (passed s p a b x).sent ≡ s.sent
  unfolding passed set_own push pop
  passed_sent = refl

  pub passed_emitted : (passed s p a b x).emitted ≡ s.emitted
  unfolding passed set_own push pop
  passed_emitted = refl
