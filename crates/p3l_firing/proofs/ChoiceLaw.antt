-- An emit takes the first of the channels with room that have the fewest tokens, or none has room; a collect takes the first
-- whose first token has the number that is expected, or none has such a token.
use Rattle.std.proofs.Common.{◌≡◌, ℕ, zero, suc, ◌<◌, ◌⊎◌, inl, inr, ◌&&◌, true, false, Option, Some, None, nat_le}
use Rattle.std.proofs.Common.{List, [], ◌∷◌, length, slice_index, refl, sym, ap, ◌∙◌, arith, le_refl, leb-true, leb-false}
use Rattle.std.proofs.lemmas.Bool.{cases_Bool, cond-true, cond-false, and_parts}
use Rattle.p3l_firing.specs.declared.net.Net.{Net}
use Rattle.p3l_firing.specs.State.{State, has_room}
use Rattle.p3l_firing.specs.kinds.Emit.{fewer, emptiest}
use Rattle.p3l_firing.specs.kinds.Collect.{front_is, due_in}
use Rattle.p3l_firing.specs.Choice.{Emptiest, Full, FirstDue, NoneDue}
use Rattle.p3l_firing.proofs.Rows.{and_left_true}

module _ (net : Net) (s : State) (c : ℕ) (cs : List ℕ) where
  alone : (o : Option ℕ) → Full net s cs o → has_room net s c ≡ true → Emptiest net s (c ∷ cs) (fewer net s c o)
  unfolding fewer
  alone None f e = record {
    at = 0;
    below = omega arith;
    is = cond-true _ _ _ e;
    room = e;
    fewest =
        elim [ zero ↦ λ _ _. le_refl _ | suc k ↦ λ l r. let z : true ≡ false = sym r ∙ f.rooms k (omega arith) in cc ];
    first = λ k l. absurd (omega arith);
  }
  alone (Some d) f e = let z : Some d ≡ None = f.is in cc

  full : (o : Option ℕ) → Full net s cs o → has_room net s c ≡ false → Full net s (c ∷ cs) (fewer net s c o)
  unfolding fewer
  full None f e =
      record { is = cond-false _ _ _ e; rooms = elim [ zero ↦ λ _. e | suc k ↦ λ l. f.rooms k (omega arith) ] }
  full (Some d) f e = let z : Some d ≡ None = f.is in cc

  before : (o : Option ℕ) (f : Emptiest net s cs o) →
      (has_room net s c && nat_le (length (s.tokens c)) (length (s.tokens (slice_index cs f.at)))) ≡ true →
      Emptiest net s (c ∷ cs) (fewer net s c o)
  unfolding fewer
  before o f e =
      let a = and_parts _ _ e in
      let l = leb-true _ _ a.1 in
      record {
        at = 0;
        below = omega arith;
        is = ap (fewer net s c) f.is ∙ cond-true _ _ _ e;
        room = a.0;
        fewest = elim [ zero ↦ λ _ _. le_refl _ | suc k ↦ λ b r. omega (arith, l, f.fewest k (omega arith) r) ];
        first = λ k b. absurd (omega arith);
      }

  after : (o : Option ℕ) (f : Emptiest net s cs o) →
      (has_room net s c && nat_le (length (s.tokens c)) (length (s.tokens (slice_index cs f.at)))) ≡ false →
      Emptiest net s (c ∷ cs) (fewer net s c o)
  unfolding fewer
  after o f e =
      let more : has_room net s c ≡ true → length (s.tokens (slice_index cs f.at)) < length (s.tokens c) =
      λ r. elim (cases_Bool (nat_le (length (s.tokens c)) (length (s.tokens (slice_index cs f.at))))) [
        | inl y ↦ let z : true ≡ false = sym y ∙ and_left_true _ _ r e in cc
        | inr y ↦ leb-false _ _ y
      ] in
      record {
        at = suc f.at;
        below = omega (arith, f.below);
        is = ap (fewer net s c) f.is ∙ cond-false _ _ _ e;
        room = f.room;
        fewest = elim [ zero ↦ λ _ r. omega (arith, more r) | suc k ↦ λ b r. f.fewest k (omega arith) r ];
        first = elim [ zero ↦ λ _ r. more r | suc k ↦ λ b r. f.first k (omega arith) r ];
      }

pub emptiest_is : (net : Net) (s : State) (cs : List ℕ) →
    Emptiest net s cs (emptiest net s cs) ⊎ Full net s cs (emptiest net s cs)
unfolding emptiest
emptiest_is net s [] = inr (record { is = refl; rooms = λ k l. absurd (omega arith) })
emptiest_is net s (c ∷ cs) =
    elim (emptiest_is net s cs) [
      | inl f ↦
          elim (cases_Bool (has_room net s c && nat_le (length (s.tokens c)) (length (s.tokens (slice_index cs f.at))))) [
            | inl e ↦ inl (before net s c cs _ f e)
            | inr e ↦ inl (after net s c cs _ f e)
          ]
      | inr f ↦ elim (cases_Bool (has_room net s c)) [
        | inl e ↦ inl (alone net s c cs _ f e)
        | inr e ↦ inr (full net s c cs _ f e)
      ]
    ]

pub due_in_is : (s : State) (n : ℕ) (cs : List ℕ) → FirstDue s n cs (due_in s n cs) ⊎ NoneDue s n cs (due_in s n cs)
unfolding due_in
due_in_is s n [] = inr (record { is = refl; fronts = λ k l. absurd (omega arith) })
due_in_is s n (c ∷ cs) =
    elim (cases_Bool (front_is n (s.tokens c))) [
      | inl e ↦
          inl (record {
            at = 0;
            below = omega arith;
            is = cond-true _ _ _ e;
            front = e;
            first = λ k l. absurd (omega arith);
          })
      | inr e ↦ elim (due_in_is s n cs) [
        | inl f ↦ inl (record {
          at = suc f.at;
          below = omega (arith, f.below);
          is = cond-false _ _ _ e ∙ f.is;
          front = f.front;
          first = elim [ zero ↦ λ _. e | suc k ↦ λ l. f.first k (omega arith) ];
        })
        | inr f ↦ inr (record {
          is = cond-false _ _ _ e ∙ f.is;
          fronts = elim [ zero ↦ λ _. e | suc k ↦ λ l. f.fronts k (omega arith) ];
        })
      ]
    ]
