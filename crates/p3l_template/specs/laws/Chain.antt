-- Inner parts that are placed one after the other from process p and channel c on. Part v is at
-- ports v, is lawful and means what they say (`chain_input` to `chain_lawful`), and lies between p,
-- c and the ends (`chain_lies`). A firing between p and the end is one of one part, and the others
-- cannot tell it (`chain_fires`).
use Rattle.std.proofs.Common.{◌≡◌, ℕ, zero, suc, ◌≤◌, ◌<◌, inl, inr, true, List, [], ◌∷◌, length, get_or, ◌&&◌, refl, sym, ap, ap₂, ◌∙◌, subst, arith, le_refl}
use Rattle.std.proofs.lemmas.Bool.{cases_lt, cases_eq, and_parts, and_from}
use Rattle.p3l_firing.specs.Ways.{MayFire}
use Rattle.p3l_firing.specs.State.{State}
use Rattle.p3l_firing.specs.declared.net.Net.{Net}
use Rattle.p3l_template.specs.Part.{Part, IsLawfulPart, IsInside, IsSameInside, Moves, OneFired, no_part, all_orderly}
use Rattle.p3l_template.specs.Placed.{AreChained, proc_end, chan_end, AreBelow}
use Rattle.p3l_template.specs.Shape.{Role, Slot, no_slot}
use Rattle.p3l_template.specs.Units.{Units}

-- part v lies after p and c, and before the ends
pub record Lies (p c pe ce : ℕ) (P : Part) : Type 0 where
  pub proc_from : p ≤ P.proc_from
  pub proc_to : P.proc_to ≤ pe
  pub chan_from : c ≤ P.chan_from
  pub chan_to : P.chan_to ≤ ce

module _ (net : Net) (units : Units) (roles : ℕ → Role) where
  pub chain_length : (p c : ℕ) (xs : List Slot) (Ps : List Part) → AreChained net units roles p c xs Ps →
      length xs ≡ length Ps
  unfolding AreChained
  chain_length p c [] [] h = refl
  chain_length p c (x ∷ xs) (P ∷ Ps) h = ap suc (chain_length P.proc_to P.chan_to xs Ps h.1)
  chain_length p c [] (P ∷ Ps) h = absurd h
  chain_length p c (x ∷ xs) [] h = absurd h

  -- part v is at ports v, and is lawful
  pub chain_input : (p c : ℕ) (xs : List Slot) (Ps : List Part) → AreChained net units roles p c xs Ps → (v : ℕ) →
      v < length Ps → (get_or Ps v no_part).input ≡ (get_or xs v no_slot).input
  unfolding AreChained
  chain_input p c [] [] h v l = absurd (omega arith)
  chain_input p c (x ∷ xs) (P ∷ Ps) h zero l = h.0.input
  chain_input p c (x ∷ xs) (P ∷ Ps) h (suc v) l = chain_input P.proc_to P.chan_to xs Ps h.1 v (omega arith)
  chain_input p c [] (P ∷ Ps) h v l = absurd h
  chain_input p c (x ∷ xs) [] h v l = absurd h

  pub chain_output : (p c : ℕ) (xs : List Slot) (Ps : List Part) → AreChained net units roles p c xs Ps → (v : ℕ) →
      v < length Ps → (get_or Ps v no_part).output ≡ (get_or xs v no_slot).output
  unfolding AreChained
  chain_output p c [] [] h v l = absurd (omega arith)
  chain_output p c (x ∷ xs) (P ∷ Ps) h zero l = h.0.output
  chain_output p c (x ∷ xs) (P ∷ Ps) h (suc v) l = chain_output P.proc_to P.chan_to xs Ps h.1 v (omega arith)
  chain_output p c [] (P ∷ Ps) h v l = absurd h
  chain_output p c (x ∷ xs) [] h v l = absurd h

  pub chain_meaning : (p c : ℕ) (xs : List Slot) (Ps : List Part) → AreChained net units roles p c xs Ps → (v : ℕ) →
      v < length Ps → (get_or Ps v no_part).meaning ≡ (roles (get_or xs v no_slot).part).meaning
  unfolding AreChained
  chain_meaning p c [] [] h v l = absurd (omega arith)
  chain_meaning p c (x ∷ xs) (P ∷ Ps) h zero l = h.0.meaning
  chain_meaning p c (x ∷ xs) (P ∷ Ps) h (suc v) l = chain_meaning P.proc_to P.chan_to xs Ps h.1 v (omega arith)
  chain_meaning p c [] (P ∷ Ps) h v l = absurd h
  chain_meaning p c (x ∷ xs) [] h v l = absurd h

  pub chain_firings : (p c : ℕ) (xs : List Slot) (Ps : List Part) → AreChained net units roles p c xs Ps → (v : ℕ) →
      v < length Ps → (get_or Ps v no_part).firings ≡ (roles (get_or xs v no_slot).part).firings
  unfolding AreChained
  chain_firings p c [] [] h v l = absurd (omega arith)
  chain_firings p c (x ∷ xs) (P ∷ Ps) h zero l = h.0.firings
  chain_firings p c (x ∷ xs) (P ∷ Ps) h (suc v) l = chain_firings P.proc_to P.chan_to xs Ps h.1 v (omega arith)
  chain_firings p c [] (P ∷ Ps) h v l = absurd h
  chain_firings p c (x ∷ xs) [] h v l = absurd h

  pub chain_lawful : (p c : ℕ) (xs : List Slot) (Ps : List Part) → AreChained net units roles p c xs Ps → (v : ℕ) →
      v < length Ps → IsLawfulPart net units (get_or Ps v no_part)
  unfolding AreChained
  chain_lawful p c [] [] h v l = absurd (omega arith)
  chain_lawful p c (x ∷ xs) (P ∷ Ps) h zero l = h.0.lawful
  chain_lawful p c (x ∷ xs) (P ∷ Ps) h (suc v) l = chain_lawful P.proc_to P.chan_to xs Ps h.1 v (omega arith)
  chain_lawful p c [] (P ∷ Ps) h v l = absurd h
  chain_lawful p c (x ∷ xs) [] h v l = absurd h

  pub chain_grows : (p c : ℕ) (xs : List Slot) (Ps : List Part) → AreChained net units roles p c xs Ps →
      (p ≤ proc_end p Ps) × (c ≤ chan_end c Ps)
  unfolding AreChained proc_end chan_end
  chain_grows p c [] [] h = (le_refl p, le_refl c)
  chain_grows p c (x ∷ xs) (P ∷ Ps) h =
      let r = chain_grows P.proc_to P.chan_to xs Ps h.1 in
      (omega (arith, h.0.proc, h.0.lawful.procs, r.0), omega (arith, h.0.chan, h.0.lawful.chans, r.1))
  chain_grows p c [] (P ∷ Ps) h = absurd h
  chain_grows p c (x ∷ xs) [] h = absurd h

  pub chain_lies : (p c : ℕ) (xs : List Slot) (Ps : List Part) → AreChained net units roles p c xs Ps → (v : ℕ) →
      v < length Ps → Lies p c (proc_end p Ps) (chan_end c Ps) (get_or Ps v no_part)
  unfolding AreChained proc_end chan_end
  chain_lies p c [] [] h v l = absurd (omega arith)
  chain_lies p c (x ∷ xs) (P ∷ Ps) h zero l =
      let r = chain_grows P.proc_to P.chan_to xs Ps h.1 in
      record { proc_from = omega (arith, h.0.proc); proc_to = r.0; chan_from = omega (arith, h.0.chan); chan_to = r.1 }
  chain_lies p c (x ∷ xs) (P ∷ Ps) h (suc v) l =
      let r = chain_lies P.proc_to P.chan_to xs Ps h.1 v (omega arith) in
      record {
        proc_from = omega (arith, h.0.proc, h.0.lawful.procs, r.proc_from);
        proc_to = r.proc_to;
        chan_from = omega (arith, h.0.chan, h.0.lawful.chans, r.chan_from);
        chan_to = r.chan_to;
      }
  chain_lies p c [] (P ∷ Ps) h v l = absurd h
  chain_lies p c (x ∷ xs) [] h v l = absurd h

-- a firing in P leaves the inside of Q alone, if the two lie apart and P's ports lie below Q's channels
pub apart_same : (P Q : Part) (s t : State) → Moves P s t →
    ((p : ℕ) → Q.proc_from ≤ p → p < Q.proc_to → P.proc_from ≤ p → P.proc_to ≤ p) →
    ((c : ℕ) → Q.chan_from ≤ c → c < Q.chan_to → P.chan_from ≤ c → P.chan_to ≤ c) → P.input < Q.chan_from →
    P.output < Q.chan_from → IsSameInside Q s t
apart_same P Q s t m ap_procs ap_chans i o = record {
  tokens = λ c f l. m.tokens c (λ e. omega (arith, e)) (λ e. omega (arith, e)) (ap_chans c f l);
  own = λ p f l. m.own p (ap_procs p f l);
}

-- of the inner parts, one fires
pub chain_fires : (net : Net) (units : Units) (roles : ℕ → Role) (low p c : ℕ) (xs : List Slot) (Ps : List Part) →
    AreChained net units roles p c xs Ps → low ≤ c → AreBelow low xs → (s t : State) (q : ℕ) → p ≤ q → q < proc_end p Ps →
    MayFire units.tree units.leaf net s q t → OneFired Ps s t
unfolding AreChained proc_end AreBelow
chain_fires net units roles low p c [] [] h b lo s t q f l way = absurd (omega arith)
chain_fires net units roles low p c (x ∷ xs) (P ∷ Ps) h b lo s t q f l way =
    elim (cases_lt q P.proc_to) [
      | inl e ↦
          let inside : IsInside P q = record { from = omega (arith, h.0.proc); to = e } in
          let m : Moves P s t = h.0.lawful.moves s t q inside way in
          record {
            which = 0;
            below = omega arith;
            moves = m;
            keeps = h.0.lawful.step s t q inside way;
            works = h.0.lawful.work s t q inside way;
            others = elim [
              | zero ↦ λ _ ne. absurd (ne refl)
              | suc v ↦ λ k _.
                  let y = chain_lies net units roles P.proc_to P.chan_to xs Ps h.1 v (omega arith) in
                  (chain_lawful net units roles P.proc_to P.chan_to xs Ps h.1 v (omega arith)).reads s _
                  (apart_same P (get_or Ps v no_part) s _ m
                  (λ r u w z. omega (arith, y.proc_from, u))
                  (λ r u w z. omega (arith, y.chan_from, u))
                  (omega (arith, h.0.input, (lo 0 (omega arith)).0, h.0.chan, h.0.lawful.chans, y.chan_from))
                  (omega (arith, h.0.output, (lo 0 (omega arith)).1, h.0.chan, h.0.lawful.chans, y.chan_from)))
            ];
          }
      | inr e ↦
          let r = chain_fires net units roles low P.proc_to P.chan_to xs Ps h.1
          (omega (arith, h.0.chan, h.0.lawful.chans)) (λ v k. lo (suc v) (omega arith)) s t q e l way in
          let y = chain_lies net units roles P.proc_to P.chan_to xs Ps h.1 r.which r.below in
          let len = chain_length net units roles P.proc_to P.chan_to xs Ps h.1 in
          record {
            which = suc r.which;
            below = omega (arith, r.below);
            moves = r.moves;
            keeps = r.keeps;
            works = r.works;
            others = elim [
              | zero ↦ λ _ _.
                  h.0.lawful.reads s _
                  (apart_same (get_or Ps r.which no_part) P s _ r.moves
                  (λ k u w z. absurd (omega (arith, y.proc_from, z, w)))
                  (λ k u w z. absurd (omega (arith, y.chan_from, z, w)))
                  (omega (
                    arith,
                    chain_input net units roles P.proc_to P.chan_to xs Ps h.1 r.which r.below,
                    (lo (suc r.which) (omega (arith, r.below, len))).0,
                    h.0.chan,
                  ))
                  (omega (
                    arith,
                    chain_output net units roles P.proc_to P.chan_to xs Ps h.1 r.which r.below,
                    (lo (suc r.which) (omega (arith, r.below, len))).1,
                    h.0.chan,
                  )))
              | suc v ↦ λ k ne. r.others v (omega arith) (λ e. ne (ap suc e))
            ];
          }
    ]
chain_fires net units roles low p c [] (P ∷ Ps) h b lo s t q f l way = absurd h
chain_fires net units roles low p c (x ∷ xs) [] h b lo s t q f l way = absurd h

pub all_at : (Ps : List Part) (s : State) → all_orderly Ps s ≡ true → (v : ℕ) → v < length Ps →
    (get_or Ps v no_part).orderly s ≡ true
unfolding all_orderly
all_at [] s h v l = absurd (omega arith)
all_at (P ∷ Ps) s h zero l = (and_parts _ _ h).0
all_at (P ∷ Ps) s h (suc v) l = all_at Ps s (and_parts _ _ h).1 v (omega arith)

pub all_from : (Ps : List Part) (s : State) → ((v : ℕ) → v < length Ps → (get_or Ps v no_part).orderly s ≡ true) →
    all_orderly Ps s ≡ true
unfolding all_orderly
all_from [] s h = refl
all_from (P ∷ Ps) s h = and_from _ _ (h 0 (omega arith)) (all_from Ps s (λ v l. h (suc v) (omega arith)))

pub all_same : (Ps : List Part) (s t : State) →
    ((v : ℕ) → v < length Ps → (get_or Ps v no_part).orderly t ≡ (get_or Ps v no_part).orderly s) →
    all_orderly Ps t ≡ all_orderly Ps s
unfolding all_orderly
all_same [] s t h = refl
all_same (P ∷ Ps) s t h = ap₂ (λ x y. x && y) (h 0 (omega arith)) (all_same Ps s t (λ v l. h (suc v) (omega arith)))

-- all parts stay orderly after a firing of one of them
pub all_kept : (Ps : List Part) (s t : State) → OneFired Ps s t → all_orderly Ps s ≡ true → all_orderly Ps t ≡ true
all_kept Ps s t one h =
    all_from Ps t (λ v l. elim (cases_eq v one.which) [
      | inl e ↦
          subst (λ w. (get_or Ps w no_part).orderly t ≡ true) (sym e)
          (one.keeps (all_at Ps s h one.which one.below)).orderly
      | inr n ↦ (one.others v l n).orderly ∙ all_at Ps s h v l
    ])
