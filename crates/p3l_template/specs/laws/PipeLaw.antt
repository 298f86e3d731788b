-- THE LAW OF THE PIPE (`pipe_lawful`): stages of any number, round any lawful parts. The line of a pipe is the flow
-- through its stages, each of which passes on what the one before leaves (`flow_fired`: one fires, and the flow stays).
-- What is owed falls with each firing, is bounded by the tokens inside, and from the last stage back all drain.
use Rattle.std.proofs.Common.{◌≡◌, ℕ, zero, suc, ◌+◌, ◌≤◌, ◌<◌, ◌≢◌, ◌⊎◌, inl, inr, true, false, List, [], ◌∷◌, ◌++◌, map, length, get_or, refl, sym, ap, ap₂, ◌∙◌, subst, arith, append_assoc, append-nil, le_refl, map-id, ◌*◌, ◌-◌, length-append}
use Rattle.std.proofs.lemmas.Bool.{cases_lt}
use Rattle.std.proofs.lemmas.List.{map-append, length-map, length-replicate}
use Rattle.std.proofs.Math.Path.{fun_ext}
use Rattle.p3l_base.specs.declared.outcome.Outcome.{Outcome}
use Rattle.p3l_firing.specs.Fire.{can_fire}
use Rattle.p3l_firing.specs.Ways.{MayFire}
use Rattle.p3l_template.specs.Shape.{empty_chan}
use Rattle.p3l_firing.specs.State.{State, has_room, at_first}
use Rattle.p3l_firing.specs.Token.{over, has_trap}
use Rattle.p3l_firing.specs.declared.net.Net.{Net}
use Rattle.p3l_firing.specs.declared.token.Token.{Token}
use Rattle.p3l_template.specs.Part.{Part, IsLawfulPart, IsSized, in_channels, in_hands, inside, line, IsInside, IsSameInside, IsAlike, Moves, Keeps, OneFired, no_part, all_orderly, IsFresh, Begins, IsDrained, due}
use Rattle.p3l_template.specs.Pipe.{stage_slots, through, meaning_from, stages_pending, pipe_pending, all_firings, firings_from, stages_due, pipe_part, pipe_shape}
use Rattle.p3l_template.specs.Placed.{IsLawfulShape, IsGoodSlot, IsPlaced, AreChained, proc_end, chan_end, AreBelow}
use Rattle.p3l_template.specs.Shape.{Role, Base, no_slot}
use Rattle.p3l_template.specs.Units.{Units}
use Rattle.p3l_template.specs.laws.Chain.{chain_fires, chain_lies, chain_lawful, chain_input, chain_output, chain_length, chain_grows, Lies, all_same, all_kept, all_at, all_from}
use Rattle.p3l_template.specs.laws.Inside.{insides, around_inside, times_le, line_length}
use Rattle.p3l_template.specs.laws.Plain.{plain_empty, plain_room}
use Rattle.p3l_template.specs.laws.Rows.{room_when_empty}
use mathlib.Core.List.{map-map}

-- the tokens up before the first stage, as they leave the last
unfoldable flow : State → List Token → List Part → List Token
flow s up [] = up
flow s up (P ∷ Ps) = flow s (s.tokens P.output ++ (P.pending s ++ map (over P.meaning) up)) Ps

-- each stage reads what the one before it writes
unfoldable Linked : ℕ → List Part → Type 0
Linked x [] = Unit {0}
Linked x (P ∷ Ps) = (P.input ≡ x) × Linked P.output Ps

unfoldable last_out : ℕ → List Part → ℕ
last_out x [] = x
last_out x (P ∷ Ps) = last_out P.output Ps

-- the flow is the tokens of the last channel, then what is pending, then the meanings of the others
flow_is : (s : State) (x : ℕ) (q r : List Token) (Ps : List Part) → Linked x Ps →
    flow s (s.tokens x ++ (q ++ r)) Ps
    ≡ s.tokens (last_out x Ps) ++ (stages_pending s q Ps ++ map (over (through Ps)) r)
unfolding flow Linked last_out stages_pending through
flow_is s x q r [] h = ap (λ z. s.tokens x ++ (q ++ z)) (sym (map-id r))
flow_is s x q r (P ∷ Ps) h =
    ap (λ z. flow s (s.tokens P.output ++ z) Ps)
    (ap (λ z. P.pending s ++ z)
    (ap (map (over P.meaning)) (sym (append_assoc (s.tokens x) q r)) ∙ map-append (over P.meaning) (s.tokens x ++ q) r)
    ∙ sym (append_assoc (P.pending s) _ _))
    ∙ flow_is s P.output (P.pending s ++ map (over P.meaning) (s.tokens x ++ q)) (map (over P.meaning) r) Ps h.1
    ∙ ap₂ (λ y z. s.tokens (last_out P.output Ps)
    ++ (stages_pending s (P.pending s ++ map (over P.meaning) (s.tokens y ++ q)) Ps ++ z)) (sym h.0)
    (map-map (over (through Ps)) (over P.meaning) r)

flow_same : (s t : State) (up : List Token) (Ps : List Part) →
    ((v : ℕ) → v < length Ps → (get_or Ps v no_part).pending t ≡ (get_or Ps v no_part).pending s) →
    ((v : ℕ) → v < length Ps → t.tokens (get_or Ps v no_part).output ≡ s.tokens (get_or Ps v no_part).output) →
    flow t up Ps ≡ flow s up Ps
unfolding flow
flow_same s t up [] h k = refl
flow_same s t up (P ∷ Ps) h k =
    ap₂ (λ y z. flow t (y ++ (z ++ map (over P.meaning) up)) Ps) (k 0 (omega arith)) (h 0 (omega arith))
    ∙ flow_same s t (s.tokens P.output ++ (P.pending s ++ map (over P.meaning) up)) Ps (λ v l. h (suc v) (omega arith))
    (λ v l. k (suc v) (omega arith))

-- the head of a flow is its line, then what is upstream
head_line : (P : Part) (s : State) (up : List Token) →
    s.tokens P.output ++ (P.pending s ++ map (over P.meaning) (s.tokens P.input ++ up))
    ≡ line P s ++ map (over P.meaning) up
unfolding line
head_line P s up = simp (map-append, append_assoc)

-- one stage fires, and the flow stays
flow_fired : (s t : State) (x : ℕ) (up : List Token) (Ps : List Part) (w : ℕ) → Linked x Ps → w < length Ps →
    line (get_or Ps w no_part) t ≡ line (get_or Ps w no_part) s →
    ((v : ℕ) → v < length Ps → v ≢ w → (get_or Ps v no_part).pending t ≡ (get_or Ps v no_part).pending s) →
    ((v : ℕ) → v < length Ps → v ≢ w → suc v ≢ w →
    t.tokens (get_or Ps v no_part).output ≡ s.tokens (get_or Ps v no_part).output) → (w ≢ 0 → t.tokens x ≡ s.tokens x) →
    flow t (t.tokens x ++ up) Ps ≡ flow s (s.tokens x ++ up) Ps
unfolding flow Linked
flow_fired s t x up [] w h l e p o f = absurd (omega arith)
flow_fired s t x up (P ∷ Ps) zero h l e p o f =
    ap (λ y. flow t (t.tokens P.output ++ (P.pending t ++ map (over P.meaning) (t.tokens y ++ up))) Ps) (sym h.0)
    ∙ ap (λ z. flow t z Ps) (head_line P t up ∙ ap (λ z. z ++ map (over P.meaning) up) e ∙ sym (head_line P s up))
    ∙ flow_same s t _ Ps (λ v k. p (suc v) (omega arith) (omega arith))
    (λ v k. o (suc v) (omega arith) (omega arith) (omega arith))
    ∙ ap (λ y. flow s (s.tokens P.output ++ (P.pending s ++ map (over P.meaning) (s.tokens y ++ up))) Ps) h.0
flow_fired s t x up (P ∷ Ps) (suc w) h l e p o f =
    ap₂ (λ y z. flow t (t.tokens P.output ++ (y ++ map (over P.meaning) (z ++ up))) Ps)
    (p 0 (omega arith) (omega arith)) (f (omega arith))
    ∙ flow_fired s t P.output _ Ps w h.1 (omega arith) e (λ v k n. p (suc v) (omega arith) (omega arith))
    (λ v k n m. o (suc v) (omega arith) (omega arith) (omega arith))
    (λ n. o 0 (omega arith) (omega arith) (omega arith))

-- the ports of the stages
ports_length : (u x c y k : ℕ) → length (stage_slots u x c y k) ≡ suc k
unfolding stage_slots
ports_length u x c y zero = refl
ports_length u x c y (suc k) = ap suc (ports_length (suc u) c (suc c) y k)

first_in : (u x c y k : ℕ) → (get_or (stage_slots u x c y k) 0 no_slot).input ≡ x
unfolding stage_slots
first_in u x c y zero = refl
first_in u x c y (suc k) = refl

next_in : (u x c y k v : ℕ) → v < k → (get_or (stage_slots u x c y k) (suc v) no_slot).input ≡ c + v
unfolding stage_slots
next_in u x c y zero v l = absurd (omega arith)
next_in u x c y (suc k) zero l = first_in (suc u) c (suc c) y k ∙ omega arith
next_in u x c y (suc k) (suc v) l = next_in (suc u) c (suc c) y k v (omega arith) ∙ omega arith

mid_out : (u x c y k v : ℕ) → v < k → (get_or (stage_slots u x c y k) v no_slot).output ≡ c + v
unfolding stage_slots
mid_out u x c y zero v l = absurd (omega arith)
mid_out u x c y (suc k) zero l = omega arith
mid_out u x c y (suc k) (suc v) l = mid_out (suc u) c (suc c) y k v (omega arith) ∙ omega arith

last_port : (u x c y k : ℕ) → (get_or (stage_slots u x c y k) k no_slot).output ≡ y
unfolding stage_slots
last_port u x c y zero = refl
last_port u x c y (suc k) = last_port (suc u) c (suc c) y k

ports_low : (u x c y k : ℕ) → x < c + k → y < c + k → AreBelow (c + k) (stage_slots u x c y k)
unfolding AreBelow stage_slots
ports_low u x c y zero h i = elim [ zero ↦ λ l. (h, i) | suc v ↦ λ l. absurd (omega arith) ]
ports_low u x c y (suc k) h i = elim [
  | zero ↦ λ l. (h, omega arith)
  | suc v ↦ λ l.
      let r = ports_low (suc u) c (suc c) y k (omega arith) (omega arith) v (omega arith) in
      (omega (arith, r.0), omega (arith, r.1))
]

module _ (net : Net) (units : Units) (roles : ℕ → Role) where
  ports_linked : (u p c x d y k : ℕ) (Ps : List Part) →
      AreChained net units roles p c (stage_slots u x d y k) Ps → Linked x Ps
  unfolding AreChained stage_slots Linked
  ports_linked u p c x d y zero [] h = absurd h
  ports_linked u p c x d y zero (P ∷ Ps) h = (
    h.0.input,
    elim Ps as (λ Qs. AreChained net units roles P.proc_to P.chan_to [] Qs → Linked P.output Qs) [
      | [] ↦ λ _. tt
      | Q ∷ Qs ↦ λ z. absurd z
    ] h.1,
  )
  ports_linked u p c x d y (suc k) [] h = absurd h
  ports_linked u p c x d y (suc k) (P ∷ Ps) h = (
    h.0.input,
    subst (λ z. Linked z Ps) (sym h.0.output) (ports_linked (suc u) P.proc_to P.chan_to d (suc d) y k Ps h.1),
  )

  ports_last : (u p c x d y k : ℕ) (Ps : List Part) → AreChained net units roles p c (stage_slots u x d y k) Ps →
      last_out x Ps ≡ y
  unfolding AreChained stage_slots last_out
  ports_last u p c x d y zero [] h = absurd h
  ports_last u p c x d y zero (P ∷ Ps) h =
      elim Ps as (λ Qs. AreChained net units roles P.proc_to P.chan_to [] Qs → last_out P.output Qs ≡ y) [
        | [] ↦ λ _. h.0.output
        | Q ∷ Qs ↦ λ z. absurd z
      ] h.1
  ports_last u p c x d y (suc k) [] h = absurd h
  ports_last u p c x d y (suc k) (P ∷ Ps) h =
      ap (λ z. last_out z Ps) h.0.output ∙ ports_last (suc u) P.proc_to P.chan_to d (suc d) y k Ps h.1

pipe_means : (net : Net) (units : Units) (roles : ℕ → Role) (u p c x d y k : ℕ) (Ps : List Part) →
    AreChained net units roles p c (stage_slots u x d y k) Ps → (o : Outcome) → through Ps o ≡ meaning_from roles u k o
unfolding AreChained stage_slots through meaning_from
pipe_means net units roles u p c x d y zero [] h o = absurd h
pipe_means net units roles u p c x d y zero (P ∷ Ps) h o =
    elim Ps as
    (λ Qs. AreChained net units roles P.proc_to P.chan_to [] Qs → through Qs (P.meaning o) ≡ (roles u).meaning o) [
      | [] ↦ λ _. ap (λ f. f o) h.0.meaning
      | Q ∷ Qs ↦ λ z. absurd z
    ] h.1
pipe_means net units roles u p c x d y (suc k) [] h o = absurd h
pipe_means net units roles u p c x d y (suc k) (P ∷ Ps) h o =
    ap (λ f. through Ps (f o)) h.0.meaning
    ∙ pipe_means net units roles (suc u) P.proc_to P.chan_to d (suc d) y k Ps h.1 ((roles u).meaning o)

pipe_meaning : (net : Net) (units : Units) (roles : ℕ → Role) (u p c x d y k : ℕ) (Ps : List Part) →
    AreChained net units roles p c (stage_slots u x d y k) Ps → through Ps ≡ meaning_from roles u k
pipe_meaning net units roles u p c x d y k Ps h = fun_ext (pipe_means net units roles u p c x d y k Ps h)

in_exact : (u x c y k w : ℕ) → w < suc k →
    ((w ≡ 0) × ((get_or (stage_slots u x c y k) w no_slot).input ≡ x))
    ⊎ ((0 < w) × (suc (get_or (stage_slots u x c y k) w no_slot).input ≡ c + w))
in_exact u x c y k zero l = inl (refl, first_in u x c y k)
in_exact u x c y k (suc w) l = inr (omega arith, ap suc (next_in u x c y k w (omega arith)) ∙ omega arith)

out_exact : (u x c y k v : ℕ) → v < suc k →
    ((v < k) × ((get_or (stage_slots u x c y k) v no_slot).output ≡ c + v))
    ⊎ ((v ≡ k) × ((get_or (stage_slots u x c y k) v no_slot).output ≡ y))
out_exact u x c y k v l =
    elim (cases_lt v k) [
      | inl e ↦ inl (e, mid_out u x c y k v e)
      | inr e ↦ let eq : v ≡ k = omega arith in
          inr (eq, ap (λ z. (get_or (stage_slots u x c y k) z no_slot).output) eq ∙ last_port u x c y k)
    ]

pipe_firings : (net : Net) (units : Units) (roles : ℕ → Role) (u p c x d y k : ℕ) (Ps : List Part) →
    AreChained net units roles p c (stage_slots u x d y k) Ps → all_firings Ps ≡ firings_from roles u k
unfolding AreChained stage_slots all_firings firings_from
pipe_firings net units roles u p c x d y zero [] h = absurd h
pipe_firings net units roles u p c x d y zero (P ∷ Ps) h =
    elim Ps as (λ Qs. AreChained net units roles P.proc_to P.chan_to [] Qs →
    P.firings + all_firings Qs ≡ (roles u).firings + 0) [
      | [] ↦ λ _. ap (λ f. f + 0) h.0.firings
      | Q ∷ Qs ↦ λ z. absurd z
    ] h.1
pipe_firings net units roles u p c x d y (suc k) [] h = absurd h
pipe_firings net units roles u p c x d y (suc k) (P ∷ Ps) h =
    ap₂ (λ f g. f + g) h.0.firings (pipe_firings net units roles (suc u) P.proc_to P.chan_to d (suc d) y k Ps h.1)

-- the firings that the stages still need
due_shift : (s : State) (a b : ℕ) (Ps : List Part) → stages_due s (a + b) Ps ≡ all_firings Ps * a + stages_due s b Ps
unfolding stages_due all_firings
due_shift s a b [] = omega arith
due_shift s a b (P ∷ Ps) =
    let e : length (s.tokens P.output) + (length (P.pending s) + (a + b))
    ≡ a + (length (s.tokens P.output) + (length (P.pending s) + b)) = omega arith in
    let r = due_shift s a (length (s.tokens P.output) + (length (P.pending s) + b)) Ps in
    let q : stages_due s (length (s.tokens P.output) + (length (P.pending s) + (a + b))) Ps
    ≡ all_firings Ps * a + stages_due s (length (s.tokens P.output) + (length (P.pending s) + b)) Ps =
    ap (λ z. stages_due s z Ps) e ∙ r in
    omega (arith, q)

due_same : (s t : State) (b : ℕ) (Ps : List Part) →
    ((v : ℕ) → v < length Ps → (get_or Ps v no_part).pending t ≡ (get_or Ps v no_part).pending s) →
    ((v : ℕ) → v < length Ps → (get_or Ps v no_part).owed t ≡ (get_or Ps v no_part).owed s) →
    ((v : ℕ) → suc v < length Ps → t.tokens (get_or Ps v no_part).output ≡ s.tokens (get_or Ps v no_part).output) →
    stages_due t b Ps ≡ stages_due s b Ps
unfolding stages_due
due_same s t b [] h w k = refl
due_same s t b (P ∷ []) h w k = ap (λ y. (P.firings * b + y) + 0) (w 0 (omega arith))
due_same s t b (P ∷ (Q ∷ Ps)) h w k =
    ap₂ (λ y z. (P.firings * b + y) + stages_due t z (Q ∷ Ps)) (w 0 (omega arith))
    (ap₂ (λ y z. length y + (length z + b)) (k 0 (omega arith)) (h 0 (omega arith)))
    ∙ ap (λ z. (P.firings * b + P.owed s) + z)
    (due_same s t (length (s.tokens P.output) + (length (P.pending s) + b)) (Q ∷ Ps) (λ v l. h (suc v) (omega arith))
    (λ v l. w (suc v) (omega arith)) (λ v l. k (suc v) (omega arith)))

due_none : (s : State) (Ps : List Part) → ((v : ℕ) → v < length Ps → (get_or Ps v no_part).pending s ≡ []) →
    ((v : ℕ) → v < length Ps → (get_or Ps v no_part).owed s ≡ 0) →
    ((v : ℕ) → suc v < length Ps → s.tokens (get_or Ps v no_part).output ≡ []) → stages_due s 0 Ps ≡ 0
unfolding stages_due
due_none s [] h w k = refl
due_none s (P ∷ []) h w k = let e = w 0 (omega arith) in omega (arith, e)
due_none s (P ∷ (Q ∷ Ps)) h w k =
    let e : P.owed s ≡ 0 = w 0 (omega arith) in
    let r : stages_due s (length (s.tokens P.output) + (length (P.pending s) + 0)) (Q ∷ Ps) ≡ 0 =
    ap₂ (λ y z. stages_due s (length y + (length z + 0)) (Q ∷ Ps)) (k 0 (omega arith)) (h 0 (omega arith))
    ∙ due_none s (Q ∷ Ps) (λ v l. h (suc v) (omega arith)) (λ v l. w (suc v) (omega arith))
    (λ v l. k (suc v) (omega arith)) in
    omega (arith, e, r)

due_fired : (s t : State) (x u : ℕ) (Ps : List Part) (w : ℕ) → Linked x Ps → w < length Ps →
    line (get_or Ps w no_part) t ≡ line (get_or Ps w no_part) s →
    due (get_or Ps w no_part) t < due (get_or Ps w no_part) s →
    ((v : ℕ) → v < length Ps → v ≢ w → (get_or Ps v no_part).pending t ≡ (get_or Ps v no_part).pending s) →
    ((v : ℕ) → v < length Ps → v ≢ w → (get_or Ps v no_part).owed t ≡ (get_or Ps v no_part).owed s) →
    ((v : ℕ) → v < length Ps → v ≢ w → suc v ≢ w →
    t.tokens (get_or Ps v no_part).output ≡ s.tokens (get_or Ps v no_part).output) → (w ≢ 0 → t.tokens x ≡ s.tokens x) →
    stages_due t (length (t.tokens x) + u) Ps < stages_due s (length (s.tokens x) + u) Ps
unfolding stages_due Linked due
due_fired s t x u [] w h l e g p q o f = absurd (omega arith)
due_fired s t x u (P ∷ Ps) zero h l e g p q o f =
    let n : length (t.tokens P.output) + (length (P.pending t) + length (t.tokens P.input))
    ≡ length (s.tokens P.output) + (length (P.pending s) + length (s.tokens P.input)) =
    sym (line_length P t) ∙ ap length e ∙ line_length P s in
    let xt : length (t.tokens x) ≡ length (t.tokens P.input) = ap (λ y. length (t.tokens y)) (sym h.0) in
    let xs : length (s.tokens x) ≡ length (s.tokens P.input) = ap (λ y. length (s.tokens y)) (sym h.0) in
    let r : stages_due t (length (t.tokens P.output) + (length (P.pending t) + (length (t.tokens x) + u))) Ps
    ≡ stages_due s (length (s.tokens P.output) + (length (P.pending s) + (length (s.tokens x) + u))) Ps =
    due_same s t (length (t.tokens P.output) + (length (P.pending t) + (length (t.tokens x) + u))) Ps
    (λ v k. p (suc v) (omega arith) (omega arith)) (λ v k. q (suc v) (omega arith) (omega arith))
    (λ v k. o (suc v) (omega arith) (omega arith) (omega arith))
    ∙ ap (λ z. stages_due s z Ps) (omega (arith, n, xt, xs)) in
    let z : P.firings * length (t.tokens x) ≡ P.firings * length (t.tokens P.input) = ap (λ y. P.firings * y) xt in
    let y : P.firings * length (s.tokens x) ≡ P.firings * length (s.tokens P.input) = ap (λ y. P.firings * y) xs in
    omega (arith, r, g, z, y)
due_fired s t x u (P ∷ Ps) (suc w) h l e g p q o f =
    let r = due_fired s t P.output (length (P.pending s) + (length (s.tokens x) + u)) Ps w h.1 (omega arith) e g
    (λ v k n. p (suc v) (omega arith) (omega arith)) (λ v k n. q (suc v) (omega arith) (omega arith))
    (λ v k n m. o (suc v) (omega arith) (omega arith) (omega arith))
    (λ n. o 0 (omega arith) (omega arith) (omega arith)) in
    let a : length (t.tokens x) ≡ length (s.tokens x) = ap length (f (omega arith)) in
    let b : length (P.pending t) ≡ length (P.pending s) = ap length (p 0 (omega arith) (omega arith)) in
    let c : P.owed t ≡ P.owed s = q 0 (omega arith) (omega arith) in
    let d : stages_due t (length (t.tokens P.output) + (length (P.pending t) + (length (t.tokens x) + u))) Ps
    ≡ stages_due t (length (t.tokens P.output) + (length (P.pending s) + (length (s.tokens x) + u))) Ps =
    ap₂ (λ y z. stages_due t (length (t.tokens P.output) + (y + (z + u))) Ps) b a in
    let i : P.firings * length (t.tokens x) ≡ P.firings * length (s.tokens x) = ap (λ y. P.firings * y) a in
    omega (arith, r, c, d, i)

pend_same : (s t : State) (q : List Token) (Ps : List Part) →
    ((v : ℕ) → v < length Ps → (get_or Ps v no_part).pending t ≡ (get_or Ps v no_part).pending s) →
    ((v : ℕ) → v < length Ps → t.tokens (get_or Ps v no_part).input ≡ s.tokens (get_or Ps v no_part).input) →
    stages_pending t q Ps ≡ stages_pending s q Ps
unfolding stages_pending
pend_same s t q [] h k = refl
pend_same s t q (P ∷ Ps) h k =
    ap₂ (λ y z. stages_pending t (y ++ map (over P.meaning) (z ++ q)) Ps) (h 0 (omega arith)) (k 0 (omega arith))
    ∙ pend_same s t (P.pending s ++ map (over P.meaning) (s.tokens P.input ++ q)) Ps (λ v l. h (suc v) (omega arith))
    (λ v l. k (suc v) (omega arith))

pipe_pend_same : (s t : State) (Ps : List Part) →
    ((v : ℕ) → v < length Ps → (get_or Ps v no_part).pending t ≡ (get_or Ps v no_part).pending s) →
    ((v : ℕ) → suc v < length Ps →
    t.tokens (get_or Ps (suc v) no_part).input ≡ s.tokens (get_or Ps (suc v) no_part).input) →
    pipe_pending Ps t ≡ pipe_pending Ps s
unfolding pipe_pending
pipe_pend_same s t [] h k = refl
pipe_pend_same s t (P ∷ Ps) h k =
    ap (λ y. stages_pending t y Ps) (h 0 (omega arith))
    ∙ pend_same s t (P.pending s) Ps (λ v l. h (suc v) (omega arith)) (λ v l. k v (omega arith))

-- the line of a pipe is its flow
line_flow : (k : ℕ) (base : Base) (s : State) (Ps : List Part) → 0 < length Ps → Linked base.input Ps →
    last_out base.input Ps ≡ base.output → line (pipe_part k base Ps) s ≡ flow s (s.tokens base.input ++ []) Ps
unfolding line flow Linked last_out pipe_pending through
line_flow k base s [] l h o = absurd (omega arith)
line_flow k base s (P ∷ Ps) l h o =
    ap₂ (λ y z. s.tokens y ++ (stages_pending s (P.pending s) Ps ++ z)) (sym o)
    (sym (map-map (over (through Ps)) (over P.meaning) (s.tokens base.input)))
    ∙ sym (flow_is s P.output (P.pending s) (map (over P.meaning) (s.tokens base.input)) Ps h.1)
    ∙ ap (λ z. flow s (s.tokens P.output ++ (P.pending s ++ map (over P.meaning) z)) Ps)
    (sym (append-nil (s.tokens base.input)))

pend_none : (s : State) (Ps : List Part) → ((v : ℕ) → v < length Ps → (get_or Ps v no_part).pending s ≡ []) →
    ((v : ℕ) → v < length Ps → s.tokens (get_or Ps v no_part).input ≡ []) → stages_pending s [] Ps ≡ []
unfolding stages_pending
pend_none s [] h k = refl
pend_none s (P ∷ Ps) h k =
    ap₂ (λ y z. stages_pending s (y ++ map (over P.meaning) (z ++ [])) Ps) (h 0 (omega arith)) (k 0 (omega arith))
    ∙ pend_none s Ps (λ v l. h (suc v) (omega arith)) (λ v l. k (suc v) (omega arith))

pipe_pend_none : (s : State) (Ps : List Part) → ((v : ℕ) → v < length Ps → (get_or Ps v no_part).pending s ≡ []) →
    ((v : ℕ) → suc v < length Ps → s.tokens (get_or Ps (suc v) no_part).input ≡ []) → pipe_pending Ps s ≡ []
unfolding pipe_pending
pipe_pend_none s [] h k = refl
pipe_pend_none s (P ∷ Ps) h k =
    ap (λ y. stages_pending s y Ps) (h 0 (omega arith))
    ∙ pend_none s Ps (λ v l. h (suc v) (omega arith)) (λ v l. k v (omega arith))

-- THE SIZE
-- the tokens of the stages and in the channels before them
unfoldable entered : State → List Part → ℕ
entered s [] = 0
entered s (P ∷ Ps) = (length (s.tokens P.input) + inside P s) + entered s Ps

entered_ports : (net : Net) (units : Units) (roles : ℕ → Role) (u p c d y k : ℕ) (x : ℕ) (Ps : List Part) →
    AreChained net units roles p c (stage_slots u x d y k) Ps → (s : State) →
    entered s Ps ≡ length (s.tokens x) + (in_channels s d k + insides Ps s)
unfolding AreChained stage_slots entered in_channels insides
entered_ports net units roles u p c d y zero x [] h s = absurd h
entered_ports net units roles u p c d y zero x (P ∷ []) h s = let e = ap (λ z. length (s.tokens z)) h.0.input in
    omega (arith, e)
entered_ports net units roles u p c d y zero x (P ∷ (Q ∷ Ps)) h s = absurd h.1
entered_ports net units roles u p c d y (suc k) x [] h s = absurd h
entered_ports net units roles u p c d y (suc k) x (P ∷ Ps) h s =
    let e = ap (λ z. length (s.tokens z)) h.0.input in
    let r = entered_ports net units roles (suc u) P.proc_to P.chan_to (suc d) y k d Ps h.1 s in
    omega (arith, e, r)

pending_bound : (s : State) (q : List Token) (Ps : List Part) →
    ((v : ℕ) → v < length Ps → IsSized (get_or Ps v no_part) s) → length (stages_pending s q Ps) ≤ length q + entered s Ps
unfolding stages_pending entered
pending_bound s q [] h = omega arith
pending_bound s q (P ∷ Ps) h =
    let r = pending_bound s (P.pending s ++ map (over P.meaning) (s.tokens P.input ++ q)) Ps
    (λ v l. h (suc v) (omega arith)) in
    let a = length-append (P.pending s) (map (over P.meaning) (s.tokens P.input ++ q)) in
    let b = length-map (s.tokens P.input ++ q) (over P.meaning) in
    let c = length-append (s.tokens P.input) q in
    omega (arith, r, a, b, c, (h 0 (omega arith)).pending)

-- b tokens are to pass the first stage after those in its channel x
due_bound : (s : State) (x b : ℕ) (Ps : List Part) → Linked x Ps →
    ((v : ℕ) → v < length Ps → IsSized (get_or Ps v no_part) s) →
    stages_due s (length (s.tokens x) + b) Ps ≤ all_firings Ps * (b + entered s Ps)
unfolding stages_due all_firings entered Linked
due_bound s x b [] l h = omega arith
due_bound s x b (P ∷ Ps) l h =
    let z = h 0 (omega arith) in
    let i = ap (λ y. length (s.tokens y)) l.0 in
    let t : ℕ = b + ((length (s.tokens P.input) + inside P s) + entered s Ps) in
    let r = due_bound s P.output (length (P.pending s) + (length (s.tokens x) + b)) Ps l.1
    (λ v k. h (suc v) (omega arith)) in
    let m = times_le (all_firings Ps) ((length (P.pending s) + (length (s.tokens x) + b)) + entered s Ps) t
    (omega (arith, i, z.pending)) in
    let n = times_le P.firings ((length (s.tokens x) + b) + inside P s) t (omega (arith, i)) in
    let d : P.firings * ((length (s.tokens x) + b) + inside P s)
    ≡ P.firings * (length (s.tokens x) + b) + P.firings * inside P s = omega arith in
    let e : (P.firings + all_firings Ps) * (b + ((length (s.tokens P.input) + inside P s) + entered s Ps))
    ≡ P.firings * (b + ((length (s.tokens P.input) + inside P s) + entered s Ps)) + all_firings Ps
    * (b + ((length (s.tokens P.input) + inside P s) + entered s Ps)) = omega arith in
    omega (arith, r, m, n, d, e, z.owed)

-- of the whole pipe: what is in its in channel counts for nothing
pipe_owed : (s : State) (Ps : List Part) (t : ℕ) → ((v : ℕ) → v < length Ps → IsSized (get_or Ps v no_part) s) → (x : ℕ) →
    Linked x Ps → entered s Ps ≤ length (s.tokens x) + t → stages_due s 0 Ps ≤ all_firings Ps * t
unfolding stages_due all_firings entered Linked
pipe_owed s [] t h x l e = omega arith
pipe_owed s (P ∷ Ps) t h x l e =
    let z = h 0 (omega arith) in
    let i = ap (λ y. length (s.tokens y)) l.0 in
    let r = due_bound s P.output (length (P.pending s) + 0) Ps l.1 (λ v k. h (suc v) (omega arith)) in
    let m = times_le (all_firings Ps) ((length (P.pending s) + 0) + entered s Ps) t (omega (arith, i, z.pending, e)) in
    let n = times_le P.firings (inside P s) t (omega (arith, i, e)) in
    let d : (P.firings + all_firings Ps) * t ≡ P.firings * t + all_firings Ps * t = omega arith in
    omega (arith, r, m, n, d, z.owed)

pipe_pending_bound : (s : State) (Ps : List Part) (t : ℕ) → ((v : ℕ) → v < length Ps → IsSized (get_or Ps v no_part) s) →
    (x : ℕ) → Linked x Ps → entered s Ps ≤ length (s.tokens x) + t → length (pipe_pending Ps s) ≤ t
unfolding pipe_pending entered Linked
pipe_pending_bound s [] t h x l e = omega arith
pipe_pending_bound s (P ∷ Ps) t h x l e =
    let i = ap (λ y. length (s.tokens y)) l.0 in
    let r = pending_bound s (P.pending s) Ps (λ v k. h (suc v) (omega arith)) in
    omega (arith, r, i, e, (h 0 (omega arith)).pending)

module _ (net : Net) (units : Units) (roles : ℕ → Role) (k : ℕ) (base : Base) (Ps : List Part)
    (placed : IsPlaced net units roles (pipe_shape k) base Ps) where
  pipe_chain : AreChained net units roles (base.proc + 0) (base.chan + k)
      (stage_slots 0 base.input base.chan base.output k) Ps
  pipe_chain = placed.inner

  pipe_length : length Ps ≡ suc k
  pipe_length =
      sym (chain_length net units roles (base.proc + 0) (base.chan + k) _ Ps pipe_chain)
      ∙ ports_length 0 base.input base.chan base.output k

  pipe_in : (w : ℕ) → w < length Ps →
      ((w ≡ 0) × ((get_or Ps w no_part).input ≡ base.input))
      ⊎ ((0 < w) × (suc (get_or Ps w no_part).input ≡ base.chan + w))
  pipe_in w l =
      let e = chain_input net units roles (base.proc + 0) (base.chan + k) _ Ps pipe_chain w l in
      elim (in_exact 0 base.input base.chan base.output k w (omega (arith, pipe_length))) [
        | inl z ↦ inl (z.0, e ∙ z.1)
        | inr z ↦ inr (z.0, ap suc e ∙ z.1)
      ]

  pipe_out : (v : ℕ) → v < length Ps →
      ((v < k) × ((get_or Ps v no_part).output ≡ base.chan + v))
      ⊎ ((v ≡ k) × ((get_or Ps v no_part).output ≡ base.output))
  pipe_out v l =
      let e = chain_output net units roles (base.proc + 0) (base.chan + k) _ Ps pipe_chain v l in
      elim (out_exact 0 base.input base.chan base.output k v (omega (arith, pipe_length))) [
        | inl z ↦ inl (z.0, e ∙ z.1)
        | inr z ↦ inr (z.0, e ∙ z.1)
      ]

  pipe_lies : (v : ℕ) → v < length Ps →
      Lies (base.proc + 0) (base.chan + k) (proc_end (base.proc + 0) Ps) (chan_end (base.chan + k) Ps)
      (get_or Ps v no_part)
  pipe_lies = chain_lies net units roles (base.proc + 0) (base.chan + k) _ Ps pipe_chain

  pipe_reads : (s t : State) → IsSameInside (pipe_part k base Ps) s t → IsAlike (pipe_part k base Ps) s t
  pipe_reads s t same =
      let alike : (v : ℕ) → v < length Ps → IsAlike (get_or Ps v no_part) s t =
      λ v l. let y = pipe_lies v l in
      (chain_lawful net units roles (base.proc + 0) (base.chan + k) _ Ps pipe_chain v l).reads
      s t (record {
        tokens = λ c f u. same.tokens c (omega (arith, y.chan_from)) (omega (arith, y.chan_to));
        own = λ p f u. same.own p (omega (arith, y.proc_from)) (omega (arith, y.proc_to));
      }) in
      record {
        pending = pipe_pend_same s t Ps (λ v l. (alike v l).pending) (λ v l. elim (pipe_in (suc v) l) [
          | inl z ↦ absurd (omega (arith, z.0))
          | inr z ↦
              same.tokens _ (omega (arith, z.1))
              (omega (
                arith,
                z.1,
                pipe_length,
                (chain_grows net units roles (base.proc + 0) (base.chan + k) _ Ps pipe_chain).1,
              ))
        ]);
        orderly = all_same Ps s t (λ v l. (alike v l).orderly);
        owed = due_same s t 0 Ps (λ v l. (alike v l).pending) (λ v l. (alike v l).owed)
            (λ v l. elim (pipe_out v (omega arith)) [
              | inl z ↦
                  same.tokens _ (omega (arith, z.1))
                  (omega (
                    arith,
                    z.0,
                    z.1,
                    (chain_grows net units roles (base.proc + 0) (base.chan + k) _ Ps pipe_chain).1,
                  ))
              | inr z ↦ absurd (omega (arith, z.0, pipe_length))
            ]);
      }

  -- its own channels begin empty
  pipe_empty : (s : State) → IsFresh net (pipe_part k base Ps) s → (c : ℕ) → base.chan ≤ c → c < base.chan + k →
      c < chan_end (base.chan + k) Ps → s.tokens c ≡ []
  pipe_empty s fresh c f l u =
      fresh.tokens c f u ∙ subst (λ z. at_first net z ≡ []) (omega (arith, f))
      (plain_empty net base.chan k placed.cap placed.laid (c - base.chan) (omega (arith, f, l)))

  pipe_begins : (s : State) → IsFresh net (pipe_part k base Ps) s → Begins (pipe_part k base Ps) s
  pipe_begins s fresh =
      let each : (v : ℕ) → v < length Ps → Begins (get_or Ps v no_part) s =
      λ v l. let y = pipe_lies v l in
      (chain_lawful net units roles (base.proc + 0)
      (base.chan + k) _ Ps pipe_chain v l).begins s (record {
        tokens = λ c f u. fresh.tokens c (omega (arith, y.chan_from, f)) (omega (arith, y.chan_to, u));
        own = λ p f u. fresh.own p (omega (arith, y.proc_from, f)) (omega (arith, y.proc_to, u));
      }) in
      record {
        orderly = all_from Ps s (λ v l. (each v l).orderly);
        pending = pipe_pend_none s Ps (λ v l. (each v l).pending) (λ v l. elim (pipe_in (suc v) l) [
          | inl z ↦ absurd (omega (arith, z.0))
          | inr z ↦
              pipe_empty s fresh _ (omega (arith, z.1)) (omega (arith, z.1, l, pipe_length))
              (omega (
                arith,
                z.1,
                l,
                pipe_length,
                (chain_grows net units roles (base.proc + 0) (base.chan + k) _ Ps pipe_chain).1,
              ))
        ]);
        owed = due_none s Ps (λ v l. (each v l).pending) (λ v l. (each v l).owed)
            (λ v l. elim (pipe_out v (omega arith)) [
              | inl z ↦
                  pipe_empty s fresh _ (omega (arith, z.1)) (omega (arith, z.0, z.1))
                  (omega (
                    arith,
                    z.0,
                    z.1,
                    (chain_grows net units roles (base.proc + 0) (base.chan + k) _ Ps pipe_chain).1,
                  ))
              | inr z ↦ absurd (omega (arith, z.0, pipe_length))
            ]);
      }

  pipe_moves : (s t : State) → OneFired Ps s t → Moves (pipe_part k base Ps) s t
  pipe_moves s t one =
      let y = pipe_lies one.which one.below in
      let g = chain_grows net units roles (base.proc + 0) (base.chan + k) _ Ps pipe_chain in
      record {
        tokens = λ c i o out. one.moves.tokens c
            (λ e. elim (pipe_in one.which one.below) [
              | inl z ↦ i (e ∙ z.1)
              | inr z ↦ absurd (omega (arith, e, z.1, z.0, one.below, pipe_length, g.1, out))
            ])
            (λ e. elim (pipe_out one.which one.below) [
              | inl z ↦ absurd (omega (arith, e, z.1, z.0, g.1, out))
              | inr z ↦ o (e ∙ z.1)
            ])
            (λ f. omega (arith, f, y.chan_from, y.chan_to, out));
        own = λ p out. one.moves.own p (λ f. omega (arith, f, y.proc_from, y.proc_to, out));
        unsent = one.moves.unsent;
        sent = one.moves.sent;
        emitted = one.moves.emitted;
      }

  -- a firing of stage one.which leaves the other channels of the pipe alone
  pipe_quiet : (s t : State) (one : OneFired Ps s t) (c : ℕ) → c < base.chan + k →
      c ≢ (get_or Ps one.which no_part).input → c ≢ (get_or Ps one.which no_part).output → t.tokens c ≡ s.tokens c
  pipe_quiet s t one c l i o =
      let y = pipe_lies one.which one.below in
      one.moves.tokens c i o (λ f. absurd (omega (arith, f, y.chan_from)))

  pipe_outs : (s t : State) (one : OneFired Ps s t) (v : ℕ) → v < length Ps → v ≢ one.which → suc v ≢ one.which →
      t.tokens (get_or Ps v no_part).output ≡ s.tokens (get_or Ps v no_part).output
  pipe_outs s t one v l n m =
      pipe_quiet s t one _
      (elim (pipe_out v l) [ inl z ↦ omega (arith, z.0, z.1) | inr z ↦ omega (arith, z.1, placed.good.output) ])
      (λ e. elim (pipe_out v l) [
        | inl z ↦ elim (pipe_in one.which one.below) [
          | inl u ↦ omega (arith, e, z.1, u.1, placed.good.input)
          | inr u ↦ m (omega (arith, e, z.1, u.1))
        ]
        | inr z ↦ elim (pipe_in one.which one.below) [
          | inl u ↦ placed.good.apart (sym u.1 ∙ sym e ∙ z.1)
          | inr u ↦ omega (arith, e, z.1, u.1, u.0, placed.good.output)
        ]
      ])
      (λ e. elim (pipe_out v l) [
        | inl z ↦ elim (pipe_out one.which one.below) [
          | inl u ↦ n (omega (arith, e, z.1, u.1))
          | inr u ↦ omega (arith, e, z.1, u.1, placed.good.output)
        ]
        | inr z ↦ elim (pipe_out one.which one.below) [
          | inl u ↦ omega (arith, e, z.1, u.1, placed.good.output)
          | inr u ↦ n (z.0 ∙ sym u.0)
        ]
      ])

  pipe_first : (s t : State) (one : OneFired Ps s t) → one.which ≢ 0 → t.tokens base.input ≡ s.tokens base.input
  pipe_first s t one n =
      pipe_quiet s t one base.input (omega (arith, placed.good.input))
      (λ e. elim (pipe_in one.which one.below) [
        | inl u ↦ n u.0
        | inr u ↦ omega (arith, e, u.1, u.0, placed.good.input)
      ])
      (λ e. elim (pipe_out one.which one.below) [
        | inl u ↦ omega (arith, e, u.1, placed.good.input)
        | inr u ↦ placed.good.apart (e ∙ u.1)
      ])

  pipe_line : (s : State) → line (pipe_part k base Ps) s ≡ flow s (s.tokens base.input ++ []) Ps
  pipe_line s =
      line_flow k base s Ps (omega (arith, pipe_length))
      (ports_linked net units roles 0 (base.proc + 0)
      (base.chan + k) base.input base.chan base.output k Ps pipe_chain)
      (ports_last net units roles 0 (base.proc + 0)
      (base.chan + k) base.input base.chan base.output k Ps pipe_chain)

  pipe_keeps : (s t : State) → OneFired Ps s t → all_orderly Ps s ≡ true → Keeps (pipe_part k base Ps) s t
  pipe_keeps s t one h = record {
    orderly = all_kept Ps s t one h;
    line =
        pipe_line t
        ∙ flow_fired s t base.input [] Ps one.which
        (ports_linked net units roles 0 (base.proc + 0)
        (base.chan + k) base.input base.chan base.output k Ps pipe_chain)
        one.below (one.keeps (all_at Ps s h one.which one.below)).line
        (λ v l n. (one.others v l n).pending) (pipe_outs s t one) (pipe_first s t one)
        ∙ sym (pipe_line s);
  }

  pipe_due : (s : State) → due (pipe_part k base Ps) s ≡ stages_due s (length (s.tokens base.input) + 0) Ps
  unfolding due
  pipe_due s = sym (due_shift s (length (s.tokens base.input)) 0 Ps)

  pipe_works : (s t : State) → OneFired Ps s t → all_orderly Ps s ≡ true →
      due (pipe_part k base Ps) t < due (pipe_part k base Ps) s
  pipe_works s t one h =
      let o = all_at Ps s h one.which one.below in
      let r = due_fired s t base.input 0 Ps one.which
      (ports_linked net units roles 0 (base.proc + 0)
      (base.chan + k) base.input base.chan base.output k Ps pipe_chain)
      one.below (one.keeps o).line (one.works o)
      (λ v l n. (one.others v l n).pending) (λ v l n. (one.others v l n).owed) (pipe_outs s t one)
      (pipe_first s t one) in
      omega (arith, r, pipe_due s, pipe_due t)

  -- from the last stage back
  module _ (s : State) (h : all_orderly Ps s ≡ true)
      (quiet : (p : ℕ) → IsInside (pipe_part k base Ps) p → can_fire units.tree net s p ≡ false)
      (untrapped : has_trap s.emitted ≡ false) where
    drained_if : (v : ℕ) → v < length Ps → has_room net s (get_or Ps v no_part).output ≡ true →
        IsDrained (get_or Ps v no_part) s
    drained_if v l room =
        let y = pipe_lies v l in
        (chain_lawful net units roles (base.proc + 0) (base.chan + k) _ Ps pipe_chain v l).drain s
        (all_at Ps s h v l)
        (λ p i. quiet p
        (record { from = omega (arith, i.from, y.proc_from); to = omega (arith, i.to, y.proc_to) })) untrapped room

    stage_drained : has_room net s base.output ≡ true → (j v : ℕ) → v + j ≡ k → IsDrained (get_or Ps v no_part) s
    stage_drained room zero v e =
        drained_if v (omega (arith, pipe_length)) (elim (pipe_out v (omega (arith, pipe_length))) [
          | inl z ↦ absurd (omega (arith, z.0))
          | inr z ↦ ap (has_room net s) z.1 ∙ room
        ])
    stage_drained room (suc j) v e =
        let d = stage_drained room j (suc v) (omega arith) in
        drained_if v (omega (arith, pipe_length)) (elim (pipe_out v (omega (arith, pipe_length))) [
          | inl z ↦
              let same : (get_or Ps (suc v) no_part).input ≡ (get_or Ps v no_part).output =
              elim (pipe_in (suc v) (omega (arith, pipe_length))) [
                | inl u ↦ absurd (omega (arith, u.0))
                | inr u ↦ omega (arith, u.1, z.1)
              ] in
              room_when_empty net s _ (ap s.tokens (sym same) ∙ d.input)
              (placed.chans.room _ (omega (arith, z.1)) (omega (arith, z.0, z.1)))
          | inr z ↦ absurd (omega (arith, z.0))
        ])

    pipe_drained : has_room net s base.output ≡ true → IsDrained (pipe_part k base Ps) s
    pipe_drained room = record {
      input = ap s.tokens
          (elim (pipe_in 0 (omega (arith, pipe_length))) [ inl z ↦ sym z.1 | inr z ↦ absurd (omega (arith, z.0)) ])
          ∙ (stage_drained room k 0 (omega arith)).input;
      pending = pipe_pend_none s Ps
          (λ v l. (stage_drained room (k - v) v (omega (arith, pipe_length))).pending)
          (λ v l. (stage_drained room (k - suc v) (suc v) (omega (arith, pipe_length))).input);
    }

  pipe_one : (s t : State) (p : ℕ) → IsInside (pipe_part k base Ps) p → MayFire units.tree units.leaf net s p t → OneFired Ps s t
  pipe_one s t p inside way =
      chain_fires net units roles (base.chan + k) (base.proc + 0) (base.chan + k) _ Ps pipe_chain (le_refl _)
      (ports_low 0 base.input base.chan base.output k (omega (arith, placed.good.input))
      (omega (arith, placed.good.output)))
      s t p (omega (arith, inside.from)) inside.to way

  pipe_size : (s : State) → all_orderly Ps s ≡ true → IsSized (pipe_part k base Ps) s
  unfolding inside in_hands
  pipe_size s h =
      let each : (v : ℕ) → v < length Ps → IsSized (get_or Ps v no_part) s =
      λ v l. (chain_lawful net units roles (base.proc + 0) (base.chan + k) _ Ps pipe_chain v l).size s
      (all_at Ps s h v l) in
      let linked =
      ports_linked net units roles 0 (base.proc + 0)
      (base.chan + k) base.input base.chan base.output k Ps pipe_chain in
      let e = entered_ports net units roles 0 (base.proc + 0)
      (base.chan + k) base.chan base.output k base.input Ps pipe_chain s in
      let a = around_inside net units roles base.proc base.chan 0 k _ Ps pipe_chain s in
      record {
        owed = pipe_owed s Ps _ each base.input linked (omega (arith, e, a));
        pending = pipe_pending_bound s Ps _ each base.input linked (omega (arith, e, a));
      }

  pipe_law : IsLawfulPart net units (pipe_part k base Ps)
  pipe_law =
      let g = chain_grows net units roles (base.proc + 0) (base.chan + k) _ Ps pipe_chain in
      record {
        procs = omega (arith, g.0);
        chans = omega (arith, g.1);
        reads = pipe_reads;
        begins = pipe_begins;
        moves = λ s t p inside way. pipe_moves s t (pipe_one s t p inside way);
        step = λ s t p inside way h. pipe_keeps s t (pipe_one s t p inside way) h;
        work = λ s t p inside way h. pipe_works s t (pipe_one s t p inside way) h;
        size = pipe_size;
        drain = λ s h quiet untrapped room. pipe_drained s h quiet untrapped room;
      }

pipe_ports : (base : Base) (k v : ℕ) → base.input < base.chan → base.output < base.chan → base.input ≢ base.output →
    v < suc k → IsGoodSlot base k (get_or (stage_slots 0 base.input base.chan base.output k) v no_slot)
pipe_ports base k v i o n l =
    let x = in_exact 0 base.input base.chan base.output k v l in
    let y = out_exact 0 base.input base.chan base.output k v l in
    record {
      input = elim x [ inl u ↦ omega (arith, u.1) | inr u ↦ omega (arith, u.1) ];
      output = elim y [ inl u ↦ omega (arith, u.1, u.0) | inr u ↦ omega (arith, u.1) ];
      apart = λ e. elim x [
        | inl u ↦ elim y [ inl z ↦ omega (arith, e, u.1, z.1) | inr z ↦ n (sym u.1 ∙ e ∙ z.1) ]
        | inr u ↦ elim y [ inl z ↦ omega (arith, e, u.1, z.1) | inr z ↦ omega (arith, e, u.1, u.0, z.1) ]
      ];
      out = elim y [ inl u ↦ inr (omega (arith, u.1)) | inr u ↦ inl u.1 ];
    }

pub pipe_lawful : (k : ℕ) → IsLawfulShape (pipe_shape k)
pipe_lawful k = record {
  lawful = λ net units roles base parts placed. pipe_law net units roles k base parts placed;
  lies = λ net units roles base parts placed.
      record {
        meaning =
            pipe_meaning net units roles 0 (base.proc + 0)
            (base.chan + k) base.input base.chan base.output k parts placed.inner;
        firings =
            pipe_firings net units roles 0 (base.proc + 0)
            (base.chan + k) base.input base.chan base.output k parts placed.inner;
        input = refl;
        output = refl;
        proc_from = refl;
        chan_from = refl;
        proc_to = refl;
        chan_to = refl;
      };
  count = λ base. ports_length 0 base.input base.chan base.output k;
  laid = λ cap base. length-replicate k (empty_chan cap);
  rooms = λ cap base j h l. plain_room k cap j h l;
  slots = λ net base good v l. pipe_ports base k v good.input good.output good.apart l;
}
