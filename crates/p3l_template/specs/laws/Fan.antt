-- Workers between two rows of channels, and two processes before them: what a farm and a map share. `fan_of` says where
-- each worker is placed, what it means, and what of its line and its firings a step leaves;
-- the rest is what a part round the workers touches, reads and begins with (`around_moves` to `fan_empty`), who fires in it
-- and when its workers are drained (`fan_fires`, `fan_drained`), and what its shape must satisfy besides (`fan_lawful`).
use Rattle.std.proofs.Common.{◌≡◌, ℕ, zero, suc, ◌+◌, ◌-◌, ◌*◌, ◌≤◌, ◌<◌, ◌≢◌, inl, inr, true, false, List, [], ◌++◌, map, length, get_or, replicate, refl, sym, ap, ap₂, ◌∙◌, subst, arith, le_refl}
use Rattle.std.proofs.lemmas.Bool.{cases_eq}
use Rattle.std.proofs.lemmas.List.{length-replicate}
use Rattle.p3l_template.specs.Shape.{empty_chan}
use Rattle.p3l_firing.specs.Fire.{can_fire}
use Rattle.p3l_firing.specs.Ways.{MayFire}
use Rattle.p3l_firing.specs.State.{State, at_first, chan_at}
use Rattle.p3l_firing.specs.Token.{over, has_trap}
use Rattle.p3l_firing.specs.declared.net.Net.{Net}
use Rattle.p3l_firing.specs.declared.process.ProcKind.{ProcKind}
use Rattle.p3l_firing.specs.declared.token.Token.{Token}
use Rattle.p3l_template.specs.Part.{Part, IsLawfulPart, line, IsInside, IsSameInside, IsAlike, Moves, OneFired, IsFresh, Begins, IsDrained, all_orderly, no_part, due}
use Rattle.p3l_template.specs.Placed.{IsGoodBase, IsGoodSlot, IsLawfulShape, IsPlaced, HaveRoom, AreLaid, AreChained, proc_end, chan_end, AreBelow}
use Rattle.p3l_template.specs.Fan.{Fanned, fan_part, fan_shape}
use Rattle.p3l_template.specs.Shape.{Role, Base, no_slot, fan_slots}
use Rattle.p3l_template.specs.Units.{Units}
use Rattle.p3l_template.specs.laws.Chain.{all_at, chain_fires, chain_lies, chain_lawful, chain_input, chain_output, chain_meaning, chain_firings, chain_length, chain_grows, Lies}
use Rattle.p3l_template.specs.laws.Plain.{plain_empty, plain_room}
use Rattle.p3l_template.specs.laws.Rows.{room_when_empty}

pub fan_length : (i o n : ℕ) → length (fan_slots i o n) ≡ n
unfolding fan_slots
fan_length i o zero = refl
fan_length i o (suc n) = ap suc (fan_length (suc i) (suc o) n)

pub fan_at : (i o n w : ℕ) → w < n →
    get_or (fan_slots i o n) w no_slot ≡ record { input = i + w; output = o + w; part = 0 }
unfolding fan_slots
fan_at i o zero w l = absurd (omega arith)
fan_at i o (suc n) zero l = ap₂ (λ x y. record { input = x; output = y; part = 0 }) (omega arith) (omega arith)
fan_at i o (suc n) (suc w) l =
    fan_at (suc i) (suc o) n w (omega arith)
    ∙ ap₂ (λ x y. record { input = x; output = y; part = 0 }) (omega arith) (omega arith)

pub fan_low : (c n : ℕ) → AreBelow (c + (n + n)) (fan_slots c (c + n) n)
unfolding AreBelow
fan_low c n v l =
    let k : v < n = omega (arith, fan_length c (c + n) n) in
    let e = fan_at c (c + n) n v k in (
      subst (λ x. x.input < c + (n + n)) (sym e) (omega (arith, k)),
      subst (λ x. x.output < c + (n + n)) (sym e) (omega (arith, k)),
    )

pub fan_good : (base : Base) (n v : ℕ) → 0 < n → v < n →
    IsGoodSlot base (n + n) (get_or (fan_slots base.chan (base.chan + n) n) v no_slot)
fan_good base n v pos l =
    subst (IsGoodSlot base (n + n)) (sym (fan_at base.chan (base.chan + n) n v l))
    (record {
      input = omega (arith, l);
      output = omega (arith, l);
      apart = omega (arith, pos);
      out = inr (omega arith);
    })

-- the workers, each where it lies
pub record Spread (net : Net) (units : Units) (roles : ℕ → Role) (n : ℕ) (base : Base) (Ps : List Part) : Type 0 where
  pub count : length Ps ≡ n
  pub below : (w : ℕ) → w < length Ps → w < n
  pub within : (w : ℕ) → w < n → w < length Ps
  pub input : (w : ℕ) → w < n → (get_or Ps w no_part).input ≡ base.chan + w
  pub output : (w : ℕ) → w < n → (get_or Ps w no_part).output ≡ base.chan + n + w
  pub meaning : (w : ℕ) → w < n → (get_or Ps w no_part).meaning ≡ (roles 0).meaning
  pub firings : (w : ℕ) → w < n → (get_or Ps w no_part).firings ≡ (roles 0).firings
  pub lies : (w : ℕ) → w < n →
      Lies (base.proc + 2) (base.chan + (n + n)) (proc_end (base.proc + 2) Ps) (chan_end (base.chan + (n + n)) Ps)
      (get_or Ps w no_part)
  pub lawful : (w : ℕ) → w < n → IsLawfulPart net units (get_or Ps w no_part)
  pub procs : base.proc + 2 ≤ proc_end (base.proc + 2) Ps
  pub chans : base.chan + (n + n) ≤ chan_end (base.chan + (n + n)) Ps

module _ (net : Net) (units : Units) (roles : ℕ → Role) (n : ℕ) (base : Base) (Ps : List Part) where
  spread_of : AreChained net units roles (base.proc + 2) (base.chan + (n + n))
      (fan_slots base.chan (base.chan + n) n) Ps → Spread net units roles n base Ps
  spread_of h =
      let g = chain_grows net units roles (base.proc + 2) (base.chan + (n + n)) _ Ps h in
      let e : length Ps ≡ n =
      sym (chain_length net units roles (base.proc + 2) (base.chan + (n + n)) _ Ps h)
      ∙ fan_length base.chan (base.chan + n) n in
      let k : (w : ℕ) → w < n → w < length Ps = λ w l. omega (arith, e, l) in
      record {
        count = e;
        below = λ w l. omega (arith, e, l);
        within = k;
        input = λ w l.
            chain_input net units roles (base.proc + 2) (base.chan + (n + n)) _ Ps h w (k w l)
            ∙ ap (λ x. x.input) (fan_at base.chan (base.chan + n) n w l);
        output = λ w l.
            chain_output net units roles (base.proc + 2) (base.chan + (n + n)) _ Ps h w (k w l)
            ∙ ap (λ x. x.output) (fan_at base.chan (base.chan + n) n w l);
        meaning = λ w l.
            chain_meaning net units roles (base.proc + 2) (base.chan + (n + n)) _ Ps h w (k w l)
            ∙ ap (λ x. (roles x.part).meaning) (fan_at base.chan (base.chan + n) n w l);
        firings = λ w l.
            chain_firings net units roles (base.proc + 2) (base.chan + (n + n)) _ Ps h w (k w l)
            ∙ ap (λ x. (roles x.part).firings) (fan_at base.chan (base.chan + n) n w l);
        lies = λ w l.
            chain_lies net units roles (base.proc + 2) (base.chan + (n + n)) _ Ps h w (k w l);
        lawful = λ w l.
            chain_lawful net units roles (base.proc + 2) (base.chan + (n + n)) _ Ps h w (k w l);
        procs = g.0;
        chans = g.1;
      }

-- a step of the two processes touches nothing but the ports and their own channels and states
pub record Around (base : Base) (n : ℕ) (s t : State) : Type 0 where
  pub tokens : (c : ℕ) → c ≢ base.input → c ≢ base.output → (base.chan ≤ c → base.chan + (n + n) ≤ c) →
      t.tokens c ≡ s.tokens c
  pub own : (p : ℕ) → p ≢ base.proc → p ≢ base.proc + 1 → t.own p ≡ s.own p
  pub unsent : t.unsent ≡ s.unsent
  pub sent : t.sent ≡ s.sent
  pub emitted : t.emitted ≡ s.emitted

module _ (net : Net) (units : Units) (roles : ℕ → Role) (n : ℕ) (base : Base) (Ps : List Part) (good : IsGoodBase net base)
    (fan : Spread net units roles n base Ps) where
  -- a worker's line and what it needs, from their parts
  line_is : (t : State) (w : ℕ) (d p b : List Token) → w < n → t.tokens (base.chan + n + w) ≡ d →
      (get_or Ps w no_part).pending t ≡ p → t.tokens (base.chan + w) ≡ b →
      line (get_or Ps w no_part) t ≡ d ++ (p ++ map (over (roles 0).meaning) b)
  unfolding line
  line_is t w d p b l e f g =
      λ i. ((ap t.tokens (fan.output w l) ∙ e) i)
      ++ (f i ++ map (over (fan.meaning w l i)) ((ap t.tokens (fan.input w l) ∙ g) i))

  due_is : (t : State) (w a o : ℕ) → w < n → length (t.tokens (base.chan + w)) ≡ a → (get_or Ps w no_part).owed t ≡ o →
      due (get_or Ps w no_part) t ≡ (roles 0).firings * a + o
  unfolding due
  due_is t w a o l e f = λ i. fan.firings w l i * ((ap (λ z. length (t.tokens z)) (fan.input w l) ∙ e) i) + f i

  line_kept : (s t : State) (w : ℕ) → w < n → t.tokens (base.chan + w) ≡ s.tokens (base.chan + w) →
      t.tokens (base.chan + n + w) ≡ s.tokens (base.chan + n + w) →
      (get_or Ps w no_part).pending t ≡ (get_or Ps w no_part).pending s →
      line (get_or Ps w no_part) t ≡ line (get_or Ps w no_part) s
  line_kept s t w l i o p = line_is t w _ _ _ l o p i ∙ sym (line_is s w _ _ _ l refl refl refl)

  due_kept : (s t : State) (w : ℕ) → w < n → t.tokens (base.chan + w) ≡ s.tokens (base.chan + w) →
      (get_or Ps w no_part).owed t ≡ (get_or Ps w no_part).owed s →
      due (get_or Ps w no_part) t ≡ due (get_or Ps w no_part) s
  due_kept s t w l i o = due_is t w _ _ l (ap length i) o ∙ sym (due_is s w _ _ l refl refl)

  around_alike : (s t : State) → Around base n s t → (w : ℕ) → w < n → IsAlike (get_or Ps w no_part) s t
  around_alike s t a w l =
      let y = fan.lies w l in
      (fan.lawful w l).reads s t (record {
        tokens = λ c f u.
            a.tokens c (λ e. omega (arith, e, f, y.chan_from, good.input))
            (λ e. omega (arith, e, f, y.chan_from, good.output)) (λ _. omega (arith, f, y.chan_from));
        own = λ p f u. a.own p (λ e. omega (arith, e, f, y.proc_from)) (λ e. omega (arith, e, f, y.proc_from));
      })

  -- the states of a worker that fired, and of the others
  fan_low_one : (s t : State) (one : OneFired Ps s t) → one.which < n
  fan_low_one s t one = fan.below one.which one.below

  one_own : (s t : State) (one : OneFired Ps s t) (p : ℕ) → p < base.proc + 2 → t.own p ≡ s.own p
  one_own s t one p l =
      one.moves.own p (λ f. absurd (omega (arith, f, l, (fan.lies one.which (fan_low_one s t one)).proc_from)))

  one_quiet : (s t : State) (one : OneFired Ps s t) (c : ℕ) → c < base.chan + (n + n) → c ≢ base.chan + one.which →
      c ≢ base.chan + n + one.which → t.tokens c ≡ s.tokens c
  one_quiet s t one c l i o =
      one.moves.tokens c (λ e. i (e ∙ fan.input one.which (fan_low_one s t one)))
      (λ e. o (e ∙ fan.output one.which (fan_low_one s t one)))
      (λ f. absurd (omega (arith, f, l, (fan.lies one.which (fan_low_one s t one)).chan_from)))

  one_input : (s t : State) → OneFired Ps s t → t.tokens base.input ≡ s.tokens base.input
  one_input s t one =
      one_quiet s t one base.input (omega (arith, good.input)) (λ e. omega (arith, e, good.input))
      (λ e. omega (arith, e, good.input))

  one_output : (s t : State) → OneFired Ps s t → t.tokens base.output ≡ s.tokens base.output
  one_output s t one =
      one_quiet s t one base.output (omega (arith, good.output)) (λ e. omega (arith, e, good.output))
      (λ e. omega (arith, e, good.output))

  one_in : (s t : State) (one : OneFired Ps s t) (w : ℕ) → w < n → w ≢ one.which →
      t.tokens (base.chan + w) ≡ s.tokens (base.chan + w)
  one_in s t one w l d = one_quiet s t one _ (omega (arith, l)) (λ e. d (omega (arith, e))) (λ e. omega (arith, e, l))

  one_line : (s t : State) (one : OneFired Ps s t) → all_orderly Ps s ≡ true → (w : ℕ) → w < n →
      line (get_or Ps w no_part) t ≡ line (get_or Ps w no_part) s
  one_line s t one h w l =
      elim (cases_eq w one.which) [
        | inl d ↦
            subst (λ z. line (get_or Ps z no_part) t ≡ line (get_or Ps z no_part) s) (sym d)
            (one.keeps (all_at Ps s h one.which one.below)).line
        | inr d ↦
            line_kept s t w l (one_in s t one w l d)
            (one_quiet s t one _ (omega (arith, l)) (λ e. omega (arith, e, fan_low_one s t one))
            (λ e. d (omega (arith, e)))) (one.others w (fan.within w l) d).pending
      ]

  one_due : (s t : State) (one : OneFired Ps s t) (w : ℕ) → w < n → w ≢ one.which →
      due (get_or Ps w no_part) t ≡ due (get_or Ps w no_part) s
  one_due s t one w l d = due_kept s t w l (one_in s t one w l d) (one.others w (fan.within w l) d).owed

-- the workers, each where it lies, and what a step leaves of their lines
pub record Fan (net : Net) (units : Units) (roles : ℕ → Role) (n : ℕ) (base : Base) (Ps : List Part) : Type 0 where
  pub all : Spread net units roles n base Ps
  pub chained : AreChained net units roles (base.proc + 2) (base.chan + (n + n))
      (fan_slots base.chan (base.chan + n) n) Ps
  pub line_is : (t : State) (w : ℕ) (d p b : List Token) → w < n → t.tokens (base.chan + n + w) ≡ d →
      (get_or Ps w no_part).pending t ≡ p → t.tokens (base.chan + w) ≡ b →
      line (get_or Ps w no_part) t ≡ d ++ (p ++ map (over (roles 0).meaning) b)
  pub due_is : (t : State) (w a o : ℕ) → w < n → length (t.tokens (base.chan + w)) ≡ a →
      (get_or Ps w no_part).owed t ≡ o → due (get_or Ps w no_part) t ≡ (roles 0).firings * a + o
  pub line_kept : (s t : State) (w : ℕ) → w < n → t.tokens (base.chan + w) ≡ s.tokens (base.chan + w) →
      t.tokens (base.chan + n + w) ≡ s.tokens (base.chan + n + w) →
      (get_or Ps w no_part).pending t ≡ (get_or Ps w no_part).pending s →
      line (get_or Ps w no_part) t ≡ line (get_or Ps w no_part) s
  pub due_kept : (s t : State) (w : ℕ) → w < n → t.tokens (base.chan + w) ≡ s.tokens (base.chan + w) →
      (get_or Ps w no_part).owed t ≡ (get_or Ps w no_part).owed s →
      due (get_or Ps w no_part) t ≡ due (get_or Ps w no_part) s
  -- a step of the two processes
  pub alike : (s t : State) → Around base n s t → (w : ℕ) → w < n → IsAlike (get_or Ps w no_part) s t
  -- a step of a worker keeps the two processes and the ports, each line, and what work is left in
  -- each other worker
  pub own : (s t : State) (one : OneFired Ps s t) (p : ℕ) → p < base.proc + 2 → t.own p ≡ s.own p
  pub input : (s t : State) → OneFired Ps s t → t.tokens base.input ≡ s.tokens base.input
  pub output : (s t : State) → OneFired Ps s t → t.tokens base.output ≡ s.tokens base.output
  pub lines : (s t : State) (one : OneFired Ps s t) → all_orderly Ps s ≡ true → (w : ℕ) → w < n →
      line (get_or Ps w no_part) t ≡ line (get_or Ps w no_part) s
  pub dues : (s t : State) (one : OneFired Ps s t) (w : ℕ) → w < n → w ≢ one.which →
      due (get_or Ps w no_part) t ≡ due (get_or Ps w no_part) s

pub fan_of : (net : Net) (units : Units) (roles : ℕ → Role) (n : ℕ) (base : Base) (Ps : List Part) → IsGoodBase net base →
    AreChained net units roles (base.proc + 2) (base.chan + (n + n))
    (fan_slots base.chan (base.chan + n) n) Ps → Fan net units roles n base Ps
fan_of net units roles n base Ps good h =
    let a = spread_of net units roles n base Ps h in
    record {
      all = a;
      chained = h;
      line_is = line_is net units roles n base Ps good a;
      due_is = due_is net units roles n base Ps good a;
      line_kept = line_kept net units roles n base Ps good a;
      due_kept = due_kept net units roles n base Ps good a;
      alike = around_alike net units roles n base Ps good a;
      own = one_own net units roles n base Ps good a;
      input = one_input net units roles n base Ps good a;
      output = one_output net units roles n base Ps good a;
      lines = one_line net units roles n base Ps good a;
      dues = one_due net units roles n base Ps good a;
    }

module _ (net : Net) (units : Units) (roles : ℕ → Role) (n : ℕ) (base : Base) (Ps : List Part)
    (fan : Fan net units roles n base Ps) (fanned : Fanned) where
  -- the part round the workers
  abbrev P : Part
  P = fan_part n fanned units roles base Ps

  pub around_moves : (s t : State) → Around base n s t → Moves P s t
  around_moves s t a = record {
    tokens = λ c i o f. a.tokens c i o (λ g. omega (arith, f g, fan.all.chans));
    own = λ p f.
        let g : base.proc ≤ p → base.proc + 2 ≤ p = λ g. omega (arith, f g, fan.all.procs) in
        a.own p (λ e. omega (arith, e, g (omega (arith, e)))) (λ e. omega (arith, e, g (omega (arith, e))));
    unsent = a.unsent;
    sent = a.sent;
    emitted = a.emitted;
  }

  pub one_moves : (s t : State) → OneFired Ps s t → Moves P s t
  one_moves s t one =
      let b = fan.all.below one.which one.below in
      let y = fan.all.lies one.which b in
      record {
        tokens = λ c i o out.
            one.moves.tokens c
            (λ e. let x = fan.all.input one.which b in
            absurd (omega (arith, e, x, b, fan.all.chans, out (omega (arith, e, x)))))
            (λ e. let x = fan.all.output one.which b in
            absurd (omega (arith, e, x, b, fan.all.chans, out (omega (arith, e, x)))))
            (λ f. omega (arith, y.chan_to, out (omega (arith, f, y.chan_from))));
        own = λ p out. one.moves.own p (λ f. omega (arith, y.proc_to, out (omega (arith, f, y.proc_from))));
        unsent = one.moves.unsent;
        sent = one.moves.sent;
        emitted = one.moves.emitted;
      }

  -- a state that agrees in the part agrees in each worker
  pub same_alike : (s t : State) → IsSameInside P s t → (w : ℕ) → w < n → IsAlike (get_or Ps w no_part) s t
  same_alike s t same w l =
      let y = fan.all.lies w l in
      (fan.all.lawful w l).reads s t (record {
        tokens = λ c f u. same.tokens c (omega (arith, f, y.chan_from)) (omega (arith, u, y.chan_to));
        own = λ p f u. same.own p (omega (arith, f, y.proc_from)) (omega (arith, u, y.proc_to));
      })

  pub each_begins : (s : State) → IsFresh net P s → (w : ℕ) → w < n → Begins (get_or Ps w no_part) s
  each_begins s fresh w l =
      let y = fan.all.lies w l in
      (fan.all.lawful w l).begins s (record {
        tokens = λ c f u. fresh.tokens c (omega (arith, f, y.chan_from)) (omega (arith, u, y.chan_to));
        own = λ p f u. fresh.own p (omega (arith, f, y.proc_from)) (omega (arith, u, y.proc_to));
      })

  -- its own channels begin empty
  pub fan_empty : (cap : ℕ) → AreLaid net base.chan (replicate (n + n) (empty_chan cap)) → (s : State) → IsFresh net P s →
      (c : ℕ) → base.chan ≤ c → c < base.chan + (n + n) → s.tokens c ≡ []
  fan_empty cap laid s fresh c f l =
      fresh.tokens c f (omega (arith, l, fan.all.chans))
      ∙ subst (λ z. at_first net z ≡ []) (omega (arith, f))
      (plain_empty net base.chan (n + n) cap laid (c - base.chan) (omega (arith, f, l)))

  -- a property holds after every firing inside, if it does after each firing of the two processes and of each worker
  pub fan_fires : (s t : State) (p : ℕ) → IsInside P p → MayFire units.tree units.leaf net s p t → (A : Type 0) →
      (MayFire units.tree units.leaf net s base.proc t → A) →
      (MayFire units.tree units.leaf net s (base.proc + 1) t → A) → (OneFired Ps s t → A) → A
  fan_fires s t p i way A first last one =
      elim (cases_eq p base.proc) [
        | inl e ↦ first (subst (λ z. MayFire units.tree units.leaf net s z t) e way)
        | inr e ↦ elim (cases_eq p (base.proc + 1)) [
          | inl d ↦ last (subst (λ z. MayFire units.tree units.leaf net s z t) d way)
          | inr d ↦
              one (chain_fires net units roles (base.chan + (n + n)) (base.proc + 2) (base.chan + (n + n)) _ Ps
              fan.chained (le_refl _) (fan_low base.chan n) s t p (omega (arith, e, d, i.from)) i.to way)
        ]
      ]

  -- a worker that has room after it is drained, if nothing inside can fire
  pub fan_drained : (s : State) → HaveRoom net base.chan (n + n) → all_orderly Ps s ≡ true →
      ((p : ℕ) → IsInside P p → can_fire units.tree net s p ≡ false) → has_trap s.emitted ≡ false → (w : ℕ) → w < n →
      s.tokens (base.chan + n + w) ≡ [] → IsDrained (get_or Ps w no_part) s
  fan_drained s have orderly quiet untrapped w l e =
      let y = fan.all.lies w l in
      (fan.all.lawful w l).drain s (all_at Ps s orderly w (fan.all.within w l))
      (λ p i. quiet p (record { from = omega (arith, i.from, y.proc_from); to = omega (arith, i.to, y.proc_to) })) untrapped
      (room_when_empty net s _ (ap s.tokens (fan.all.output w l) ∙ e)
      (subst (λ z. 0 < (chan_at net z).cap) (sym (fan.all.output w l)) (have.room _ (omega arith) (omega (arith, l)))))

-- once the part of such a shape is lawful, so is the shape
pub fan_lawful : (first last : ProcKind) (node n : ℕ) (fanned : Fanned) → 0 < n →
    ((net : Net) (units : Units) (roles : ℕ → Role) (base : Base) (parts : List Part) →
    IsPlaced net units roles (fan_shape first last node n fanned) base parts →
    IsLawfulPart net units (fan_part n fanned units roles base parts)) →
    IsLawfulShape (fan_shape first last node n fanned)
fan_lawful first last node n fanned pos lawful = record {
  lawful = lawful;
  lies = λ net units roles base parts placed.
      record {
        meaning = refl;
        firings = refl;
        input = refl;
        output = refl;
        proc_from = refl;
        chan_from = refl;
        proc_to = refl;
        chan_to = refl;
      };
  count = λ base. fan_length base.chan (base.chan + n) n;
  laid = λ cap base. length-replicate (n + n) (empty_chan cap);
  rooms = λ cap base k h l. plain_room (n + n) cap k h l;
  slots = λ net base good v l. fan_good base n v pos l;
}
