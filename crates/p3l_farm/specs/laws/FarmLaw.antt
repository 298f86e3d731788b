-- THE LAW OF THE FARM (`farm_lawful`): any number of workers but 0, round any lawful parts, on demand. Whichever worker
-- Emit and Collect choose, the tokens leave in the order in which they came, each with its meaning.
-- A worker may be slow or fast: its own line stays, so the list of the farm does.
use Rattle.std.proofs.Common.{◌≡◌, ℕ, zero, suc, ◌+◌, ◌-◌, ◌*◌, ◌≤◌, ◌<◌, ◌≢◌, inl, inr, ◌&&◌, Bool, true, false, Some, is_some, List, [], ◌∷◌, ◌++◌, map, length, get_or, refl, sym, ap, ap₂, ◌∙◌, subst, arith, append_assoc, length-append, le_refl, eqb-true, slice_get}
use Rattle.std.proofs.lemmas.Bool.{and_parts, and_from, cases_Bool}
use Rattle.std.proofs.lemmas.List.{map-append}
use Rattle.p3l_farm.specs.Farm.{rising, all_rising, joined, to_come, well_kept, lines_of, emit_proc, collect_proc, view_of, farmed, farm_part, farm_shape}
use Rattle.p3l_firing.proofs.ChoiceLaw.{emptiest_is, due_in_is}
use Rattle.p3l_farm.specs.laws.ViewLaw.{change, view_line, Kept, kept_to, kept_from, Goes, none_ready, each_empty, emit_view, emit_goes, collect_view, collect_goes}
use Rattle.p3l_firing.specs.Fire.{row_can, can_fire}
use Rattle.p3l_firing.specs.Ways.{eyes_of, Deals, Collects, row_ways, MayFire}
use Rattle.p3l_firing.specs.Lists.{first_or, rest_of, has_first}
use Rattle.p3l_firing.specs.State.{State, has_room}
use Rattle.p3l_firing.specs.Token.{over, newest_tag, untagged, tagged, has_trap, credit}
use Rattle.p3l_firing.specs.declared.net.Net.{Net}
use Rattle.p3l_firing.specs.declared.process.ProcKind.TheVariants.{Emit, Collect}
use Rattle.p3l_firing.specs.declared.token.Token.{Token}
use Rattle.p3l_firing.specs.kinds.Collect.{front_is, due_in, taken_from}
use Rattle.p3l_firing.specs.kinds.Emit.{emptiest, sent_to}
use Rattle.p3l_template.specs.Bag.{read, IsNumbered}
use Rattle.p3l_template.specs.Part.{Part, IsLawfulPart, IsSized, inside, line, IsInside, IsSameInside, IsAlike, Moves, OneFired, no_part, all_orderly, IsFresh, Begins, IsDrained, due}
use Rattle.p3l_template.specs.Placed.{IsLawfulShape, IsPlaced}
use Rattle.p3l_template.specs.Shape.{Role, Base, numbers_from}
use Rattle.p3l_template.specs.Sum.{sum_of}
use Rattle.p3l_template.specs.Units.{Units}
use Rattle.p3l_template.specs.laws.BagLaw.{look_empty, read_length}
use Rattle.p3l_template.specs.laws.Chain.{all_same, all_kept, all_at, all_from}
use Rattle.p3l_template.specs.laws.Fan.{Fan, fan_of, Around, around_moves, one_moves, same_alike, each_begins, fan_empty, fan_fires, fan_drained, fan_lawful}
use Rattle.p3l_template.specs.laws.FanSize.{worker_holds, fan_inside, lines_bound, dues_bound}
use Rattle.p3l_template.specs.laws.Inside.{times_le}
use Rattle.p3l_template.specs.laws.Lists.{append_none, map_none, rest_append}
use Rattle.p3l_template.specs.laws.Row.{numbers_length, numbers_at, stands_two}
use Rattle.p3l_template.specs.laws.Rows.{front, way_at, cannot_at, emptied, and_right_true, room_when_empty}
use Rattle.p3l_template.specs.laws.SumLaw.{sum_same, sum_none, sum_change, sum_add, sum_up}
use Rattle.p3l_template.specs.laws.Touch.{passed, passed_in, passed_out, passed_other, passed_count, passed_own, passed_unsent, passed_sent, passed_emitted}
use Rattle.p3l_firing.specs.kinds.Emit as emit
use Rattle.p3l_firing.specs.kinds.Collect as collect

-- THE LINES
lines_length : (Ps : List Part) (s : State) → length (lines_of Ps s) ≡ length Ps
unfolding lines_of
lines_length [] s = refl
lines_length (P ∷ Ps) s = ap suc (lines_length Ps s)

lines_at : (Ps : List Part) (s : State) (w : ℕ) → w < length Ps →
    get_or (lines_of Ps s) w [] ≡ line (get_or Ps w no_part) s
unfolding lines_of
lines_at [] s w l = absurd (omega arith)
lines_at (P ∷ Ps) s zero l = refl
lines_at (P ∷ Ps) s (suc w) l = lines_at Ps s w (omega arith)

lines_same : (Ps : List Part) (s t : State) →
    ((w : ℕ) → w < length Ps → line (get_or Ps w no_part) t ≡ line (get_or Ps w no_part) s) →
    lines_of Ps t ≡ lines_of Ps s
unfolding lines_of
lines_same [] s t h = refl
lines_same (P ∷ Ps) s t h = ap₂ (λ x y. x ∷ y) (h 0 (omega arith)) (lines_same Ps s t (λ w l. h (suc w) (omega arith)))

-- line w alone changes
lines_change : (Ps : List Part) (s t : State) (w : ℕ) (f : List Token → List Token) → w < length Ps →
    line (get_or Ps w no_part) t ≡ f (line (get_or Ps w no_part) s) →
    ((v : ℕ) → v < length Ps → v ≢ w → line (get_or Ps v no_part) t ≡ line (get_or Ps v no_part) s) →
    lines_of Ps t ≡ change w f (lines_of Ps s)
unfolding lines_of change
lines_change [] s t w f l e h = absurd (omega arith)
lines_change (P ∷ Ps) s t zero f l e h =
    ap₂ (λ x y. x ∷ y) e (lines_same Ps s t (λ v k. h (suc v) (omega arith) (λ d. omega (arith, d))))
lines_change (P ∷ Ps) s t (suc w) f l e h =
    ap₂ (λ x y. x ∷ y) (h 0 (omega arith) (λ d. omega (arith, d)))
    (lines_change Ps s t w f (omega arith) e (λ v k n. h (suc v) (omega arith) (λ d. n (omega (arith, d)))))

none_joined : (Ps : List Part) (s : State) → ((w : ℕ) → w < length Ps → line (get_or Ps w no_part) s ≡ []) →
    (joined (lines_of Ps s) ≡ []) × (all_rising (lines_of Ps s) ≡ true)
unfolding lines_of joined all_rising rising
none_joined [] s h = (refl, refl)
none_joined (P ∷ Ps) s h =
    let r = none_joined Ps s (λ w l. h (suc w) (omega arith)) in
    (ap₂ (λ x y. x ++ y) (h 0 (omega arith)) r.0, and_from _ _ (ap rising (h 0 (omega arith))) r.1)

front_has : (c : ℕ) (xs : List Token) → front_is c xs ≡ true → (has_first xs ≡ true) × (newest_tag (first_or credit xs) ≡ c)
unfolding front_is
front_has c [] h = cc
front_has c (x ∷ xs) h = (refl, eqb-true _ _ h)

front_append : (c : ℕ) (xs ys : List Token) → has_first xs ≡ true → front_is c (xs ++ ys) ≡ front_is c xs
unfolding front_is
front_append c [] ys h = cc
front_append c (x ∷ xs) ys h = refl

front_none : (c : ℕ) → front_is c [] ≡ false
unfolding front_is
front_none c = refl

-- THE SIZE
-- the tokens of all lines
joined_length : (Ps : List Part) (s : State) →
    length (joined (lines_of Ps s)) ≡ sum_of (λ w. length (line (get_or Ps w no_part) s)) (length Ps)
unfolding joined lines_of sum_of
joined_length [] s = refl
joined_length (P ∷ Ps) s =
    let a = length-append (line P s) (joined (lines_of Ps s)) in
    let b = sum_up (λ w. length (line (get_or (P ∷ Ps) w no_part) s)) (length Ps) in
    omega (arith, a, b, joined_length Ps s)

-- THE WORK
emit_falls : (f a x y z d e c : ℕ) → c ≤ e → x ≡ suc a → y + d ≡ z + (d + f) →
    (2 + f) * a + (y + ((e + 1) - c)) < (2 + f) * x + (z + (e - c))
emit_falls f a x y z d e c h g i = let j : (2 + f) * x ≡ (2 + f) * a + (2 + f) =
    ap (λ k. (2 + f) * k) g ∙ omega arith in omega (arith, j, i)

collect_falls : (g y z e c : ℕ) → c < e → y ≡ z → g + (y + (e - (c + 1))) < g + (z + (e - c))
collect_falls g y z e c h i = omega (arith, i)

worker_falls : (g y z a b k : ℕ) → a < b → y + b ≡ z + a → g + (y + k) < g + (z + k)
worker_falls g y z a b k h i = omega (arith, i)

less_by : {a b c d : ℕ} → a ≡ b → c ≡ d → b < d → a < c
less_by e f l = omega (arith, e, f, l)

module _ (net : Net) (units : Units) (roles : ℕ → Role) (node n : ℕ) (pos : 0 < n) (base : Base) (Ps : List Part)
    (placed : IsPlaced net units roles (farm_shape node n) base Ps) where
  fan : Fan net units roles n base Ps
  fan = fan_of net units roles n base Ps placed.good placed.inner

  -- the work that is left in the workers
  abbrev needs : State → ℕ → ℕ
  needs s w = due (get_or Ps w no_part) s

  abbrev dues : State → ℕ
  dues s = sum_of (needs s) n

  view_is : (t : State) (e c : ℕ) (ls : List (List Token)) (i o : List Token) → (t.own base.proc).number ≡ e →
      (t.own (base.proc + 1)).number ≡ c → lines_of Ps t ≡ ls → t.tokens base.input ≡ i → t.tokens base.output ≡ o →
      view_of base Ps t ≡ record { next = e; least = c; lines = ls; input = i; output = o }
  view_is t e c ls i o e1 e2 e3 e4 e5 = λ j.
      record { next = e1 j; least = e2 j; lines = e3 j; input = e4 j; output = e5 j }

  all_due : (t : State) (a y e c : ℕ) → length (t.tokens base.input) ≡ a → dues t ≡ y → (t.own base.proc).number ≡ e →
      (t.own (base.proc + 1)).number ≡ c →
      due (farm_part n units roles base Ps) t ≡ (2 + (roles 0).firings) * a + (y + (e - c))
  unfolding due
  all_due t a y e c e1 e2 e3 e4 = λ i. (2 + (roles 0).firings) * e1 i + (e2 i + (e3 i - e4 i))

  farm_line : (s : State) → line (farm_part n units roles base Ps) s ≡ view_line (roles 0).meaning (view_of base Ps s)
  unfolding line view_line
  farm_line s = refl

  -- READS
  farm_reads : (s t : State) → IsSameInside (farm_part n units roles base Ps) s t → IsAlike (farm_part n units roles base Ps) s t
  unfolding to_come well_kept
  farm_reads s t same =
      let alike = same_alike net units roles n base Ps fan (farmed n) s t same in
      let ch : (c : ℕ) → base.chan ≤ c → c < base.chan + (n + n) → t.tokens c ≡ s.tokens c = λ c f l.
      same.tokens c f (omega (arith, l, fan.all.chans)) in
      let e : t.own base.proc ≡ s.own base.proc = same.own base.proc (le_refl _) (omega (arith, fan.all.procs)) in
      let c : t.own (base.proc + 1) ≡ s.own (base.proc + 1) =
      same.own (base.proc + 1) (omega arith) (omega (arith, fan.all.procs)) in
      let ls =
      lines_same Ps s t
      (λ w k. let l = fan.all.below w k in
      fan.line_kept s t w l (ch _ (omega arith) (omega (arith, l))) (ch _ (omega arith) (omega (arith, l)))
      (alike w l).pending) in
      let ds =
      sum_same (needs s) (needs t) n
      (λ w l. fan.due_kept s t w l (ch _ (omega arith) (omega (arith, l))) (alike w l).owed) in
      record {
        pending = λ i.
            to_come (record {
              next = (e i).number;
              least = (c i).number;
              lines = ls i;
              input = s.tokens base.input;
              output = s.tokens base.output;
            });
        orderly = λ i.
            all_same Ps s t (λ w k. (alike w (fan.all.below w k)).orderly) i
            && well_kept (record {
              next = (e i).number;
              least = (c i).number;
              lines = ls i;
              input = s.tokens base.input;
              output = s.tokens base.output;
            });
        owed = λ i. ds i + ((e i).number - (c i).number);
      }

  -- BEGINS
  none_kept : (i o : List Token) (ls : List (List Token)) → joined ls ≡ [] → all_rising ls ≡ true →
      Kept (record { next = 0; least = 0; lines = ls; input = i; output = o })
  none_kept i o ls e r = record {
    count = omega (arith, ap length e);
    numbered =
        subst (λ z. IsNumbered z 0) (sym e)
        (record { once = λ k f l. absurd (omega (arith, l)); none = λ k l. ap length (look_empty k) });
    rising = r;
  }

  farm_begins : (s : State) → IsFresh net (farm_part n units roles base Ps) s → Begins (farm_part n units roles base Ps) s
  unfolding to_come read
  farm_begins s fresh =
      let each = each_begins net units roles n base Ps fan (farmed n) s fresh in
      let ch =
      fan_empty net units roles n base Ps fan (farmed n) placed.cap placed.laid s fresh in
      let e : (s.own base.proc).number ≡ 0 =
      ap (λ o. o.number) (fresh.own base.proc (le_refl _) (omega (arith, fan.all.procs))) in
      let c : (s.own (base.proc + 1)).number ≡ 0 =
      ap (λ o. o.number) (fresh.own (base.proc + 1) (omega arith) (omega (arith, fan.all.procs))) in
      let j = none_joined Ps s
      (λ w k. let l = fan.all.below w k in
      fan.line_is s w [] [] [] l (ch _ (omega arith) (omega (arith, l))) (each w l).pending
      (ch _ (omega arith) (omega (arith, l)))) in
      let d : dues s ≡ 0 =
      sum_none (needs s) n (λ w l.
      fan.due_is s w 0 0 l (ap length (ch _ (omega arith) (omega (arith, l)))) (each w l).owed ∙ omega arith) in
      let v = view_is s 0 0 _ _ _ e c refl refl refl in
      record {
        orderly =
            and_from _ _ (all_from Ps s (λ w k. (each w (fan.all.below w k)).orderly))
            (kept_from _ (subst Kept (sym v) (none_kept _ _ _ j.0 j.1)));
        pending = ap (λ z. read z (s.own (base.proc + 1)).number (length z)) j.0;
        owed = omega (arith, d, e, c);
      }

  -- a step is right: the workers stay orderly, the farm goes on, the work falls
  record Right (s t : State) : Type 0 where
    parts : all_orderly Ps t ≡ true
    goes : Goes (roles 0).meaning (view_of base Ps s) (view_of base Ps t)
    work : due (farm_part n units roles base Ps) t < due (farm_part n units roles base Ps) s

  -- EMIT sends to worker w
  unfoldable emit_state : ℕ → State → State
  emit_state w s =
      passed s base.proc base.input (base.chan + w) (tagged (s.own base.proc).number (first_or credit (s.tokens base.input)))

  unfoldable collect_state : ℕ → State → State
  collect_state w s =
      passed s (base.proc + 1) (base.chan + n + w) base.output (untagged (first_or credit (s.tokens (base.chan + n + w))))

  module _ (s : State) (w : ℕ) (low : w < n) where
    emit_around : Around base n s (emit_state w s)
    unfolding emit_state
    emit_around = record {
      tokens = λ c i o f.
          passed_other s base.proc base.input (base.chan + w) _ c i (λ e. omega (arith, e, f (omega (arith, e)), low));
      own = λ p h k. passed_own s base.proc base.input (base.chan + w) _ p h;
      unsent = passed_unsent s base.proc base.input (base.chan + w) _;
      sent = passed_sent s base.proc base.input (base.chan + w) _;
      emitted = passed_emitted s base.proc base.input (base.chan + w) _;
    }

    emit_apart : base.input ≢ base.chan + w
    emit_apart = λ e. omega (arith, e, placed.good.input)

    emit_in : (emit_state w s).tokens base.input ≡ rest_of (s.tokens base.input)
    unfolding emit_state
    emit_in = passed_in s base.proc base.input (base.chan + w) _ emit_apart

    emit_out : (emit_state w s).tokens (base.chan + w)
        ≡ s.tokens (base.chan + w) ++ tagged (s.own base.proc).number (first_or credit (s.tokens base.input)) ∷ []
    unfolding emit_state
    emit_out = passed_out s base.proc base.input (base.chan + w) _ emit_apart

    emit_other : (c : ℕ) → c ≢ base.input → c ≢ base.chan + w → (emit_state w s).tokens c ≡ s.tokens c
    unfolding emit_state
    emit_other = passed_other s base.proc base.input (base.chan + w) _

    emit_next : ((emit_state w s).own base.proc).number ≡ (s.own base.proc).number + 1
    unfolding emit_state
    emit_next = passed_count s base.proc base.input (base.chan + w) _

    emit_least : ((emit_state w s).own (base.proc + 1)).number ≡ (s.own (base.proc + 1)).number
    unfolding emit_state
    emit_least =
        ap (λ o. o.number) (passed_own s base.proc base.input (base.chan + w) _ (base.proc + 1) (λ e. omega (arith, e)))

    longer : (d p b : List Token) (y : Token) →
        d ++ (p ++ map (over (roles 0).meaning) (b ++ y ∷ []))
        ≡ (d ++ (p ++ map (over (roles 0).meaning) b)) ++ over (roles 0).meaning y ∷ []
    longer d p b y = simp (map-append, append_assoc)

    emit_line : line (get_or Ps w no_part) (emit_state w s)
        ≡ line (get_or Ps w no_part) s
        ++ over (roles 0).meaning (tagged (s.own base.proc).number (first_or credit (s.tokens base.input))) ∷ []
    emit_line =
        fan.line_is (emit_state w s) w _ _ _ low
        (emit_other _ (λ e. omega (arith, e, placed.good.input)) (λ e. omega (arith, e, low)))
        (fan.alike s _ emit_around w low).pending emit_out
        ∙ longer (s.tokens (base.chan + n + w)) ((get_or Ps w no_part).pending s) (s.tokens (base.chan + w))
        (tagged (s.own base.proc).number (first_or credit (s.tokens base.input)))
        ∙ ap (λ z. z ++ over (roles 0).meaning (tagged (s.own base.proc).number (first_or credit (s.tokens base.input))) ∷ [])
        (sym (fan.line_is s w _ _ _ low refl refl refl))

    emit_lines : lines_of Ps (emit_state w s)
        ≡ change w (λ l. l
        ++ over (roles 0).meaning (tagged (s.own base.proc).number (first_or credit (s.tokens base.input))) ∷ []) (lines_of Ps s)
    emit_lines =
        lines_change Ps s (emit_state w s) w
        (λ l. l ++ over (roles 0).meaning (tagged (s.own base.proc).number (first_or credit (s.tokens base.input))) ∷ [])
        (fan.all.within w low) emit_line
        (λ v k ne. let l = fan.all.below v k in
        fan.line_kept s _ v l (emit_other _ (λ e. omega (arith, e, placed.good.input)) (λ e. ne (omega (arith, e))))
        (emit_other _ (λ e. omega (arith, e, placed.good.input)) (λ e. omega (arith, e, low)))
        (fan.alike s _ emit_around v l).pending)

    emit_dues : dues (emit_state w s)
        + ((roles 0).firings * length (s.tokens (base.chan + w)) + (get_or Ps w no_part).owed s)
        ≡ dues s + (((roles 0).firings * length (s.tokens (base.chan + w)) + (get_or Ps w no_part).owed s)
        + (roles 0).firings)
    emit_dues =
        let r = sum_change (needs s) (needs (emit_state w s)) n w low
        (λ v l ne. fan.due_kept s _ v l (emit_other _ (λ e. omega (arith, e, placed.good.input)) (λ e. ne (omega (arith, e))))
        (fan.alike s _ emit_around v l).owed) in
        let a = fan.due_is s w _ _ low refl refl in
        let b = fan.due_is (emit_state w s) w _ _ low (ap length emit_out ∙ length-append (s.tokens (base.chan + w)) _)
        (fan.alike s _ emit_around w low).owed in
        let c : (roles 0).firings * (length (s.tokens (base.chan + w)) + 1)
        ≡ (roles 0).firings * length (s.tokens (base.chan + w)) + (roles 0).firings = omega arith in
        omega (arith, r, a, b, c)

    emit_right : all_orderly Ps s ≡ true → Kept (view_of base Ps s) → has_first (s.tokens base.input) ≡ true →
        Right s (emit_state w s)
    emit_right o k full =
        let fr = front (s.tokens base.input) full in
        let v : view_of base Ps (emit_state w s)
        ≡ emit_view (roles 0).meaning (view_of base Ps s) k w (first_or credit (s.tokens base.input))
        (rest_of (s.tokens base.input)) =
        view_is (emit_state w s) _ _ _ _ _ emit_next emit_least emit_lines emit_in
        (emit_other base.output (λ e. placed.good.apart (sym e)) (λ e. omega (arith, e, placed.good.output))) in
        let h : (s.own (base.proc + 1)).number ≤ (s.own base.proc).number = omega (arith, k.count) in
        record {
          parts = all_same Ps s _ (λ u q. (fan.alike s _ emit_around u (fan.all.below u q)).orderly) ∙ o;
          goes = subst (λ z. Goes (roles 0).meaning (view_of base Ps s) z) (sym v)
              (emit_goes (roles 0).meaning (view_of base Ps s) k w _ _
              (omega (arith, low, lines_length Ps s, fan.all.count)) fr);
          work = less_by (all_due (emit_state w s) _ _ _ _ (ap length emit_in) refl emit_next emit_least)
              (all_due s _ _ _ _ refl refl refl refl)
              (emit_falls (roles 0).firings _ _ _ _ _ _ _ h (ap length fr) emit_dues);
        }

    -- COLLECT takes from worker w
    collect_around : Around base n s (collect_state w s)
    unfolding collect_state
    collect_around = record {
      tokens = λ c i o f.
          passed_other s (base.proc + 1) (base.chan + n + w) base.output _ c
          (λ e. omega (arith, e, f (omega (arith, e)), low)) o;
      own = λ p h k. passed_own s (base.proc + 1) (base.chan + n + w) base.output _ p k;
      unsent = passed_unsent s (base.proc + 1) (base.chan + n + w) base.output _;
      sent = passed_sent s (base.proc + 1) (base.chan + n + w) base.output _;
      emitted = passed_emitted s (base.proc + 1) (base.chan + n + w) base.output _;
    }

    collect_apart : base.chan + n + w ≢ base.output
    collect_apart = λ e. omega (arith, e, placed.good.output)

    collect_in : (collect_state w s).tokens (base.chan + n + w) ≡ rest_of (s.tokens (base.chan + n + w))
    unfolding collect_state
    collect_in = passed_in s (base.proc + 1) (base.chan + n + w) base.output _ collect_apart

    collect_out : (collect_state w s).tokens base.output
        ≡ s.tokens base.output ++ untagged (first_or credit (s.tokens (base.chan + n + w))) ∷ []
    unfolding collect_state
    collect_out = passed_out s (base.proc + 1) (base.chan + n + w) base.output _ collect_apart

    collect_other : (c : ℕ) → c ≢ base.chan + n + w → c ≢ base.output → (collect_state w s).tokens c ≡ s.tokens c
    unfolding collect_state
    collect_other = passed_other s (base.proc + 1) (base.chan + n + w) base.output _

    collect_least : ((collect_state w s).own (base.proc + 1)).number ≡ (s.own (base.proc + 1)).number + 1
    unfolding collect_state
    collect_least = passed_count s (base.proc + 1) (base.chan + n + w) base.output _

    collect_next : ((collect_state w s).own base.proc).number ≡ (s.own base.proc).number
    unfolding collect_state
    collect_next =
        ap (λ o. o.number)
        (passed_own s (base.proc + 1) (base.chan + n + w) base.output _ base.proc (λ e. omega (arith, e)))

    collect_to : (v : ℕ) → v < n → (collect_state w s).tokens (base.chan + v) ≡ s.tokens (base.chan + v)
    collect_to v l = collect_other _ (λ e. omega (arith, e, l)) (λ e. omega (arith, e, placed.good.output))

    collect_line : has_first (s.tokens (base.chan + n + w)) ≡ true →
        line (get_or Ps w no_part) (collect_state w s) ≡ rest_of (line (get_or Ps w no_part) s)
    collect_line full =
        fan.line_is (collect_state w s) w _ _ _ low collect_in (fan.alike s _ collect_around w low).pending
        (collect_to w low)
        ∙ sym (rest_append (s.tokens (base.chan + n + w)) _ full)
        ∙ ap rest_of (sym (fan.line_is s w _ _ _ low refl refl refl))

    collect_lines : has_first (s.tokens (base.chan + n + w)) ≡ true →
        lines_of Ps (collect_state w s) ≡ change w rest_of (lines_of Ps s)
    collect_lines full =
        lines_change Ps s (collect_state w s) w rest_of (fan.all.within w low) (collect_line full)
        (λ v k ne. let l = fan.all.below v k in
        fan.line_kept s _ v l (collect_to v l)
        (collect_other _ (λ e. ne (omega (arith, e))) (λ e. omega (arith, e, placed.good.output)))
        (fan.alike s _ collect_around v l).pending)

    collect_dues : dues (collect_state w s) ≡ dues s
    collect_dues =
        sum_same (needs s) (needs (collect_state w s)) n
        (λ v l. fan.due_kept s _ v l (collect_to v l) (fan.alike s _ collect_around v l).owed)

    collect_right : all_orderly Ps s ≡ true → Kept (view_of base Ps s) →
        front_is (s.own (base.proc + 1)).number (s.tokens (base.chan + n + w)) ≡ true → Right s (collect_state w s)
    collect_right o k ready =
        let fh = front_has _ (s.tokens (base.chan + n + w)) ready in
        let i = collect_other base.input (λ e. omega (arith, e, placed.good.input)) placed.good.apart in
        let v : view_of base Ps (collect_state w s)
        ≡ collect_view (roles 0).meaning (view_of base Ps s) k w (first_or credit (s.tokens (base.chan + n + w))) =
        view_is (collect_state w s) _ _ _ _ _ collect_next collect_least (collect_lines fh.0) i collect_out in
        let g : Goes (roles 0).meaning (view_of base Ps s) (view_of base Ps (collect_state w s)) =
        subst (λ z. Goes (roles 0).meaning (view_of base Ps s) z) (sym v)
        (collect_goes (roles 0).meaning (view_of base Ps s) k w _ _
        (omega (arith, low, lines_length Ps s, fan.all.count))
        (lines_at Ps s w (fan.all.within w low) ∙ fan.line_is s w _ _ _ low refl refl refl
        ∙ ap (λ z. z ++ ((get_or Ps w no_part).pending s ++ map (over (roles 0).meaning) (s.tokens (base.chan + w))))
        (front (s.tokens (base.chan + n + w)) fh.0)) fh.1) in
        let c : (s.own (base.proc + 1)).number < (s.own base.proc).number =
        omega (arith, g.kept.count, collect_next, collect_least) in
        record {
          parts = all_same Ps s _ (λ u q. (fan.alike s _ collect_around u (fan.all.below u q)).orderly) ∙ o;
          goes = g;
          work = less_by (all_due (collect_state w s) _ _ _ _ (ap length i) refl collect_next collect_least)
              (all_due s _ _ _ _ refl refl refl refl)
              (collect_falls _ _ _ _ _ c collect_dues);
        }

  -- THE ROWS GIVE THESE STATES
  emit_stands : slice_get net.procs base.proc ≡ Some (emit_proc node n base)
  emit_stands = (stands_two net base.proc _ (collect_proc node n base) placed.procs).0

  collect_stands : slice_get net.procs (base.proc + 1) ≡ Some (collect_proc node n base)
  collect_stands = (stands_two net base.proc (emit_proc node n base) _ placed.procs).1

  module _ (s : State) where
    emit_sends : (w : ℕ) → sent_to (Some (base.chan + w)) s base.proc (s.own base.proc) (emit_proc node n base) ≡ emit_state w s
    unfolding sent_to emit_state passed
    emit_sends w = refl

    -- to whichever worker Emit sends
    emit_goes_to : (t : State) (A : State → Type 0) →
        ((w : ℕ) → w < n → has_first (s.tokens base.input) ≡ true → A (emit_state w s)) →
        MayFire units.tree units.leaf net s base.proc t → A t
    unfolding row_ways
    emit_goes_to t A g way =
        let f : Deals (eyes_of net s) s base.proc (s.own base.proc) (emit_proc node n base) t =
        way_at net units s base.proc (emit_proc node n base) emit_stands t way in
        let l : f.at < n = omega (arith, f.below, numbers_length base.chan n) in
        subst A (sym (f.is
        ∙ ap (λ z. sent_to (Some z) s base.proc (s.own base.proc) (emit_proc node n base)) (numbers_at base.chan n f.at l)
        ∙ emit_sends f.at)) (g f.at l f.full)

    collect_takes : (w : ℕ) →
        taken_from (Some (base.chan + n + w)) s (base.proc + 1) (s.own (base.proc + 1)) (collect_proc node n base) ≡ collect_state w s
    unfolding taken_from collect_state passed
    collect_takes w = refl

    -- from whichever worker Collect takes
    collect_goes_to : (t : State) (A : State → Type 0) →
        ((w : ℕ) → w < n → front_is (s.own (base.proc + 1)).number (s.tokens (base.chan + n + w)) ≡ true →
        A (collect_state w s)) → MayFire units.tree units.leaf net s (base.proc + 1) t → A t
    unfolding row_ways
    collect_goes_to t A g way =
        let f : Collects (eyes_of net s) s (base.proc + 1) (s.own (base.proc + 1)) (collect_proc node n base) t =
        way_at net units s (base.proc + 1) (collect_proc node n base) collect_stands t way in
        let l : f.at < n = omega (arith, f.below, numbers_length (base.chan + n) n) in
        let e = numbers_at (base.chan + n) n f.at l in
        subst A (sym (f.is
        ∙ ap (λ z. taken_from (Some z) s (base.proc + 1) (s.own (base.proc + 1)) (collect_proc node n base)) e
        ∙ collect_takes f.at))
        (g f.at l (ap (λ z. front_is (s.own (base.proc + 1)).number (s.tokens z)) (sym e) ∙ f.front))

    -- A WORKER FIRES
    module _ (t : State) (one : OneFired Ps s t) where
      worker_right : all_orderly Ps s ≡ true → Kept (view_of base Ps s) → Right s t
      worker_right o k =
          let e = ap (λ q. q.number) (fan.own s t one base.proc (omega arith)) in
          let c = ap (λ q. q.number) (fan.own s t one (base.proc + 1) (omega arith)) in
          let i = fan.input s t one in
          let u = fan.output s t one in
          let ls = lines_same Ps s t (λ w q. fan.lines s t one o w (fan.all.below w q)) in
          let ds = sum_change (needs s) (needs t) n one.which (fan.all.below one.which one.below) (fan.dues s t one) in
          let v : view_of base Ps t ≡ view_of base Ps s = view_is t _ _ _ _ _ e c ls i u in
          record {
            parts = all_kept Ps s t one o;
            goes = record { kept = subst Kept (sym v) k; line = ap (view_line (roles 0).meaning) v };
            work = less_by (all_due t _ _ _ _ (ap length i) refl e c) (all_due s _ _ _ _ refl refl refl refl)
                (worker_falls _ _ _ _ _ _ (one.works (all_at Ps s o one.which one.below)) ds);
          }

  -- THE LAWS OF A FIRING
  farm_moves : (s t : State) (p : ℕ) → IsInside (farm_part n units roles base Ps) p → MayFire units.tree units.leaf net s p t →
      Moves (farm_part n units roles base Ps) s t
  farm_moves s t p i way =
      let P = farm_part n units roles base Ps in
      let own = around_moves net units roles n base Ps fan (farmed n) s in
      fan_fires net units roles n base Ps fan (farmed n) s t p i way (Moves P s t)
      (emit_goes_to s t (Moves P s) (λ w l _. own _ (emit_around s w l)))
      (collect_goes_to s t (Moves P s) (λ w l _. own _ (collect_around s w l)))
      (one_moves net units roles n base Ps fan (farmed n) s t)

  farm_right : (s t : State) (p : ℕ) → IsInside (farm_part n units roles base Ps) p → MayFire units.tree units.leaf net s p t →
      (farm_part n units roles base Ps).orderly s ≡ true → Right s t
  farm_right s t p i way h =
      let a = and_parts (all_orderly Ps s) (well_kept (view_of base Ps s)) h in
      let k = kept_to (view_of base Ps s) a.1 in
      fan_fires net units roles n base Ps fan (farmed n) s t p i way (Right s t)
      (emit_goes_to s t (Right s) (λ w l full. emit_right s w l a.0 k full))
      (collect_goes_to s t (Right s) (λ w l f. collect_right s w l a.0 k f)) (λ one. worker_right s t one a.0 k)

  -- DRAIN
  module _ (s : State) (h : (farm_part n units roles base Ps).orderly s ≡ true)
      (quiet : (p : ℕ) → IsInside (farm_part n units roles base Ps) p → can_fire units.tree net s p ≡ false)
      (untrapped : has_trap s.emitted ≡ false) (room : has_room net s base.output ≡ true) where
    parts_orderly : all_orderly Ps s ≡ true
    parts_orderly = (and_parts (all_orderly Ps s) (well_kept (view_of base Ps s)) h).0

    kept : Kept (view_of base Ps s)
    kept = kept_to (view_of base Ps s) (and_parts (all_orderly Ps s) (well_kept (view_of base Ps s)) h).1

    not_ready : is_some (due_in s (s.own (base.proc + 1)).number (numbers_from (base.chan + n) n)) ≡ false
    unfolding row_can emit.can collect.can
    not_ready =
        right_false _ _ room
        (cannot_at net units s (base.proc + 1) (collect_proc node n base) collect_stands untrapped
        (quiet (base.proc + 1) (record { from = omega arith; to = omega (arith, fan.all.procs) })))
      where
        right_false : (x y : Bool) → y ≡ true → (x && y) ≡ false → x ≡ false
        right_false x y e f = and_right_true x y e f

    no_front : (w : ℕ) → w < n → front_is (s.own (base.proc + 1)).number (s.tokens (base.chan + n + w)) ≡ false
    no_front w l =
        elim (due_in_is s (s.own (base.proc + 1)).number (numbers_from (base.chan + n) n)) [
          | inl f ↦ let z : true ≡ false = ap is_some (sym f.is) ∙ not_ready in cc
          | inr f ↦
              ap (λ z. front_is (s.own (base.proc + 1)).number (s.tokens z)) (sym (numbers_at (base.chan + n) n w l))
              ∙ f.fronts w (omega (arith, l, numbers_length (base.chan + n) n))
        ]

    worker_drained : (w : ℕ) → w < n → s.tokens (base.chan + n + w) ≡ [] → IsDrained (get_or Ps w no_part) s
    worker_drained =
        fan_drained net units roles n base Ps fan (farmed n) s placed.chans parts_orderly quiet untrapped

    -- no line begins with the number that is expected
    no_line : (w : ℕ) → w < n → front_is (s.own (base.proc + 1)).number (line (get_or Ps w no_part) s) ≡ false
    no_line w l =
        elim (cases_Bool (has_first (s.tokens (base.chan + n + w)))) [
          | inl e ↦
              ap (front_is (s.own (base.proc + 1)).number) (fan.line_is s w _ _ _ l refl refl refl)
              ∙ front_append _ (s.tokens (base.chan + n + w)) _ e ∙ no_front w l
          | inr e ↦
              let o = emptied _ e in
              let d = worker_drained w l o in
              ap (front_is (s.own (base.proc + 1)).number)
              (fan.line_is s w [] [] [] l o d.pending (ap s.tokens (sym (fan.all.input w l)) ∙ d.input)) ∙ front_none _
        ]

    no_token : joined (lines_of Ps s) ≡ []
    no_token =
        none_ready (view_of base Ps s) kept (λ w k.
        let l : w < n = omega (arith, k, lines_length Ps s, fan.all.count) in
        ap (front_is (s.own (base.proc + 1)).number) (lines_at Ps s w (fan.all.within w l)) ∙ no_line w l)

    -- so worker 0 has room
    first_empty : s.tokens (base.chan + 0) ≡ []
    first_empty =
        let e = sym (fan.line_is s 0 _ _ _ pos refl refl refl) ∙ sym (lines_at Ps s 0 (fan.all.within 0 pos))
        ∙ each_empty (lines_of Ps s) 0 no_token in
        map_none _ _ (append_none _ _ (append_none _ _ e).1).1

    some_room : has_room net s (base.chan + 0) ≡ true
    some_room =
        room_when_empty net s (base.chan + 0) first_empty (placed.chans.room _ (omega arith) (omega (arith, pos)))

    emit_cannot : (has_first (s.tokens base.input) && is_some (emptiest net s (numbers_from base.chan n))) ≡ false
    unfolding row_can emit.can collect.can
    emit_cannot =
        cannot_at net units s base.proc (emit_proc node n base) emit_stands untrapped
        (quiet base.proc (record { from = le_refl _; to = omega (arith, fan.all.procs) }))

    emit_waits : s.tokens base.input ≡ []
    emit_waits =
        emptied _ (elim (emptiest_is net s (numbers_from base.chan n)) [
          | inl f ↦ and_right_true _ _ (ap is_some f.is) emit_cannot
          | inr f ↦ let z : true ≡ false =
              sym some_room ∙ ap (has_room net s) (sym (numbers_at base.chan n 0 pos))
              ∙ f.rooms 0 (omega (arith, pos, numbers_length base.chan n)) in cc
        ])

    farm_drained : IsDrained (farm_part n units roles base Ps) s
    unfolding to_come read
    farm_drained =
        record { input = emit_waits; pending = ap (λ z. read z (s.own (base.proc + 1)).number (length z)) no_token }

  farm_size : (s : State) → (farm_part n units roles base Ps).orderly s ≡ true → IsSized (farm_part n units roles base Ps) s
  unfolding to_come
  farm_size s h =
      let a = and_parts (all_orderly Ps s) (well_kept (view_of base Ps s)) h in
      let k = kept_to (view_of base Ps s) a.1 in
      let all : ℕ = sum_of (worker_holds net units roles n base Ps fan s) n in
      let b = lines_bound net units roles n base Ps fan s a.0 in
      let d = dues_bound net units roles n base Ps fan s a.0 in
      let e = sum_add (needs s) (λ w. length (line (get_or Ps w no_part) s)) n in
      let i = fan_inside net units roles n base Ps fan s (farmed n) in
      let j = joined_length Ps s ∙ ap (sum_of (λ w. length (line (get_or Ps w no_part) s))) fan.all.count in
      let m = times_le (1 + (roles 0).firings) all (inside (farm_part n units roles base Ps) s) (omega (arith, i)) in
      let o : (2 + (roles 0).firings) * inside (farm_part n units roles base Ps) s
      ≡ (1 + (roles 0).firings) * inside (farm_part n units roles base Ps) s + inside (farm_part n units roles base Ps) s = omega arith in
      record {
        owed = omega (arith, d, e, j, k.count, m, o);
        pending = omega (arith, read_length (joined (lines_of Ps s)) (s.own (base.proc + 1)).number k.numbered, b, i, j);
      }

  farm_law : IsLawfulPart net units (farm_part n units roles base Ps)
  farm_law = record {
    procs = omega (arith, fan.all.procs);
    chans = omega (arith, fan.all.chans);
    reads = farm_reads;
    begins = farm_begins;
    moves = farm_moves;
    step = λ s t p i way h.
        let r = farm_right s t p i way h in
        record {
          orderly = and_from _ _ r.parts (kept_from _ r.goes.kept);
          line = farm_line t ∙ r.goes.line ∙ sym (farm_line s);
        };
    work = λ s t p i way h. (farm_right s t p i way h).work;
    size = farm_size;
    drain = λ s h quiet untrapped room. farm_drained s h quiet untrapped room;
  }

pub farm_lawful : (node n : ℕ) → 0 < n → IsLawfulShape (farm_shape node n)
farm_lawful node n pos =
    fan_lawful Emit Collect node n (farmed n) pos
    (λ net units roles base parts placed. farm_law net units roles node n pos base parts placed)
