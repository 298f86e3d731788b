-- THE LAW OF THE MAP (`map_lawful`): any number of workers but 0, round any lawful parts, for any number of pieces.
-- The pieces of an item go to the workers by turns and come back by turns, and each group is joined to one outcome:
-- the items leave in order, each as the map of its pieces.
use Rattle.std.proofs.Common.{◌≡◌, ℕ, zero, suc, ◌+◌, ◌-◌, ◌%◌, ◌<◌, ◌≢◌, inl, inr, ◌&&◌, cond, nat_lt, true, false, List, [], ◌∷◌, ◌++◌, map, length, get_or, refl, sym, ap, ap₂, ◌∙◌, subst, arith, append_assoc, le_refl, length-append, mod-lt, slice_get, Some, ltb-true, ◌*◌, ltb-false}
use Rattle.std.proofs.Math.Nat.{mod-eq_of_lt}
use Rattle.std.proofs.lemmas.Bool.{cases_Bool, and_parts, and_from, cases_eq, cond-true, cond-false}
use Rattle.std.proofs.lemmas.List.{map-append, length-map}
use Rattle.p3l_firing.specs.Fire.{row_can, row_fire, is_ready, can_fire, fire}
use Rattle.p3l_firing.specs.Ways.{MayFire}
use Rattle.p3l_firing.proofs.WaysLaw.{strict_scatter, strict_gather}
use Rattle.p3l_firing.specs.Lists.{rest_of, first_or, has_first}
use Rattle.p3l_firing.specs.Process.{in_of, out_of}
use Rattle.p3l_firing.specs.At.{at}
use Rattle.p3l_firing.specs.State.{LocalState, State, pop, push, set_own, counted, fresh, has_room}
use Rattle.p3l_firing.specs.Token.{over, bodies, has_trap, credit}
use Rattle.p3l_firing.specs.declared.net.Net.{Net}
use Rattle.p3l_firing.specs.declared.process.ProcKind.TheVariants.{Scatter, Gather}
use Rattle.p3l_firing.specs.declared.token.Token.{Token}
use Rattle.p3l_map.specs.Map.{Pieces, View, spot, piece, joined, mapped, whole, to_come, well_kept, unsent, under_way, next_piece, scatter_ok, all_alike}
use Rattle.p3l_map.specs.MapShape.{scatter_proc, gather_proc, pieces_of, lines_of, view_of, map_fanned, map_part, map_shape}
use Rattle.p3l_map.specs.Places.{read_by, in_by, total, groups, left}
use Rattle.p3l_map.specs.laws.MapView.{view_line, Kept, kept_to, kept_from, Goes, sent_below, take_view, take_goes, collect_view, collect_goes, emit_view, emit_goes, send_view, send_goes, Next, Next.More, Next.Done}
use Rattle.p3l_map.specs.laws.Near.{near, near-way, near-turns, near-whole, near-come, near-kept}
use Rattle.p3l_map.specs.laws.SizeLaw.{total_sum, come_bound, le_times, all_bound}
use Rattle.p3l_map.specs.laws.Turns.{all_empty_at, all_empty_from}
use Rattle.p3l_template.specs.Part.{Part, IsLawfulPart, IsSized, inside, line, IsInside, IsSameInside, IsAlike, Moves, Keeps, OneFired, no_part, all_orderly, IsFresh, Begins, IsDrained, due}
use Rattle.p3l_template.specs.Placed.{IsLawfulShape, IsPlaced}
use Rattle.p3l_template.specs.Shape.{Role, Base, numbers_from}
use Rattle.p3l_template.specs.Sum.{sum_of}
use Rattle.p3l_template.specs.Units.{Units}
use Rattle.p3l_template.specs.laws.Chain.{all_same, all_kept, all_at, all_from}
use Rattle.p3l_template.specs.laws.Fan.{Fan, fan_of, Around, around_moves, one_moves, same_alike, each_begins, fan_empty, fan_fires, fan_drained, fan_lawful}
use Rattle.p3l_template.specs.laws.FanSize.{worker_holds, fan_inside, lines_bound, dues_bound}
use Rattle.p3l_template.specs.laws.Inside.{times_le}
use Rattle.p3l_template.specs.laws.Lists.{none_left}
use Rattle.p3l_template.specs.laws.Row.{numbers_length, numbers_at, stands_two}
use Rattle.p3l_template.specs.laws.Rows.{at-same, at-other, front, fire_at, can_at, strict_at, cannot_at, emptied, room_when_empty}
use Rattle.p3l_template.specs.laws.SumLaw.{sum_same, sum_none, sum_change}
use Rattle.p3l_template.specs.laws.Touch.{pop_same, pop_other, push_same, push_other, set_tokens, own_same, own_other, pop_own, push_own}
use Rattle.p3l_firing.specs.kinds.Scatter as scatter
use Rattle.p3l_firing.specs.kinds.Gather as gather
use Rattle.p3l_firing.specs.Nodes.{last_element, element_of, joined_of}

total_none : (L : ℕ → List Token) (n : ℕ) → ((w : ℕ) → w < n → L w ≡ []) → total L n ≡ 0
unfolding total
total_none L zero h = refl
total_none L (suc n) h = ap₂ (λ x y. length x + y) (h n (omega arith)) (total_none L n (λ w l. h w (omega arith)))

none_turn : (L : ℕ → List Token) (f : ℕ → ℕ) (n c : ℕ) → ((w : ℕ) → w < n → L w ≡ []) → in_by L f n c 0 ≡ true
unfolding in_by
none_turn L f n c h = all_empty_from L n h

none_over : (n : ℕ) → left n [] [] ≡ []
unfolding left
none_over n = refl

idle_ok : (q : Pieces) → scatter_ok q [] 0 ≡ true
unfolding scatter_ok
idle_ok q = refl

idle_next : (ts : List Token) (k : ℕ) → ts ≡ [] → next_piece ts k ≡ 0
unfolding next_piece
idle_next ts k e = ap (λ z. next_piece z k) e

-- lines that are the same below n go on as well
module _ (q : Pieces) (v : View) (M : ℕ → List Token) (h : (w : ℕ) → w < q.lines → M w ≡ v.lines w) where
  near_goes : (u : View) → Goes q u v → Goes q u (near q v M h)
  unfolding view_line to_come
  near_goes u g = record {
    kept = record {
      full = g.kept.full;
      place = ap (λ m. (length v.held + m) % q.number) (near-way q v M h) ∙ g.kept.place;
      in_turn = ap (in_by M (spot q) q.lines (length v.held)) (near-way q v M h) ∙ (near-turns q v M h).1 ∙ g.kept.in_turn;
      even = ap (left q.number []) (near-whole q v M h) ∙ g.kept.even;
      alike = ap (λ z. all_alike (groups q.number [] z)) (near-whole q v M h) ∙ g.kept.alike;
      scatter = g.kept.scatter;
    };
    line = ap (λ z. v.output ++ (map (joined q) (groups q.number [] z) ++ map (over (mapped q)) v.input)) (near-whole q v M h)
        ∙ g.line;
  }

module _ (net : Net) (units : Units) (roles : ℕ → Role) (node n : ℕ) (pos : 0 < n) (base : Base) (Ps : List Part)
    (placed : IsPlaced net units roles (map_shape node n) base Ps) where
  fan : Fan net units roles n base Ps
  fan = fan_of net units roles n base Ps placed.good placed.inner

  abbrev Q : Pieces
  Q = pieces_of units node n (roles 0).meaning

  -- Scatter's own state after piece k
  unfoldable after_piece : LocalState → LocalState
  after_piece o = cond (nat_lt o.number (last_element units.tree node)) (counted o) fresh

  unfoldable take_state : State → State
  take_state s = set_own (pop s base.input) base.proc (record { number = 0; held = first_or credit (s.tokens base.input) ∷ [] })

  unfoldable send_state : State → State
  send_state s =
      set_own (push s (base.chan + (s.own base.proc).number % n)
      (over (element_of units.tree node (s.own base.proc).number) (first_or credit (s.own base.proc).held))) base.proc
      (after_piece (s.own base.proc))

  unfoldable collect_state : State → State
  collect_state s =
      set_own (pop s (base.chan + n + length (s.own (base.proc + 1)).held % n)) (base.proc + 1)
      (record {
        number = (s.own (base.proc + 1)).number;
        held = (s.own (base.proc + 1)).held
            ++ first_or credit (s.tokens (base.chan + n + length (s.own (base.proc + 1)).held % n)) ∷ [];
      })

  unfoldable emit_state : State → State
  emit_state s =
      set_own (push s base.output
      (record {
        tags = (first_or credit (s.own (base.proc + 1)).held).tags;
        body = joined_of units.tree node (bodies (s.own (base.proc + 1)).held);
      })) (base.proc + 1)
      (record { number = (s.own (base.proc + 1)).number; held = [] })

  spot_small : (h : ℕ) → h < suc (last_element units.tree node) → spot (pieces_of units node n (roles 0).meaning) h ≡ h % n
  unfolding spot
  spot_small h l = ap (λ z. z % n) (mod-eq_of_lt l)

  module _ (s : State) where
    take_around : Around base n s (take_state s)
    unfolding take_state set_own pop
    take_around = record {
      tokens = λ c i o f. at-other s.tokens base.input (rest_of (s.tokens base.input)) c i;
      own = λ p h k. at-other s.own base.proc (record { number = 0; held = first_or credit (s.tokens base.input) ∷ [] }) p h;
      unsent = refl;
      sent = refl;
      emitted = refl;
    }

    send_around : Around base n s (send_state s)
    unfolding send_state set_own push
    send_around = record {
      tokens = λ c i o f.
          at-other s.tokens (base.chan + (s.own base.proc).number % n)
          (s.tokens (base.chan + (s.own base.proc).number % n)
          ++ over (element_of units.tree node (s.own base.proc).number) (first_or credit (s.own base.proc).held) ∷ []) c
          (λ e. omega (arith, f, e, mod-lt (s.own base.proc).number pos));
      own = λ p h k. at-other s.own base.proc (after_piece (s.own base.proc)) p h;
      unsent = refl;
      sent = refl;
      emitted = refl;
    }

    collect_around : Around base n s (collect_state s)
    unfolding collect_state set_own pop
    collect_around = record {
      tokens = λ c i o f.
          at-other s.tokens (base.chan + n + length (s.own (base.proc + 1)).held % n)
          (rest_of (s.tokens (base.chan + n + length (s.own (base.proc + 1)).held % n))) c
          (λ e. omega (arith, f, e, mod-lt (length (s.own (base.proc + 1)).held) pos));
      own = λ p h k.
          at-other s.own (base.proc + 1)
          (record {
            number = (s.own (base.proc + 1)).number;
            held = (s.own (base.proc + 1)).held
                ++ first_or credit (s.tokens (base.chan + n + length (s.own (base.proc + 1)).held % n)) ∷ [];
          }) p k;
      unsent = refl;
      sent = refl;
      emitted = refl;
    }

    emit_around : Around base n s (emit_state s)
    unfolding emit_state set_own push
    emit_around = record {
      tokens = λ c i o f.
          at-other s.tokens base.output
          (s.tokens base.output
          ++ record {
            tags = (first_or credit (s.own (base.proc + 1)).held).tags;
            body = joined_of units.tree node (bodies (s.own (base.proc + 1)).held);
          } ∷ []) c o;
      own = λ p h k. at-other s.own (base.proc + 1) (record { number = (s.own (base.proc + 1)).number; held = [] }) p k;
      unsent = refl;
      sent = refl;
      emitted = refl;
    }

    -- TAKE
    take_other : (c : ℕ) → c ≢ base.input → (take_state s).tokens c ≡ s.tokens c
    unfolding take_state
    take_other c h = set_tokens (pop s base.input) base.proc _ c ∙ pop_other s base.input c h

    take_in : (take_state s).tokens base.input ≡ rest_of (s.tokens base.input)
    unfolding take_state
    take_in = set_tokens (pop s base.input) base.proc _ base.input ∙ pop_same s base.input

    take_scatter : (take_state s).own base.proc ≡ record { number = 0; held = first_or credit (s.tokens base.input) ∷ [] }
    unfolding take_state
    take_scatter = own_same (pop s base.input) base.proc _

    take_gather : (take_state s).own (base.proc + 1) ≡ s.own (base.proc + 1)
    unfolding take_state
    take_gather =
        own_other (pop s base.input) base.proc _ (base.proc + 1) (omega arith) ∙ pop_own s base.input (base.proc + 1)

    no_token : (ts : List Token) → has_first ts ≡ false → ts ≡ []
    no_token ts h = emptied ts h

    take_right : Kept Q (view_of base Ps s) → has_first (s.own base.proc).held ≡ false →
        has_first (s.tokens base.input) ≡ true → Goes Q (view_of base Ps s) (view_of base Ps (take_state s))
    take_right k none full =
        let x : Token = first_or credit (s.tokens base.input) in
        let al = fan.alike s (take_state s) take_around in
        let v : View =
        take_view Q (omega arith) pos (view_of base Ps s) k (first_or credit (s.tokens base.input))
        (rest_of (s.tokens base.input)) in
        let ls : (w : ℕ) → w < n → lines_of Ps (take_state s) w ≡ lines_of Ps s w =
        λ w l. fan.line_kept s (take_state s) w l (take_other _ (omega (arith, placed.good.input)))
        (take_other _ (omega (arith, placed.good.input))) (al w l).pending in
        let e : view_of base Ps (take_state s)
        ≡ record {
          lines = lines_of Ps (take_state s);
          held = (s.own (base.proc + 1)).held;
          sending = first_or credit (s.tokens base.input) ∷ [];
          sent = 0;
          input = rest_of (s.tokens base.input);
          output = s.tokens base.output;
        } =
        λ i. record {
          lines = lines_of Ps (take_state s);
          held = (take_gather i).held;
          sending = (take_scatter i).held;
          sent = (take_scatter i).number;
          input = take_in i;
          output = take_other base.output (λ z. placed.good.apart (sym z)) i;
        } in
        subst (λ z. Goes Q (view_of base Ps s) z) (sym e)
        (near_goes Q
        (take_view Q (omega arith) pos (view_of base Ps s) k (first_or credit (s.tokens base.input)) (rest_of (s.tokens base.input)))
        (lines_of Ps (take_state s)) ls (view_of base Ps s)
        (take_goes Q (omega arith) pos (view_of base Ps s) k (first_or credit (s.tokens base.input)) (rest_of (s.tokens base.input))
        (emptied _ none) (front _ full)))

    -- EMIT
    emit_other : (c : ℕ) → c ≢ base.output → (emit_state s).tokens c ≡ s.tokens c
    unfolding emit_state
    emit_other c h = set_tokens (push s base.output _) (base.proc + 1) _ c ∙ push_other s base.output _ c h

    emit_out : (emit_state s).tokens base.output ≡ s.tokens base.output ++ joined Q (s.own (base.proc + 1)).held ∷ []
    unfolding emit_state joined
    emit_out = set_tokens (push s base.output _) (base.proc + 1) _ base.output ∙ push_same s base.output _

    emit_gather : (emit_state s).own (base.proc + 1) ≡ record { number = (s.own (base.proc + 1)).number; held = [] }
    unfolding emit_state
    emit_gather = own_same (push s base.output _) (base.proc + 1) _

    emit_scatter : (emit_state s).own base.proc ≡ s.own base.proc
    unfolding emit_state
    emit_scatter =
        own_other (push s base.output _) (base.proc + 1) _ base.proc (omega arith) ∙ push_own s base.output _ base.proc

    emit_right : Kept Q (view_of base Ps s) → length (s.own (base.proc + 1)).held ≡ suc (last_element units.tree node) →
        Goes Q (view_of base Ps s) (view_of base Ps (emit_state s))
    emit_right k full =
        let al = fan.alike s (emit_state s) emit_around in
        let ls : (w : ℕ) → w < n → lines_of Ps (emit_state s) w ≡ lines_of Ps s w =
        λ w l. fan.line_kept s (emit_state s) w l (emit_other _ (omega (arith, placed.good.output)))
        (emit_other _ (omega (arith, placed.good.output))) (al w l).pending in
        let e : view_of base Ps (emit_state s)
        ≡ record {
          lines = lines_of Ps (emit_state s);
          held = [];
          sending = (s.own base.proc).held;
          sent = (s.own base.proc).number;
          input = s.tokens base.input;
          output = s.tokens base.output ++ joined Q (s.own (base.proc + 1)).held ∷ [];
        } =
        λ i. record {
          lines = lines_of Ps (emit_state s);
          held = (emit_gather i).held;
          sending = (emit_scatter i).held;
          sent = (emit_scatter i).number;
          input = emit_other base.input placed.good.apart i;
          output = emit_out i;
        } in
        subst (λ z. Goes Q (view_of base Ps s) z) (sym e)
        (near_goes Q (emit_view Q (omega arith) pos (view_of base Ps s) k) (lines_of Ps (emit_state s)) ls
        (view_of base Ps s)
        (emit_goes Q (omega arith) pos (view_of base Ps s) k full))

    -- COLLECT
    collect_other : (c : ℕ) → c ≢ base.chan + n + length (s.own (base.proc + 1)).held % n →
        (collect_state s).tokens c ≡ s.tokens c
    unfolding collect_state
    collect_other c h =
        set_tokens (pop s (base.chan + n + length (s.own (base.proc + 1)).held % n)) (base.proc + 1) _ c
        ∙ pop_other s _ c h

    collect_at : (collect_state s).tokens (base.chan + n + length (s.own (base.proc + 1)).held % n)
        ≡ rest_of (s.tokens (base.chan + n + length (s.own (base.proc + 1)).held % n))
    unfolding collect_state
    collect_at =
        set_tokens (pop s (base.chan + n + length (s.own (base.proc + 1)).held % n)) (base.proc + 1) _ _ ∙ pop_same s _

    collect_gather : (collect_state s).own (base.proc + 1)
        ≡ record {
          number = (s.own (base.proc + 1)).number;
          held = (s.own (base.proc + 1)).held
              ++ first_or credit (s.tokens (base.chan + n + length (s.own (base.proc + 1)).held % n)) ∷ [];
        }
    unfolding collect_state
    collect_gather = own_same (pop s (base.chan + n + length (s.own (base.proc + 1)).held % n)) (base.proc + 1) _

    collect_scatter : (collect_state s).own base.proc ≡ s.own base.proc
    unfolding collect_state
    collect_scatter =
        own_other (pop s (base.chan + n + length (s.own (base.proc + 1)).held % n)) (base.proc + 1) _ base.proc
        (omega arith) ∙ pop_own s _ base.proc

    -- the line of worker w begins with the front of its out channel
    line_front : (w : ℕ) → w < n → has_first (s.tokens (base.chan + n + w)) ≡ true →
        lines_of Ps s w
        ≡ first_or credit (s.tokens (base.chan + n + w)) ∷
        (rest_of (s.tokens (base.chan + n + w))
        ++ ((get_or Ps w no_part).pending s
        ++ map (over (get_or Ps w no_part).meaning) (s.tokens (get_or Ps w no_part).input)))
    unfolding line
    line_front w l full =
        ap (λ z. z ++ ((get_or Ps w no_part).pending s
        ++ map (over (get_or Ps w no_part).meaning) (s.tokens (get_or Ps w no_part).input)))
        (ap s.tokens (fan.all.output w l) ∙ front _ full)

    front_parts : (ts us : List Token) (x : Token) → ts ≡ x ∷ us →
        (has_first ts ≡ true) × (first_or credit ts ≡ x) × (rest_of ts ≡ us)
    front_parts ts us x e = (ap has_first e, ap (first_or credit) e, ap rest_of e)

    collect_right : Kept Q (view_of base Ps s) → length (s.own (base.proc + 1)).held < suc (last_element units.tree node) →
        has_first (s.tokens (base.chan + n + length (s.own (base.proc + 1)).held % n)) ≡ true →
        Goes Q (view_of base Ps s) (view_of base Ps (collect_state s))
    unfolding line
    collect_right k room full =
        let h : ℕ = length (s.own (base.proc + 1)).held in
        let b : length (s.own (base.proc + 1)).held % n < n = mod-lt (length (s.own (base.proc + 1)).held) pos in
        let al = fan.alike s (collect_state s) collect_around in
        let sp : spot Q (length (s.own (base.proc + 1)).held) ≡ length (s.own (base.proc + 1)).held % n =
        spot_small (length (s.own (base.proc + 1)).held) room in
        let fr = front_parts _ _ _ (line_front (length (s.own (base.proc + 1)).held % n) b full) in
        let ls : (w : ℕ) → w < n →
        lines_of Ps (collect_state s) w
        ≡ at (lines_of Ps s) (length (s.own (base.proc + 1)).held % n)
        (rest_of (lines_of Ps s (length (s.own (base.proc + 1)).held % n))) w =
        λ w l. elim (cases_eq w (length (s.own (base.proc + 1)).held % n)) [
          | inl e ↦
              subst (λ u. lines_of Ps (collect_state s) u
              ≡ at (lines_of Ps s) (length (s.own (base.proc + 1)).held % n)
              (rest_of (lines_of Ps s (length (s.own (base.proc + 1)).held % n))) u) (sym e)
              (ap₂ (λ x y. x ++ y) (ap (collect_state s).tokens (fan.all.output _ b) ∙ collect_at)
              (ap₂ (λ x y. x ++ map (over (get_or Ps (length (s.own (base.proc + 1)).held % n) no_part).meaning) y)
              (al _ b).pending
              (ap (collect_state s).tokens (fan.all.input _ b) ∙ collect_other _ (omega (arith, b))
              ∙ sym (ap s.tokens (fan.all.input _ b))))
              ∙ sym fr.2 ∙ sym (at-same (lines_of Ps s) (length (s.own (base.proc + 1)).held % n) _))
          | inr e ↦
              fan.line_kept s (collect_state s) w l (collect_other _ (omega (arith, l)))
              (collect_other _ (λ d. e (omega (arith, d)))) (al w l).pending
              ∙ sym (at-other (lines_of Ps s) (length (s.own (base.proc + 1)).held % n) _ w e)
        ] in
        let e : view_of base Ps (collect_state s)
        ≡ record {
          lines = lines_of Ps (collect_state s);
          held = (s.own (base.proc + 1)).held
              ++ first_or credit (lines_of Ps s (spot Q (length (s.own (base.proc + 1)).held))) ∷ [];
          sending = (s.own base.proc).held;
          sent = (s.own base.proc).number;
          input = s.tokens base.input;
          output = s.tokens base.output;
        } =
        λ i. record {
          lines = lines_of Ps (collect_state s);
          held = (ap (λ o. o.held) collect_gather
              ∙ ap (λ z. (s.own (base.proc + 1)).held ++ z ∷ [])
              (sym fr.1 ∙ ap (λ z. first_or credit (lines_of Ps s z)) (sym sp))) i;
          sending = (collect_scatter i).held;
          sent = (collect_scatter i).number;
          input = collect_other base.input (omega (arith, placed.good.input)) i;
          output = collect_other base.output (omega (arith, placed.good.output)) i;
        } in
        subst (λ z. Goes Q (view_of base Ps s) z) (sym e)
        (near_goes Q (collect_view Q (omega arith) pos (view_of base Ps s) k) (lines_of Ps (collect_state s))
        (λ w l. ls w l ∙ ap (λ z. at (lines_of Ps s) z (rest_of (lines_of Ps s z)) w) (sym sp))
        (view_of base Ps s)
        (collect_goes Q (omega arith) pos (view_of base Ps s) k room (ap (λ z. has_first (lines_of Ps s z)) sp ∙ fr.0)))

    -- SEND
    send_other : (c : ℕ) → c ≢ base.chan + (s.own base.proc).number % n → (send_state s).tokens c ≡ s.tokens c
    unfolding send_state
    send_other c h =
        set_tokens (push s (base.chan + (s.own base.proc).number % n) _) base.proc _ c ∙ push_other s _ _ c h

    send_at : (send_state s).tokens (base.chan + (s.own base.proc).number % n)
        ≡ s.tokens (base.chan + (s.own base.proc).number % n)
        ++ over (element_of units.tree node (s.own base.proc).number) (first_or credit (s.own base.proc).held) ∷ []
    unfolding send_state
    send_at = set_tokens (push s (base.chan + (s.own base.proc).number % n) _) base.proc _ _ ∙ push_same s _ _

    send_scatter : (send_state s).own base.proc ≡ after_piece (s.own base.proc)
    unfolding send_state
    send_scatter = own_same (push s (base.chan + (s.own base.proc).number % n) _) base.proc _

    send_gather : (send_state s).own (base.proc + 1) ≡ s.own (base.proc + 1)
    unfolding send_state
    send_gather =
        own_other (push s (base.chan + (s.own base.proc).number % n) _) base.proc _ (base.proc + 1) (omega arith)
        ∙ push_own s _ _ (base.proc + 1)

    one_held : (ts : List Token) (k : ℕ) → scatter_ok Q ts k ≡ true → has_first ts ≡ true → ts ≡ first_or credit ts ∷ []
    unfolding scatter_ok
    one_held [] k h g = cc
    one_held (x ∷ []) k h g = refl
    one_held (x ∷ (y ∷ ys)) k h g = cc

    piece_is : (k : ℕ) (x : Token) → over (roles 0).meaning (over (element_of units.tree node k) x) ≡ piece Q k x
    piece_is k x = refl

    send_line : lines_of Ps (send_state s) ((s.own base.proc).number % n)
        ≡ lines_of Ps s ((s.own base.proc).number % n)
        ++ piece Q (s.own base.proc).number (first_or credit (s.own base.proc).held) ∷ []
    unfolding line
    send_line =
        let b : (s.own base.proc).number % n < n = mod-lt (s.own base.proc).number pos in
        let al = fan.alike s (send_state s) send_around in
        ap₂ (λ x y. x ++ y)
        (ap (send_state s).tokens (fan.all.output _ b) ∙ send_other _ (omega (arith, b))
        ∙ sym (ap s.tokens (fan.all.output _ b)))
        (ap₂ (λ x y. x ++ map (over (get_or Ps ((s.own base.proc).number % n) no_part).meaning) y) (al _ b).pending
        (ap (send_state s).tokens (fan.all.input _ b) ∙ send_at
        ∙ sym (ap (λ c. s.tokens c ++ over (element_of units.tree node (s.own base.proc).number) (first_or credit (s.own base.proc).held) ∷ [])
        (fan.all.input _ b)))
        ∙ ap (λ z. (get_or Ps ((s.own base.proc).number % n) no_part).pending s ++ z)
        (map-append _ (s.tokens (get_or Ps ((s.own base.proc).number % n) no_part).input)
        (over (element_of units.tree node (s.own base.proc).number) (first_or credit (s.own base.proc).held) ∷ [])
        ∙ ap (λ f. map (over (get_or Ps ((s.own base.proc).number % n) no_part).meaning)
        (s.tokens (get_or Ps ((s.own base.proc).number % n) no_part).input)
        ++ over f (over (element_of units.tree node (s.own base.proc).number) (first_or credit (s.own base.proc).held)) ∷ [])
        (fan.all.meaning _ b)
        ∙ ap (λ z. map (over (get_or Ps ((s.own base.proc).number % n) no_part).meaning)
        (s.tokens (get_or Ps ((s.own base.proc).number % n) no_part).input)
        ++ z ∷ []) (piece_is (s.own base.proc).number (first_or credit (s.own base.proc).held)))
        ∙ sym (append_assoc ((get_or Ps ((s.own base.proc).number % n) no_part).pending s) _ _))
        ∙ sym (append_assoc (s.tokens (get_or Ps ((s.own base.proc).number % n) no_part).output) _ _)

    send_lines : (w : ℕ) → w < n →
        lines_of Ps (send_state s) w
        ≡ at (lines_of Ps s) ((s.own base.proc).number % n)
        (lines_of Ps s ((s.own base.proc).number % n)
        ++ piece Q (s.own base.proc).number (first_or credit (s.own base.proc).held) ∷ []) w
    send_lines w l =
        elim (cases_eq w ((s.own base.proc).number % n)) [
          | inl e ↦
              subst (λ v. lines_of Ps (send_state s) v
              ≡ at (lines_of Ps s) ((s.own base.proc).number % n)
              (lines_of Ps s ((s.own base.proc).number % n)
              ++ piece Q (s.own base.proc).number (first_or credit (s.own base.proc).held) ∷ []) v) (sym e)
              (send_line ∙ sym (at-same (lines_of Ps s) ((s.own base.proc).number % n) _))
          | inr e ↦
              fan.line_kept s (send_state s) w l (send_other _ (λ d. e (omega (arith, d))))
              (send_other _ (omega (arith, mod-lt (s.own base.proc).number pos)))
              (fan.alike s (send_state s) send_around w l).pending
              ∙ sym (at-other (lines_of Ps s) ((s.own base.proc).number % n) _ w e)
        ]

    send_to : (k : Kept Q (view_of base Ps s)) (sd : List Token) (m : ℕ) →
        Next Q (omega arith) pos (view_of base Ps s) k (first_or credit (s.own base.proc).held) sd m →
        (after_piece (s.own base.proc)).held ≡ sd → (after_piece (s.own base.proc)).number ≡ m →
        (s.own base.proc).held ≡ first_or credit (s.own base.proc).held ∷ [] →
        Goes Q (view_of base Ps s) (view_of base Ps (send_state s))
    send_to k sd m t eh ec one =
        let e : view_of base Ps (send_state s)
        ≡ record {
          lines = lines_of Ps (send_state s);
          held = (s.own (base.proc + 1)).held;
          sending = sd;
          sent = m;
          input = s.tokens base.input;
          output = s.tokens base.output;
        } =
        λ i. record {
          lines = lines_of Ps (send_state s);
          held = (send_gather i).held;
          sending = (ap (λ o. o.held) send_scatter ∙ eh) i;
          sent = (ap (λ o. o.number) send_scatter ∙ ec) i;
          input = send_other base.input (omega (arith, placed.good.input)) i;
          output = send_other base.output (omega (arith, placed.good.output)) i;
        } in
        subst (λ z. Goes Q (view_of base Ps s) z) (sym e)
        (near_goes Q (send_view Q (omega arith) pos (view_of base Ps s) k (first_or credit (s.own base.proc).held) sd m)
        (lines_of Ps (send_state s)) send_lines (view_of base Ps s)
        (send_goes Q (omega arith) pos (view_of base Ps s) k (first_or credit (s.own base.proc).held) sd m t one))

    more_piece : (o : LocalState) → nat_lt o.number (last_element units.tree node) ≡ true →
        (after_piece o ≡ record { number = o.number + 1; held = o.held })
    unfolding after_piece
    more_piece o h = cond-true _ _ _ h

    last_piece : (o : LocalState) → nat_lt o.number (last_element units.tree node) ≡ false → (after_piece o ≡ fresh)
    unfolding after_piece
    last_piece o h = cond-false _ _ _ h

    send_right : Kept Q (view_of base Ps s) → has_first (s.own base.proc).held ≡ true →
        Goes Q (view_of base Ps s) (view_of base Ps (send_state s))
    send_right k full =
        let one = one_held (s.own base.proc).held (s.own base.proc).number k.scatter full in
        elim (cases_Bool (nat_lt (s.own base.proc).number (last_element units.tree node))) [
          | inl e ↦
              let z = more_piece (s.own base.proc) e in
              let l = ltb-true _ _ e in
              send_to k (first_or credit (s.own base.proc).held ∷ []) (suc (s.own base.proc).number) (More (omega (arith, l)))
              (ap (λ o. o.held) z ∙ one) (ap (λ o. o.number) z ∙ omega arith) one
          | inr e ↦
              let z = last_piece (s.own base.proc) e in
              send_to k [] 0 (Done (omega (arith, ltb-false _ _ e))) (ap (λ o. o.held) z) (ap (λ o. o.number) z) one
        ]

    -- THE ROWS GIVE THESE STATES
    scatter_stands : slice_get net.procs base.proc ≡ Some (scatter_proc node n base)
    scatter_stands = (stands_two net base.proc _ (gather_proc node n base) placed.procs).0

    gather_stands : slice_get net.procs (base.proc + 1) ≡ Some (gather_proc node n base)
    gather_stands = (stands_two net base.proc (scatter_proc node n base) _ placed.procs).1

    scatter_chan : (k : ℕ) →
        out_of (scatter_proc node n base) (k % length (scatter_proc node n base).outs) ≡ base.chan + k % n
    scatter_chan k =
        ap (λ z. get_or (numbers_from base.chan n) (k % z) 0) (numbers_length base.chan n)
        ∙ numbers_at base.chan n (k % n) (mod-lt k pos)

    gather_chan : (k : ℕ) →
        in_of (gather_proc node n base) (k % length (gather_proc node n base).ins) ≡ base.chan + n + k % n
    gather_chan k =
        ap (λ z. get_or (numbers_from (base.chan + n) n) (k % z) 0) (numbers_length (base.chan + n) n)
        ∙ numbers_at (base.chan + n) n (k % n) (mod-lt k pos)

    scatter_fires : fire units.tree units.leaf net s base.proc ≡ cond (has_first (s.own base.proc).held) (send_state s) (take_state s)
    unfolding row_fire send_state take_state after_piece scatter.fire gather.fire scatter.element_sent scatter.after_element gather.is_full gather.whole_sent
    scatter_fires =
        fire_at net units s base.proc (scatter_proc node n base) scatter_stands
        ∙ ap (λ c. cond (has_first (s.own base.proc).held)
        (set_own (push s c (over (element_of units.tree node (s.own base.proc).number) (first_or credit (s.own base.proc).held))) base.proc
        (cond (nat_lt (s.own base.proc).number (last_element units.tree node)) (counted (s.own base.proc)) fresh))
        (set_own (pop s base.input) base.proc (record { number = 0; held = first_or credit (s.tokens base.input) ∷ [] })))
        (scatter_chan (s.own base.proc).number)

    gather_fires : fire units.tree units.leaf net s (base.proc + 1)
        ≡ cond (nat_lt (last_element units.tree node) (length (s.own (base.proc + 1)).held)) (emit_state s) (collect_state s)
    unfolding row_fire emit_state collect_state scatter.fire gather.fire scatter.element_sent scatter.after_element gather.is_full gather.whole_sent
    gather_fires =
        fire_at net units s (base.proc + 1) (gather_proc node n base) gather_stands
        ∙ ap (λ c. cond (nat_lt (last_element units.tree node) (length (s.own (base.proc + 1)).held))
        (set_own (push s base.output
        (record {
          tags = (first_or credit (s.own (base.proc + 1)).held).tags;
          body = joined_of units.tree node (bodies (s.own (base.proc + 1)).held);
        })) (base.proc + 1) (record { number = (s.own (base.proc + 1)).number; held = [] }))
        (set_own (pop s c) (base.proc + 1)
        (record {
          number = (s.own (base.proc + 1)).number;
          held = (s.own (base.proc + 1)).held ++ first_or credit (s.tokens c) ∷ [];
        }))) (gather_chan (length (s.own (base.proc + 1)).held))

    scatter_can : is_ready units.tree net s base.proc ≡ true →
        cond (has_first (s.own base.proc).held) (has_room net s (base.chan + (s.own base.proc).number % n))
        (has_first (s.tokens base.input)) ≡ true
    unfolding row_can scatter.can gather.can gather.is_full
    scatter_can can =
        ap (λ c. cond (has_first (s.own base.proc).held) (has_room net s c) (has_first (s.tokens base.input)))
        (sym (scatter_chan (s.own base.proc).number))
        ∙ can_at net units s base.proc (scatter_proc node n base) scatter_stands can

    gather_can : is_ready units.tree net s (base.proc + 1) ≡ true →
        cond (nat_lt (last_element units.tree node) (length (s.own (base.proc + 1)).held)) (has_room net s base.output)
        (has_first (s.tokens (base.chan + n + length (s.own (base.proc + 1)).held % n))) ≡ true
    unfolding row_can scatter.can gather.can gather.is_full
    gather_can can =
        ap (λ c. cond (nat_lt (last_element units.tree node) (length (s.own (base.proc + 1)).held)) (has_room net s base.output)
        (has_first (s.tokens c))) (sym (gather_chan (length (s.own (base.proc + 1)).held)))
        ∙ can_at net units s (base.proc + 1) (gather_proc node n base) gather_stands can

    scatter_around : Around base n s (fire units.tree units.leaf net s base.proc)
    scatter_around =
        elim (cases_Bool (has_first (s.own base.proc).held)) [
          | inl e ↦ subst (λ t. Around base n s t) (sym (scatter_fires ∙ cond-true _ _ _ e)) send_around
          | inr e ↦ subst (λ t. Around base n s t) (sym (scatter_fires ∙ cond-false _ _ _ e)) take_around
        ]

    gather_around : Around base n s (fire units.tree units.leaf net s (base.proc + 1))
    gather_around =
        elim (cases_Bool (nat_lt (last_element units.tree node) (length (s.own (base.proc + 1)).held))) [
          | inl e ↦ subst (λ t. Around base n s t) (sym (gather_fires ∙ cond-true _ _ _ e)) emit_around
          | inr e ↦ subst (λ t. Around base n s t) (sym (gather_fires ∙ cond-false _ _ _ e)) collect_around
        ]

    scatter_goes : Kept Q (view_of base Ps s) → is_ready units.tree net s base.proc ≡ true →
        Goes Q (view_of base Ps s) (view_of base Ps (fire units.tree units.leaf net s base.proc))
    scatter_goes k can =
        elim (cases_Bool (has_first (s.own base.proc).held)) [
          | inl e ↦
              subst (λ t. Goes Q (view_of base Ps s) (view_of base Ps t)) (sym (scatter_fires ∙ cond-true _ _ _ e))
              (send_right k e)
          | inr e ↦
              subst (λ t. Goes Q (view_of base Ps s) (view_of base Ps t)) (sym (scatter_fires ∙ cond-false _ _ _ e))
              (take_right k e (sym (cond-false _ _ _ e) ∙ scatter_can can))
        ]

    gather_goes : Kept Q (view_of base Ps s) → is_ready units.tree net s (base.proc + 1) ≡ true →
        Goes Q (view_of base Ps s) (view_of base Ps (fire units.tree units.leaf net s (base.proc + 1)))
    gather_goes k can =
        elim (cases_Bool (nat_lt (last_element units.tree node) (length (s.own (base.proc + 1)).held))) [
          | inl e ↦
              subst (λ t. Goes Q (view_of base Ps s) (view_of base Ps t)) (sym (gather_fires ∙ cond-true _ _ _ e))
              (emit_right k (omega (arith, ltb-true _ _ e, k.full)))
          | inr e ↦
              subst (λ t. Goes Q (view_of base Ps s) (view_of base Ps t)) (sym (gather_fires ∙ cond-false _ _ _ e))
              (collect_right k (omega (arith, ltb-false _ _ e)) (sym (cond-false _ _ _ e) ∙ gather_can can))
        ]

    -- A WORKER FIRES
    worker_goes : (t : State) → OneFired Ps s t → all_orderly Ps s ≡ true → Kept Q (view_of base Ps s) →
        Goes Q (view_of base Ps s) (view_of base Ps t)
    worker_goes t one h k =
        let ls = fan.lines s t one h in
        let g = fan.own s t one (base.proc + 1) (omega arith) in
        let c = fan.own s t one base.proc (omega arith) in
        let i = fan.input s t one in
        let o = fan.output s t one in
        let e : view_of base Ps t
        ≡ record {
          lines = lines_of Ps t;
          held = (s.own (base.proc + 1)).held;
          sending = (s.own base.proc).held;
          sent = (s.own base.proc).number;
          input = s.tokens base.input;
          output = s.tokens base.output;
        } =
        λ j. record {
          lines = lines_of Ps t;
          held = (g j).held;
          sending = (c j).held;
          sent = (c j).number;
          input = i j;
          output = o j;
        } in
        subst (λ z. Goes Q (view_of base Ps s) z) (sym e)
        (near_goes Q (view_of base Ps s) (lines_of Ps t) ls (view_of base Ps s) (record { kept = k; line = refl }))

    -- THE LAWS: what moves, and the step law
    -- Scatter and Gather have one way to fire
    scatter_way : (t : State) (A : State → Type 0) →
        (is_ready units.tree net s base.proc ≡ true → A (fire units.tree units.leaf net s base.proc)) →
        MayFire units.tree units.leaf net s base.proc t → A t
    scatter_way t A g way =
        let w = strict_at net units s base.proc (scatter_proc node n base) scatter_stands t strict_scatter way in
        subst A (sym w.1) (g w.0)

    gather_way : (t : State) (A : State → Type 0) →
        (is_ready units.tree net s (base.proc + 1) ≡ true → A (fire units.tree units.leaf net s (base.proc + 1))) →
        MayFire units.tree units.leaf net s (base.proc + 1) t → A t
    gather_way t A g way =
        let w = strict_at net units s (base.proc + 1) (gather_proc node n base) gather_stands t strict_gather way in
        subst A (sym w.1) (g w.0)

    pub map_moves : (t : State) (p : ℕ) → IsInside (map_part units node n roles base Ps) p → MayFire units.tree units.leaf net s p t →
        Moves (map_part units node n roles base Ps) s t
    map_moves t p i way =
        let P = map_part units node n roles base Ps in
        let own = around_moves net units roles n base Ps fan (map_fanned node n) s in
        fan_fires net units roles n base Ps fan (map_fanned node n) s t p i way (Moves P s t)
        (scatter_way t (Moves P s) (λ _. own _ scatter_around))
        (gather_way t (Moves P s) (λ _. own _ gather_around)) (one_moves net units roles n base Ps fan (map_fanned node n) s t)

    map_line : (t : State) → line (map_part units node n roles base Ps) t ≡ view_line Q (view_of base Ps t)
    unfolding line view_line
    map_line t = refl

    keeps_from : (t : State) → Goes Q (view_of base Ps s) (view_of base Ps t) → all_orderly Ps t ≡ true →
        Keeps (map_part units node n roles base Ps) s t
    keeps_from t g h =
        record {
          orderly = and_from _ _ (kept_from Q (view_of base Ps t) g.kept) h;
          line = map_line t ∙ g.line ∙ sym (map_line s);
        }

    own_orderly : (t : State) → Around base n s t → all_orderly Ps s ≡ true → all_orderly Ps t ≡ true
    own_orderly t a h = all_same Ps s t (λ w l. (fan.alike s t a w (omega (arith, fan.all.count))).orderly) ∙ h

    pub map_step : (t : State) (p : ℕ) → IsInside (map_part units node n roles base Ps) p → MayFire units.tree units.leaf net s p t →
        (map_part units node n roles base Ps).orderly s ≡ true →
        Keeps (map_part units node n roles base Ps) s t
    map_step t p i way h =
        let P = map_part units node n roles base Ps in
        let a = and_parts _ _ h in
        let k = kept_to Q (view_of base Ps s) a.0 in
        fan_fires net units roles n base Ps fan (map_fanned node n) s t p i way (Keeps P s t)
        (scatter_way t (Keeps P s) (λ c. keeps_from _ (scatter_goes k c) (own_orderly _ scatter_around a.1)))
        (gather_way t (Keeps P s) (λ c. keeps_from _ (gather_goes k c) (own_orderly _ gather_around a.1)))
        (λ one. keeps_from t (worker_goes t one a.1 k) (all_kept Ps s t one a.1))

    -- THE WORK
    view_length : (q : Pieces) (v : View) →
        length (view_line q v) ≡ length v.output + (length (to_come q v) + length v.input)
    unfolding view_line
    view_length q v =
        length-append v.output _
        ∙ ap (λ z. length v.output + z)
        (length-append (to_come q v) _ ∙ ap (λ z. length (to_come q v) + z) (length-map v.input (over (mapped q))))

    -- the number of tokens to come, by those that left and entered
    come_from : (t : State) → Goes Q (view_of base Ps s) (view_of base Ps t) →
        length (t.tokens base.output)
        + (length (to_come (pieces_of units node n (roles 0).meaning) (view_of base Ps t))
        + length (t.tokens base.input))
        ≡ length (s.tokens base.output)
        + (length (to_come (pieces_of units node n (roles 0).meaning) (view_of base Ps s))
        + length (s.tokens base.input))
    come_from t g = sym (view_length Q (view_of base Ps t)) ∙ ap length g.line ∙ view_length Q (view_of base Ps s)

    same_due : (t : State) → ((w : ℕ) → w < n → t.tokens (base.chan + w) ≡ s.tokens (base.chan + w)) →
        ((w : ℕ) → w < n → lines_of Ps t w ≡ lines_of Ps s w) →
        ((w : ℕ) → w < n → (get_or Ps w no_part).owed t ≡ (get_or Ps w no_part).owed s) →
        sum_of (λ w. due (get_or Ps w no_part) t + length (lines_of Ps t w)) n
        ≡ sum_of (λ w. due (get_or Ps w no_part) s + length (lines_of Ps s w)) n
    same_due t i l o =
        sum_same (λ w. due (get_or Ps w no_part) s + length (lines_of Ps s w))
        (λ w. due (get_or Ps w no_part) t + length (lines_of Ps t w)) n
        (λ w k. ap₂ (λ x y. x + length y) (fan.due_kept s t w k (i w k) (o w k)) (l w k))

    one_more : (ts : List Token) (x : Token) → length (ts ++ x ∷ []) ≡ length ts + 1
    one_more ts x = length-append ts (x ∷ [])

    take_works : Kept Q (view_of base Ps s) → has_first (s.own base.proc).held ≡ false →
        has_first (s.tokens base.input) ≡ true →
        due (map_part units node n roles base Ps) (take_state s) < due (map_part units node n roles base Ps) s
    unfolding due
    take_works k none full =
        let g = come_from (take_state s) (take_right k none full) in
        let al = fan.alike s (take_state s) take_around in
        let d = same_due (take_state s) (λ w l. take_other _ (omega (arith, placed.good.input)))
        (λ w l. fan.line_kept s (take_state s) w l (take_other _ (omega (arith, placed.good.input)))
        (take_other _ (omega (arith, placed.good.input))) (al w l).pending) (λ w l. (al w l).owed) in
        let o : length ((take_state s).tokens base.output) ≡ length (s.tokens base.output) =
        ap length (take_other base.output (λ z. placed.good.apart (sym z))) in
        let i : length ((take_state s).tokens base.input) ≡ length (rest_of (s.tokens base.input)) = ap length take_in in
        let f : length (s.tokens base.input) ≡ suc (length (rest_of (s.tokens base.input))) = ap length (front _ full) in
        let a : length ((take_state s).own base.proc).held
        * ((suc (last_element units.tree node) - ((take_state s).own base.proc).number) * ((roles 0).firings + 2))
        ≡ 1 * ((suc (last_element units.tree node) - 0) * ((roles 0).firings + 2)) =
        ap (λ z. length z.held * ((suc (last_element units.tree node) - z.number) * ((roles 0).firings + 2))) take_scatter in
        let a2 : 1 * ((suc (last_element units.tree node) - 0) * ((roles 0).firings + 2))
        ≡ suc (last_element units.tree node) * ((roles 0).firings + 2) = let z : suc (last_element units.tree node) - 0 ≡ suc (last_element units.tree node) =
        omega arith in ap (λ m. 1 * (m * ((roles 0).firings + 2))) z ∙ omega arith in
        let b : length (s.own base.proc).held
        * ((suc (last_element units.tree node) - (s.own base.proc).number) * ((roles 0).firings + 2)) ≡ 0 =
        ap (λ z. length z * ((suc (last_element units.tree node) - (s.own base.proc).number) * ((roles 0).firings + 2)))
        (emptied _ none) ∙ omega arith in
        let c : (2 + suc (last_element units.tree node) * ((roles 0).firings + 2)) * length (s.tokens base.input)
        ≡ (2 + suc (last_element units.tree node) * ((roles 0).firings + 2)) * length ((take_state s).tokens base.input)
        + (2 + suc (last_element units.tree node) * ((roles 0).firings + 2)) =
        ap (λ z. (2 + suc (last_element units.tree node) * ((roles 0).firings + 2)) * z) (f ∙ ap suc (sym i)) ∙ omega arith in
        omega (arith, g, d, o, i, f, a, a2, b, c)

    emit_works : Kept Q (view_of base Ps s) → length (s.own (base.proc + 1)).held ≡ suc (last_element units.tree node) →
        due (map_part units node n roles base Ps) (emit_state s) < due (map_part units node n roles base Ps) s
    unfolding due
    emit_works k full =
        let g = come_from (emit_state s) (emit_right k full) in
        let al = fan.alike s (emit_state s) emit_around in
        let d = same_due (emit_state s) (λ w l. emit_other _ (omega (arith, placed.good.output)))
        (λ w l. fan.line_kept s (emit_state s) w l (emit_other _ (omega (arith, placed.good.output)))
        (emit_other _ (omega (arith, placed.good.output))) (al w l).pending) (λ w l. (al w l).owed) in
        let o : length ((emit_state s).tokens base.output) ≡ length (s.tokens base.output) + 1 =
        ap length emit_out ∙ one_more _ _ in
        let i : length ((emit_state s).tokens base.input) ≡ length (s.tokens base.input) =
        ap length (emit_other base.input placed.good.apart) in
        let c : (2 + suc (last_element units.tree node) * ((roles 0).firings + 2)) * length ((emit_state s).tokens base.input)
        ≡ (2 + suc (last_element units.tree node) * ((roles 0).firings + 2)) * length (s.tokens base.input) =
        ap (λ z. (2 + suc (last_element units.tree node) * ((roles 0).firings + 2)) * z) i in
        let a : length ((emit_state s).own base.proc).held
        * ((suc (last_element units.tree node) - ((emit_state s).own base.proc).number) * ((roles 0).firings + 2))
        ≡ length (s.own base.proc).held * ((suc (last_element units.tree node) - (s.own base.proc).number) * ((roles 0).firings + 2)) =
        ap (λ z. length z.held * ((suc (last_element units.tree node) - z.number) * ((roles 0).firings + 2))) emit_scatter in
        omega (arith, g, d, o, i, c, a)

    collect_works : Kept Q (view_of base Ps s) → length (s.own (base.proc + 1)).held < suc (last_element units.tree node) →
        has_first (s.tokens (base.chan + n + length (s.own (base.proc + 1)).held % n)) ≡ true →
        due (map_part units node n roles base Ps) (collect_state s) < due (map_part units node n roles base Ps) s
    unfolding due line
    collect_works k room full =
        let b : length (s.own (base.proc + 1)).held % n < n = mod-lt (length (s.own (base.proc + 1)).held) pos in
        let g = come_from (collect_state s) (collect_right k room full) in
        let al = fan.alike s (collect_state s) collect_around in
        let x = sum_change (λ w. due (get_or Ps w no_part) s + length (lines_of Ps s w))
        (λ w. due (get_or Ps w no_part) (collect_state s) + length (lines_of Ps (collect_state s) w)) n
        (length (s.own (base.proc + 1)).held % n) b
        (λ w l m. ap₂ (λ y z. y + length z)
        (fan.due_kept s (collect_state s) w l (collect_other _ (omega (arith, l))) (al w l).owed)
        (fan.line_kept s (collect_state s) w l (collect_other _ (omega (arith, l)))
        (collect_other _ (λ d. m (omega (arith, d)))) (al w l).pending)) in
        let y : due (get_or Ps (length (s.own (base.proc + 1)).held % n) no_part) (collect_state s)
        ≡ due (get_or Ps (length (s.own (base.proc + 1)).held % n) no_part) s =
        fan.due_kept s (collect_state s) _ b (collect_other _ (omega (arith, b))) (al _ b).owed in
        let z : length (lines_of Ps s (length (s.own (base.proc + 1)).held % n))
        ≡ suc (length (lines_of Ps (collect_state s) (length (s.own (base.proc + 1)).held % n))) =
        ap length (line_front (length (s.own (base.proc + 1)).held % n) b full)
        ∙ ap (λ u. suc (length u))
        (sym (ap₂ (λ x y. x ++ y) (ap (collect_state s).tokens (fan.all.output _ b) ∙ collect_at)
        (ap₂ (λ x y. x ++ map (over (get_or Ps (length (s.own (base.proc + 1)).held % n) no_part).meaning) y)
        (al _ b).pending
        (ap (collect_state s).tokens (fan.all.input _ b) ∙ collect_other _ (omega (arith, b))
        ∙ sym (ap s.tokens (fan.all.input _ b)))))) in
        let o : length ((collect_state s).tokens base.output) ≡ length (s.tokens base.output) =
        ap length (collect_other base.output (omega (arith, placed.good.output))) in
        let i : length ((collect_state s).tokens base.input) ≡ length (s.tokens base.input) =
        ap length (collect_other base.input (omega (arith, placed.good.input))) in
        let c : (2 + suc (last_element units.tree node) * ((roles 0).firings + 2)) * length ((collect_state s).tokens base.input)
        ≡ (2 + suc (last_element units.tree node) * ((roles 0).firings + 2)) * length (s.tokens base.input) =
        ap (λ z. (2 + suc (last_element units.tree node) * ((roles 0).firings + 2)) * z) i in
        let a : length ((collect_state s).own base.proc).held
        * ((suc (last_element units.tree node) - ((collect_state s).own base.proc).number) * ((roles 0).firings + 2))
        ≡ length (s.own base.proc).held * ((suc (last_element units.tree node) - (s.own base.proc).number) * ((roles 0).firings + 2)) =
        ap (λ z. length z.held * ((suc (last_element units.tree node) - z.number) * ((roles 0).firings + 2))) collect_scatter in
        omega (arith, g, x, y, z, o, i, c, a)

    -- Scatter owes less after a piece
    scatter_falls : Kept Q (view_of base Ps s) → has_first (s.own base.proc).held ≡ true →
        length ((send_state s).own base.proc).held
        * ((suc (last_element units.tree node) - ((send_state s).own base.proc).number) * ((roles 0).firings + 2))
        + ((roles 0).firings + 2)
        ≡ length (s.own base.proc).held * ((suc (last_element units.tree node) - (s.own base.proc).number) * ((roles 0).firings + 2))
    scatter_falls k full =
        let one = one_held (s.own base.proc).held (s.own base.proc).number k.scatter full in
        let r : length (s.own base.proc).held
        * ((suc (last_element units.tree node) - (s.own base.proc).number) * ((roles 0).firings + 2))
        ≡ 1 * ((suc (last_element units.tree node) - (s.own base.proc).number) * ((roles 0).firings + 2)) =
        ap (λ z. length z * ((suc (last_element units.tree node) - (s.own base.proc).number) * ((roles 0).firings + 2))) one in
        elim (cases_Bool (nat_lt (s.own base.proc).number (last_element units.tree node))) [
          | inl e ↦
              let z = send_scatter ∙ more_piece (s.own base.proc) e in
              let l = ltb-true _ _ e in
              let a : length ((send_state s).own base.proc).held
              * ((suc (last_element units.tree node) - ((send_state s).own base.proc).number) * ((roles 0).firings + 2))
              ≡ 1 * ((suc (last_element units.tree node) - ((s.own base.proc).number + 1)) * ((roles 0).firings + 2)) =
              ap (λ y. length y.held * ((suc (last_element units.tree node) - y.number) * ((roles 0).firings + 2))) z
              ∙ ap (λ y. length y
              * ((suc (last_element units.tree node) - ((s.own base.proc).number + 1)) * ((roles 0).firings + 2))) one in
              let d : suc (last_element units.tree node) - (s.own base.proc).number
              ≡ suc (suc (last_element units.tree node) - ((s.own base.proc).number + 1)) = omega (arith, l) in
              let b : (suc (last_element units.tree node) - (s.own base.proc).number) * ((roles 0).firings + 2)
              ≡ suc (suc (last_element units.tree node) - ((s.own base.proc).number + 1)) * ((roles 0).firings + 2) =
              ap (λ y. y * ((roles 0).firings + 2)) d in
              omega (arith, a, b, r)
          | inr e ↦
              let z = send_scatter ∙ last_piece (s.own base.proc) e in
              let l = ltb-false _ _ e in
              let m = sent_below Q (omega arith) pos (view_of base Ps s) k (first_or credit (s.own base.proc).held) one in
              let a : length ((send_state s).own base.proc).held
              * ((suc (last_element units.tree node) - ((send_state s).own base.proc).number) * ((roles 0).firings + 2))
              ≡ 0 * ((suc (last_element units.tree node) - 0) * ((roles 0).firings + 2)) =
              ap (λ y. length y.held * ((suc (last_element units.tree node) - y.number) * ((roles 0).firings + 2))) z in
              let d : suc (last_element units.tree node) - (s.own base.proc).number ≡ 1 = omega (arith, l, m) in
              let b : (suc (last_element units.tree node) - (s.own base.proc).number) * ((roles 0).firings + 2)
              ≡ 1 * ((roles 0).firings + 2) = ap (λ y. y * ((roles 0).firings + 2)) d in
              omega (arith, a, b, r)
        ]

    send_works : Kept Q (view_of base Ps s) → has_first (s.own base.proc).held ≡ true →
        due (map_part units node n roles base Ps) (send_state s) < due (map_part units node n roles base Ps) s
    unfolding due
    send_works k full =
        let b : (s.own base.proc).number % n < n = mod-lt (s.own base.proc).number pos in
        let g = come_from (send_state s) (send_right k full) in
        let al = fan.alike s (send_state s) send_around in
        let x = sum_change (λ w. due (get_or Ps w no_part) s + length (lines_of Ps s w))
        (λ w. due (get_or Ps w no_part) (send_state s) + length (lines_of Ps (send_state s) w)) n
        ((s.own base.proc).number % n) b
        (λ w l m. ap₂ (λ y z. y + length z)
        (fan.due_kept s (send_state s) w l (send_other _ (λ d. m (omega (arith, d)))) (al w l).owed)
        (fan.line_kept s (send_state s) w l (send_other _ (λ d. m (omega (arith, d)))) (send_other _ (omega (arith, b)))
        (al w l).pending)) in
        let y : (get_or Ps ((s.own base.proc).number % n) no_part).firings
        * length ((send_state s).tokens (get_or Ps ((s.own base.proc).number % n) no_part).input)
        + (get_or Ps ((s.own base.proc).number % n) no_part).owed (send_state s)
        ≡ ((get_or Ps ((s.own base.proc).number % n) no_part).firings
        * length (s.tokens (get_or Ps ((s.own base.proc).number % n) no_part).input)
        + (get_or Ps ((s.own base.proc).number % n) no_part).owed s) + (roles 0).firings =
        ap₂ (λ u w. (get_or Ps ((s.own base.proc).number % n) no_part).firings * u + w)
        (ap length (ap (send_state s).tokens (fan.all.input _ b) ∙ send_at
        ∙ sym (ap (λ c. s.tokens c ++ over (element_of units.tree node (s.own base.proc).number) (first_or credit (s.own base.proc).held) ∷ [])
        (fan.all.input _ b))) ∙ one_more _ _) (al _ b).owed
        ∙ (let f = fan.all.firings _ b in omega (arith, f)) in
        let z : length (lines_of Ps (send_state s) ((s.own base.proc).number % n))
        ≡ length (lines_of Ps s ((s.own base.proc).number % n)) + 1 = ap length send_line ∙ one_more _ _ in
        let o : length ((send_state s).tokens base.output) ≡ length (s.tokens base.output) =
        ap length (send_other base.output (omega (arith, placed.good.output))) in
        let i : length ((send_state s).tokens base.input) ≡ length (s.tokens base.input) =
        ap length (send_other base.input (omega (arith, placed.good.input))) in
        let c : (2 + suc (last_element units.tree node) * ((roles 0).firings + 2)) * length ((send_state s).tokens base.input)
        ≡ (2 + suc (last_element units.tree node) * ((roles 0).firings + 2)) * length (s.tokens base.input) =
        ap (λ z. (2 + suc (last_element units.tree node) * ((roles 0).firings + 2)) * z) i in
        omega (arith, g, x, y, z, o, i, c, scatter_falls k full)

    worker_works : (t : State) → OneFired Ps s t → all_orderly Ps s ≡ true → Kept Q (view_of base Ps s) →
        due (map_part units node n roles base Ps) t < due (map_part units node n roles base Ps) s
    unfolding due
    worker_works t one h k =
        let b : one.which < n = omega (arith, one.below, fan.all.count) in
        let hq = all_at Ps s h one.which one.below in
        let g = come_from t (worker_goes t one h k) in
        let x = sum_change (λ w. due (get_or Ps w no_part) s + length (lines_of Ps s w))
        (λ w. due (get_or Ps w no_part) t + length (lines_of Ps t w)) n one.which b
        (λ w l m. ap₂ (λ y z. y + length z) (fan.dues s t one w l m) (fan.lines s t one h w l)) in
        let z : length (lines_of Ps t one.which) ≡ length (lines_of Ps s one.which) = ap length (one.keeps hq).line in
        let d = one.works hq in
        let a : length (t.own base.proc).held
        * ((suc (last_element units.tree node) - (t.own base.proc).number) * ((roles 0).firings + 2))
        ≡ length (s.own base.proc).held * ((suc (last_element units.tree node) - (s.own base.proc).number) * ((roles 0).firings + 2)) =
        ap (λ z. length z.held * ((suc (last_element units.tree node) - z.number) * ((roles 0).firings + 2)))
        (fan.own s t one base.proc (omega arith)) in
        let i : length (t.tokens base.input) ≡ length (s.tokens base.input) =
        ap length (fan.input s t one) in
        let o : length (t.tokens base.output) ≡ length (s.tokens base.output) =
        ap length (fan.output s t one) in
        let c : (2 + suc (last_element units.tree node) * ((roles 0).firings + 2)) * length (t.tokens base.input)
        ≡ (2 + suc (last_element units.tree node) * ((roles 0).firings + 2)) * length (s.tokens base.input) =
        ap (λ z. (2 + suc (last_element units.tree node) * ((roles 0).firings + 2)) * z) i in
        omega (arith, g, x, z, d, a, i, o, c)

    map_work : (t : State) (p : ℕ) → IsInside (map_part units node n roles base Ps) p → MayFire units.tree units.leaf net s p t →
        (map_part units node n roles base Ps).orderly s ≡ true →
        due (map_part units node n roles base Ps) t < due (map_part units node n roles base Ps) s
    map_work t p i way h =
        let P = map_part units node n roles base Ps in
        let a = and_parts _ _ h in
        let k = kept_to Q (view_of base Ps s) a.0 in
        fan_fires net units roles n base Ps fan (map_fanned node n) s t p i way (due P t < due P s)
        (scatter_way t (λ u. due P u < due P s) (λ c. elim (cases_Bool (has_first (s.own base.proc).held)) [
          | inl f ↦ subst (λ t. due P t < due P s) (sym (scatter_fires ∙ cond-true _ _ _ f)) (send_works k f)
          | inr f ↦
              subst (λ t. due P t < due P s) (sym (scatter_fires ∙ cond-false _ _ _ f))
              (take_works k f (sym (cond-false _ _ _ f) ∙ scatter_can c))
        ]))
        (gather_way t (λ u. due P u < due P s) (λ c. elim (cases_Bool (nat_lt (last_element units.tree node) (length (s.own (base.proc + 1)).held))) [
          | inl f ↦
              subst (λ t. due P t < due P s) (sym (gather_fires ∙ cond-true _ _ _ f))
              (emit_works k (omega (arith, ltb-true _ _ f, k.full)))
          | inr f ↦
              subst (λ t. due P t < due P s) (sym (gather_fires ∙ cond-false _ _ _ f))
              (collect_works k (omega (arith, ltb-false _ _ f)) (sym (cond-false _ _ _ f) ∙ gather_can c))
        ])) (λ one. worker_works t one a.1 k)

    -- DRAIN
    module _ (h : (map_part units node n roles base Ps).orderly s ≡ true)
        (quiet : (p : ℕ) → IsInside (map_part units node n roles base Ps) p → can_fire units.tree net s p ≡ false)
        (untrapped : has_trap s.emitted ≡ false) (room : has_room net s base.output ≡ true) where
      kept : Kept Q (view_of base Ps s)
      kept = kept_to Q (view_of base Ps s) (and_parts _ _ h).0

      gather_cannot : cond (nat_lt (last_element units.tree node) (length (s.own (base.proc + 1)).held)) (has_room net s base.output)
          (has_first (s.tokens (base.chan + n + length (s.own (base.proc + 1)).held % n))) ≡ false
      unfolding row_can scatter.can gather.can gather.is_full
      gather_cannot =
          ap (λ c. cond (nat_lt (last_element units.tree node) (length (s.own (base.proc + 1)).held)) (has_room net s base.output)
          (has_first (s.tokens c))) (sym (gather_chan (length (s.own (base.proc + 1)).held)))
          ∙ cannot_at net units s (base.proc + 1) (gather_proc node n base) gather_stands untrapped
          (quiet (base.proc + 1) (record { from = omega arith; to = omega (arith, fan.all.procs) }))

      scatter_cannot : cond (has_first (s.own base.proc).held)
          (has_room net s (base.chan + (s.own base.proc).number % n)) (has_first (s.tokens base.input)) ≡ false
      unfolding row_can scatter.can gather.can gather.is_full
      scatter_cannot =
          ap (λ c. cond (has_first (s.own base.proc).held) (has_room net s c) (has_first (s.tokens base.input)))
          (sym (scatter_chan (s.own base.proc).number))
          ∙ cannot_at net units s base.proc (scatter_proc node n base) scatter_stands untrapped
          (quiet base.proc (record { from = le_refl _; to = omega (arith, fan.all.procs) }))

      not_full : nat_lt (last_element units.tree node) (length (s.own (base.proc + 1)).held) ≡ false
      not_full =
          elim (cases_Bool (nat_lt (last_element units.tree node) (length (s.own (base.proc + 1)).held))) [
            | inl e ↦ let z : true ≡ false = sym room ∙ sym (cond-true _ _ _ e) ∙ gather_cannot in cc
            | inr e ↦ e
          ]

      held_few : length (s.own (base.proc + 1)).held < suc (last_element units.tree node)
      held_few = omega (arith, ltb-false _ _ not_full)

      worker_drained : (w : ℕ) → w < n → s.tokens (base.chan + n + w) ≡ [] → IsDrained (get_or Ps w no_part) s
      worker_drained =
          fan_drained net units roles n base Ps fan (map_fanned node n) s placed.chans
          (and_parts _ _ h).1 quiet untrapped

      line_dry : (w : ℕ) → w < n → s.tokens (base.chan + n + w) ≡ [] → lines_of Ps s w ≡ []
      unfolding line
      line_dry w l e =
          let d = worker_drained w l e in
          ap₂ (λ x y. x ++ y) (ap s.tokens (fan.all.output w l) ∙ e)
          (ap₂ (λ x y. x ++ map (over (get_or Ps w no_part).meaning) y) d.pending d.input)

      no_front : s.tokens (base.chan + n + length (s.own (base.proc + 1)).held % n) ≡ []
      no_front = emptied _ (sym (cond-false _ _ _ not_full) ∙ gather_cannot)

      -- no piece is under way if the line whose turn it is is dry
      none_due : (L : ℕ → List Token) (f : ℕ → ℕ) (c m : ℕ) → in_by L f n c m ≡ true → L (f c) ≡ [] → m ≡ 0
      unfolding in_by
      none_due L f c zero i e = refl
      none_due L f c (suc m) i e = let z : false ≡ true = ap has_first (sym e) ∙ (and_parts _ _ i).0 in
          absurd (elim_no z)
        where
          elim_no : false ≡ true → ⊥
          elim_no z = cc

      under_none : under_way Q (view_of base Ps s) ≡ 0
      under_none =
          none_due (lines_of Ps s) (spot (pieces_of units node n (roles 0).meaning))
          (length (s.own (base.proc + 1)).held) _ kept.in_turn
          (ap (lines_of Ps s) (spot_small (length (s.own (base.proc + 1)).held) held_few)
          ∙ line_dry _ (mod-lt (length (s.own (base.proc + 1)).held) pos) no_front)

      all_dry : (w : ℕ) → w < n → lines_of Ps s w ≡ []
      unfolding in_by
      all_dry w l =
          all_empty_at (lines_of Ps s) n w
          (ap (in_by (lines_of Ps s) (spot (pieces_of units node n (roles 0).meaning)) n
          (length (s.own (base.proc + 1)).held)) (sym under_none) ∙ kept.in_turn) l

      length_none : (xs ys : List Token) → xs ++ ys ≡ [] → (xs ≡ []) × (ys ≡ [])
      length_none [] ys e = (refl, e)
      length_none (x ∷ xs) ys e = cc

      in_dry : (w : ℕ) → w < n → s.tokens (base.chan + w) ≡ []
      unfolding line
      in_dry w l =
          ap s.tokens (sym (fan.all.input w l))
          ∙ (worker_drained w l (ap s.tokens (sym (fan.all.output w l)) ∙ (length_none _ _ (all_dry w l)).0)).input

      idle_scatter : has_first (s.own base.proc).held ≡ false
      idle_scatter =
          elim (cases_Bool (has_first (s.own base.proc).held)) [
            | inl e ↦
                let b : (s.own base.proc).number % n < n = mod-lt (s.own base.proc).number pos in
                let r = room_when_empty net s (base.chan + (s.own base.proc).number % n) (in_dry _ b)
                (placed.chans.room _ (omega arith) (omega (arith, b))) in
                let z : true ≡ false = sym r ∙ sym (cond-true _ _ _ e) ∙ scatter_cannot in cc
            | inr e ↦ e
          ]

      no_sending : (s.own base.proc).held ≡ []
      no_sending = emptied _ idle_scatter

      no_input : s.tokens base.input ≡ []
      no_input = emptied _ (sym (cond-false _ _ _ idle_scatter) ∙ scatter_cannot)

      no_held : (s.own (base.proc + 1)).held ≡ []
      no_held =
          let a : length (s.own (base.proc + 1)).held ≡ 0 =
          sym (mod-eq_of_lt held_few) ∙ ap (λ m. m % suc (last_element units.tree node)) (omega (arith, under_none))
          ∙ kept.place ∙ idle_next (s.own base.proc).held (s.own base.proc).number no_sending in
          none_left _ a

      map_drained : IsDrained (map_part units node n roles base Ps) s
      unfolding to_come whole unsent groups read_by
      map_drained = record {
        input = no_input;
        pending = ap (λ z. map (joined Q) (groups (suc (last_element units.tree node)) [] z))
            (λ i. no_held i
            ++ (read_by (lines_of Ps s) (spot Q) (length (no_held i)) (under_none i)
            ++ unsent Q (no_sending i) (s.own base.proc).number));
      }

  -- READS
  map_reads : (s t : State) → IsSameInside (map_part units node n roles base Ps) s t →
      IsAlike (map_part units node n roles base Ps) s t
  unfolding to_come well_kept whole
  map_reads s t same =
      let al = same_alike net units roles n base Ps fan (map_fanned node n) s t same in
      let c : t.own base.proc ≡ s.own base.proc = same.own base.proc (le_refl _) (omega (arith, fan.all.procs)) in
      let g : t.own (base.proc + 1) ≡ s.own (base.proc + 1) =
      same.own (base.proc + 1) (omega arith) (omega (arith, fan.all.procs)) in
      let ls : (w : ℕ) → w < n → lines_of Ps t w ≡ lines_of Ps s w =
      λ w l. fan.line_kept s t w l (same.tokens _ (omega arith) (omega (arith, l, fan.all.chans)))
      (same.tokens _ (omega arith) (omega (arith, l, fan.all.chans))) (al w l).pending in
      let p : to_come (pieces_of units node n (roles 0).meaning) (view_of base Ps t)
      ≡ to_come (pieces_of units node n (roles 0).meaning) (view_of base Ps s) =
      (λ i. to_come (pieces_of units node n (roles 0).meaning)
      (record {
        lines = lines_of Ps t;
        held = (g i).held;
        sending = (c i).held;
        sent = (c i).number;
        input = s.tokens base.input;
        output = s.tokens base.output;
      }))
      ∙ near-come Q (view_of base Ps s) (lines_of Ps t) ls in
      let o : well_kept (pieces_of units node n (roles 0).meaning) (view_of base Ps t)
      ≡ well_kept (pieces_of units node n (roles 0).meaning) (view_of base Ps s) =
      (λ i. well_kept (pieces_of units node n (roles 0).meaning)
      (record {
        lines = lines_of Ps t;
        held = (g i).held;
        sending = (c i).held;
        sent = (c i).number;
        input = s.tokens base.input;
        output = s.tokens base.output;
      }))
      ∙ near-kept Q (view_of base Ps s) (lines_of Ps t) ls in
      record {
        pending = p;
        orderly = ap₂ (λ x y. x && y) o (all_same Ps s t (λ w l. (al w (omega (arith, l, fan.all.count))).orderly));
        owed = ap₂ (λ x y. x + y)
            (sum_same (λ w. due (get_or Ps w no_part) s + length (lines_of Ps s w))
            (λ w. due (get_or Ps w no_part) t + length (lines_of Ps t w)) n
            (λ w l. ap₂ (λ x y. x + length y)
            (fan.due_kept s t w l (same.tokens _ (omega arith) (omega (arith, l, fan.all.chans)))
            (al w l).owed) (ls w l)))
            (ap₂ (λ x y. length x.held * ((suc (last_element units.tree node) - x.number) * ((roles 0).firings + 2)) + length y) c p);
      }

  -- BEGINS
  map_begins : (s : State) → IsFresh net (map_part units node n roles base Ps) s →
      Begins (map_part units node n roles base Ps) s
  unfolding line due to_come whole unsent groups read_by all_alike
  map_begins s fresh =
      let each = each_begins net units roles n base Ps fan (map_fanned node n) s fresh in
      let c = fresh.own base.proc (le_refl _) (omega (arith, fan.all.procs)) in
      let g = fresh.own (base.proc + 1) (omega arith) (omega (arith, fan.all.procs)) in
      let ls : (w : ℕ) → w < n → lines_of Ps s w ≡ [] =
      λ w l.
      ap₂ (λ x y. x ++ y)
      (ap s.tokens (fan.all.output w l)
      ∙ fan_empty net units roles n base Ps fan (map_fanned node n) placed.cap placed.laid s fresh _ (omega arith) (omega (arith, l)))
      (ap₂ (λ x y. x ++ map (over (get_or Ps w no_part).meaning) y) (each w l).pending
      (ap s.tokens (fan.all.input w l)
      ∙ fan_empty net units roles n base Ps fan (map_fanned node n) placed.cap placed.laid s fresh _ (omega arith) (omega (arith, l)))) in
      let u : total (lines_of Ps s) n ≡ 0 = total_none (lines_of Ps s) n ls in
      let w : whole (pieces_of units node n (roles 0).meaning) (view_of base Ps s) ≡ [] =
      λ i. (g i).held
      ++ (read_by (lines_of Ps s) (spot Q) (length (g i).held) (u i) ++ unsent Q (c i).held (c i).number) in
      let p : to_come (pieces_of units node n (roles 0).meaning) (view_of base Ps s) ≡ [] =
      ap (λ z. map (joined Q) (groups (suc (last_element units.tree node)) [] z)) w in
      record {
        orderly = and_from _ _ (kept_from Q (view_of base Ps s) (record {
          full = omega (arith, ap (λ o. length o.held) g);
          place = ap (λ m. m % suc (last_element units.tree node)) (omega (arith, ap (λ o. length o.held) g, u))
              ∙ mod-eq_of_lt {n = 0} {m = suc (last_element units.tree node)} (omega arith)
              ∙ sym (idle_next (s.own base.proc).held (s.own base.proc).number (ap (λ o. o.held) c));
          in_turn =
              ap (in_by (lines_of Ps s) (spot Q) n (length (s.own (base.proc + 1)).held)) u
              ∙ none_turn (lines_of Ps s) (spot Q) n (length (s.own (base.proc + 1)).held) ls;
          even = ap (left (suc (last_element units.tree node)) []) w ∙ none_over (suc (last_element units.tree node));
          alike = ap (λ z. all_alike (groups (suc (last_element units.tree node)) [] z)) w;
          scatter = ap (λ o. scatter_ok Q o.held o.number) c ∙ idle_ok Q;
        })) (all_from Ps s (λ w l. (each w (omega (arith, l, fan.all.count))).orderly));
        pending = p;
        owed = ap₂ (λ x y. x + y)
            (sum_none (λ w. due (get_or Ps w no_part) s + length (lines_of Ps s w)) n (λ w l.
            ap₂ (λ x y. ((get_or Ps w no_part).firings * length x + y) + length (lines_of Ps s w))
            (ap s.tokens (fan.all.input w l)
            ∙ fan_empty net units roles n base Ps fan (map_fanned node n) placed.cap placed.laid s fresh _ (omega arith)
            (omega (arith, l))) (each w l).owed
            ∙ ap (λ z. ((get_or Ps w no_part).firings * 0 + 0) + length z) (ls w l) ∙ omega arith))
            (ap₂ (λ x y. length x.held * ((suc (last_element units.tree node) - x.number) * ((roles 0).firings + 2)) + length y) c p)
            ∙ omega arith;
      }

  -- SIZE
  map_size : (s : State) → (map_part units node n roles base Ps).orderly s ≡ true →
      IsSized (map_part units node n roles base Ps) s
  map_size s h =
      let a = and_parts (well_kept (pieces_of units node n (roles 0).meaning) (view_of base Ps s))
      (all_orderly Ps s) h in
      let k = kept_to (pieces_of units node n (roles 0).meaning) (view_of base Ps s) a.0 in
      let all : ℕ = sum_of (worker_holds net units roles n base Ps fan s) n in
      let t1 = dues_bound net units roles n base Ps fan s a.1 in
      let u1 = lines_bound net units roles n base Ps fan s a.1 in
      let u2 = total_sum (lines_of Ps s) n in
      let g = come_bound (pieces_of units node n (roles 0).meaning) (last_element units.tree node) (view_of base Ps s) refl k in
      let i = fan_inside net units roles n base Ps fan s (map_fanned node n) in
      let x : suc (last_element units.tree node) * ((roles 0).firings + 2)
      ≡ last_element units.tree node * ((roles 0).firings + 2) + ((roles 0).firings + 2) = omega arith in
      let w1 =
      le_times (suc (last_element units.tree node) - (s.own base.proc).number) (suc (last_element units.tree node)) ((roles 0).firings + 2)
      (omega arith) in
      let w2 =
      times_le (length (s.own base.proc).held)
      ((suc (last_element units.tree node) - (s.own base.proc).number) * ((roles 0).firings + 2))
      (last_element units.tree node * ((roles 0).firings + 2) + ((roles 0).firings + 2)) (omega (arith, w1, x)) in
      let y = ap (λ z. (2 + z) * inside (map_part units node n roles base Ps) s) x in
      let b = all_bound (roles 0).firings (last_element units.tree node * ((roles 0).firings + 2)) (length (s.own base.proc).held)
      (length (s.own (base.proc + 1)).held) all
      (sum_of (λ w. due (get_or Ps w no_part) s + length (lines_of Ps s w)) n)
      (length (s.own base.proc).held * ((suc (last_element units.tree node) - (s.own base.proc).number) * ((roles 0).firings + 2)))
      (length (to_come (pieces_of units node n (roles 0).meaning) (view_of base Ps s)))
      (inside (map_part units node n roles base Ps) s)
      (omega (arith, t1)) w2 (omega (arith, g, u1, u2)) (omega (arith, i)) in
      record { owed = omega (arith, b, y); pending = omega (arith, g, u1, u2, i) }

  map_law : IsLawfulPart net units (map_part units node n roles base Ps)
  map_law = record {
    procs = omega (arith, fan.all.procs);
    chans = omega (arith, fan.all.chans);
    reads = map_reads;
    begins = map_begins;
    moves = map_moves;
    step = map_step;
    work = map_work;
    size = map_size;
    drain = λ s h quiet untrapped room. map_drained s h quiet untrapped room;
  }

pub map_lawful : (node n : ℕ) → 0 < n → IsLawfulShape (map_shape node n)
map_lawful node n pos =
    fan_lawful Scatter Gather node n (map_fanned node n) pos
    (λ net units roles base parts placed. map_law net units roles node n pos base parts placed)
