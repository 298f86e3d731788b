-- THE LINKED NET HAS INVARIANTS: what its tokens come to is what the root's part says, so all laws over
-- all picks hold of it.
use Rattle.std.proofs.Common.{◌≡◌, ℕ, ℤ, zero, suc, ◌+◌, ◌-◌, ◌*◌, ◌≤◌, ◌<◌, ◌&&◌, inl, inr, true, false, List, [], ◌∷◌, ◌++◌, map, length, Some, None, slice_get, refl, sym, ap, ap₂, ◌∙◌, subst, arith, append_assoc, length-append}
use Rattle.std.proofs.lemmas.Bool.{and_parts, cases_lt}
use Rattle.p3l_skel.specs.Counts.{count_of, HasLawfulCounts}
use Rattle.p3l_skel.specs.Item.{item}
use Rattle.p3l_skel.specs.Lawful.{IsLawfulTree}
use Rattle.p3l_skel.specs.Numbers.{firings}
use Rattle.p3l_skel.specs.Tree.{node_at, nesting, GivesOuts}
use Rattle.p3l_firing.specs.declared.net.Net.{Net}
use Rattle.p3l_firing.specs.declared.process.Proc.{Proc}
use Rattle.p3l_firing.specs.NetInvariants.{HaveInWords, Begins, Keeps, IsDrained, HasInvariants}
use Rattle.p3l_firing.specs.Fire.{row_can, IsStuck}
use Rattle.p3l_firing.specs.Ways.{eyes_of, row_ways, MayFire}
use Rattle.p3l_firing.specs.Lists.{has_first}
use Rattle.p3l_firing.specs.Single.{the_source, the_sink}
use Rattle.p3l_firing.specs.State.{State, chan_at, at_first, first_state}
use Rattle.p3l_firing.specs.Token.{bodies, has_trap, over}
use Rattle.p3l_firing.specs.kinds.Source as source
use Rattle.p3l_firing.specs.kinds.Sink as sink
use Rattle.p3l_firing.proofs.Rows.{no_first, cannot_at, and_right_true, room_when_empty}
use Rattle.p3l_firing.proofs.WaysLaw.{ways_at, no_way}
use Rattle.p3l_template.specs.Part.{Part, IsInside, line, inside, in_channels, in_hands}
use Rattle.p3l_template.specs.Placed.{AreStanding, AreLaid, IsGoodBase}
use Rattle.p3l_template.specs.Units.{Units}
use Rattle.p3l_link.specs.Laws.{IsPartAt}
use Rattle.p3l_link.specs.Means.{Means}
use Rattle.p3l_link.specs.Net.{Piece, root_base, root_piece, linked_net}
use Rattle.p3l_link.specs.Part.{role_of, root_part}
use Rattle.p3l_link.specs.Whole.{owed_round, root_invariants, tokens_in}
use Rattle.p3l_link.proofs.Counted.{root_counted}
use Rattle.p3l_link.proofs.RoleLaw.{role_means, role_fires}
use Rattle.p3l_link.proofs.Round.{sends, takes, long_all, send_keeps, take_keeps, inner_keeps}
use Rattle.p3l_link.proofs.Sound.{sound}

get_after : (xs : List Proc) (y : Proc) (ys : List Proc) → slice_get (xs ++ y ∷ ys) (length xs) ≡ Some y
get_after [] y ys = refl
get_after (x ∷ xs) y ys = get_after xs y ys

get_past : (xs : List Proc) (p : ℕ) → length xs ≤ p → slice_get xs p ≡ None
get_past [] p h = refl
get_past (x ∷ xs) zero h = absurd (omega arith)
get_past (x ∷ xs) (suc p) h = get_past xs p (omega arith)

standing_after : (net : Net) (xs ys : List Proc) → net.procs ≡ xs ++ ys → AreStanding net (length xs) ys
unfolding AreStanding
standing_after net xs [] h = tt
standing_after net xs (y ∷ ys) h = (
  ap (λ z. slice_get z (length xs)) h ∙ get_after xs y ys,
  subst (λ n. AreStanding net n ys) (length-append xs (y ∷ []) ∙ omega arith)
      (standing_after net (xs ++ y ∷ []) ys (h ∙ sym (append_assoc xs (y ∷ []) ys))),
)

bounded : (f o a b i p t : ℕ) → o ≤ f * i → p ≤ i → (a + b) + i ≤ t → o + ((f + 1) * a + (p + b)) ≤ (f + 2) * t
bounded f o a b i p t l m n =
    let e : t ≡ ((a + b) + i) + (t - ((a + b) + i)) = omega arith in
    let d : (f + 2) * t ≡ (((f * a + f * b) + f * i) + (((2 * a) + (2 * b)) + 2 * i)) + (f + 2) * (t - ((a + b) + i)) =
    ap (λ z. (f + 2) * z) e ∙ omega arith in
    let c : (f + 1) * a ≡ f * a + a = omega arith in
    omega (arith, d, c, l, m)

module _ (units : Units) (counts : List ℕ) (cap : ℕ) (lawful : IsLawfulTree units.tree) (fits : HasLawfulCounts units.tree counts)
    (pos : 0 < cap) where
  abbrev net : Net
  net = linked_net units.tree counts cap

  abbrev P : Part
  P = root_part units counts

  abbrev piece : Piece
  piece = root_piece units.tree counts cap

  pub some_procs : 0 < length net.procs
  unfolding linked_net
  some_procs = omega arith

  net_room : (c : ℕ) → c < 2 → 0 < (chan_at net c).cap
  unfolding linked_net
  net_room zero l = pos
  net_room (suc zero) l = pos
  net_room (suc (suc c)) l = absurd (omega arith)

  -- the channels after the source and before the sink begin empty
  net_first : (c : ℕ) → c < 2 → at_first net c ≡ []
  unfolding linked_net at_first
  net_first zero l = refl
  net_first (suc zero) l = refl
  net_first (suc (suc c)) l = absurd (omega arith)

  root_stands : AreStanding net 2 piece.procs
  unfolding linked_net
  root_stands = standing_after net (the_source ∷ (the_sink ∷ [])) piece.procs refl

  root_laid : AreLaid net 2 piece.chans
  unfolding linked_net
  root_laid = record { at = λ k l. let e : 2 + k ≡ suc (suc k) = omega arith in ap (chan_at net) e }

  root_good : IsGoodBase net root_base
  root_good = record {
    input = omega arith;
    output = omega arith;
    apart = λ e. omega (arith, e);
    room = net_room 1 (omega arith);
  }

  pub root_sound : IsPartAt net units (role_of units (count_of units.tree counts) nesting 0) root_base piece P
  unfolding root_piece root_part
  root_sound =
      sound net units lawful (count_of units.tree counts) cap pos nesting 0 root_base (root_counted units.tree counts lawful fits)
      root_good root_stands root_laid

  -- the root's part means what the root means, and fires as often as the root
  pub root_means : GivesOuts units.tree units.leaf → Means units 0 P.meaning
  root_means gives =
      subst (Means units 0) (sym root_sound.meaning)
      (role_means units lawful (count_of units.tree counts) gives nesting 0 (root_counted units.tree counts lawful fits))

  pub root_fires : P.firings + 2 ≡ firings units.tree counts
  root_fires =
      ap (λ n. n + 2)
      (root_sound.firings
      ∙ role_fires units lawful (count_of units.tree counts) nesting 0 (root_counted units.tree counts lawful fits))

  module _ (s : State) where
    source_does : (t : State) → MayFire units.tree units.leaf net s 0 t → (has_first s.unsent ≡ true) × (t ≡ sends s)
    unfolding linked_net row_ways source.fire sends
    source_does t way =
        let w = ways_at units.tree units.leaf net s 0 t the_source refl (eyes_of net s) way in
        ((and_parts _ _ w.0).0, w.1)

    sink_does : (t : State) → MayFire units.tree units.leaf net s 1 t →
        (has_trap s.emitted ≡ false) × (has_first (s.tokens 1) ≡ true) × (t ≡ takes s)
    unfolding linked_net row_ways sink.fire takes
    sink_does t way = ways_at units.tree units.leaf net s 1 t the_sink refl (eyes_of net s) way

    inside_does : (q : ℕ) (t : State) → MayFire units.tree units.leaf net s (suc (suc q)) t → IsInside P (suc (suc q))
    unfolding linked_net
    inside_does q t way =
        elim (cases_lt q (length piece.procs)) [
          | inl l ↦ record { from = omega (arith, root_sound.proc_from); to = omega (arith, root_sound.proc_to, l) }
          | inr l ↦
              absurd (no_way units.tree units.leaf net (eyes_of net s) s (suc (suc q)) t (get_past piece.procs q l) way)
        ]

  module _ (gives : GivesOuts units.tree units.leaf) where
    -- one firing, in whichever way
    pub linked_step : (s t : State) (p : ℕ) → MayFire units.tree units.leaf net s p t →
        (root_invariants units counts).orderly s ≡ true →
        Keeps (root_invariants units counts) (item units.tree units.leaf 0) (firings units.tree counts) s t
    linked_step s t zero way orderly =
        let c = source_does s t way in
        subst (Keeps (root_invariants units counts) (item units.tree units.leaf 0) (firings units.tree counts) s) (sym c.1)
        (send_keeps units net P root_sound.lawful root_sound.input root_sound.output root_sound.chan_from (root_means gives)
        (firings units.tree counts) root_fires s c.0 orderly)
    linked_step s t (suc zero) way orderly =
        let c = sink_does s t way in
        subst (Keeps (root_invariants units counts) (item units.tree units.leaf 0) (firings units.tree counts) s) (sym c.2)
        (take_keeps units net P root_sound.lawful root_sound.input root_sound.output root_sound.chan_from (root_means gives)
        (firings units.tree counts) root_fires s c.0 c.1 orderly)
    linked_step s t (suc (suc q)) way orderly =
        inner_keeps units net P root_sound.lawful root_sound.input root_sound.output root_sound.chan_from (root_means gives)
        (firings units.tree counts) root_fires s t (suc (suc q)) (inside_does s q t way) way orderly

  -- nothing before the part, in it and after it
  line_empty : (s : State) → s.tokens 0 ≡ [] → P.pending s ≡ [] → s.tokens 1 ≡ [] → line P s ≡ []
  unfolding line
  line_empty s before inner after =
      ap₂ (λ a b. a ++ b) (ap s.tokens root_sound.output ∙ after)
      (ap₂ (λ a b. a ++ map (over P.meaning) b) inner (ap s.tokens root_sound.input ∙ before))

  owed_none : (s : State) → s.tokens 0 ≡ [] → P.pending s ≡ [] → s.tokens 1 ≡ [] → P.owed s ≡ 0 → owed_round P s ≡ 0
  unfolding owed_round
  owed_none s before inner after owed =
      let a : length (s.tokens P.input) ≡ 0 = ap (λ c. length (s.tokens c)) root_sound.input ∙ ap length before in
      let b : length (s.tokens P.output) ≡ 0 = ap (λ c. length (s.tokens c)) root_sound.output ∙ ap length after in
      let c : length (P.pending s) ≡ 0 = ap length inner in
      let d : (P.firings + 1) * length (s.tokens P.input) ≡ (P.firings + 1) * 0 = ap (λ k. (P.firings + 1) * k) a in
      omega (arith, b, c, d, owed)

  pub linked_begins : (items : List (List ℤ)) → HaveInWords units.tree items →
      Begins (root_invariants units counts) (first_state net items)
  unfolding first_state bodies
  linked_begins items long =
      let b = root_sound.lawful.begins (first_state net items) (record { tokens = λ c f l. refl; own = λ p f l. refl }) in
      record {
        orderly = ap₂ (λ x y. x && y) b.orderly (long_all (node_at units.tree 0).ins items long);
        to_come = ap bodies (line_empty (first_state net items) (net_first 0 (omega arith)) b.pending (net_first 1 (omega arith)));
        owed = owed_none (first_state net items) (net_first 0 (omega arith)) b.pending (net_first 1 (omega arith)) b.owed;
      }

  -- nothing is left if nothing can fire
  pub linked_drained : (s : State) → P.orderly s ≡ true → has_trap s.emitted ≡ false → IsStuck units.tree net s →
      (s.unsent ≡ []) × (s.tokens 0 ≡ []) × (P.pending s ≡ []) × (s.tokens 1 ≡ [])
  unfolding linked_net row_can source.can sink.can
  linked_drained s orderly untrapped stuck =
      let out : s.tokens 1 ≡ [] = no_first _ (cannot_at units.tree net s 1 the_sink refl untrapped (stuck 1)) in
      let dry =
      root_sound.lawful.drain s orderly (λ p i. stuck p) untrapped
      (room_when_empty net s P.output (ap s.tokens root_sound.output ∙ out)
      (subst (λ z. 0 < (chan_at net z).cap) (sym root_sound.output) (net_room 1 (omega arith)))) in
      let ins : s.tokens 0 ≡ [] = ap s.tokens (sym root_sound.input) ∙ dry.input in (
        no_first _ (and_right_true _ _ (room_when_empty net s 0 ins (net_room 0 (omega arith)))
            (cannot_at units.tree net s 0 the_source refl untrapped (stuck 0))),
        ins,
        dry.pending,
        out,
      )

  emptied : (s : State) → (root_invariants units counts).orderly s ≡ true → has_trap s.emitted ≡ false → IsStuck units.tree net s →
      IsDrained (root_invariants units counts) s
  unfolding bodies
  emptied s orderly untrapped stuck =
      let dry = linked_drained s (and_parts _ _ orderly).0 untrapped stuck in
      record { unsent = dry.0; to_come = ap bodies (line_empty s dry.1 dry.2 dry.3) }

  pub linked_has_invariants : GivesOuts units.tree units.leaf →
      HasInvariants units.tree units.leaf net (firings units.tree counts) (root_invariants units counts)
  linked_has_invariants gives = record { begins = linked_begins; step = linked_step gives; drained = emptied }

  -- the tokens of the net are those of the root's channels and those inside the root, and none more but what source and sink hold
  net_holds : (s : State) → (length (s.tokens 0) + length (s.tokens 1)) + inside P s ≤ tokens_in net s
  unfolding tokens_in inside in_channels in_hands linked_net
  net_holds s =
      let r = root_sound in
      let a : P.chan_to - P.chan_from ≡ length piece.chans = omega (arith, r.chan_to, r.chan_from) in
      let b : P.proc_to - P.proc_from ≡ length piece.procs = omega (arith, r.proc_to, r.proc_from) in
      let e = ap₂ (λ x y. in_channels s x y) r.chan_from a in
      let f = ap₂ (λ x y. in_hands s x y) r.proc_from b in
      omega (arith, e, f)

  -- the net owes at most its firings for one item for each token in it
  pub owed_bound : (s : State) → P.orderly s ≡ true → owed_round P s ≤ firings units.tree counts * tokens_in net s
  unfolding owed_round
  owed_bound s orderly =
      let r = root_sound in
      let z = r.lawful.size s orderly in
      let e = ap (λ x. x * tokens_in net s) root_fires in
      let i : length (s.tokens P.input) ≡ length (s.tokens 0) = ap (λ c. length (s.tokens c)) r.input in
      let o : length (s.tokens P.output) ≡ length (s.tokens 1) = ap (λ c. length (s.tokens c)) r.output in
      let b = bounded P.firings (P.owed s) (length (s.tokens P.input)) (length (s.tokens P.output)) (inside P s)
      (length (P.pending s))
      (tokens_in net s) z.owed z.pending (omega (arith, i, o, net_holds s)) in
      omega (arith, b, e)
