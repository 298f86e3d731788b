-- A net of a source, a sink and one lawful part between them: each firing keeps the whole list and takes from what is owed.
use Rattle.std.proofs.Common.{◌≡◌, ◌≢◌, ℕ, ℤ, suc, ◌+◌, ◌*◌, ◌≤◌, true, false, ◌&&◌, List, [], ◌∷◌, ◌++◌, map, length, refl, sym, ap, ap₂, ◌∙◌, subst, arith, append_assoc, length-append, eqb-true, eq-eqb}
use Rattle.std.specs.List.{AllByRecursion}
use Rattle.std.proofs.lemmas.Bool.{and_parts}
use Rattle.std.proofs.lemmas.List.{map-append, length-map}
use Rattle.p3l_base.specs.declared.outcome.Outcome.TheVariants.{Value}
use Rattle.p3l_skel.specs.Item.{item}
use Rattle.p3l_skel.specs.Tree.{node_at}
use Rattle.p3l_template.specs.laws.Rows.{at-same, at-other}
use Rattle.p3l_firing.specs.declared.net.Net.{Net}
use Rattle.p3l_firing.specs.declared.token.Token.{Token}
use Rattle.p3l_firing.specs.NetInvariants.{Invariants, whole, Keeps}
use Rattle.p3l_firing.specs.Ways.{MayFire}
use Rattle.p3l_firing.specs.Lists.{has_first, first_or, rest_of}
use Rattle.p3l_firing.specs.Outcomes.{up_to_first_trap}
use Rattle.p3l_firing.specs.State.{State, front, push, pop}
use Rattle.p3l_firing.specs.Token.{bodies, credit, has_trap, over, plain}
use Rattle.p3l_firing.proofs.OutcomesLaw.{emit_more}
use Rattle.p3l_firing.proofs.Rows.{front_split}
use Rattle.p3l_template.specs.Part.{Part, IsLawfulPart, IsAlike, IsInside, line, due}
use Rattle.p3l_template.specs.Units.{Units}
use Rattle.p3l_link.specs.Means.{Means}
use Rattle.p3l_link.specs.Whole.{all_long, owed_round, invariants_round}

pub long_all : (n : ℕ) (items : List (List ℤ)) → AllByRecursion (λ words. length words ≡ n) items → all_long n items ≡ true
unfolding all_long
long_all n [] all = refl
long_all n (words ∷ items) all = ap₂ (λ a b. a && b) (eq-eqb (length words) n all.0) (long_all n items all.1)

first_long : (n : ℕ) (items : List (List ℤ)) → has_first items ≡ true → all_long n items ≡ true →
    (length (first_or [] items) ≡ n) × (all_long n (rest_of items) ≡ true)
unfolding all_long
first_long n [] full long = cc
first_long n (words ∷ items) full long =
    let both = and_parts _ _ long in (eqb-true (length words) n both.0, both.1)

bodies_append : (xs ys : List Token) → bodies (xs ++ ys) ≡ bodies xs ++ bodies ys
unfolding bodies
bodies_append [] ys = refl
bodies_append (x ∷ xs) ys = ap (λ z. x.body ∷ z) (bodies_append xs ys)

-- a firing of the source, and one of the sink
unfoldable pub sends : State → State
sends s = record (push s 0 (plain (Value (first_or [] s.unsent)))) { unsent = rest_of s.unsent; sent = s.sent + 1 }

unfoldable pub takes : State → State
takes s = record (pop s 1) { emitted = s.emitted ++ (front s 1).body ∷ [] }

module _ (units : Units) (net : Net) (P : Part) (law : IsLawfulPart net units P) (input : P.input ≡ 0) (output : P.output ≡ 1)
    (chan_from : P.chan_from ≡ 2) (means : Means units 0 P.meaning) (firings : ℕ) (often : P.firings + 2 ≡ firings) where
  abbrev n : ℕ
  n = (node_at units.tree 0).ins

  abbrev invariants : Invariants
  invariants = invariants_round n P

  -- from s to t all is kept
  abbrev Kept : State → State → Type 0
  Kept s t = Keeps invariants (item units.tree units.leaf 0) firings s t

  line_at : (s : State) → line P s ≡ s.tokens 1 ++ (P.pending s ++ map (over P.meaning) (s.tokens 0))
  unfolding line
  line_at s = ap₂ (λ x y. s.tokens x ++ (P.pending s ++ map (over P.meaning) (s.tokens y))) output input

  owed_at : (s : State) →
      owed_round P s ≡ P.owed s + ((P.firings + 1) * length (s.tokens 0) + (length (P.pending s) + length (s.tokens 1)))
  unfolding owed_round
  owed_at s =
      ap₂ (λ x y. P.owed s + ((P.firings + 1) * length (s.tokens x) + (length (P.pending s) + length (s.tokens y)))) input output

  line_count : (s : State) → length (line P s) ≡ length (s.tokens 1) + (length (P.pending s) + length (s.tokens 0))
  line_count s =
      ap length (line_at s) ∙ length-append (s.tokens 1) _
      ∙ ap (λ z. length (s.tokens 1) + z)
      (length-append (P.pending s) _ ∙ ap (λ z. length (P.pending s) + z) (length-map (s.tokens 0) (over P.meaning)))

  -- the source
  module _ (s : State) where
    send_other : (c : ℕ) → c ≢ 0 → (sends s).tokens c ≡ s.tokens c
    unfolding sends push
    send_other c h = at-other s.tokens 0 _ c h

    send_at : (sends s).tokens 0 ≡ s.tokens 0 ++ plain (Value (first_or [] s.unsent)) ∷ []
    unfolding sends push
    send_at = at-same s.tokens 0 _

    send_alike : IsAlike P s (sends s)
    unfolding sends push
    send_alike =
        law.reads s (sends s) (record { tokens = λ c f l. send_other c (omega (arith, f, chan_from)); own = λ p f l. refl })

    send_line : line P (sends s) ≡ line P s ++ over P.meaning (plain (Value (first_or [] s.unsent))) ∷ []
    send_line =
        line_at (sends s)
        ∙ ap₂ (λ x y. x ++ y) (send_other 1 (λ e. omega (arith, e)))
        (ap₂ (λ x y. x ++ map (over P.meaning) y) send_alike.pending send_at)
        ∙ ap (λ z. s.tokens 1 ++ (P.pending s ++ z)) (map-append (over P.meaning) (s.tokens 0) _)
        ∙ ap (λ z. s.tokens 1 ++ z) (sym (append_assoc (P.pending s) _ _))
        ∙ sym (append_assoc (s.tokens 1) _ _)
        ∙ ap (λ z. z ++ over P.meaning (plain (Value (first_or [] s.unsent))) ∷ []) (sym (line_at s))

    send_bodies : length (first_or [] s.unsent) ≡ n →
        bodies (line P (sends s)) ≡ bodies (line P s) ++ item units.tree units.leaf 0 (first_or [] s.unsent) ∷ []
    unfolding bodies
    send_bodies long =
        ap bodies send_line ∙ bodies_append (line P s) _
        ∙ ap (λ o. bodies (line P s) ++ o ∷ []) (means.same (Value (first_or [] s.unsent)) long)

    send_whole : has_first s.unsent ≡ true → length (first_or [] s.unsent) ≡ n →
        whole invariants (item units.tree units.leaf 0) (sends s) ≡ whole invariants (item units.tree units.leaf 0) s
    unfolding whole sends push
    send_whole full long =
        ap (λ z. s.emitted ++ z)
        (ap (λ z. z ++ map (item units.tree units.leaf 0) (rest_of s.unsent)) (send_bodies long)
        ∙ append_assoc (bodies (line P s)) _ _
        ∙ ap (λ z. bodies (line P s) ++ map (item units.tree units.leaf 0) z) (sym (front_split [] s.unsent full)))

    send_work : (owed_round P (sends s) + 1) + firings * s.sent ≤ owed_round P s + firings * (s.sent + 1)
    send_work =
        let a = send_alike in
        let x : length ((sends s).tokens 0) ≡ length (s.tokens 0) + 1 = ap length send_at ∙ length-append (s.tokens 0) _ in
        let y : length ((sends s).tokens 1) ≡ length (s.tokens 1) = ap length (send_other 1 (λ e. omega (arith, e))) in
        let p : length (P.pending (sends s)) ≡ length (P.pending s) = ap length a.pending in
        let o : P.owed (sends s) ≡ P.owed s = a.owed in
        let z : (P.firings + 1) * length ((sends s).tokens 0) ≡ (P.firings + 1) * length (s.tokens 0) + (P.firings + 1) =
        ap (λ m. (P.firings + 1) * m) x ∙ omega arith in
        let w : firings * (s.sent + 1) ≡ firings * s.sent + firings = omega arith in
        omega (arith, y, p, o, z, w, owed_at s, owed_at (sends s), often)

    pub send_keeps : has_first s.unsent ≡ true → invariants.orderly s ≡ true → Kept s (sends s)
    unfolding sends push
    send_keeps full orderly =
        let both = and_parts _ _ orderly in
        let long = first_long n s.unsent full both.1 in
        let one_less : length s.unsent ≡ suc (length (rest_of s.unsent)) = ap length (front_split [] s.unsent full) in
        record {
          orderly = ap₂ (λ a b. a && b) (send_alike.orderly ∙ both.0) long.1;
          same = send_whole full long.0;
          emitted = λ e. e;
          items = omega arith;
          work = send_work;
        }

  -- the sink
  module _ (s : State) where
    take_other : (c : ℕ) → c ≢ 1 → (takes s).tokens c ≡ s.tokens c
    unfolding takes pop
    take_other c h = at-other s.tokens 1 _ c h

    take_at : (takes s).tokens 1 ≡ rest_of (s.tokens 1)
    unfolding takes pop
    take_at = at-same s.tokens 1 _

    take_alike : IsAlike P s (takes s)
    unfolding takes pop
    take_alike =
        law.reads s (takes s) (record { tokens = λ c f l. take_other c (omega (arith, f, chan_from)); own = λ p f l. refl })

    take_line : has_first (s.tokens 1) ≡ true → line P s ≡ front s 1 ∷ line P (takes s)
    take_line full =
        line_at s
        ∙ ap (λ z. z ++ (P.pending s ++ map (over P.meaning) (s.tokens 0))) (front_split credit (s.tokens 1) full)
        ∙ ap (λ z. front s 1 ∷ z)
        (sym (line_at (takes s)
        ∙ ap₂ (λ x y. x ++ y) take_at
        (ap₂ (λ x y. x ++ map (over P.meaning) y) take_alike.pending (take_other 0 (λ e. omega (arith, e))))))

    take_whole : has_first (s.tokens 1) ≡ true →
        whole invariants (item units.tree units.leaf 0) (takes s) ≡ whole invariants (item units.tree units.leaf 0) s
    unfolding whole takes pop bodies
    take_whole full =
        append_assoc s.emitted _ _
        ∙ ap (λ z. s.emitted ++ (bodies z ++ map (item units.tree units.leaf 0) s.unsent)) (sym (take_line full))

    take_work : has_first (s.tokens 1) ≡ true → owed_round P (takes s) + 1 ≤ owed_round P s
    take_work full =
        let a = take_alike in
        let x : length ((takes s).tokens 0) ≡ length (s.tokens 0) = ap length (take_other 0 (λ e. omega (arith, e))) in
        let y : length (s.tokens 1) ≡ suc (length ((takes s).tokens 1)) =
        ap length (front_split credit (s.tokens 1) full) ∙ ap (λ m. suc (length m)) (sym take_at) in
        let p : length (P.pending (takes s)) ≡ length (P.pending s) = ap length a.pending in
        let o : P.owed (takes s) ≡ P.owed s = a.owed in
        let z : (P.firings + 1) * length ((takes s).tokens 0) ≡ (P.firings + 1) * length (s.tokens 0) =
        ap (λ m. (P.firings + 1) * m) x in
        omega (arith, y, p, o, z, owed_at s, owed_at (takes s))

    pub take_keeps : has_trap s.emitted ≡ false → has_first (s.tokens 1) ≡ true → invariants.orderly s ≡ true → Kept s (takes s)
    unfolding takes pop
    take_keeps untrapped full orderly =
        let both = and_parts _ _ orderly in
        let work = take_work full in
        record {
          orderly = ap₂ (λ a b. a && b) (take_alike.orderly ∙ both.0) both.1;
          same = take_whole full;
          emitted = λ e. emit_more s.emitted (front s 1).body untrapped;
          items = refl;
          work = omega arith;
        }

  -- a process inside
  module _ (s t : State) (p : ℕ) (inside : IsInside P p) (way : MayFire units.tree units.leaf net s p t) where
    due_at : (u : State) → due P u ≡ P.firings * length (u.tokens 0) + P.owed u
    unfolding due
    due_at u = ap (λ c. P.firings * length (u.tokens c) + P.owed u) input

    inner_whole : P.orderly s ≡ true → whole invariants (item units.tree units.leaf 0) t ≡ whole invariants (item units.tree units.leaf 0) s
    unfolding whole
    inner_whole orderly =
        let m = law.moves s t p inside way in
        ap₂ (λ x y. x ++ (bodies (line P t) ++ map (item units.tree units.leaf 0) y)) m.emitted m.unsent
        ∙ ap (λ z. s.emitted ++ (bodies z ++ map (item units.tree units.leaf 0) s.unsent)) (law.step s t p inside way orderly).line

    inner_work : P.orderly s ≡ true → owed_round P t + 1 ≤ owed_round P s
    inner_work orderly =
        let d = law.work s t p inside way orderly in
        let l : length (line P t) ≡ length (line P s) = ap length (law.step s t p inside way orderly).line in
        omega (arith, d, due_at s, due_at t, l, line_count s, line_count t, owed_at s, owed_at t)

    pub inner_keeps : invariants.orderly s ≡ true → Kept s t
    inner_keeps orderly =
        let both = and_parts _ _ orderly in
        let m = law.moves s t p inside way in
        let work = inner_work both.0 in
        let same_sent : firings * t.sent ≡ firings * s.sent = ap (λ z. firings * z) m.sent in
        record {
          orderly = ap₂ (λ a b. a && b) (law.step s t p inside way both.0).orderly (ap (all_long n) m.unsent ∙ both.1);
          same = inner_whole both.0;
          emitted = λ e. subst (λ z. up_to_first_trap z ≡ z) (sym m.emitted) e;
          items = ap₂ (λ x y. x + length y) m.sent m.unsent;
          work = omega arith;
        }
