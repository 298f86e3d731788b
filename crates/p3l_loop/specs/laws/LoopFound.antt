-- WHAT IS FOUND IN A LOOP is what its part is.
use Rattle.std.proofs.Common.{◌≡◌, ℕ, ◌+◌, ◌-◌, ◌&&◌, nat_eq, nat_lt, Bool, true, false, List, [], ◌∷◌, ◌++◌, map, length, refl, sym, ap, ap₂, ◌∙◌}
use Rattle.std.proofs.lemmas.List.{map-append}
use Rattle.p3l_firing.specs.Nodes.{turns_of}
use Rattle.p3l_firing.specs.State.{State}
use Rattle.p3l_firing.specs.Token.{over, untagged, newest_tag}
use Rattle.p3l_firing.specs.declared.token.Token.{Token}
use Rattle.p3l_loop.specs.Loop.{Laps, View, settled, bag, in_turns, to_come, well_kept, laps_of, view_of, loop_over, loop_shape}
use Rattle.p3l_template.specs.Bag.{read, numbered, all_within}
use Rattle.p3l_template.specs.Part.{Part, line, all_orderly}
use Rattle.p3l_template.specs.Placed.{proc_end, chan_end}
use Rattle.p3l_template.specs.Shape.{Base, Role}
use Rattle.p3l_template.specs.Units.{Units}
use Rattle.p3l_template.specs.Finding.{bare, bares, pending_of, line_of, AreSlots, EndsAt, IsFoundShape}
use Rattle.p3l_loop.specs.LoopKind.{Seen, seen_bag, is_counted, seen_of, found_by, loop_finds}
use Rattle.p3l_template.specs.laws.BareLaw.{bares-bares, bares-over, bares-untagged, bares-length, bares-line, read-bare, numbered-bare, all_within-bare, and-true, and-assoc}

pub turns-within : (m : ℕ) (xs : List Token) → in_turns m xs ≡ all_within 1 (2 + (m - 1)) xs
unfolding in_turns all_within
turns-within m [] = refl
turns-within m (x ∷ xs) = ap (λ b. (nat_lt 0 (newest_tag x) && nat_lt (newest_tag x) (2 + (m - 1))) && b) (turns-within m xs)

turns-bare : (m : ℕ) (xs : List Token) → in_turns m (bares xs) ≡ in_turns m xs
turns-bare m xs = turns-within m (bares xs) ∙ all_within-bare 1 (2 + (m - 1)) xs ∙ sym (turns-within m xs)

bares-settled : (l : Laps) (xs : List Token) → bares (map (settled l) xs) ≡ map untagged (bares xs)
unfolding settled
bares-settled l [] = refl
bares-settled l (x ∷ xs) = ap (λ z. untagged (bare x) ∷ z) (bares-settled l xs)

-- the view without outcomes
abbrev seen : View → Seen
seen v = record { next = v.next; least = v.least; credits = v.credits; held = bares v.held; ring = bares v.ring }

-- five facts, the last one apart
and-last : (a b c d e : Bool) → ((a && (b && (c && d))) && e) ≡ (a && (b && (c && (d && e))))
and-last true true c d e = and-assoc c d e
and-last true false c d e = refl
and-last false b c d e = refl

module _ (l : Laps) (tokens : ℕ) (v : View) where
  bag-bare : seen_bag (seen v) ≡ bares (bag l v)
  unfolding seen_bag bag
  bag-bare =
      ap₂ (λ a b. map untagged a ++ map untagged b) (bares-bares v.held) (bares-bares v.ring)
      ∙ ap₂ (λ a b. a ++ b) (sym (bares-untagged v.held)) (sym (bares-settled l v.ring))
      ∙ sym (map-append bare (map untagged v.held) (map (settled l) v.ring))

  bag-length : length (seen_bag (seen v)) ≡ length (bag l v)
  bag-length = ap length bag-bare ∙ bares-length (bag l v)

  kept-bare : (found_by l.turns tokens (seen v)).orderly ≡ well_kept l tokens v
  unfolding found_by is_counted well_kept
  kept-bare =
      and-last (nat_eq (v.least + length (seen_bag (seen v))) v.next) (nat_eq (v.credits + length (seen_bag (seen v))) tokens)
      (in_turns l.turns (bares v.ring)) (in_turns l.turns (bares v.held)) (numbered (seen_bag (seen v)) v.least)
      ∙ (λ i. nat_eq (v.least + bag-length i) v.next
      && (nat_eq (v.credits + bag-length i) tokens
      && (turns-bare l.turns v.ring i
      && (turns-bare l.turns v.held i && (ap (λ z. numbered z v.least) bag-bare ∙ numbered-bare (bag l v) v.least) i))))

  come-bare : (found_by l.turns tokens (seen v)).pending ≡ bares (to_come l v)
  unfolding found_by to_come
  come-bare =
      ap bares (ap₂ (λ z n. read z v.least n) bag-bare bag-length ∙ read-bare (bag l v) v.least (length (bag l v)))
      ∙ bares-bares (to_come l v)

module _ (node tokens : ℕ) (units : Units) (base : Base) (s : State) where
  seen-line : (Q : Part) → Q.input ≡ base.chan → Q.output ≡ base.chan + 1 →
      seen_of base s (pending_of s Q) ≡ seen (view_of base Q s)
  seen-line Q i o =
      let ring : line_of s base.chan (base.chan + 1) (pending_of s Q) ++ bares (s.tokens (base.chan + 2))
      ≡ bares (line Q s ++ map (over Q.meaning) (s.tokens (base.chan + 2))) =
      ap₂ (λ a b. a ++ b) (sym (bares-line s Q base.chan (base.chan + 1) i o)) (sym (bares-over Q.meaning (s.tokens (base.chan + 2))))
      ∙ sym (map-append bare (line Q s) _) in
      ap (λ r. record {
        next = (s.own base.proc).number;
        least = (s.own (base.proc + 1)).number;
        credits = length (s.tokens (base.chan + 3));
        held = bares (s.own (base.proc + 1)).held;
        ring = r;
      }) ring

  over-orderly : (Q : Part) → Q.input ≡ base.chan → Q.output ≡ base.chan + 1 →
      (loop_over units node tokens base Q).orderly s
      ≡ (Q.orderly s && (found_by (turns_of units.tree node) tokens (seen_of base s (pending_of s Q))).orderly)
  over-orderly Q i o =
      ap (λ b. Q.orderly s && b)
      (sym (ap (λ (v : Seen). (found_by (turns_of units.tree node) tokens v).orderly) (seen-line Q i o)
      ∙ kept-bare (laps_of units node Q) tokens (view_of base Q s)))

  over-pending : (Q : Part) → Q.input ≡ base.chan → Q.output ≡ base.chan + 1 →
      pending_of s (loop_over units node tokens base Q)
      ≡ (found_by (turns_of units.tree node) tokens (seen_of base s (pending_of s Q))).pending
  over-pending Q i o =
      sym (ap (λ (v : Seen). (found_by (turns_of units.tree node) tokens v).pending) (seen-line Q i o)
      ∙ come-bare (laps_of units node Q) tokens (view_of base Q s))

loop-orderly : (node tokens : ℕ) (units : Units) (roles : ℕ → Role) (base : Base) (parts : List Part) (s : State) →
    AreSlots ((loop_shape node tokens).slots base) parts →
    ((loop_shape node tokens).part units roles base parts).orderly s
    ≡ (all_orderly parts s && (loop_finds node tokens units.tree base s (map (pending_of s) parts)).orderly)
unfolding AreSlots loop_finds all_orderly
loop-orderly node tokens units roles base [] s slotted = absurd slotted
loop-orderly node tokens units roles base (Q ∷ []) s slotted =
    over-orderly node tokens units base s Q slotted.0.0 slotted.0.1
    ∙ ap (λ b. b && (found_by (turns_of units.tree node) tokens (seen_of base s (pending_of s Q))).orderly) (sym (and-true (Q.orderly s)))
loop-orderly node tokens units roles base (Q ∷ (R ∷ Rs)) s slotted = absurd slotted.1

loop-pending : (node tokens : ℕ) (units : Units) (roles : ℕ → Role) (base : Base) (parts : List Part) (s : State) →
    AreSlots ((loop_shape node tokens).slots base) parts →
    pending_of s ((loop_shape node tokens).part units roles base parts)
    ≡ (loop_finds node tokens units.tree base s (map (pending_of s) parts)).pending
unfolding AreSlots loop_finds
loop-pending node tokens units roles base [] s slotted = absurd slotted
loop-pending node tokens units roles base (Q ∷ []) s slotted = over-pending node tokens units base s Q slotted.0.0 slotted.0.1
loop-pending node tokens units roles base (Q ∷ (R ∷ Rs)) s slotted = absurd slotted.1

loop-ends : (node tokens : ℕ) (units : Units) (roles : ℕ → Role) (base : Base) (parts : List Part) →
    AreSlots ((loop_shape node tokens).slots base) parts →
    EndsAt (loop_shape node tokens) base parts ((loop_shape node tokens).part units roles base parts)
unfolding AreSlots proc_end chan_end
loop-ends node tokens units roles base [] slotted = absurd slotted
loop-ends node tokens units roles base (Q ∷ []) slotted = record { input = refl; output = refl; proc_to = refl; chan_to = refl }
loop-ends node tokens units roles base (Q ∷ (R ∷ Rs)) slotted = absurd slotted.1

pub loop_found : (node tokens : ℕ) → IsFoundShape (loop_shape node tokens) (loop_finds node tokens)
loop_found node tokens = record {
  orderly = loop-orderly node tokens;
  pending = loop-pending node tokens;
  ends = loop-ends node tokens;
  laid = λ cap base. refl;
}
