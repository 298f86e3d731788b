-- WHAT IS FOUND IN A FARM is what its part is.
use Rattle.std.proofs.Common.{◌≡◌, ℕ, ◌+◌, ◌&&◌, nat_eq, nat_lt, List, [], ◌∷◌, ◌++◌, map, length, refl, sym, ap, ap₂, ◌∙◌}
use Rattle.std.proofs.lemmas.List.{map-append, length-replicate}
use Rattle.p3l_firing.specs.State.{State}
use Rattle.p3l_firing.specs.Token.{newest_tag}
use Rattle.p3l_firing.specs.declared.token.Token.{Token}
use Rattle.p3l_farm.specs.Farm.{View, all_above, rising, all_rising, joined, to_come, well_kept, lines_of, view_of, farm_part, farm_shape}
use Rattle.p3l_template.specs.Bag.{read, numbered}
use Rattle.p3l_template.specs.Lines.{lines_by}
use Rattle.p3l_template.specs.Part.{Part, all_orderly}
use Rattle.p3l_template.specs.Shape.{Base, Role, Slot, fan_slots}
use Rattle.p3l_template.specs.Units.{Units}
use Rattle.p3l_farm.specs.FarmKind.{found_by, farm_finds}
use Rattle.p3l_template.specs.Finding.{Finding, bare, bares, pending_of, AreSlots, IsFoundShape}
use Rattle.p3l_template.specs.laws.BareLaw.{bares-bares, bares-length, bares-line, read-bare, numbered-bare}

above-bare : (k : ℕ) (xs : List Token) → all_above k (bares xs) ≡ all_above k xs
unfolding all_above
above-bare k [] = refl
above-bare k (x ∷ xs) = ap (λ b. nat_lt k (newest_tag x) && b) (above-bare k xs)

rising-bare : (xs : List Token) → rising (bares xs) ≡ rising xs
unfolding rising
rising-bare [] = refl
rising-bare (x ∷ xs) = ap₂ (λ a b. a && b) (above-bare (newest_tag x) xs) (rising-bare xs)

all_rising-bare : (ls : List (List Token)) → all_rising (map bares ls) ≡ all_rising ls
unfolding all_rising
all_rising-bare [] = refl
all_rising-bare (l ∷ ls) = ap₂ (λ a b. a && b) (rising-bare l) (all_rising-bare ls)

pub joined-bare : (ls : List (List Token)) → joined (map bares ls) ≡ bares (joined ls)
unfolding joined
joined-bare [] = refl
joined-bare (l ∷ ls) = ap (λ z. bares l ++ z) (joined-bare ls) ∙ sym (map-append bare l (joined ls))

-- the view without outcomes
abbrev seen : View → View
seen v = record { next = v.next; least = v.least; lines = map bares v.lines; input = []; output = [] }

module _ (v : View) where
  bag-length : length (joined (map bares v.lines)) ≡ length (joined v.lines)
  bag-length = ap length (joined-bare v.lines) ∙ bares-length (joined v.lines)

  kept-bare : well_kept (seen v) ≡ well_kept v
  unfolding well_kept
  kept-bare =
      λ i. nat_eq (v.least + bag-length i) v.next
      && ((ap (λ z. numbered z v.least) (joined-bare v.lines) ∙ numbered-bare (joined v.lines) v.least) i && all_rising-bare v.lines i)

  come-bare : bares (read (joined (map bares v.lines)) v.least (length (joined (map bares v.lines)))) ≡ bares (to_come v)
  unfolding to_come
  come-bare =
      ap bares (ap₂ (λ z n. read z v.least n) (joined-bare v.lines) bag-length ∙ read-bare (joined v.lines) v.least (length (joined v.lines)))
      ∙ bares-bares (to_come v)

lines-bare : (s : State) (slots : List Slot) (parts : List Part) → AreSlots slots parts →
    lines_by s slots (map (pending_of s) parts) ≡ map bares (lines_of parts s)
unfolding lines_by lines_of AreSlots
lines-bare s [] [] slotted = refl
lines-bare s [] (P ∷ Ps) slotted = absurd slotted
lines-bare s (x ∷ xs) [] slotted = absurd slotted
lines-bare s (x ∷ xs) (P ∷ Ps) slotted =
    ap₂ (λ l ls. l ∷ ls) (sym (bares-line s P x.input x.output slotted.0.0 slotted.0.1)) (lines-bare s xs Ps slotted.1)

module _ (n : ℕ) (units : Units) (roles : ℕ → Role) (base : Base) (parts : List Part) (s : State)
    (slotted : AreSlots (fan_slots base.chan (base.chan + n) n) parts) where
  seen-lines : farm_finds n units.tree base s (map (pending_of s) parts) ≡ found_by (seen (view_of base parts s))
  unfolding farm_finds
  seen-lines =
      ap (λ ls. found_by (record {
        next = (s.own base.proc).number;
        least = (s.own (base.proc + 1)).number;
        lines = ls;
        input = [];
        output = [];
      })) (lines-bare s (fan_slots base.chan (base.chan + n) n) parts slotted)

  farm-orderly : (farm_part n units roles base parts).orderly s
      ≡ (all_orderly parts s && (farm_finds n units.tree base s (map (pending_of s) parts)).orderly)
  unfolding found_by
  farm-orderly =
      ap (λ b. all_orderly parts s && b) (sym (ap (λ (f : Finding). f.orderly) seen-lines ∙ kept-bare (view_of base parts s)))

  farm-pending : pending_of s (farm_part n units roles base parts) ≡ (farm_finds n units.tree base s (map (pending_of s) parts)).pending
  unfolding found_by
  farm-pending = sym (ap (λ (f : Finding). f.pending) seen-lines ∙ come-bare (view_of base parts s))

pub farm_found : (node n : ℕ) → IsFoundShape (farm_shape node n) (farm_finds n)
farm_found node n = record {
  orderly = farm-orderly n;
  pending = farm-pending n;
  ends = λ units roles base parts slotted. record { input = refl; output = refl; proc_to = refl; chan_to = refl };
  laid = λ cap base. length-replicate (n + n) _;
}
