-- The finding for a tree agrees with its part, by one induction on the depth.
use Rattle.std.proofs.Common.{◌≡◌, ℕ, zero, suc, ◌+◌, ◌&&◌, Bool, List, [], ◌∷◌, map, length, refl, sym, ap, ap₂, ◌∙◌, subst, arith, length-append}
use Rattle.p3l_skel.specs.Tree.{part_at}
use Rattle.p3l_firing.specs.State.{State}
use Rattle.p3l_firing.specs.declared.token.Token.{Token}
use Rattle.p3l_template.specs.Finding.{Finding, Finds, finding_of, pending_of, AreSlots}
use Rattle.p3l_template.specs.Part.{Part, all_orderly}
use Rattle.p3l_template.specs.Placed.{proc_end, chan_end}
use Rattle.p3l_template.specs.Shape.{Base, Role, Slot, Blueprint}
use Rattle.p3l_template.specs.Units.{Units}
use Rattle.p3l_link.specs.Net.{Piece, base_at, inner_pieces, piece_of}
use Rattle.p3l_link.specs.Part.{role_of, inner_parts, part_of}
use Rattle.p3l_link.specs.Shape.{kind_at, shape_at}
use Rattle.p3l_link.proofs.AnyKind.{found_at}
use Rattle.p3l_orderly.specs.Walk.{all_found, all_pending, with_inner, inner_found, node_found}

module _ (s : State) where
  orderly_found : (parts : List Part) → all_orderly parts s ≡ all_found (map (finding_of s) parts)
  unfolding all_orderly all_found
  orderly_found [] = refl
  orderly_found (P ∷ Ps) = ap (λ b. P.orderly s && b) (orderly_found Ps)

  pending_found : (parts : List Part) → map (pending_of s) parts ≡ all_pending (map (finding_of s) parts)
  pending_found [] = refl
  pending_found (P ∷ Ps) = ap (λ z. pending_of s P ∷ z) (pending_found Ps)

  -- of a part at a place: what is found there, and where it stands and ends
  record IsFoundAt (found : Finding) (piece : Piece) (base : Base) (P : Part) : Type 0 where
    same : finding_of s P ≡ found
    input : P.input ≡ base.input
    output : P.output ≡ base.output
    proc_to : P.proc_to ≡ base.proc + length piece.procs
    chan_to : P.chan_to ≡ base.chan + length piece.chans

  record AreFoundAt (founds : List Finding) (piece : Piece) (slots : List Slot) (p c : ℕ) (parts : List Part) : Type 0 where
    slotted : AreSlots slots parts
    found : map (finding_of s) parts ≡ founds
    proc_to : proc_end p parts ≡ p + length piece.procs
    chan_to : chan_end c parts ≡ c + length piece.chans

  module _ (part : ℕ → Base → Part) (found : ℕ → Base → Finding) (piece : ℕ → Base → Piece)
      (h : (v : ℕ) (b : Base) → IsFoundAt (found v b) (piece v b) b (part v b)) where
    inner : (slots : List Slot) (p c : ℕ) →
        AreFoundAt (inner_found found piece slots p c) (inner_pieces piece slots p c) slots p c (inner_parts part slots p c)
    unfolding inner_found inner_pieces inner_parts AreSlots proc_end chan_end
    inner [] p c = record { slotted = tt; found = refl; proc_to = omega arith; chan_to = omega arith }
    inner (slot ∷ slots) p c =
        let b : Base = base_at slot p c in
        let x = h slot.part b in
        let P : Part = part slot.part b in
        let here : Piece = piece slot.part b in
        let r = inner slots (p + length here.procs) (c + length here.chans) in
        let e : inner_parts part slots P.proc_to P.chan_to ≡ inner_parts part slots (p + length here.procs) (c + length here.chans) =
        ap₂ (inner_parts part slots) x.proc_to x.chan_to in
        let lp = length-append here.procs (inner_pieces piece slots (p + length here.procs) (c + length here.chans)).procs in
        let lc = length-append here.chans (inner_pieces piece slots (p + length here.procs) (c + length here.chans)).chans in
        record {
          slotted = ((x.input, x.output), subst (AreSlots slots) (sym e) r.slotted);
          found = ap₂ (λ y ys. y ∷ ys) x.same (ap (map (finding_of s)) e ∙ r.found);
          proc_to = ap₂ proc_end x.proc_to e ∙ r.proc_to ∙ omega (arith, lp);
          chan_to = ap₂ chan_end x.chan_to e ∙ r.chan_to ∙ omega (arith, lc);
        }

  module _ (units : Units) (count : ℕ → ℕ) (cap : ℕ) where
    is_found : (d k : ℕ) (base : Base) →
        IsFoundAt (node_found units.tree count cap d k base s) (piece_of units.tree count cap d k base) base (part_of units count d k base)
    unfolding node_found piece_of part_of
    is_found zero k base = record { same = refl; input = refl; output = refl; proc_to = refl; chan_to = omega arith }
    is_found (suc d) k base =
        let shape : Blueprint = shape_at units.tree count k in
        let roles : ℕ → Role = λ v. role_of units count d (part_at units.tree k v) in
        let t = found_at units.tree count k in
        let finds : Finds = (kind_at units.tree count k).finds in
        let p : ℕ = base.proc + length (shape.procs base) in
        let c : ℕ = base.chan + shape.chans base in
        let i = inner (λ v. part_of units count d (part_at units.tree k v)) (λ v b. node_found units.tree count cap d (part_at units.tree k v) b s)
        (λ v. piece_of units.tree count cap d (part_at units.tree k v)) (λ v b. is_found d (part_at units.tree k v) b) (shape.slots base) p c in
        let parts : List Part = inner_parts (λ v. part_of units count d (part_at units.tree k v)) (shape.slots base) p c in
        let rest : Piece = inner_pieces (λ v. piece_of units.tree count cap d (part_at units.tree k v)) (shape.slots base) p c in
        let e = t.ends units roles base parts i.slotted in
        let laid = t.laid cap base in
        let lp = length-append (shape.procs base) rest.procs in
        let lc = length-append (shape.laid cap base) rest.chans in
        record {
          same =
              ap₂ (λ (o : Bool) (q : List Token). record { orderly = o; pending = q })
              (t.orderly units roles base parts s i.slotted
              ∙ ap₂ (λ b ps. b && (finds units.tree base s ps).orderly) (orderly_found parts) (pending_found parts))
              (t.pending units roles base parts s i.slotted ∙ ap (λ ps. (finds units.tree base s ps).pending) (pending_found parts))
              ∙ ap (λ fs. with_inner fs (finds units.tree base s)) i.found;
          input = e.input;
          output = e.output;
          proc_to = e.proc_to ∙ i.proc_to ∙ omega (arith, lp);
          chan_to = e.chan_to ∙ i.chan_to ∙ omega (arith, lc, laid);
        }

    pub node_is_found : (d k : ℕ) (base : Base) →
        finding_of s (part_of units count d k base) ≡ node_found units.tree count cap d k base s
    node_is_found d k base = (is_found d k base).same
