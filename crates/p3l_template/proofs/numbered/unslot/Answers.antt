use Rattle.std.proofs.Common.{◌≡◌, ◌++◌, [], ◌∷◌, Some, None, map, length, get_or, subst, sym, ap, ◌∙◌, append_assoc, append-nil, length-append, arith}
use Rattle.std.proofs.lemmas.List.{map-append}
use Rattle.p3l_template.specs.Numbered.{AreSlotted}
use Rattle.p3l_template.proofs.Slots.{all_in_order, slot_free, or_middle, no_slots, not_some}
use Rattle.p3l_template.proofs.numbered.unslot.Goals as goal

pub loop-slot-init : goal.loop-slot-init
loop-slot-init c = record { same = ap (map Some) c.new-list.ensures; left = sym c.into_iter-slot-iterator.ensures.into_iter_gives.0 }

pub returns-in_default : goal.returns-in_default
returns-in_default c = λ xs from are e.
    let done = c.loop-slot.yielded in
    let whole : c.args.slots.items ≡ done ++ (c.in-Some.slot ∷ c.next.new.self.rest.items) =
    c.loop-slot.invariant.left ∙ ap (λ z. done ++ z) c.in-Some.ensures.steps.0 in
    let many = ap length whole in
    let long = length-append done (c.in-Some.slot ∷ c.next.new.self.rest.items) in
    slot_free xs from (length done) c.args.slots.items are e (omega (arith, many, long))
    (ap (λ z. get_or z (length done) None) whole ∙ or_middle done c.in-Some.slot c.next.new.self.rest.items None ∙ not_some c.in-Some.slot c.in_default.not-Some)

pub loop-slot-preserved : goal.loop-slot-preserved
loop-slot-preserved c = record {
  same =
      ap (map Some) c.in_ok-push.ensures.ok ∙ map-append Some c.loop-slot.list (c.in-Some-slot.token ∷ [])
      ∙ ap (λ z. z ++ Some c.in-Some-slot.token ∷ []) c.loop-slot.invariant.same
      ∙ ap (λ z. c.loop-slot.yielded ++ z ∷ []) (sym c.in-Some-slot.is);
  left =
      c.loop-slot.invariant.left ∙ ap (λ z. c.loop-slot.yielded ++ z) c.in-Some.ensures.steps.0
      ∙ sym (append_assoc c.loop-slot.yielded (c.in-Some.slot ∷ []) c.next.new.self.rest.items);
}

pub returns : goal.returns
returns c = λ xs from are e.
    let none = no_slots c.loop-slot.slot-iterator.rest.items (omega (arith, c.loop-slot.slot-iterator.rest.ok.0, c.in-None.ensures.steps.0)) in
    let whole : c.args.slots.items ≡ map Some c.loop-slot.list =
    c.loop-slot.invariant.left ∙ ap (λ z. c.loop-slot.yielded ++ z) none ∙ append-nil c.loop-slot.yielded ∙ sym c.loop-slot.invariant.same in
    all_in_order xs c.loop-slot.list from (subst (λ z. AreSlotted from z xs) whole are) (e ∙ ap length whole)
