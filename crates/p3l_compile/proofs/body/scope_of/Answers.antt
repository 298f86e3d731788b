use Rattle.std.proofs.Common.{◌≡◌, ℕ, ◌+◌, List, [], ◌++◌, refl, sym, ap, ◌∙◌, subst}
use Rattle.std.specs.List.{AllByRecursion}
use Rattle.p3l_types.specs.Constants.{Constants}
use Rattle.p3l_body.specs.declared.var.Var.{Var}
use Rattle.p3l_body.specs.Seq.{seq_tree}
use Rattle.p3l_compile.specs.declared.scope.Slot.{Slot}
use Rattle.p3l_compile.specs.Scope.{Names, slots_from, names_of}
use Rattle.p3l_compile.specs.Condition.{total, AreFresh, IsArray}
use Rattle.p3l_compile.proofs.Entered.{all_entered, ins_fresh, outs_fresh, locals_fresh, ins_arrays, outs_arrays, locals_arrays}
use Rattle.p3l_compile.proofs.body.scope_of.Goals as goal

-- names with these slots
entered_slots : (names old : Names) (slots : List (List ℕ × Slot)) (from before : ℕ) (vars own : List Var) → names ≡ record old { slots = old.slots ++ slots_from from vars } → old.slots ≡ slots → from ≡ before → vars ≡ own → names.slots ≡ slots ++ slots_from before own
entered_slots names old slots from before vars own e s f v =
    ap (λ (n : Names). n.slots) e ∙ ap (λ l. l ++ slots_from from vars) s ∙ ap (λ k. slots ++ slots_from k vars) f ∙ ap (λ l. slots ++ slots_from before l) v

entered_after : (after from before : ℕ) (vars own : List Var) → after ≡ from + total vars → from ≡ before → vars ≡ own → after ≡ before + total own
entered_after after from before vars own e f v = e ∙ ap (λ k. k + total vars) f ∙ ap (λ l. before + total l) v

fresh_as : (slots here : List (List ℕ × Slot)) (base from : ℕ) (vars own : List Var) → here ≡ slots → from ≡ base → own ≡ vars → AreFresh slots base vars → AreFresh here from own
fresh_as slots here base from vars own s f v h =
    subst (λ l. AreFresh here from l) (sym v) (subst (λ k. AreFresh here k vars) (sym f) (subst (λ l. AreFresh l base vars) (sym s) h))

same_names : (a b : Names) → a.slots ≡ b.slots → a.constants ≡ b.constants → a ≡ b
same_names a b s k =
    let at_slots : List (List ℕ × Slot) → Names = λ l. record { slots = l; constants = a.constants } in
    let at_constants : Constants → Names = λ c. record { slots = b.slots; constants = c } in
    ap at_slots s ∙ ap at_constants k

pub enter-requires-clause-fresh : goal.enter-requires-clause-fresh
enter-requires-clause-fresh c =
    let none = ap (λ (n : Names). n.slots) c.new-scope.ensures in
    fresh_as [] c.new-scope.result.slots 0 0 c.args.seq.now.ins c.as_slice.result.now none refl c.as_slice.ensures (ins_fresh (seq_tree c.args.seq.now) c.requires)

pub enter-requires-clause-arrays : goal.enter-requires-clause-arrays
enter-requires-clause-arrays c = subst (AllByRecursion IsArray) (sym c.as_slice.ensures) (ins_arrays (seq_tree c.args.seq.now) c.requires)

pub enter-requires-2-clause-fresh : goal.enter-requires-2-clause-fresh
enter-requires-2-clause-fresh c =
    let none = ap (λ (n : Names). n.slots) c.new-scope.ensures in
    let ins = c.args.seq.now.ins in
    let one = entered_slots c.enter.new.self c.new-scope.result [] 0 0 c.as_slice.result.now ins c.in_ok-outs.ensures.entered none refl c.as_slice.ensures in
    let after = entered_after c.in_ok-outs.outs 0 0 c.as_slice.result.now ins c.in_ok-outs.ensures.after refl c.as_slice.ensures in
    fresh_as (slots_from 0 ins) c.enter.new.self.slots (0 + total ins) c.in_ok-outs.outs c.args.seq.now.outs c.as_slice-2.result.now one after c.as_slice-2.ensures (outs_fresh (seq_tree c.args.seq.now) c.requires)

pub enter-requires-2-clause-arrays : goal.enter-requires-2-clause-arrays
enter-requires-2-clause-arrays c = subst (AllByRecursion IsArray) (sym c.as_slice-2.ensures) (outs_arrays (seq_tree c.args.seq.now) c.requires)

pub enter-requires-3-clause-fresh : goal.enter-requires-3-clause-fresh
enter-requires-3-clause-fresh c =
    let none = ap (λ (n : Names). n.slots) c.new-scope.ensures in
    let ins = c.args.seq.now.ins in
    let outs = c.args.seq.now.outs in
    let one = entered_slots c.enter.new.self c.new-scope.result [] 0 0 c.as_slice.result.now ins c.in_ok-outs.ensures.entered none refl c.as_slice.ensures in
    let after = entered_after c.in_ok-outs.outs 0 0 c.as_slice.result.now ins c.in_ok-outs.ensures.after refl c.as_slice.ensures in
    let two = entered_slots c.enter-2.new.self c.enter.new.self (slots_from 0 ins) c.in_ok-outs.outs (0 + total ins) c.as_slice-2.result.now outs c.in_ok-locals.ensures.entered one after c.as_slice-2.ensures in
    let last = entered_after c.in_ok-locals.locals c.in_ok-outs.outs (0 + total ins) c.as_slice-2.result.now outs c.in_ok-locals.ensures.after after c.as_slice-2.ensures in
    fresh_as (slots_from 0 ins ++ slots_from (0 + total ins) outs) c.enter-2.new.self.slots (0 + total ins + total outs) c.in_ok-locals.locals c.args.seq.now.locals c.as_slice-3.result.now two last c.as_slice-3.ensures (locals_fresh (seq_tree c.args.seq.now) c.requires)

pub enter-requires-3-clause-arrays : goal.enter-requires-3-clause-arrays
enter-requires-3-clause-arrays c = subst (AllByRecursion IsArray) (sym c.as_slice-3.ensures) (locals_arrays (seq_tree c.args.seq.now) c.requires)

pub returns : goal.returns
returns c =
    let none = ap (λ (n : Names). n.slots) c.new-scope.ensures in
    let ins = c.args.seq.now.ins in
    let outs = c.args.seq.now.outs in
    let one = entered_slots c.enter.new.self c.new-scope.result [] 0 0 c.as_slice.result.now ins c.in_ok-outs.ensures.entered none refl c.as_slice.ensures in
    let after = entered_after c.in_ok-outs.outs 0 0 c.as_slice.result.now ins c.in_ok-outs.ensures.after refl c.as_slice.ensures in
    let two = entered_slots c.enter-2.new.self c.enter.new.self (slots_from 0 ins) c.in_ok-outs.outs (0 + total ins) c.as_slice-2.result.now outs c.in_ok-locals.ensures.entered one after c.as_slice-2.ensures in
    let last = entered_after c.in_ok-locals.locals c.in_ok-outs.outs (0 + total ins) c.as_slice-2.result.now outs c.in_ok-locals.ensures.after after c.as_slice-2.ensures in
    let three = entered_slots c.enter-3.new.self c.enter-2.new.self (slots_from 0 ins ++ slots_from (0 + total ins) outs) c.in_ok-locals.locals (0 + total ins + total outs) c.as_slice-3.result.now c.args.seq.now.locals c.in_ok-enter.ensures.entered two last c.as_slice-3.ensures in
    let constants = ap (λ (n : Names). n.constants) c.in_ok-enter.ensures.entered ∙ ap (λ (n : Names). n.constants) c.in_ok-locals.ensures.entered ∙ ap (λ (n : Names). n.constants) c.in_ok-outs.ensures.entered ∙ ap (λ (n : Names). n.constants) c.new-scope.ensures in
    same_names c.enter-3.new.self (names_of (seq_tree c.args.seq.now)) (three ∙ all_entered (seq_tree c.args.seq.now) c.requires) constants
