-- The variables of a body, entered one list after the other.
use Rattle.std.proofs.Common.{◌≡◌, ℕ, ◌+◌, List, [], ◌∷◌, ◌++◌, sym, ap, ◌∙◌, subst, refl, arith, append_assoc, append-nil}
use Rattle.std.specs.List.{AllByRecursion}
use Rattle.p3l_types.specs.Constants.{Constants}
use Rattle.p3l_body.specs.declared.var.Var.{Var}
use Rattle.p3l_body.specs.Eval.{width}
use Rattle.p3l_body.specs.Seq.{SeqTree}
use Rattle.p3l_compile.specs.declared.scope.Slot.{Slot}
use Rattle.p3l_compile.specs.Scope.{LieFrom, IsLaid, slot_at, slots_from, names_of}
use Rattle.p3l_compile.specs.Condition.{total, AreFresh, IsArray, IsCompilable}
use Rattle.p3l_compile.proofs.Started.{total_append, slots_append, lie_from, before_differ, lookup_none}

fresh_from : (vars : List Var) (front back : List (List ℕ × Slot)) (constants : Constants) (base size : ℕ) → LieFrom 0 (front ++ (slots_from base vars ++ back)) constants size → AreFresh front base vars
fresh_from [] front back constants base size laid = tt
fresh_from (v ∷ vars) front back constants base size laid =
    let rest = slots_from (base + width v) vars ++ back in (
      lookup_none v.name front (before_differ front rest (v.name, slot_at base v) constants 0 size laid),
      fresh_from vars (front ++ (v.name, slot_at base v) ∷ []) back constants (base + width v) size
          (subst (λ l. LieFrom 0 l constants size) (sym (append_assoc front ((v.name, slot_at base v) ∷ []) rest)) laid),
    )

all_front : (front back : List Var) → AllByRecursion IsArray (front ++ back) → AllByRecursion IsArray front
all_front [] back h = tt
all_front (v ∷ front) back h = (h.0, all_front front back h.1)

all_back : (front back : List Var) → AllByRecursion IsArray (front ++ back) → AllByRecursion IsArray back
all_back [] back h = h
all_back (v ∷ front) back h = all_back front back h.1

module _ (seq : SeqTree) (can : IsCompilable seq) where
  pub laid : (size : ℕ) → size ≡ total ((seq.ins ++ seq.outs) ++ seq.locals) → IsLaid (names_of seq) size
  laid size e =
      lie_from ((seq.ins ++ seq.outs) ++ seq.locals) seq.constants 0 size can.differ can.arrays (omega arith)

  pub all_entered : (slots_from 0 seq.ins ++ slots_from (0 + total seq.ins) seq.outs) ++ slots_from (0 + total seq.ins + total seq.outs) seq.locals ≡ slots_from 0 ((seq.ins ++ seq.outs) ++ seq.locals)
  all_entered =
      let e : 0 + total (seq.ins ++ seq.outs) ≡ 0 + total seq.ins + total seq.outs = omega (arith, total_append seq.ins seq.outs) in
      sym (slots_append (seq.ins ++ seq.outs) seq.locals 0
      ∙ ap (λ l. l ++ slots_from (0 + total (seq.ins ++ seq.outs)) seq.locals) (slots_append seq.ins seq.outs 0)
      ∙ ap (λ k. (slots_from 0 seq.ins ++ slots_from (0 + total seq.ins) seq.outs) ++ slots_from k seq.locals) e)

  lie : LieFrom 0 ((slots_from 0 seq.ins ++ slots_from (0 + total seq.ins) seq.outs) ++ slots_from (0 + total seq.ins + total seq.outs) seq.locals) seq.constants (total ((seq.ins ++ seq.outs) ++ seq.locals))
  unfolding laid all_entered
  lie = subst (λ l. LieFrom 0 l seq.constants (total ((seq.ins ++ seq.outs) ++ seq.locals))) (sym all_entered) (laid (total ((seq.ins ++ seq.outs) ++ seq.locals)) refl)

  pub ins_fresh : AreFresh [] 0 seq.ins
  unfolding lie
  ins_fresh =
      fresh_from seq.ins [] (slots_from (0 + total seq.ins) seq.outs ++ slots_from (0 + total seq.ins + total seq.outs) seq.locals) seq.constants 0 (total ((seq.ins ++ seq.outs) ++ seq.locals))
      (subst (λ l. LieFrom 0 l seq.constants (total ((seq.ins ++ seq.outs) ++ seq.locals))) (append_assoc (slots_from 0 seq.ins) (slots_from (0 + total seq.ins) seq.outs) (slots_from (0 + total seq.ins + total seq.outs) seq.locals)) lie)

  pub outs_fresh : AreFresh (slots_from 0 seq.ins) (0 + total seq.ins) seq.outs
  unfolding lie
  outs_fresh =
      fresh_from seq.outs (slots_from 0 seq.ins) (slots_from (0 + total seq.ins + total seq.outs) seq.locals) seq.constants (0 + total seq.ins) (total ((seq.ins ++ seq.outs) ++ seq.locals))
      (subst (λ l. LieFrom 0 l seq.constants (total ((seq.ins ++ seq.outs) ++ seq.locals))) (append_assoc (slots_from 0 seq.ins) (slots_from (0 + total seq.ins) seq.outs) (slots_from (0 + total seq.ins + total seq.outs) seq.locals)) lie)

  pub locals_fresh : AreFresh (slots_from 0 seq.ins ++ slots_from (0 + total seq.ins) seq.outs) (0 + total seq.ins + total seq.outs) seq.locals
  unfolding lie
  locals_fresh =
      let last = slots_from (0 + total seq.ins + total seq.outs) seq.locals in
      fresh_from seq.locals (slots_from 0 seq.ins ++ slots_from (0 + total seq.ins) seq.outs) [] seq.constants (0 + total seq.ins + total seq.outs) (total ((seq.ins ++ seq.outs) ++ seq.locals))
      (subst (λ l. LieFrom 0 ((slots_from 0 seq.ins ++ slots_from (0 + total seq.ins) seq.outs) ++ l) seq.constants (total ((seq.ins ++ seq.outs) ++ seq.locals))) (sym (append-nil last)) lie)

  pub ins_arrays : AllByRecursion IsArray seq.ins
  ins_arrays = all_front seq.ins seq.outs (all_front (seq.ins ++ seq.outs) seq.locals can.arrays)

  pub outs_arrays : AllByRecursion IsArray seq.outs
  outs_arrays = all_back seq.ins seq.outs (all_front (seq.ins ++ seq.outs) seq.locals can.arrays)

  pub locals_arrays : AllByRecursion IsArray seq.locals
  locals_arrays = all_back (seq.ins ++ seq.outs) seq.locals can.arrays
