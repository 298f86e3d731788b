-- Values of the meaning that were worked out by hand.
use Rattle.std.specs.Prelude.{◌≡◌, ℤ, pos, negsuc, zero, suc, ◌+ℤ◌, ◌-ℤ◌, ◌*ℤ◌, int_div, ℕ, Some, List, [], ◌∷◌}
use Rattle.p3l_base.specs.declared.outcome.Outcome.{Outcome}
use Rattle.p3l_base.specs.declared.outcome.Outcome.TheVariants.{Value, Trapped}
use Rattle.p3l_base.specs.declared.outcome.TrapKind.{TrapKind}
use Rattle.p3l_base.specs.declared.outcome.TrapKind.TheVariants.{DivZero, Shift}
use Rattle.p3l_base.specs.declared.slice.Place.TheVariants.{Rest, First, Second}
use Rattle.p3l_base.specs.declared.cut.Cut.{Cut}
use Rattle.p3l_skel.specs.Item.{in_order, mapped, reduced, turned, turns_spent, rescued}

abbrev pub trap : TrapKind → Outcome
trap kind = Trapped (record { kind = kind; «module» = 1 })

-- the difference of two words
abbrev pub minus : List ℤ → Outcome
minus (x ∷ (y ∷ [])) = Value ((x -ℤ y) ∷ [])
minus words = trap Shift

-- the inner product of two pairs
abbrev pub inner : List ℤ → Outcome
inner (a ∷ (b ∷ (c ∷ (d ∷ [])))) = Value (((a *ℤ c) +ℤ (b *ℤ d)) ∷ [])
inner words = trap Shift

-- half of the first word, and one more than the second
abbrev pub half : List ℤ → Outcome
half (x ∷ (c ∷ [])) = Value (int_div x (pos 2) ∷ ((c +ℤ pos 1) ∷ []))
half words = trap Shift

-- the word 1 if the first word is above 1, otherwise 0
abbrev pub more : List ℤ → Outcome
more (pos (suc (suc n)) ∷ words) = Value (pos 1 ∷ [])
more words = Value (pos 0 ∷ [])

-- a trap at a number below 0, another one at 0
abbrev pub checked : List ℤ → Outcome
checked (pos zero ∷ words) = trap DivZero
checked (negsuc n ∷ words) = trap Shift
checked words = Value words

-- two stages with a trap at 0, the second of which has rescue number 9
abbrev pub second_rescued : ℕ → List ℤ → Outcome
second_rescued zero words = checked words
second_rescued (suc n) words = rescued (Some (pos 9)) 1 (checked words)

-- the rows of one matrix of two by two, and the columns of another
abbrev pub matrix_cut : Cut
matrix_cut = record {
  first = 2;
  second = 2;
  ins = record { start = 0; dims = record { size = 2; place = First } ∷ (record { size = 2; place = Rest } ∷ []) }
      ∷ (record { start = 4; dims = record { size = 2; place = Rest } ∷ (record { size = 2; place = Second } ∷ []) } ∷ []);
  outs = record { start = 0; dims = record { size = 2; place = First } ∷ (record { size = 2; place = Second } ∷ []) } ∷ [];
}

-- four words, one by one
abbrev pub four_cut : Cut
four_cut = record {
  first = 4;
  second = 1;
  ins = record { start = 0; dims = record { size = 4; place = First } ∷ [] } ∷ [];
  outs = record { start = 0; dims = record { size = 4; place = First } ∷ [] } ∷ [];
}

abbrev pub words_to_8 : List ℤ
words_to_8 = pos 1 ∷ (pos 2 ∷ (pos 3 ∷ (pos 4 ∷ (pos 5 ∷ (pos 6 ∷ (pos 7 ∷ (pos 8 ∷ [])))))))

-- the product of two matrices, the fold of 1 to 5 by differences, two runs of a loop and one whose
-- turns are spent, the first of two traps, a rescued trap, and one that a later stage does not rescue
pub record HandValues : Type 0 where
  pub product : mapped matrix_cut inner words_to_8 ≡ Value (pos 19 ∷ (pos 22 ∷ (pos 43 ∷ (pos 50 ∷ []))))
  pub differences : reduced 1 minus (pos 1 ∷ (pos 2 ∷ (pos 3 ∷ (pos 4 ∷ (pos 5 ∷ []))))) ≡ Value (negsuc 4 ∷ [])
  pub six_turns : turned half more (turns_spent 0) 10 (pos 64 ∷ (pos 0 ∷ [])) ≡ Value (pos 1 ∷ (pos 6 ∷ []))
  pub one_turn : turned half more (turns_spent 0) 10 (pos 3 ∷ (pos 0 ∷ [])) ≡ Value (pos 1 ∷ (pos 1 ∷ []))
  pub spent : turned half more (turns_spent 0) 5 (pos 64 ∷ (pos 0 ∷ [])) ≡ turns_spent 0
  pub first_trap : mapped four_cut checked (pos 5 ∷ (negsuc 0 ∷ (pos 0 ∷ (pos 2 ∷ [])))) ≡ trap Shift
  pub rescued_trap : rescued (Some (negsuc 6)) 2 (trap DivZero) ≡ Value (negsuc 6 ∷ (negsuc 6 ∷ []))
  pub rescued_stage : in_order second_rescued (1 ∷ (0 ∷ [])) (Value (pos 0 ∷ [])) ≡ Value (pos 9 ∷ [])
  pub earlier_trap : in_order second_rescued (0 ∷ (1 ∷ [])) (Value (pos 0 ∷ [])) ≡ trap DivZero
