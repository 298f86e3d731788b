-- Small bodies whose meaning is known, worked out by the definitions.
use Rattle.std.proofs.Common.{◌≡◌, ℕ, ℤ, pos, negsuc, List, [], ◌∷◌, Ok, Err, refl, codes}
use Rattle.std.specs.Int.{int_wrap}
use Rattle.p3l_base.specs.declared.outcome.TrapKind.TheVariants.{DivZero, Index, Budget}
use Rattle.p3l_ast.specs.declared.position.Spot.{Spot}
use Rattle.p3l_ast.specs.declared.expression.BinOp.TheVariants.{Or, Lt, Add, Div}
use Rattle.p3l_ast.specs.declared.meaning.valuation.Binding.{Binding}
use Rattle.p3l_ast.specs.declared.meaning.valuation.Valuation.{Valuation}
use Rattle.p3l_ast.specs.Tree.{Phrase, number, read, binary, none, more, Statements, done, assign, while_, for_}
use Rattle.p3l_ast.specs.Unplaced.{nowhere}
use Rattle.p3l_ast.specs.Meaning.Expression.{value_of, place_of}
use Rattle.p3l_ast.specs.Meaning.Statement.{run_by, loop_by, loop_of, run_of}

-- `i` and `s`, and `a` with two elements
abbrev named : List ℕ → Spot
named name = record { name = name; pos = nowhere }

abbrev scalar : List ℕ → ℤ → Binding
scalar name word = record { name = name; sizes = []; words = word ∷ [] }

abbrev holding : ℤ → ℤ → ℕ → Valuation
holding i s turns = record {
  bindings = scalar (codes "i") i ∷ scalar (codes "s") s ∷ record { name = codes "a"; sizes = 2 ∷ []; words = pos 7 ∷ pos 8 ∷ [] } ∷ [];
  turns = turns;
}

abbrev i : Phrase
i = read (named (codes "i")) none

abbrev s : Phrase
s = read (named (codes "s")) none

-- s = s + i;
abbrev sum : Statements
sum = assign (named (codes "s")) none (binary Add s i) done

-- for (i = 0; i < 3; i = i + 1) { s = s + i; }
abbrev three : Statements
three = for_ (named (codes "i")) none (number (pos 0)) (binary Lt i (number (pos 3))) (named (codes "i")) none (binary Add i (number (pos 1))) sum done

three_turns : run_of 3 three (holding (pos 5) (pos 1) 0) ≡ Ok (holding (pos 3) (pos 4) 3)
unfolding run_of run_by loop_of loop_by value_of place_of int_wrap
three_turns = refl

third_turn_too_many : run_of 2 three (holding (pos 5) (pos 1) 0) ≡ Err Budget
unfolding run_of run_by loop_of loop_by value_of place_of int_wrap
third_turn_too_many = refl

-- while (s < 2) { s = s + 1; for (i = 0; i < 2; i = i + 1) { } }
abbrev nested : Statements
nested = while_ (binary Lt s (number (pos 2)))
    (assign (named (codes "s")) none (binary Add s (number (pos 1)))
    (for_ (named (codes "i")) none (number (pos 0)) (binary Lt i (number (pos 2))) (named (codes "i")) none (binary Add i (number (pos 1))) done done))
    done

loops_share_turns : run_of 6 nested (holding (pos 0) (pos 0) 0) ≡ Ok (holding (pos 2) (pos 2) 6)
unfolding run_of run_by loop_of loop_by value_of place_of int_wrap
loops_share_turns = refl

sixth_turn_too_many : run_of 5 nested (holding (pos 0) (pos 0) 0) ≡ Err Budget
unfolding run_of run_by loop_of loop_by value_of place_of int_wrap
sixth_turn_too_many = refl

-- 1 / 0
abbrev broken : Phrase
broken = binary Div (number (pos 1)) (number (pos 0))

index_first : run_of 1 (assign (named (codes "a")) (more (number (pos 2)) none) broken done) (holding (pos 0) (pos 0) 0) ≡ Err Index
unfolding run_of run_by loop_of loop_by value_of place_of
index_first = refl

right_side_next : run_of 1 (assign (named (codes "a")) (more (number (pos 1)) none) broken done) (holding (pos 0) (pos 0) 0) ≡ Err DivZero
unfolding run_of run_by loop_of loop_by value_of place_of
right_side_next = refl

left_decides : value_of (holding (pos 0) (pos 0) 0) (binary Or (number (negsuc 4)) broken) ≡ Ok (pos 1)
unfolding value_of
left_decides = refl
