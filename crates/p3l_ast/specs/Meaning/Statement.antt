-- Effects of statements on a valuation, or the first trap.
use Rattle.std.specs.Prelude.{◌≡◌, ℕ, zero, suc, List, Result, Ok, Err, if◌then◌else◌}
use Rattle.p3l_base.specs.declared.outcome.TrapKind.{TrapKind}
use Rattle.p3l_base.specs.declared.outcome.TrapKind.TheVariants.{Budget}
use Rattle.p3l_ast.specs.declared.meaning.valuation.Valuation.{Valuation}
use Rattle.p3l_ast.specs.Tree.{Phrase, Phrases, Statements, done, assign, if_, if_else, while_, for_, join}
use Rattle.p3l_ast.specs.Meaning.Operator.{holds}
use Rattle.p3l_ast.specs.Meaning.Valuation.{sizes_of, with_word, turned}
use Rattle.p3l_ast.specs.Meaning.Expression.{given, value_of, place_of}

-- an assignment: first the indices of the target, then the right side
abbrev pub assigned : List ℕ → Phrases → Phrase → Valuation → Result Valuation TrapKind
assigned name index e valuation =
    given (place_of valuation index (sizes_of valuation name) 0) (λ place. given (value_of valuation e) (λ word. Ok (with_word valuation name place word)))

-- one of two ways, by a condition
abbrev pub chosen : Phrase → (Valuation → Result Valuation TrapKind) → (Valuation → Result Valuation TrapKind) → Valuation → Result Valuation TrapKind
chosen e if_so if_not valuation = given (value_of valuation e) (λ x. (if holds x then if_so else if_not) valuation)

-- statements, where a loop of a condition and a body does what is given
unfoldable pub run_by : (Phrase → Statements → Valuation → Result Valuation TrapKind) → Statements → Valuation → Result Valuation TrapKind
run_by loop done valuation = Ok valuation
run_by loop (assign x index e next) valuation = given (assigned x.name index e valuation) (run_by loop next)
run_by loop (if_ e if_so next) valuation = given (chosen e (run_by loop if_so) Ok valuation) (run_by loop next)
run_by loop (if_else e if_so if_not next) valuation = given (chosen e (run_by loop if_so) (run_by loop if_not) valuation) (run_by loop next)
run_by loop (while_ e body next) valuation = given (loop e body valuation) (run_by loop next)
run_by loop (for_ x index e w y indices f body next) valuation =
    given (given (assigned x.name index e valuation) (loop w (join body (assign y indices f done)))) (run_by loop next)

-- a loop within a budget of turns; no loop can begin more turns than the number that it recurs on
unfoldable pub loop_by : ℕ → ℕ → Phrase → Statements → Valuation → Result Valuation TrapKind
loop_by budget zero e body valuation = chosen e (λ s. Err Budget) Ok valuation
loop_by budget (suc turns) e body valuation =
    chosen e (λ s. given (given (turned budget s) (run_by (loop_by budget turns) body)) (loop_by budget turns e body)) Ok valuation

-- a loop, and statements, within a budget of turns
unfoldable pub loop_of : ℕ → Phrase → Statements → Valuation → Result Valuation TrapKind
loop_of budget e body valuation = loop_by budget budget e body valuation

unfoldable pub run_of : ℕ → Statements → Valuation → Result Valuation TrapKind
run_of budget statements valuation = run_by (loop_of budget) statements valuation

-- a loop is one turn and the loop again, as long as its condition holds
abbrev pub LoopsUnroll : Type 0
LoopsUnroll =
    (budget : ℕ) (e : Phrase) (body : Statements) (valuation : Valuation) →
    loop_of budget e body valuation ≡ chosen e (λ s. given (given (turned budget s) (run_of budget body)) (loop_of budget e body)) Ok valuation
