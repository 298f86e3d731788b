-- The reader's answer to the canonical text of a program.
use Rattle.std.proofs.Common.{◌≡◌, ℕ, ◌≤◌, List, length, refl, sym, ap, ◌∙◌, subst, IfOk, IfErr}
use Rattle.std.specs.declared.result.Result.{Result}
use Rattle.std.specs.declared.result.Result.TheVariants.{Ok, Err}
use Rattle.p3l_base.specs.Memory.{Refused}
use Rattle.p3l_ast.specs.declared.refusal.SourceRefusal.{SourceRefusal}
use Rattle.p3l_ast.specs.declared.refusal.SourceRefusal.TheVariants.{At, NoMemory}
use Rattle.p3l_ast.specs.declared.program.Program.{Program}
use Rattle.p3l_ast.specs.Tree.{ProgramTree, program_tree}
use Rattle.p3l_ast.specs.Unplaced.{program_unplaced}
use Rattle.p3l_grammar.specs.Grammar.{Spells}
use Rattle.p3l_reader.specs.Faults.{IsOnly}
use Rattle.p3l_print.specs.Program.{canonical, IsTextOf}

-- it is the same program but for positions, or memory ran out
answers_same : (bytes : List ℕ) (program : ProgramTree) (answer : Result Program SourceRefusal) → IsTextOf bytes program → ((tree : ProgramTree) → Spells bytes tree → IsOnly tree answer) → IfOk answer (λ again. program_unplaced (program_tree again) ≡ program_unplaced program) × IfErr answer (λ refusal. (refusal ≡ NoMemory) × Refused)
answers_same bytes program (Ok again) is only =
    (let read : program_tree again ≡ is.placed = only is.placed is.spells in ap program_unplaced read ∙ is.same, tt)
answers_same bytes program (Err NoMemory) is only = (tt, (refl, only is.placed is.spells))
answers_same bytes program (Err (At fault at)) is only = absurd (only is.placed is.spells)

pub rereads : (program : ProgramTree) (other text bytes : List ℕ) (answer : Result Program SourceRefusal) → IsTextOf other program → length (canonical program) ≤ 1048576 → text ≡ canonical program → ((other : List ℕ) → IsTextOf other program → IsTextOf text program) → bytes ≡ text → (length bytes ≤ 1048576 → (tree : ProgramTree) → Spells bytes tree → IsOnly tree answer) → IfOk answer (λ again. program_unplaced (program_tree again) ≡ program_unplaced program) × IfErr answer (λ refusal. (refusal ≡ NoMemory) × Refused)
rereads program other text bytes answer is short canonical_is spells same only =
    answers_same bytes program answer (subst (λ t. IsTextOf t program) (sym same) (spells other is))
    (only (subst (λ t. length t ≤ 1048576) (sym (same ∙ canonical_is)) short))
