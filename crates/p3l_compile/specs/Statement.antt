-- The code of statements.
use Rattle.std.specs.Prelude.{◌≡◌, ℕ, pos, ◌+◌, List, [], ◌∷◌, ◌++◌, length, Option, Some, None}
use Rattle.p3l_ast.specs.Tree.{Phrase, Phrases, none, more, Statements, done, assign, if_, if_else, while_, for_}
use Rattle.p3l_code.specs.declared.instr.Instr.{Instr}
use Rattle.p3l_code.specs.declared.instr.Instr.TheVariants.{Push, Store, StoreAt, Jump, JumpZero, JumpNonZero, Turn}
use Rattle.p3l_compile.specs.declared.scope.Slot.{Slot}
use Rattle.p3l_compile.specs.Scope.{Names, found}
use Rattle.p3l_compile.specs.Phrase.{phrase_size, index_size, phrase_code, index_code, sizes_in, count_of, Fits, FitsAll}

abbrev pub assign_size : Phrases → Phrase → ℕ
assign_size none e = phrase_size e + 1
assign_size (more d is) e = index_size (more d is) + phrase_size e + 2

-- a loop evaluates its condition after its body
abbrev pub loop_size : ℕ → ℕ → ℕ
loop_size body condition = body + condition + 3

abbrev pub statement_size : Statements → ℕ
statement_size done = 0
statement_size (assign x is e next) = assign_size is e + statement_size next
statement_size (if_ e if_so next) = phrase_size e + 1 + statement_size if_so + statement_size next
statement_size (if_else e if_so if_not next) = phrase_size e + 1 + statement_size if_so + 1 + statement_size if_not + statement_size next
statement_size (while_ e body next) = loop_size (statement_size body) (phrase_size e) + statement_size next
statement_size (for_ x is e w y js f body next) =
    assign_size is e + loop_size (statement_size body + assign_size js f) (phrase_size w) + statement_size next

abbrev pub store_code : Option Slot → Instr
store_code (Some slot) = Store slot.base
store_code None = Store 0

abbrev pub store_at_code : Option Slot → Instr
store_at_code (Some slot) = StoreAt slot.base slot.words
store_at_code None = StoreAt 0 1

-- an assignment, from a place on: first the indices of the target, then the right side
abbrev pub assign_code : Names → ℕ → List ℕ → Phrases → Phrase → List Instr
assign_code scope pc name none e = phrase_code scope pc e ++ store_code (found scope name) ∷ []
assign_code scope pc name (more d is) e =
    Push (pos 0) ∷ (index_code scope (pc + 1) (sizes_in (found scope name)) (more d is)
    ++ (phrase_code scope (pc + 1 + index_size (more d is)) e ++ store_at_code (found scope name) ∷ []))

-- a loop, from a place on: its body's code and size, its condition's code and size
abbrev pub loop_code : ℕ → (ℕ → List Instr) → ℕ → (ℕ → List Instr) → List Instr
loop_code pc body n condition =
    Jump (pc + 2 + n) ∷ Turn ∷ (body (pc + 2) ++ (condition (pc + 2 + n) ++ JumpNonZero (pc + 1) ∷ []))

-- the code of statements that stand at a place
abbrev pub statement_code : Names → ℕ → Statements → List Instr
statement_code scope pc done = []
statement_code scope pc (assign x is e next) = assign_code scope pc x.name is e ++ statement_code scope (pc + assign_size is e) next
statement_code scope pc (if_ e if_so next) =
    let test = pc + phrase_size e in
    let end = test + 1 + statement_size if_so in
    phrase_code scope pc e ++ (JumpZero end ∷ (statement_code scope (test + 1) if_so ++ statement_code scope end next))
statement_code scope pc (if_else e if_so if_not next) =
    let test = pc + phrase_size e in
    let other = test + 1 + statement_size if_so + 1 in
    let end = other + statement_size if_not in
    phrase_code scope pc e ++ (JumpZero other ∷ (statement_code scope (test + 1) if_so ++ (Jump end ∷ (statement_code scope other if_not ++ statement_code scope end next))))
statement_code scope pc (while_ e body next) =
    loop_code pc (λ p. statement_code scope p body) (statement_size body) (λ p. phrase_code scope p e)
    ++ statement_code scope (pc + loop_size (statement_size body) (phrase_size e)) next
statement_code scope pc (for_ x is e w y js f body next) =
    let start = pc + assign_size is e in
    let n = statement_size body + assign_size js f in
    assign_code scope pc x.name is e
    ++ (loop_code start (λ p. statement_code scope p body ++ assign_code scope (p + statement_size body) y.name js f) n (λ p. phrase_code scope p w)
    ++ statement_code scope (start + loop_size n (phrase_size w)) next)

-- the target is a variable with an index for each of its sizes
abbrev pub IsTarget : Option Slot → ℕ → Type 0
IsTarget (Some slot) n = n ≡ length slot.sizes
IsTarget None n = ⊥

abbrev pub FitsAssign : Names → List ℕ → Phrases → Phrase → Type 0
FitsAssign scope name is e = IsTarget (found scope name) (count_of is) × FitsAll scope is × Fits scope e

-- each name has an index for each of its sizes, and only variables are assigned
abbrev pub FitsCode : Names → Statements → Type 0
FitsCode scope done = Unit {0}
FitsCode scope (assign x is e next) = FitsAssign scope x.name is e × FitsCode scope next
FitsCode scope (if_ e if_so next) = Fits scope e × FitsCode scope if_so × FitsCode scope next
FitsCode scope (if_else e if_so if_not next) = Fits scope e × FitsCode scope if_so × FitsCode scope if_not × FitsCode scope next
FitsCode scope (while_ e body next) = Fits scope e × FitsCode scope body × FitsCode scope next
FitsCode scope (for_ x is e w y js f body next) =
    FitsAssign scope x.name is e × Fits scope w × FitsAssign scope y.name js f × FitsCode scope body × FitsCode scope next
