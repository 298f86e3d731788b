-- The format of tokens.
use Rattle.std.specs.Prelude.{ℕ, ℤ, Bool, true, false, not, List, [], ◌∷◌}
use Rattle.p3l_base.specs.declared.outcome.Outcome.{Outcome}
use Rattle.p3l_base.specs.declared.outcome.Outcome.TheVariants.{Value, Trapped}
use Rattle.p3l_base.specs.declared.outcome.Trap.{Trap}
use Rattle.p3l_base.specs.declared.outcome.TrapKind.{TrapKind}
use Rattle.p3l_base.specs.declared.outcome.TrapKind.TheVariants.{DivZero, DivOver, Index, Shift, Budget, Turns}
use Rattle.p3l_format.specs.Format.{Format, as_form, both, counted, record_of, tagged}
use Rattle.p3l_format.specs.Numbers.{one_of, u32_format, u64_format}
use Rattle.p3l_firing.specs.declared.shot.SavedToken.{SavedToken}
use Rattle.p3l_firing.specs.Token.{is_trap}
use Rattle.p3l_resume.specs.Words.{count_format, flag_format, words_format}

abbrev pub trap_kinds : List TrapKind
trap_kinds = DivZero ∷ DivOver ∷ Index ∷ Shift ∷ Budget ∷ Turns ∷ []

abbrev pub trap_number : TrapKind → ℕ
trap_number DivZero = 0
trap_number DivOver = 1
trap_number Index = 2
trap_number Shift = 3
trap_number Budget = 4
trap_number Turns = 5

abbrev pub trap_kind_format : Format ℕ TrapKind
trap_kind_format = one_of trap_kinds trap_number

-- the kind of a trap, and the number of its module
unfoldable pub trap_format : Format ℕ Trap
trap_format = record_of (λ p. record { kind = p.0; «module» = p.1 }) (λ t. (t.kind, t.«module»)) (both trap_kind_format u32_format)

-- the words of a value, and the trap, each with something where there is none
abbrev pub words_of : Outcome → List ℤ
words_of (Value words) = words
words_of (Trapped trap) = []

abbrev pub trap_of : Outcome → Trap
trap_of (Value words) = record { kind = DivZero; «module» = 0 }
trap_of (Trapped trap) = trap

abbrev pub is_value : Outcome → Bool
is_value outcome = not (is_trap outcome)

-- the words of a value, or a trap
unfoldable pub body_format : Bool → Format ℕ Outcome
body_format false = as_form is_value (λ words. Value words) words_of words_format
body_format true = as_form is_trap (λ trap. Trapped trap) trap_of trap_format

-- the flag of an outcome, true for a trap, and then its body
unfoldable pub outcome_format : Format ℕ Outcome
outcome_format = tagged flag_format is_trap body_format

abbrev pub tags_format : Format ℕ (List ℕ)
tags_format = counted count_format (λ _. u64_format)

-- the tags of a token, and its outcome
unfoldable pub token_format : Format ℕ SavedToken
token_format = record_of (λ p. record { tags = p.0; body = p.1 }) (λ t. (t.tags, t.body)) (both tags_format outcome_format)

abbrev pub tokens_format : Format ℕ (List SavedToken)
tokens_format = counted count_format (λ _. token_format)
