-- Tokens are read as they are spelled.
use Rattle.std.proofs.Common.{◌≡◌, Bool, true, false, Some, refl}
use Rattle.std.specs.List.{slice_get}
use Rattle.p3l_base.specs.declared.outcome.Outcome.{Outcome}
use Rattle.p3l_base.specs.declared.outcome.Outcome.TheVariants.{Value, Trapped}
use Rattle.p3l_base.specs.declared.outcome.TrapKind.{TrapKind}
use Rattle.p3l_base.specs.declared.outcome.TrapKind.TheVariants.{DivZero, DivOver, Index, Shift, Budget, Turns}
use Rattle.p3l_format.specs.Format.{as_form}
use Rattle.p3l_format.specs.Lawful.{IsLawful}
use Rattle.p3l_format.specs.laws.Parts.{first_true}
use Rattle.p3l_format.specs.laws.Formats.{lawful_both, lawful_counted, lawful_form, lawful_record, lawful_tagged}
use Rattle.p3l_format.specs.laws.Numbers.{lawful_one_of, lawful_u32, lawful_u64}
use Rattle.p3l_firing.specs.Token.{is_trap}
use Rattle.p3l_resume.specs.Token.{body_format, is_value, outcome_format, tags_format, token_format, tokens_format, trap_format, trap_kind_format, trap_kinds, trap_number, trap_of, words_of}
use Rattle.p3l_resume.specs.laws.Words.{lawful_count, lawful_flag, lawful_words}

kind_there : (k : TrapKind) → slice_get trap_kinds (trap_number k) ≡ Some k
kind_there DivZero = refl
kind_there DivOver = refl
kind_there Index = refl
kind_there Shift = refl
kind_there Budget = refl
kind_there Turns = refl

pub lawful_trap_kind : IsLawful trap_kind_format
lawful_trap_kind = lawful_one_of trap_kinds trap_number refl kind_there

pub lawful_trap : IsLawful trap_format
unfolding trap_format
lawful_trap = lawful_record _ _ _ (λ _. refl) (λ _. refl) (lawful_both _ _ lawful_trap_kind lawful_u32)

pub value_there : (o : Outcome) → is_value o ≡ true → Value (words_of o) ≡ o
value_there (Value words) e = refl
value_there (Trapped trap) e = absurd cc

pub trap_there : (o : Outcome) → is_trap o ≡ true → Trapped (trap_of o) ≡ o
trap_there (Value words) e = absurd cc
trap_there (Trapped trap) e = refl

lawful_body : (trapped : Bool) → IsLawful (body_format trapped)
unfolding body_format
lawful_body false = lawful_form _ _ _ _ (record { back = λ _ _. refl; fine = λ _ _. refl; there = value_there }) lawful_words
lawful_body true = lawful_form _ _ _ _ (record { back = λ _ _. refl; fine = λ _ _. refl; there = trap_there }) lawful_trap

no_trap : (o : Outcome) → is_value o ≡ true → is_trap o ≡ false
no_trap (Value words) e = refl
no_trap (Trapped trap) e = absurd cc

pub body_is : (trapped : Bool) (o : Outcome) → (body_format trapped).fits o ≡ true → is_trap o ≡ trapped
unfolding body_format as_form
body_is false o e = no_trap o (first_true (is_value o) _ e)
body_is true o e = first_true (is_trap o) _ e

pub lawful_outcome : IsLawful outcome_format
unfolding outcome_format
lawful_outcome = lawful_tagged _ _ _ lawful_flag lawful_body body_is

pub lawful_tags : IsLawful tags_format
lawful_tags = lawful_counted _ _ lawful_count (λ _. lawful_u64)

pub lawful_token : IsLawful token_format
unfolding token_format
lawful_token = lawful_record _ _ _ (λ _. refl) (λ _. refl) (lawful_both _ _ lawful_tags lawful_outcome)

pub lawful_tokens : IsLawful tokens_format
lawful_tokens = lawful_counted _ _ lawful_count (λ _. lawful_token)
