-- Places at which the bytes of snapshots are at fault, by the fields of spellings.
use Rattle.std.proofs.Common.{◌≡◌, Bool, true, false, List, [], Option, Some, None, refl}
use Rattle.std.specs.Prelude.{is_some, unwrap_or}
use Rattle.p3l_base.specs.declared.outcome.Outcome.TheVariants.{Value, Trapped}
use Rattle.p3l_base.specs.declared.outcome.TrapKind.TheVariants.{DivZero}
use Rattle.p3l_format.specs.Places.{IsPlaced}
use Rattle.p3l_format.specs.laws.Numbers.{is_exact}
use Rattle.p3l_format.specs.laws.Places.{CanTurn, has_all, one_u32_in, placed_after, placed_both, placed_counted, placed_form, placed_i64, placed_nothing, placed_one_of, placed_record, placed_tagged, placed_u8, placed_u32, placed_u32_in, placed_u64}
use Rattle.p3l_tree_format.specs.Rescue.{flag_number, flags}
use Rattle.p3l_firing.specs.Token.{is_trap}
use Rattle.p3l_resume.specs.Saved as saved
use Rattle.p3l_resume.specs.Shot.{chans_format, own_format, owns_format, shot_format}
use Rattle.p3l_resume.specs.Token.{body_format, outcome_format, tags_format, token_format, tokens_format, trap_format, trap_kind_format, trap_kinds, trap_number, trap_of, words_of}
use Rattle.p3l_resume.specs.Words.{count_format, flag_format, inbox_format, item_format, words_format}
use Rattle.p3l_resume.specs.laws.Token.{body_is, lawful_trap_kind, trap_there, value_there}
use Rattle.p3l_resume.specs.laws.Words.{item_has, lawful_flag, only_none, some_there}

-- ---- words

placed_count : IsPlaced count_format
placed_count = placed_u32_in 0 4294967295

placed_words : IsPlaced words_format
placed_words = placed_counted _ _ placed_count (λ _. placed_i64)

placed_flag : IsPlaced flag_format
placed_flag = placed_one_of flags flag_number lawful_flag false

unfoldable placed_item : (has : Bool) → IsPlaced (item_format has)
unfolding item_format
placed_item false = placed_nothing _ _ refl only_none
placed_item true = placed_form _ _ _ _ (record { back = λ _ _. refl; fine = λ _ _. refl; there = some_there }) placed_words (has_all Some _ _ (λ _. refl))

item_turns : CanTurn is_some item_format placed_item
unfolding placed_item placed_nothing placed_form
item_turns false w = (None, refl, refl)
item_turns true w = (Some (unwrap_or w []), refl, refl)

placed_inbox : IsPlaced inbox_format
unfolding inbox_format
placed_inbox = placed_tagged _ _ _ placed_flag placed_item item_has item_turns false

-- ---- tokens

placed_trap : IsPlaced trap_format
unfolding trap_format
placed_trap = placed_record _ _ _ (λ _. refl) (λ _. refl) (placed_both _ _ (placed_one_of trap_kinds trap_number lawful_trap_kind DivZero) placed_u32)

unfoldable placed_body : (trapped : Bool) → IsPlaced (body_format trapped)
unfolding body_format
placed_body false = placed_form _ _ _ _ (record { back = λ _ _. refl; fine = λ _ _. refl; there = value_there }) placed_words (has_all (λ words. Value words) _ _ (λ _. refl))
placed_body true = placed_form _ _ _ _ (record { back = λ _ _. refl; fine = λ _ _. refl; there = trap_there }) placed_trap (has_all (λ trap. Trapped trap) _ _ (λ _. refl))

body_turns : CanTurn is_trap body_format placed_body
unfolding placed_body placed_form
body_turns false w = (Value (words_of w), refl, refl)
body_turns true w = (Trapped (trap_of w), refl, refl)

placed_outcome : IsPlaced outcome_format
unfolding outcome_format
placed_outcome = placed_tagged _ _ _ placed_flag placed_body body_is body_turns false

placed_tags : IsPlaced tags_format
placed_tags = placed_counted _ _ placed_count (λ _. placed_u64)

placed_token : IsPlaced token_format
unfolding token_format
placed_token = placed_record _ _ _ (λ _. refl) (λ _. refl) (placed_both _ _ placed_tags placed_outcome)

placed_tokens : IsPlaced tokens_format
placed_tokens = placed_counted _ _ placed_count (λ _. placed_token)

-- ---- machines

placed_own : IsPlaced own_format
unfolding own_format
placed_own = placed_record _ _ _ (λ _. refl) (λ _. refl) (placed_both _ _ placed_u64 placed_tokens)

placed_owns : IsPlaced owns_format
placed_owns = placed_counted _ _ placed_count (λ _. placed_own)

placed_chans : IsPlaced chans_format
placed_chans = placed_counted _ _ placed_count (λ _. placed_tokens)

placed_shot : IsPlaced shot_format
unfolding shot_format
placed_shot = placed_record _ _ _ (λ _. refl) (λ _. refl)
    (placed_both _ _ placed_u64 (placed_both _ _ placed_u64 (placed_both _ _ placed_inbox (placed_both _ _ placed_owns placed_chans))))

-- ---- snapshots

placed_bytes : IsPlaced saved.bytes_format
placed_bytes = placed_counted _ _ placed_count (λ _. placed_u8)

placed_saved_body : IsPlaced saved.body_format
unfolding saved.body_format
placed_saved_body = placed_record _ _ _ (λ _. refl) (λ _. refl) (placed_both _ _ placed_shot placed_bytes)

pub placed_saved : IsPlaced saved.saved_format
unfolding saved.saved_format
placed_saved = placed_after _ _ _ (is_exact saved.magic) (one_u32_in saved.magic saved.magic)
    (placed_after _ _ _ (is_exact saved.version) (one_u32_in saved.version saved.version) placed_saved_body)
