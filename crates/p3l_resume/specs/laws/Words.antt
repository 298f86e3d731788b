-- The words of items and values are read as they are spelled.
use Rattle.std.proofs.Common.{◌≡◌, ℤ, Bool, true, false, List, [], Option, Some, None, refl}
use Rattle.std.specs.Prelude.{is_none, is_some, unwrap_or}
use Rattle.std.specs.List.{slice_get}
use Rattle.p3l_format.specs.Format.{as_form, nothing}
use Rattle.p3l_format.specs.Lawful.{IsLawful}
use Rattle.p3l_format.specs.laws.Parts.{first_true}
use Rattle.p3l_format.specs.laws.Formats.{lawful_counted, lawful_form, lawful_nothing, lawful_tagged}
use Rattle.p3l_format.specs.laws.Numbers.{lawful_i64, lawful_one_of, lawful_u32_in}
use Rattle.p3l_tree_format.specs.Rescue.{flag_number, flags}
use Rattle.p3l_resume.specs.Words.{count_format, flag_format, inbox_format, item_format, words_format}

pub lawful_count : IsLawful count_format
lawful_count = lawful_u32_in 0 4294967295

pub lawful_words : IsLawful words_format
lawful_words = lawful_counted _ _ lawful_count (λ _. lawful_i64)

flag_there : (flag : Bool) → slice_get flags (flag_number flag) ≡ Some flag
flag_there false = refl
flag_there true = refl

pub lawful_flag : IsLawful flag_format
lawful_flag = lawful_one_of flags flag_number refl flag_there

pub only_none : (item : Option (List ℤ)) → is_none item ≡ true → None ≡ item
only_none None e = refl
only_none (Some words) e = absurd cc

pub some_there : (item : Option (List ℤ)) → is_some item ≡ true → Some (unwrap_or item []) ≡ item
some_there None e = absurd cc
some_there (Some words) e = refl

lawful_item : (has : Bool) → IsLawful (item_format has)
unfolding item_format
lawful_item false = lawful_nothing _ _ refl only_none
lawful_item true = lawful_form _ _ _ _ (record { back = λ _ _. refl; fine = λ _ _. refl; there = some_there }) lawful_words

pub item_has : (has : Bool) (item : Option (List ℤ)) → (item_format has).fits item ≡ true → is_some item ≡ has
unfolding item_format as_form nothing
item_has false None e = refl
item_has false (Some words) e = absurd cc
item_has true item e = first_true (is_some item) _ e

pub lawful_inbox : IsLawful inbox_format
unfolding inbox_format
lawful_inbox = lawful_tagged _ _ _ lawful_flag lawful_item item_has
