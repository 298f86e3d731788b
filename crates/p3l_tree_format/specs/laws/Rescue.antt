-- Rescue numbers are read as they are spelled.
use Rattle.std.proofs.Common.{◌≡◌, ℤ, pos, Bool, true, false, Option, Some, None, refl}
use Rattle.std.specs.Prelude.{is_some, is_none, unwrap_or}
use Rattle.std.specs.List.{slice_get}
use Rattle.p3l_skel.specs.declared.tree.ModuleKind.{ModuleKind}
use Rattle.p3l_format.specs.Format.{as_form, nothing}
use Rattle.p3l_format.specs.Lawful.{IsLawful}
use Rattle.p3l_format.specs.laws.Parts.{first_true}
use Rattle.p3l_format.specs.laws.Formats.{lawful_within, lawful_form, lawful_nothing, lawful_tagged}
use Rattle.p3l_format.specs.laws.Numbers.{lawful_i64, lawful_one_of}
use Rattle.p3l_tree_format.specs.declared.version.Version.{Version}
use Rattle.p3l_tree_format.specs.declared.version.Version.TheVariants.{One, Two}
use Rattle.p3l_tree_format.specs.Rescue.{flags, flag_number, flag_format, number_format, rescue_format}

pub flag_there : (has : Bool) → slice_get flags (flag_number has) ≡ Some has
flag_there false = refl
flag_there true = refl

pub lawful_flag : (kind : ModuleKind) → IsLawful (flag_format kind)
unfolding flag_format
lawful_flag kind = lawful_within _ _ (lawful_one_of flags flag_number refl flag_there)

pub only_none : (rescue : Option ℤ) → is_none rescue ≡ true → None ≡ rescue
only_none None e = refl
only_none (Some n) e = absurd cc

pub some_there : (rescue : Option ℤ) → is_some rescue ≡ true → Some (unwrap_or rescue (pos 0)) ≡ rescue
some_there None e = absurd cc
some_there (Some n) e = refl

lawful_number : (has : Bool) → IsLawful (number_format has)
unfolding number_format
lawful_number false = lawful_nothing _ _ refl only_none
lawful_number true = lawful_form _ _ _ _ (record { back = λ _ _. refl; fine = λ _ _. refl; there = some_there }) lawful_i64

pub number_has : (has : Bool) (rescue : Option ℤ) → (number_format has).fits rescue ≡ true → is_some rescue ≡ has
unfolding number_format as_form nothing
number_has false None e = refl
number_has false (Some n) e = absurd cc
number_has true rescue e = first_true (is_some rescue) _ e

pub lawful_rescue : (version : Version) (kind : ModuleKind) → IsLawful (rescue_format version kind)
unfolding rescue_format
lawful_rescue One kind = lawful_nothing _ _ refl only_none
lawful_rescue Two kind = lawful_tagged _ _ _ (lawful_flag kind) lawful_number number_has
