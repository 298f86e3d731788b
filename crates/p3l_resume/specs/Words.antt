-- The format of the words of items and values.
use Rattle.std.specs.Prelude.{ℕ, ℤ, Bool, true, false, List, [], Option, Some, None, is_none, is_some, unwrap_or}
use Rattle.p3l_format.specs.Format.{Format, as_form, counted, nothing, tagged}
use Rattle.p3l_format.specs.Numbers.{i64_format, one_of, u32_in}
use Rattle.p3l_tree_format.specs.Rescue.{flag_number, flags}

-- the format of how many items a list has
abbrev pub count_format : Format ℕ ℕ
count_format = u32_in 0 4294967295

abbrev pub words_format : Format ℕ (List ℤ)
words_format = counted count_format (λ _. i64_format)

-- the flag of a Bool: a byte, 0 or 1
abbrev pub flag_format : Format ℕ Bool
flag_format = one_of flags flag_number

-- the item that is there, or nothing
unfoldable pub item_format : Bool → Format ℕ (Option (List ℤ))
item_format false = nothing is_none None
item_format true = as_form is_some Some (λ item. unwrap_or item []) words_format

-- the item in an inbox, if there is one
unfoldable pub inbox_format : Format ℕ (Option (List ℤ))
inbox_format = tagged flag_format is_some item_format
