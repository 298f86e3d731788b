-- The format of the rescue numbers of modules.
use Rattle.std.specs.Prelude.{ℕ, ℤ, pos, Bool, true, false, not, ◌||◌, List, [], ◌∷◌, Option, Some, None, is_some, is_none, unwrap_or}
use Rattle.p3l_skel.specs.declared.tree.ModuleKind.{ModuleKind}
use Rattle.p3l_skel.specs.Lawful.{may_rescue}
use Rattle.p3l_format.specs.Format.{Format, within, as_form, nothing, tagged}
use Rattle.p3l_format.specs.Numbers.{i64_format, one_of}
use Rattle.p3l_tree_format.specs.declared.version.Version.{Version}
use Rattle.p3l_tree_format.specs.declared.version.Version.TheVariants.{One, Two}

abbrev pub flags : List Bool
flags = false ∷ true ∷ []

abbrev pub flag_number : Bool → ℕ
flag_number false = 0
flag_number true = 1

-- the flag of a module of a kind for a rescue number: a byte, 0 or, where the kind allows one, 1
unfoldable pub flag_format : ModuleKind → Format ℕ Bool
flag_format kind = within (λ has. not has || may_rescue kind) (one_of flags flag_number)

-- the rescue number that is there, or nothing
unfoldable pub number_format : Bool → Format ℕ (Option ℤ)
number_format false = nothing is_none None
number_format true = as_form is_some Some (λ rescue. unwrap_or rescue (pos 0)) i64_format

-- the rescue number of a module of a kind: in version 1 there is none
unfoldable pub rescue_format : Version → ModuleKind → Format ℕ (Option ℤ)
rescue_format One kind = nothing is_none None
rescue_format Two kind = tagged (flag_format kind) is_some number_format
