-- The versions of images, as numbers in their bytes.
use Rattle.std.specs.Prelude.{ℕ, ◌==◌, Option, Some, None, if◌then◌else◌}
use Rattle.p3l_format.specs.Format.{Format, coded}
use Rattle.p3l_format.specs.Numbers.{u32_format}
use Rattle.p3l_tree_format.specs.declared.version.Version.{Version}
use Rattle.p3l_tree_format.specs.declared.version.Version.TheVariants.{One, Two}

abbrev pub version_number : Version → ℕ
version_number One = 1
version_number Two = 2

-- the version that a number stands for
abbrev pub version_of : ℕ → Option Version
version_of n = if n == 1 then Some One else (if n == 2 then Some Two else None)

unfoldable pub version_format : Format ℕ Version
version_format = coded version_of version_number u32_format
