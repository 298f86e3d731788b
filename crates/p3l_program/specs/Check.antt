-- The command `check`: how many modules and instances an accepted program has.
use Rattle.std.specs.Prelude.{◌≡◌, ℕ, List, ◌++◌, length, Option, codes}
use Rattle.std.specs.Fmt.{decimal}
use Rattle.p3l_io.specs.Content.{Held}
use Rattle.p3l_check.specs.Resolving.{ResolvedTree}
use Rattle.p3l_program.specs.Plan.{HasTree}

-- ok: M modules, I instances
abbrev pub ok_line : (modules instances : ℕ) → List ℕ
ok_line modules instances =
    codes "ok: " ++ (decimal modules ++ (codes " modules, " ++ (decimal instances ++ codes " instances\n")))

-- the line of the program that the file has
pub record IsCounted (files : Option Held) (name text : List ℕ) : Type 0 where
  pub r : ResolvedTree
  pub has : HasTree files name r
  pub text_is : text ≡ ok_line (length r.tree.modules) (length r.tree.nodes)
