-- The texts of lists.
use Rattle.std.specs.Prelude.{ℕ, List, ◌++◌, codes}
use Rattle.std.specs.List.{join_by}

-- the ins and the outs, as ` in(..) out(..)` with a comma and a space between each two
unfoldable pub interface_text : {I O : Type 0} → (I → List ℕ) → List I → (O → List ℕ) → List O → List ℕ
interface_text in_text ins out_text outs =
    codes " in(" ++ join_by in_text (codes ", ") ins ++ codes ") out(" ++ join_by out_text (codes ", ") outs ++ codes ")"
