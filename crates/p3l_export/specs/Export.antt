-- The text of a program that is exported under a capacity, or under none.
use Rattle.std.specs.Prelude.{ℕ, ◌≤◌, Bool, true, false, List, Option, None, Some, ⊤}
use Rattle.p3l_base.specs.Limits.{most_tokens}
use Rattle.p3l_skel.specs.declared.tree.Tree.{Tree}
use Rattle.p3l_cost.specs.declared.costs.Costs.{Costs}
use Rattle.p3l_link.specs.Net.{linked_net}
use Rattle.p3l_export.specs.File.{IsExport}

-- a capacity that a program may be exported under, if there is one
abbrev pub IsCapacity : Option ℕ → Type 0
IsCapacity None = ⊤
IsCapacity (Some cap) = (1 ≤ cap) × (cap ≤ most_tokens)

-- the capacity that the program is linked with: under none the least, so that each channel has what its template needs
abbrev pub linked_capacity : Option ℕ → ℕ
linked_capacity None = 1
linked_capacity (Some cap) = cap

-- true exactly if capacities are chosen
abbrev pub is_chosen : Option ℕ → Bool
is_chosen None = true
is_chosen (Some cap) = false

-- a text is that of a tree, which is exported under a capacity or none, with these bodies, between the two parts of an engine
abbrev pub IsExported : Tree → List ℕ → Costs → Option ℕ → (head bodies engine text : List ℕ) → Type 0
IsExported tree counts costs capacity head bodies engine text =
    IsExport tree counts costs (linked_net tree counts (linked_capacity capacity)) (is_chosen capacity) head bodies engine text
