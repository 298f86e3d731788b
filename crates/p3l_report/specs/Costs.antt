-- Lines of refused cost files.
use Rattle.std.specs.Prelude.{ℕ, List, ◌++◌, codes}
use Rattle.p3l_cost.specs.declared.refusal.CostRefusal.{CostRefusal}
use Rattle.p3l_cost.specs.declared.refusal.CostRefusal.TheVariants as costs
use Rattle.p3l_report.specs.Line.{no_memory_line}

-- costs: NUMBER NAME KEY
abbrev pub keyed_line : List ℕ → List ℕ → List ℕ
keyed_line what key = codes "costs: " ++ (what ++ (codes " " ++ (key ++ codes "\n")))

-- costs: NUMBER NAME, with the key where there is one
abbrev pub cost_line : CostRefusal → List ℕ
cost_line costs.NotToml = codes "costs: 50 NotToml\n"
cost_line (costs.BadKey key) = keyed_line (codes "51 BadKey") key
cost_line (costs.BadValue key) = keyed_line (codes "52 BadValue") key
cost_line (costs.Missing name) = keyed_line (codes "53 Missing") name
cost_line costs.NoMemory = no_memory_line
