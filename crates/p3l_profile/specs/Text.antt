-- The cost file of what was done.
use Rattle.std.specs.Prelude.{ℕ, ◌+◌, ◌==◌, ◌&&◌, Bool, true, false, List, [], ◌∷◌, ◌++◌, codes, min, slice_index, if◌then◌else◌}
use Rattle.std.specs.Fmt.{decimal}
use Rattle.std.specs.List.{list_any}
use Rattle.p3l_skel.specs.declared.tree.ModuleInfo.{ModuleInfo}
use Rattle.p3l_skel.specs.declared.tree.ModuleKind.{ModuleKind}
use Rattle.p3l_skel.specs.declared.tree.ModuleKind.TheVariants as kinds
use Rattle.p3l_skel.specs.declared.tree.Node.{Node}
use Rattle.p3l_skel.specs.declared.tree.Tree.{Tree}
use Rattle.p3l_profile.specs.declared.text.CostTable.{CostTable}
use Rattle.p3l_profile.specs.declared.text.CostTable.TheVariants.{Ticks, Turns}
use Rattle.p3l_profile.specs.Greatest.{Greatest}
use Rattle.p3l_base.specs.Limits.{most_cost}

-- a module is that of some node
abbrev pub is_used : List Node → ℕ → Bool
is_used nodes home = list_any (λ (node : Node). node.module == home) nodes

-- a table speaks of the modules of one kind
abbrev pub speaks_of : CostTable → ModuleKind → Bool
speaks_of Ticks kinds.Seq = true
speaks_of Turns kinds.Loop = true
speaks_of _ _ = false

-- the number of a module in a table, where it is known how much its work is and how many turns it took
abbrev pub number_of : CostTable → (work took : ℕ → ℕ) → ℕ → ℕ
number_of Ticks work took home = min (work home) most_cost
number_of Turns work took home = took home

-- NAME = NUMBER
abbrev pub entry : List ℕ → ℕ → List ℕ
entry name number = name ++ (codes " = " ++ (decimal number ++ codes "\n"))

-- such a line, if it is to be there
abbrev pub entry_if : Bool → List ℕ → ℕ → List ℕ
entry_if true name number = entry name number
entry_if false name number = []

-- a module's entry of a table, if the table speaks of it and it is on a node
abbrev pub entry_of : CostTable → (ℕ → ℕ) → List Node → ℕ → ModuleInfo → List ℕ
entry_of table number nodes home m = entry_if (speaks_of table m.kind && is_used nodes home) m.name (number home)

-- the entries of modules, from module `home` on
abbrev pub entries : CostTable → (ℕ → ℕ) → List Node → ℕ → List ModuleInfo → List ℕ
entries table number nodes home [] = []
entries table number nodes home (m ∷ ms) = entry_of table number nodes home m ++ entries table number nodes (home + 1) ms

-- the table of turns, if there is an entry
abbrev pub turns_table : List ℕ → List ℕ
turns_table [] = []
turns_table (x ∷ more) = codes "[turns]\n" ++ (x ∷ more)

-- the cost file, where it is known how much each module's work is and how many turns it took
abbrev pub cost_text : Tree → (work took : ℕ → ℕ) → List ℕ
cost_text tree work took =
    codes "setup = 10\nword = 1\n[seq]\n"
    ++ (entries Ticks (number_of Ticks work took) tree.nodes 0 tree.modules
    ++ turns_table (entries Turns (number_of Turns work took) tree.nodes 0 tree.modules))

-- the cost file of the greatest numbers
abbrev pub text_of : Tree → Greatest → List ℕ
text_of tree g = cost_text tree (slice_index g.work) (slice_index g.took)
