-- The whole text of an exported program.
use Rattle.std.specs.Prelude.{◌≡◌, ℕ, List, ◌++◌, Bool}
use Rattle.p3l_skel.specs.declared.tree.Tree.{Tree}
use Rattle.p3l_cost.specs.declared.costs.Costs.{Costs}
use Rattle.p3l_firing.specs.declared.net.Net.{Net}
use Rattle.p3l_fitting.specs.Survey.{linked_survey}
use Rattle.p3l_net.specs.Steps.{Ends, HasEnds}
use Rattle.p3l_export.specs.Capacity.{rows_of}
use Rattle.p3l_export.specs.Loads.{loads_of}
use Rattle.p3l_export.specs.Tables.{tables_text}

-- the tables of a tree and its net, whose channels have these ends
abbrev pub program_tables : Tree → List ℕ → Costs → Net → Ends → (chosen : Bool) → List ℕ
program_tables tree counts costs net ends chosen =
    tables_text tree net.procs (loads_of tree counts costs net)
    (rows_of tree costs net ends (linked_survey tree counts).widths chosen)

-- a text is that of an exported program: the engine's first part, the bodies, the tables, the engine's second part
pub record IsExport (tree : Tree) (counts : List ℕ) (costs : Costs) (net : Net) (chosen : Bool) (head bodies engine text : List ℕ) : Type 0 where
  pub ends : Ends
  pub are_ends : HasEnds net ends
  pub text_is : text ≡ head ++ (bodies ++ (program_tables tree counts costs net ends chosen ++ engine))
