-- The program that a text spells which spells another but for positions.
use Rattle.std.specs.Prelude.{ℕ, List}
use Rattle.p3l_ast.specs.Tree.{ProgramTree}
use Rattle.p3l_print.specs.Program.{IsTextOf}
use Rattle.p3l_skel.specs.declared.tree.Tree.{Tree}
use Rattle.p3l_cost.specs.declared.costs.Costs.{Costs}
use Rattle.p3l_rewrite.specs.Rewriting.{MeansTheSame, Serves}

-- it keeps the rules, and means what the program does
abbrev pub PlacedProgramsMean : Type 0
PlacedProgramsMean =
    (program other : ProgramTree) (text : List ℕ) (is : IsTextOf text other) → MeansTheSame program other → MeansTheSame program is.placed

-- and it has the same service time
abbrev pub PlacedProgramsServe : Type 0
PlacedProgramsServe =
    (tree : Tree) (costs : Costs) (processors time : ℕ) (other : ProgramTree) (text : List ℕ) (is : IsTextOf text other) →
    Serves tree costs processors other time → Serves tree costs processors is.placed time
