-- A trap of a table of units is that of the module that ran.
use Rattle.std.proofs.Common.{ℕ, ℤ, ◌<◌, ◌&&◌, Bool, true, false, nat_eq, if◌then◌else◌, List, length, None, Some, Ok, Err}
use Rattle.p3l_base.specs.declared.outcome.Outcome.{Outcome}
use Rattle.p3l_skel.specs.declared.tree.Tree.{Tree}
use Rattle.p3l_code.specs.Machine.{Ending, ending, exec, outcome_of}
use Rattle.p3l_code.specs.declared.instr.Code.{Code}
use Rattle.p3l_units.specs.Table.{Served, agrees, code_of, leaf, run_of, unfit}
use Rattle.std.specs.Prelude.{Option}
use Rattle.p3l_net.specs.Fitting.{IsOfModule}
use Rattle.p3l_resume_laws.specs.Traps.{EveryTableNamesModules}

module _ (tree : Tree) (m : ℕ) (inside : m < length tree.modules) where
  ending_named : (ends : Ending) → IsOfModule tree (outcome_of m ends)
  ending_named None = inside
  ending_named (Some (Ok words)) = tt
  ending_named (Some (Err trap)) = inside

  fit_named : (fits : Bool) (outcome : Outcome) → IsOfModule tree outcome → IsOfModule tree (if fits then outcome else unfit m)
  fit_named true outcome named = named
  fit_named false outcome named = inside

run_named : (served : Served) (m : ℕ) (words : List ℤ) (found : Option Code) → m < length served.tree.modules →
    IsOfModule served.tree (run_of served m words found)
run_named served m words None inside = inside
run_named served m words (Some code) inside =
    fit_named served.tree m inside (nat_eq (length words) code.ins && agrees m code.ins code.outs served.tree.nodes) (exec code m words)
    (ending_named served.tree m inside (ending code words))

pub tables_named : EveryTableNamesModules
unfolding leaf
tables_named served m words inside = run_named served m words (code_of served m) inside
