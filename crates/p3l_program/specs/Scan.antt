-- The command `scan`: what is loaded before it is run.
use Rattle.std.specs.Prelude.{ℕ, List, Option}
use Rattle.p3l_io.specs.Content.{Held}
use Rattle.p3l_check.specs.Resolving.{ResolvedTree}
use Rattle.p3l_scan.specs.Planned.{IsPlanOf, IsRunnable}
use Rattle.p3l_program.specs.declared.scan.Planned.{Planned}
use Rattle.p3l_program.specs.Load.{IsProgram}
use Rattle.p3l_program.specs.Plan.{IsCompiled}

-- the program of a file, with the plan of its scan in this number of segments
pub record IsPlanned (files : Option Held) (name : List ℕ) (segments : ℕ) (r : ResolvedTree) (loaded : Planned) : Type 0 where
  pub program : IsProgram files name r loaded.program
  pub planned : IsPlanOf r.tree segments loaded.plan
  pub runs : IsRunnable loaded.plan

pub record LoadsScan (files : Option Held) (name : List ℕ) (segments : ℕ) (loaded : Planned) : Type 0 where
  pub r : ResolvedTree
  pub is : IsPlanned files name segments r loaded

-- a program can be run by its plan
pub record IsReadyScan (loaded : Planned) : Type 0 where
  pub r : ResolvedTree
  pub compiled : IsCompiled r loaded.program
  pub planned : IsPlanOf r.tree loaded.plan.segments loaded.plan
  pub runs : IsRunnable loaded.plan
