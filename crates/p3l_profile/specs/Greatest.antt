-- The greatest numbers of what was done: of a `seq` module the instructions of a run, of a `loop` module
-- the turns for an item.
use Rattle.std.specs.Prelude.{◌≡◌, ◌==◌, ℕ, List, [], ◌∷◌, length, max, replicate, slice_index, slice_set, if◌then◌else◌}
use Rattle.p3l_skel.specs.declared.tree.Tree.{Tree}
use Rattle.p3l_units.specs.Table.{HasPlaces}
use Rattle.p3l_walk.specs.Notes.{Note, ran, turn, noted_by}

-- the number of a module, if it is this one
abbrev pub if_own : ℕ → ℕ → ℕ → ℕ
if_own home other n = if home == other then n else 0

-- the greatest number of instructions of a run of a module's code, and 0 where there is none
abbrev pub work_in : List Note → ℕ → ℕ
work_in [] home = 0
work_in (ran other steps ∷ notes) home = max (if_own home other steps) (work_in notes home)
work_in (turn other number ∷ notes) home = work_in notes home

-- the greatest number of turns of a loop module for an item, and 1 where there is none
abbrev pub took_in : List Note → ℕ → ℕ
took_in [] home = 1
took_in (ran other steps ∷ notes) home = took_in notes home
took_in (turn other number ∷ notes) home = max (if_own home other number) (took_in notes home)

-- the greatest numbers of each module
pub record Greatest : Type 0 where
  pub work : List ℕ
  pub took : List ℕ

-- of a number of modules, before anything is done
abbrev pub none_noted : ℕ → Greatest
none_noted modules = record { work = replicate modules 0; took = replicate modules 1 }

-- the number of a module, which is no less than this one afterwards
abbrev pub raised : List ℕ → ℕ → ℕ → List ℕ
raised numbers home n = slice_set numbers home (max (slice_index numbers home) n)

abbrev pub noted : Greatest → Note → Greatest
noted g (ran home steps) = record { work = raised g.work home steps; took = g.took }
noted g (turn home number) = record { work = g.work; took = raised g.took home number }

-- after all of this was done
abbrev pub noted_all : Greatest → List Note → Greatest
noted_all = noted_by noted

-- there are numbers of each module of a tree
pub record HasRoom (tree : Tree) (g : Greatest) : Type 0 where
  pub work : length g.work ≡ length tree.modules
  pub took : length g.took ≡ length tree.modules

-- the state of a profile: the numbers, and for each module the number of `seq` modules before it
pub record Profiled : Type 0 where
  pub greatest : Greatest
  pub places : List ℕ

-- it is a profile of a tree
pub record IsProfileOf (tree : Tree) (profile : Profiled) : Type 0 where
  pub room : HasRoom tree profile.greatest
  pub places : HasPlaces tree.modules profile.places
