-- The law of profiles: the text has the greatest of the numbers that were noted.
use Rattle.std.specs.Prelude.{◌≡◌, ℕ, ℤ, List, length}
use Rattle.std.specs.List.{flat_map}
use Rattle.p3l_skel.specs.declared.tree.Tree.{Tree}
use Rattle.p3l_units.specs.Table.{Served}
use Rattle.p3l_profile.specs.Greatest.{none_noted, noted_all, took_in, work_in}
use Rattle.p3l_profile.specs.Notes.{Note, notes}
use Rattle.p3l_profile.specs.Text.{cost_text, text_of}

-- the notes on items, one after the other
abbrev pub notes_of : Tree → Served → List (List ℤ) → List Note
notes_of tree served items = flat_map (notes tree served 0) items

-- the cost file of a tree for items: of each `seq` module the most instructions of a run, of each loop
-- module the most turns for an item
abbrev pub profile_text : Tree → Served → List (List ℤ) → List ℕ
profile_text tree served items =
    cost_text tree (work_in (notes_of tree served items)) (took_in (notes_of tree served items))

-- the text of what was noted is that of the greatest numbers in it
abbrev pub HasTheGreatest : Type 0
HasTheGreatest =
    (tree : Tree) (done : List Note) →
    text_of tree (noted_all (none_noted (length tree.modules)) done) ≡ cost_text tree (work_in done) (took_in done)
