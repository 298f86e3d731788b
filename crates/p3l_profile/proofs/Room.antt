-- There stay numbers for each module.
use Rattle.std.proofs.Common.{◌≡◌, ◌≤◌, ℕ, List, [], ◌∷◌, length, ap, sym, ◌∙◌, subst}
use Rattle.std.specs.Prelude.{max, slice_index}
use Rattle.std.proofs.lemmas.List.{length-set, set_past}
use Rattle.p3l_skel.specs.declared.tree.Tree.{Tree}
use Rattle.p3l_walk.specs.Notes.{Note, noted_by, ran, turn}
use Rattle.p3l_profile.specs.Greatest.{Greatest, HasRoom, noted, noted_all}

room_one : (tree : Tree) (g : Greatest) (note : Note) → HasRoom tree g → HasRoom tree (noted g note)
room_one tree g (ran home steps) room = record {
  work = length-set g.work home (max (slice_index g.work home) steps) ∙ room.work;
  took = room.took;
}
room_one tree g (turn home number) room = record {
  work = room.work;
  took = length-set g.took home (max (slice_index g.took home) number) ∙ room.took;
}

room_all : (tree : Tree) (g : Greatest) (notes : List Note) → HasRoom tree g → HasRoom tree (noted_all g notes)
unfolding noted_by
room_all tree g [] room = room
room_all tree g (note ∷ notes) room = room_all tree (noted g note) notes (room_one tree g note room)

pub room_after : (tree : Tree) (g now : Greatest) (notes : List Note) → now ≡ noted_all g notes → HasRoom tree g → HasRoom tree now
room_after tree g now notes is room = subst (HasRoom tree) (sym is) (room_all tree g notes room)

-- a note of a module that isn't there changes nothing
pub run_past : (g : Greatest) (home steps : ℕ) → length g.work ≤ home → g ≡ noted g (ran home steps)
run_past g home steps past =
    let with_work : List ℕ → Greatest = λ work. record { work = work; took = g.took } in
    sym (ap with_work (set_past g.work home (max (slice_index g.work home) steps) past))

pub turn_past : (g : Greatest) (home number : ℕ) → length g.took ≤ home → g ≡ noted g (turn home number)
turn_past g home number past =
    let with_took : List ℕ → Greatest = λ took. record { work = g.work; took = took } in
    sym (ap with_took (set_past g.took home (max (slice_index g.took home) number) past))
