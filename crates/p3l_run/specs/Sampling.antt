-- A tree profiled on the items of an input.
use Rattle.std.specs.Prelude.{◌≡◌, ℕ, ℤ, ◌+◌, List, [], ◌∷◌, ◌++◌, length, Some, None, Ok}
use Rattle.std.specs.List.{AllByRecursion}
use Rattle.p3l_base.specs.declared.outcome.Outcome.{Outcome}
use Rattle.p3l_base.specs.declared.outcome.Outcome.TheVariants.{Value, Trapped}
use Rattle.p3l_base.specs.declared.outcome.TrapKind.{TrapKind}
use Rattle.p3l_io.specs.Change.{Change}
use Rattle.p3l_skel.specs.declared.tree.Tree.{Tree}
use Rattle.p3l_skel.specs.Item.{item}
use Rattle.p3l_skel.specs.Tree.{node_at}
use Rattle.p3l_units.specs.Table.{Served, leaf}
use Rattle.p3l_stream.specs.declared.items.Ending.{Ending}
use Rattle.p3l_stream.specs.Seen.{Seen}
use Rattle.p3l_run.specs.Feed.{Gives}
use Rattle.p3l_profile.specs.Greatest.{Greatest, noted_all}
use Rattle.p3l_profile.specs.Law.{notes_of}
use Rattle.p3l_run.specs.declared.sampling.Sampled.{Sampled}
use Rattle.p3l_run.specs.declared.sampling.Sampled.TheVariants as sampled

-- an outcome is no trap
abbrev pub IsValue : Outcome → Type 0
IsValue (Value words) = Unit {0}
IsValue (Trapped trap) = ⊥

-- none of these items traps
abbrev pub HaveValues : Tree → Served → List (List ℤ) → Type 0
HaveValues tree served items = AllByRecursion (λ words. IsValue (item tree (leaf served) 0 words)) items

-- these items were given and none traps, and what was done for them was noted
pub record IsNoted (tree : Tree) (served : Served) (before now : Greatest) (items : List (List ℤ)) : Type 0 where
  pub values : HaveValues tree served items
  pub noted : now ≡ noted_all before (notes_of tree served items)

-- a stream gave `count` items, and is open
pub record GivesOn (tree : Tree) (served : Served) (start g : Greatest) (input : Change (List ℕ)) (s : Seen) (count : ℕ) : Type 0 where
  pub items : List (List ℤ)
  pub gives : Gives (node_at tree 0).ins input s items None
  pub noted : IsNoted tree served start g items
  pub counted : count ≡ length items

-- all items of the stream were noted, and it ended so
pub record EndsSo (tree : Tree) (served : Served) (start g : Greatest) (input : Change (List ℕ)) (close : Ending) : Type 0 where
  pub s : Seen
  pub items : List (List ℤ)
  pub gives : Gives (node_at tree 0).ins input s items (Some (Ok close))
  pub noted : IsNoted tree served start g items

-- the item of this number, from 1, has this trap, and none before it has one
pub record TrapsAt (tree : Tree) (served : Served) (input : Change (List ℕ)) (number : ℕ) (kind : TrapKind) (home : ℕ) : Type 0 where
  pub s : Seen
  pub items : List (List ℤ)
  pub words : List ℤ
  pub gives : Gives (node_at tree 0).ins input s (items ++ words ∷ []) None
  pub values : HaveValues tree served items
  pub traps : item tree (leaf served) 0 words ≡ Trapped (record { kind = kind; «module» = home })
  pub number_is : number ≡ length items + 1

-- the end of a profile of an input
abbrev pub IsSampled : Tree → Served → (start g : Greatest) → (input : Change (List ℕ)) → Sampled → Type 0
IsSampled tree served start g input (sampled.Stream close) = EndsSo tree served start g input close
IsSampled tree served start g input (sampled.Trapped number kind home) = TrapsAt tree served input number kind home
