-- Laws of the meaning and of counts.
use Rattle.std.specs.Prelude.{◌≡◌, ℕ, ℤ, ◌^◌, ◌≤◌, ◌<◌, Option, List, ◌∷◌, length, map}
use Rattle.std.specs.List.{flat_map}
use Rattle.p3l_base.specs.declared.outcome.Outcome.{Outcome}
use Rattle.p3l_base.specs.declared.outcome.Outcome.TheVariants.{Trapped}
use Rattle.p3l_base.specs.declared.outcome.Trap.{Trap}
use Rattle.p3l_skel.specs.declared.tree.Form.TheVariants.{Reduce}
use Rattle.p3l_skel.specs.declared.tree.Tree.{Tree}
use Rattle.p3l_skel.specs.Tree.{node_at, HasFittingLength, HasLength}
use Rattle.p3l_skel.specs.Counts.{IsLawfulCount}
use Rattle.p3l_skel.specs.Numbers.{most_segments}
use Rattle.p3l_skel.specs.Fold.{tree_fold, segments}
use Rattle.p3l_skel.specs.Item.{on_value, in_order, gathered, item, item_row, rescued_at}

-- the tree fold of the tree folds of a power of two of segments is that of the whole
abbrev pub FoldsBySegments : Type 0
FoldsBySegments =
    (operator : List ℤ → Outcome) (level : ℕ) (outcomes : List Outcome) → 2 ^ level ≤ length outcomes →
    tree_fold operator (map (tree_fold operator) (segments level outcomes)) ≡ tree_fold operator outcomes

-- there are as many segments at a level as its power of two, and one after the other they are the
-- whole
pub record CutsIntoSegments (level : ℕ) (outcomes : List Outcome) : Type 0 where
  pub count : length (segments level outcomes) ≡ 2 ^ level
  pub whole : flat_map (λ segment. segment) (segments level outcomes) ≡ outcomes

-- a trap goes through a node, through stages, and through the gathering of a map's results
pub record PassesTraps (tree : Tree) (leaf : ℕ → List ℤ → Outcome) (trap : Trap) : Type 0 where
  pub node : (node : ℕ) → on_value (item tree leaf node) (Trapped trap) ≡ Trapped trap
  pub stages : (stages : List ℕ) → in_order (item tree leaf) stages (Trapped trap) ≡ Trapped trap
  pub results : (join : List (List ℤ) → List ℤ) (outcomes : List Outcome) → gathered join (Trapped trap ∷ outcomes) ≡ Trapped trap

-- a node of a lawful tree makes of words what its form makes of what its parts do
abbrev pub GoesByParts : Tree → (ℕ → List ℤ → Outcome) → Type 0
GoesByParts tree leaf =
    (node : ℕ) (words : List ℤ) → node < length tree.nodes →
    item tree leaf node words ≡ item_row (rescued_at tree node) leaf (node_at tree node).module (node_at tree node).form (node_at tree node).parts (item tree leaf) words

-- a value that a node of a lawful tree gives has the node's out words
abbrev pub KeepsWords : Tree → (ℕ → List ℤ → Outcome) → Type 0
KeepsWords tree leaf =
    (node : ℕ) (words : List ℤ) → node < length tree.nodes → HasFittingLength tree node (length words) →
    HasLength (node_at tree node).outs (item tree leaf node words)

-- a number with a property that no greater one has
pub record IsGreatest (P : ℕ → Type 0) (n : ℕ) : Type 0 where
  pub has : P n
  pub greatest : (m : ℕ) → P m → m ≤ n

-- the most segments of a reduce in a tree are the greatest lawful number of them
abbrev pub HasGreatestSegments : Tree → Type 0
HasGreatestSegments tree =
    (node : ℕ) (w : Option ℕ) (len elem : ℕ) → node < length tree.nodes → (node_at tree node).form ≡ Reduce w len elem →
    IsGreatest (IsLawfulCount (Reduce w len elem)) (most_segments (Reduce w len elem))
