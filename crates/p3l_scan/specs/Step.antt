-- Effects of the steps of a plan on the words of a block.
use Rattle.std.specs.Prelude.{◌≡◌, ℕ, ℤ, ◌*◌, ◌/◌, ◌^◌, ◌≤◌, nat_eq, nat_le, if◌then◌else◌, List, length, take, drop}
use Rattle.p3l_base.specs.Limits.{most_words}
use Rattle.p3l_base.specs.declared.outcome.Outcome.{Outcome}
use Rattle.p3l_base.specs.declared.outcome.Outcome.TheVariants.{Value, Trapped}
use Rattle.p3l_base.specs.declared.outcome.TrapKind.TheVariants.{Index}
use Rattle.p3l_skel.specs.declared.tree.Tree.{Tree}
use Rattle.p3l_skel.specs.Item.{elements}
use Rattle.p3l_skel.specs.Lawful.{HasWords, IsLawfulTree}
use Rattle.p3l_skel.specs.Tree.{IsUnit}
use Rattle.p3l_scan.specs.Scan.{Scanned, in_words, merged, scan}

-- the two halves of a block merged
abbrev pub merged_halves : (List ℤ → Outcome) → List (List ℤ) → Scanned
merged_halves operator block = merged operator (take (length block / 2) block) (drop (length block / 2) block)

-- the result of this module's step for a block's elements: that of the first stage scans them
abbrev pub stepped : (List ℤ → Outcome) → ℕ → List (List ℤ) → Scanned
stepped operator home block = if nat_le home 2 then scan operator block else merged_halves operator block

-- an outcome of `n` words; what stands for another, which no lawful run comes to
abbrev pub fitted : (n home : ℕ) → Outcome → Outcome
fitted n home (Value words) = if nat_eq (length words) n then Value words else Trapped (record { kind = Index; «module» = home })
fitted n home (Trapped trap) = Trapped trap

-- its outcome for a block's words, with elements of `elem` words
unfoldable pub step_leaf : (elem : ℕ) → (List ℤ → Outcome) → ℕ → List ℤ → Outcome
step_leaf elem operator home words = fitted (length words) home (in_words (stepped operator home (elements elem words)))

-- the units of a plan: how many stages follow the first, how many words a block of the first has, and each element; the node
-- that is the operator, of the tree that the inner units serve
pub record Scanning (U : Type 0) : Type 0 where
  pub levels : ℕ
  pub words : ℕ
  pub elem : ℕ
  pub op : ℕ
  pub inner : U

-- a node of a lawful tree combines two elements of `elem` words to one
pub record IsOperator (tree : Tree) (op elem : ℕ) : Type 0 where
  pub lawful : IsLawfulTree tree
  pub words : HasWords tree op (2 * elem) elem
  pub unit : IsUnit tree op
  pub some : 1 ≤ elem

-- words are some elements of `elem` words
abbrev pub HasElements : ℕ → List ℤ → Type 0
HasElements elem words = (n : ℕ) × (1 ≤ n) × (length words ≡ n * elem)

-- words are two halves of as many elements
abbrev pub HasHalves : ℕ → List ℤ → Type 0
HasHalves elem words = (n : ℕ) × (1 ≤ n) × (length words ≡ 2 * (n * elem))

-- the laws of a scan: the operator combines elements of the inner tree; a block has whole elements, and all blocks together are an
-- item
pub record IsScanning (tree : Tree) (levels words elem op : ℕ) : Type 0 where
  pub operator : IsOperator tree op elem
  pub few : levels ≤ 9
  pub size : ℕ
  pub some_size : 1 ≤ size
  pub sized : words ≡ size * elem
  pub small : 2 ^ levels * words ≤ most_words
