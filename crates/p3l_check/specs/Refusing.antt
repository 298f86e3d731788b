-- Why a module has no lawful tree.
use Rattle.std.specs.Prelude.{◌≡◌, ℕ, ◌+◌, ◌<◌, ◌≤◌, Bool, true, false, List, length}
use Rattle.std.specs.List.{list_all}
use Rattle.p3l_skel.specs.declared.tree.ModuleInfo.{ModuleInfo}
use Rattle.p3l_skel.specs.declared.tree.Tree.{Tree}
use Rattle.p3l_skel.specs.Tree.{by_parts, nesting}
use Rattle.p3l_skel.specs.Lawful.{IsLawfulTree}
use Rattle.p3l_skel.specs.Work.{IsLight}
use Rattle.p3l_check.specs.declared.callables.Callable.{Callable}
use Rattle.p3l_check.specs.declared.unfolding.UnfoldRefusal.{UnfoldRefusal}
use Rattle.p3l_check.specs.declared.unfolding.UnfoldRefusal.TheVariants.{TooDeep, TooManyInstances, TooHeavy, NoMemory}
use Rattle.p3l_check.specs.Wiring.{module_at}
use Rattle.p3l_check.specs.Unfolding.{instance, tree_of}
use Rattle.p3l_base.specs.Limits.{most_nodes}
use Rattle.p3l_base.specs.Memory.{Refused}

-- true if the instances in an instance of a module are nested no deeper than this, itself counting
-- as one level
unfoldable pub is_nested_within : List Callable → ℕ → ℕ → Bool
is_nested_within callables = by_parts (λ below k. list_all below (module_at callables k).calls) (λ k. false)

-- why an instance whose first node has the number `at` is cut short: it has a node too many
abbrev pub IsCutShort : List Callable → ℕ → ℕ → ℕ → UnfoldRefusal → Type 0
IsCutShort callables levels k at TooDeep = ⊥
IsCutShort callables levels k at TooManyInstances = most_nodes < at + length (instance callables levels k at)
IsCutShort callables levels k at TooHeavy = ⊥
IsCutShort callables levels k at NoMemory = Refused

-- the tree of a module: its nesting, its instances and its work are within the limits
pub record IsUnfolded (infos : List ModuleInfo) (callables : List Callable) (root : ℕ) (tree : Tree) : Type 0 where
  pub tree_is : tree ≡ tree_of infos callables root
  pub nested : is_nested_within callables nesting root ≡ true
  pub lawful : IsLawfulTree tree

-- the first limit that is passed, in the order nesting, instances, work
abbrev pub IsRefused : List ModuleInfo → List Callable → ℕ → UnfoldRefusal → Type 0
IsRefused infos callables root TooDeep = is_nested_within callables nesting root ≡ false
IsRefused infos callables root TooManyInstances =
    (is_nested_within callables nesting root ≡ true) × (most_nodes < length (instance callables nesting root 0))
IsRefused infos callables root TooHeavy =
    (is_nested_within callables nesting root ≡ true) × (length (instance callables nesting root 0) ≤ most_nodes) × (IsLight (tree_of infos callables root) → ⊥)
IsRefused infos callables root NoMemory = Refused
