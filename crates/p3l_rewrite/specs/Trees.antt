-- Two ways to write a pipe otherwise.
use Rattle.std.specs.Prelude.{◌≡◌, ℕ, ℤ, ◌<◌, ◌⊎◌, true, Option, None, List, [], ◌∷◌, length}
use Rattle.p3l_base.specs.declared.outcome.Outcome.{Outcome}
use Rattle.p3l_skel.specs.declared.tree.Form.TheVariants.{Comp, Pipe, Farm}
use Rattle.p3l_skel.specs.declared.tree.ModuleInfo.{ModuleInfo}
use Rattle.p3l_skel.specs.Tree.{nesting}
use Rattle.p3l_skel.specs.Item.{meaning}
use Rattle.p3l_check.specs.declared.callables.Callable.{Callable}
use Rattle.p3l_check.specs.Wiring.{module_at, IsWiring}
use Rattle.p3l_check.specs.Unfolding.{tree_of}
use Rattle.p3l_check.specs.Refusing.{is_nested_within}
use Rattle.p3l_rewrite.specs.Meant.{rescue_at, meant, AreAlike}

-- a module is a farm of another
pub record IsFarmOf (callables : List Callable) (farm worker : ℕ) : Type 0 where
  pub there : farm < length callables
  pub workers : Option ℕ
  pub form : (module_at callables farm).form ≡ Farm workers
  pub calls : (module_at callables farm).calls ≡ worker ∷ []

-- calls are those that there were, with farms of some in their place
abbrev pub AreFarmed : List Callable → List ℕ → List ℕ → Type 0
AreFarmed other [] [] = Unit {0}
AreFarmed other [] (c ∷ cs) = ⊥
AreFarmed other (d ∷ ds) [] = ⊥
AreFarmed other (d ∷ ds) (c ∷ cs) = ((d ≡ c) ⊎ IsFarmOf other d c) × AreFarmed other ds cs

-- module j is the pipe k, where farms of what k calls may be called in their place
pub record IsFarmed (callables : List Callable) (k : ℕ) (other : List Callable) (j : ℕ) : Type 0 where
  pub there : j < length other
  pub was : (module_at callables k).form ≡ Pipe
  pub form : (module_at other j).form ≡ Pipe
  pub calls : AreFarmed other (module_at other j).calls (module_at callables k).calls

-- a comp calls what the pipe k does, and has no rescue number
pub record IsCompOf (callables : List Callable) (k : ℕ) (its_infos : List ModuleInfo) (other : List Callable) (work : ℕ) : Type 0 where
  pub there : work < length other
  pub form : (module_at other work).form ≡ Comp
  pub plain : rescue_at its_infos work ≡ None
  pub calls : (module_at other work).calls ≡ (module_at callables k).calls

-- module j is a farm of a comp that calls what the pipe k does
pub record IsFused (callables : List Callable) (k : ℕ) (its_infos : List ModuleInfo) (other : List Callable) (j : ℕ) : Type 0 where
  pub was : (module_at callables k).form ≡ Pipe
  pub work : ℕ
  pub farm : IsFarmOf other j work
  pub comp : IsCompOf callables k its_infos other work

-- one or the other
abbrev pub IsRewritten : List Callable → ℕ → List ModuleInfo → List Callable → ℕ → Type 0
IsRewritten callables k its_infos other j = IsFarmed callables k other j ⊎ IsFused callables k its_infos other j

-- a farm makes of words what its worker does
abbrev pub FarmIsItsWorker : Type 0
FarmIsItsWorker =
    (infos : List ModuleInfo) (callables : List Callable) (leaf : ℕ → List ℤ → Outcome) (farm worker : ℕ) (words : List ℤ) →
    IsWiring infos callables → IsFarmOf callables farm worker → meant infos callables leaf farm words ≡ meant infos callables leaf worker words

-- a comp of a pipe's calls makes of words what the pipe does, where all before it is as it was
abbrev pub CompIsItsPipe : Type 0
CompIsItsPipe =
    (infos its_infos : List ModuleInfo) (callables other : List Callable) (leaf its_leaf : ℕ → List ℤ → Outcome) (k work : ℕ) (words : List ℤ) →
    IsWiring infos callables → IsWiring its_infos other → k < length callables → AreAlike k infos its_infos callables other leaf its_leaf →
    (module_at callables k).form ≡ Pipe → IsCompOf callables k its_infos other work →
    meant its_infos other its_leaf work words ≡ meant infos callables leaf k words

-- a module with a tree
pub record HasRoot (infos : List ModuleInfo) (callables : List Callable) (root : ℕ) : Type 0 where
  pub wiring : IsWiring infos callables
  pub there : root < length callables
  pub nested : is_nested_within callables nesting root ≡ true

-- if a pipe is rewritten and all before it is unchanged, both trees have the same meaning on all items
abbrev pub RewrittenTreesMean : Type 0
RewrittenTreesMean =
    (infos its_infos : List ModuleInfo) (callables other : List Callable) (leaf its_leaf : ℕ → List ℤ → Outcome) (k j : ℕ) (items : List (List ℤ)) →
    HasRoot infos callables k → HasRoot its_infos other j → AreAlike k infos its_infos callables other leaf its_leaf → IsRewritten callables k its_infos other j →
    meaning (tree_of its_infos other j) its_leaf items ≡ meaning (tree_of infos callables k) leaf items
