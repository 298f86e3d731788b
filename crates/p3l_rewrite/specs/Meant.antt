-- The outcomes of the modules of a program on words, module by module, with no tree.
use Rattle.std.specs.Prelude.{◌≡◌, ℕ, ℤ, suc, ◌<◌, Option, List, slice_index_or}
use Rattle.p3l_base.specs.declared.outcome.Outcome.{Outcome}
use Rattle.p3l_skel.specs.declared.tree.ModuleInfo.{ModuleInfo}
use Rattle.p3l_skel.specs.Tree.{by_parts}
use Rattle.p3l_skel.specs.Tree as tree
use Rattle.p3l_skel.specs.Item.{rescued, item_row}
use Rattle.p3l_check.specs.declared.callables.Callable.{Callable}
use Rattle.p3l_check.specs.Wiring.{module_at}

-- the rescue number of a module, if it has one
abbrev pub rescue_at : List ModuleInfo → ℕ → Option ℤ
rescue_at infos k = (slice_index_or infos k tree.no_module).rescue

-- the outcome under the rescue number of a module, if it has one
abbrev pub rescued_by : List ModuleInfo → List Callable → ℕ → Outcome → Outcome
rescued_by infos callables k = rescued (rescue_at infos k) (module_at callables k).outs

-- the outcome of a module on words, given those of the `seq` modules, down to a depth
unfoldable pub meant_to : List ModuleInfo → List Callable → (ℕ → List ℤ → Outcome) → ℕ → ℕ → List ℤ → Outcome
meant_to infos callables leaf =
    by_parts (λ called k. item_row (rescued_by infos callables k) leaf k (module_at callables k).form (module_at callables k).calls called) (λ k. leaf k)

-- the outcome of a module on words; it calls earlier modules alone, so it is nested no deeper than this
abbrev pub meant : List ModuleInfo → List Callable → (ℕ → List ℤ → Outcome) → ℕ → List ℤ → Outcome
meant infos callables leaf k = meant_to infos callables leaf (suc k) k

-- two programs' modules below a number are the same, and do the same
pub record AreAlike (n : ℕ) (infos its_infos : List ModuleInfo) (callables other : List Callable) (leaf its_leaf : ℕ → List ℤ → Outcome) : Type 0 where
  pub modules : (k : ℕ) → k < n → module_at other k ≡ module_at callables k
  pub rescues : (k : ℕ) → k < n → rescue_at its_infos k ≡ rescue_at infos k
  pub leaves : (k : ℕ) (words : List ℤ) → k < n → its_leaf k words ≡ leaf k words
