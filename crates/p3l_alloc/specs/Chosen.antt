-- The meaning of a refusal of the allocator.
use Rattle.std.specs.Prelude.{ℕ, List}
use Rattle.p3l_skel.specs.declared.tree.Tree.{Tree}
use Rattle.p3l_skel.specs.Numbers.{Fits}
use Rattle.p3l_alloc.specs.declared.allocation.AllocRefusal.{AllocRefusal}
use Rattle.p3l_alloc.specs.declared.allocation.AllocRefusal.TheVariants.{TooFew, NoMemory}
use Rattle.p3l_alloc.specs.Need.{IsLeastProcs}
use Rattle.p3l_base.specs.Memory.{Refused}

-- the processors are too few: no lawful counts fit, and the number is the least processes of any
pub record IsShort (tree : Tree) (processors need : ℕ) : Type 0 where
  pub none : (counts : List ℕ) → Fits tree processors counts → ⊥
  pub least : IsLeastProcs tree need

abbrev pub IsRefused : Tree → ℕ → AllocRefusal → Type 0
IsRefused tree processors (TooFew need) = IsShort tree processors need
IsRefused tree processors NoMemory = Refused
