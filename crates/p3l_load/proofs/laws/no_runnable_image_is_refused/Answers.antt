use Rattle.std.proofs.Common.{ℕ, zero, suc, List, [], ◌∷◌, refl}
use Rattle.std.specs.Prelude.{IsSomeAnd, slice_get}
use Rattle.std.specs.List.{All}
use Rattle.p3l_code.specs.declared.instr.Code.{Code}
use Rattle.p3l_code.specs.Safe.{IsSafe}
use Rattle.p3l_load.specs.declared.loaded.LoadRefusal.TheVariants.{CodeUnsafe, NotLinked, TreeWrong, NoMemory}
use Rattle.p3l_load.specs.Written.{NoRunnableImageIsRefused}
use Rattle.p3l_load.proofs.Ranges.{after_first, first_of}
use Rattle.p3l_load.proofs.laws.no_runnable_image_is_refused.Goals as goal

none_unsafe : (codes : List Code) (n : ℕ) → All IsSafe codes → IsSomeAnd (slice_get codes n) (λ code. ¬ IsSafe code) → ⊥
none_unsafe [] n safe has = absurd has
none_unsafe (code ∷ codes) zero safe has = has (first_of IsSafe code codes safe)
none_unsafe (code ∷ codes) (suc n) safe has = none_unsafe codes n (after_first IsSafe code codes safe) has

not_refused : NoRunnableImageIsRefused
not_refused image TreeWrong is refused = absurd (refused is.whole)
not_refused image (CodeUnsafe n) is refused = absurd (none_unsafe image.codes n is.safe refused.1.unsafe)
not_refused image NotLinked is refused = absurd (refused.2 is.linked)
not_refused image NoMemory is refused = refl

pub returns : goal.returns
returns c = not_refused
