-- Modules looked at one after another.
use Rattle.std.proofs.Common.{◌≡◌, ℕ, ◌+◌, ◌<◌, List, [], ◌∷◌, ◌++◌, drop, get_or, length, Option, Result, Ok, Err, refl, sym, ap, append_assoc}
use Rattle.std.specs.Prelude.{bytes_eq}
use Rattle.std.specs.Map.{lookup}
use Rattle.std.specs.Option.{option_or}
use Rattle.std.proofs.lemmas.List.{append-nil, drop_more}
use Rattle.toml.specs.Data.{Members}
use Rattle.p3l_skel.specs.declared.tree.ModuleInfo.{ModuleInfo}
use Rattle.p3l_skel.specs.declared.tree.Node.{Node}
use Rattle.p3l_skel.specs.declared.tree.Tree.{Tree}
use Rattle.p3l_cost.specs.declared.refusal.CostRefusal.{CostRefusal}
use Rattle.p3l_cost.specs.declared.section.Section.{Section}
use Rattle.p3l_cost.specs.File.{all_ticks, all_turns, given, spoken_of, ticks_of, turns_of_module}

-- the greatest number of a name: by the modules so far, or else by the rest
abbrev pub limit_after : Section → List Node → List (List ℕ × ℕ) → ℕ → List ModuleInfo → List ℕ → Option ℕ
limit_after section nodes limits home ms name =
    option_or (lookup (bytes_eq name) limits) (lookup (bytes_eq name) (spoken_of section nodes home ms))

-- the ticks that were found, followed by those of the rest
abbrev pub ticks_after : Tree → Members → List ℕ → ℕ → List ModuleInfo → Result (List ℕ) CostRefusal
ticks_after tree document done home ms = given (all_ticks tree document home ms) (λ rest. Ok (done ++ rest))

joined : (done : List ℕ) (n : ℕ) (r : Result (List ℕ) CostRefusal) → given (given r (λ ns. Ok (n ∷ ns))) (λ rest. Ok (done ++ rest)) ≡ given r (λ rest. Ok ((done ++ n ∷ []) ++ rest))
joined done n (Ok rest) = ap Ok (sym (append_assoc done (n ∷ []) rest))
joined done n (Err e) = refl

pub ticks_after-none : (tree : Tree) (document : Members) (home : ℕ) (ms : List ModuleInfo) → ticks_after tree document [] home ms ≡ all_ticks tree document home ms
ticks_after-none tree document home ms = by (all_ticks tree document home ms)
  where
    by : (r : Result (List ℕ) CostRefusal) → given r (λ rest. Ok rest) ≡ r
    by (Ok x) = refl
    by (Err e) = refl

pub ticks_after-step : (tree : Tree) (document : Members) (done : List ℕ) (home n : ℕ) (modules : List ModuleInfo) (m : ModuleInfo) →
    home < length modules → get_or modules home m ≡ m → ticks_of tree document home m ≡ Ok n →
    ticks_after tree document (done ++ n ∷ []) (home + 1) (drop (home + 1) modules) ≡ ticks_after tree document done home (drop home modules)
ticks_after-step tree document done home n modules m inside here is =
    rw (drop_more modules home m inside, here, is) (sym (joined done n (all_ticks tree document (home + 1) (drop (home + 1) modules))))

pub ticks_after-all : (tree : Tree) (document : Members) (done : List ℕ) (home : ℕ) → ticks_after tree document done home [] ≡ Ok done
ticks_after-all tree document done home = ap Ok (append-nil done)

-- the turns that were found, followed by those of the rest
abbrev pub turns_after : Tree → Members → List ℕ → ℕ → List ModuleInfo → List ℕ
turns_after tree document done home ms = done ++ all_turns tree document home ms

pub turns_after-step : (tree : Tree) (document : Members) (done : List ℕ) (home n : ℕ) (modules : List ModuleInfo) (m : ModuleInfo) →
    home < length modules → get_or modules home m ≡ m → n ≡ turns_of_module tree document home m →
    turns_after tree document (done ++ n ∷ []) (home + 1) (drop (home + 1) modules) ≡ turns_after tree document done home (drop home modules)
turns_after-step tree document done home n modules m inside here is =
    rw (drop_more modules home m inside, here, is) (append_assoc done (turns_of_module tree document home m ∷ []) _)
