-- Tables of nesting, one level after another.
use Rattle.std.proofs.Common.{◌≡◌, ℕ, zero, suc, ◌+◌, ◌<◌, Bool, true, false, ◌&&◌, List, [], ◌∷◌, length, map, refl, ap, sym, ◌∙◌, arith, slice_index_or, get_or, replicate}
use Rattle.std.specs.List.{All, list_all}
use Rattle.std.proofs.lemmas.List.{get_or-map, get_or-replicate, length-map, length-replicate}
use Rattle.p3l_skel.specs.Tree.{by_parts}
use Rattle.p3l_check.specs.declared.callables.Callable.{Callable}
use Rattle.p3l_check.specs.Wiring.{no_module, module_at}
use Rattle.p3l_check.specs.Refusing.{is_nested_within}
use Rattle.p3l_check.specs.Levels.{IsLevel, CallsAreThere, is_nested_by}

pub nested-step : (callables : List Callable) (d k : ℕ) → is_nested_within callables (suc d) k ≡ list_all (is_nested_within callables d) (module_at callables k).calls
unfolding is_nested_within by_parts
nested-step callables d k = refl

pub nested-none : (callables : List Callable) (k : ℕ) → is_nested_within callables zero k ≡ false
unfolding is_nested_within by_parts
nested-none callables k = refl

-- a property of each number of a list holds of those after the first
after_first : (P : ℕ → Type 0) (c : ℕ) (cs : List ℕ) → All P (c ∷ cs) → All P cs
after_first P c cs h = λ i d inside. h (suc i) d (omega arith)

-- tests that agree on the numbers of a list pass the same
tests_agree : (f g : ℕ → Bool) (n : ℕ) → ((k : ℕ) → k < n → f k ≡ g k) → (cs : List ℕ) → All (λ c. c < n) cs → list_all f cs ≡ list_all g cs
tests_agree f g n same [] inside = refl
tests_agree f g n same (c ∷ cs) inside =
    ap (λ b. b && list_all f cs) (same c (inside 0 c (omega arith))) ∙ ap (λ b. g c && b) (tests_agree f g n same cs (after_first (λ c. c < n) c cs inside))

-- no module is nested within no level
pub first_level : (callables : List Callable) → IsLevel callables 0 (replicate (length callables) false)
first_level callables = record {
  count = length-replicate (length callables) false;
  each = λ k inside. get_or-replicate (length callables) k false false inside ∙ sym (nested-none callables k);
}

-- the table for one level more
pub next_level : (callables : List Callable) (d : ℕ) (level : List Bool) → CallsAreThere callables → IsLevel callables d level → IsLevel callables (d + 1) (map (is_nested_by level) callables)
unfolding is_nested_by
next_level callables d level there is =
    let e : d + 1 ≡ suc d = omega arith in
    rw e (record {
      count = length-map callables (is_nested_by level);
      each = λ k inside.
          get_or-map (is_nested_by level) callables k no_module false inside
          ∙ (tests_agree (λ c. slice_index_or level c false) (is_nested_within callables d) (length callables) is.each (module_at callables k).calls (there k no_module inside)
          ∙ sym (nested-step callables d k));
    })
