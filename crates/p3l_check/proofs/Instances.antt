-- Instances one after another.
use Rattle.std.proofs.Common.{◌≡◌, ◌≢◌, ℕ, zero, suc, ◌+◌, ◌-◌, ◌<◌, ◌≤◌, List, [], ◌∷◌, ◌++◌, length, take, drop, get_or, refl, ap, sym, ◌∙◌, subst, arith, append_assoc, length-append}
use Rattle.std.proofs.lemmas.List.{take_more, take-append-drop, append-nil, take_all}
use Rattle.p3l_skel.specs.declared.tree.Node.{Node}
use Rattle.p3l_skel.specs.Tree.{by_parts}
use Rattle.p3l_check.specs.declared.callables.Callable.{Callable}
use Rattle.p3l_check.specs.Wiring.{module_at}
use Rattle.p3l_check.specs.declared.unfolding.UnfoldRefusal.{UnfoldRefusal}
use Rattle.p3l_check.specs.declared.unfolding.UnfoldRefusal.TheVariants.{TooDeep, TooManyInstances, TooHeavy, NoMemory}
use Rattle.p3l_check.specs.Refusing.{IsCutShort}
use Rattle.p3l_check.specs.Unfolding.{instances_of, firsts_of, node_of, first_node, instance}

-- an instance is its first node, with the instances of what the module calls after it
pub instance-step : (callables : List Callable) (d k at : ℕ) → instance callables (suc d) k at ≡ first_node callables (instance callables d) k at ∷ instances_of (instance callables d) (module_at callables k).calls (at + 1)
unfolding instance by_parts
instance-step callables d k at = refl

pub instance-none : (callables : List Callable) (k at : ℕ) → instance callables zero k at ≡ []
unfolding instance by_parts
instance-none callables k at = refl

-- the same, where the levels are counted down
pub instance-down : (callables : List Callable) (levels k at : ℕ) → levels ≢ 0 → instance callables levels k at ≡ first_node callables (instance callables (levels - 1)) k at ∷ instances_of (instance callables (levels - 1)) (module_at callables k).calls (at + 1)
instance-down callables zero k at some = absurd (some refl)
instance-down callables (suc d) k at some = let e : suc d - 1 ≡ d = omega arith in rw e (instance-step callables d k at)

-- more instances after others
pub instances-append : (below : ℕ → ℕ → List Node) (xs ys : List ℕ) (at : ℕ) → instances_of below (xs ++ ys) at ≡ instances_of below xs at ++ instances_of below ys (at + length (instances_of below xs at))
instances-append below [] ys at = let e : at + 0 ≡ at = omega arith in rw e refl
instances-append below (x ∷ xs) ys at =
    let e : (at + length (below x at)) + length (instances_of below xs (at + length (below x at))) ≡ at + length (below x at ++ instances_of below xs (at + length (below x at))) = grind (arith, length-append) in
    ap (λ r. below x at ++ r) (instances-append below xs ys (at + length (below x at))) ∙ (sym (append_assoc (below x at) (instances_of below xs (at + length (below x at))) _) ∙ ap (λ n. (below x at ++ instances_of below xs (at + length (below x at))) ++ instances_of below ys n) e)

firsts-append : (below : ℕ → ℕ → List Node) (xs ys : List ℕ) (at : ℕ) → firsts_of below (xs ++ ys) at ≡ firsts_of below xs at ++ firsts_of below ys (at + length (instances_of below xs at))
firsts-append below [] ys at = let e : at + 0 ≡ at = omega arith in rw e refl
firsts-append below (x ∷ xs) ys at =
    let e : (at + length (below x at)) + length (instances_of below xs (at + length (below x at))) ≡ at + length (below x at ++ instances_of below xs (at + length (below x at))) = grind (arith, length-append) in
    ap (λ r. at ∷ r) (firsts-append below xs ys (at + length (below x at)) ∙ ap (λ n. firsts_of below xs (at + length (below x at)) ++ firsts_of below ys n) e)

module _ (below : ℕ → ℕ → List Node) (xs : List ℕ) (i at : ℕ) (inside : i < length xs) where
  -- one instance more
  pub instances-more : instances_of below (take (i + 1) xs) at ≡ instances_of below (take i xs) at ++ below (get_or xs i 0) (at + length (instances_of below (take i xs) at))
  instances-more =
      ap (λ ys. instances_of below ys at) (take_more xs i 0 inside) ∙ (instances-append below (take i xs) (get_or xs i 0 ∷ []) at
      ∙ ap (λ ys. instances_of below (take i xs) at ++ ys) (append-nil (below (get_or xs i 0) (at + length (instances_of below (take i xs) at)))))

  firsts-more : firsts_of below (take (i + 1) xs) at ≡ firsts_of below (take i xs) at ++ (at + length (instances_of below (take i xs) at)) ∷ []
  firsts-more =
      ap (λ ys. firsts_of below ys at) (take_more xs i 0 inside) ∙ firsts-append below (take i xs) (get_or xs i 0 ∷ []) at

-- the nodes and the parts with those of one call more
pub more_nodes : (below : ℕ → ℕ → List Node) (calls : List ℕ) (i at : ℕ) → i < length calls → (nodes inner : List Node) (first : ℕ)
    → nodes ≡ instances_of below (take i calls) at → first ≡ at + length nodes → inner ≡ below (get_or calls i 0) first
    → nodes ++ inner ≡ instances_of below (take (i + 1) calls) at
more_nodes below calls i at inside nodes inner first nodes_are first_is inner_is =
    ap (λ r. nodes ++ r) (inner_is ∙ ap (below (get_or calls i 0)) (first_is ∙ ap (λ ns. at + length ns) nodes_are))
    ∙ (ap (λ ns. ns ++ below (get_or calls i 0) (at + length (instances_of below (take i calls) at))) nodes_are ∙ sym (instances-more below calls i at inside))

pub more_parts : (below : ℕ → ℕ → List Node) (calls : List ℕ) (i at : ℕ) → i < length calls → (nodes : List Node) (parts : List ℕ) (first : ℕ)
    → nodes ≡ instances_of below (take i calls) at → first ≡ at + length nodes → parts ≡ firsts_of below (take i calls) at
    → parts ++ first ∷ [] ≡ firsts_of below (take (i + 1) calls) at
more_parts below calls i at inside nodes parts first nodes_are first_is parts_are =
    ap (λ f. parts ++ f ∷ []) (first_is ∙ ap (λ ns. at + length ns) nodes_are)
    ∙ (ap (λ ps. ps ++ (at + length (instances_of below (take i calls) at)) ∷ []) parts_are ∙ sym (firsts-more below calls i at inside))

-- the first of some instances have no more nodes than all
pub instances-within : (below : ℕ → ℕ → List Node) (xs : List ℕ) (n at : ℕ) → length (instances_of below (take n xs) at) ≤ length (instances_of below xs at)
instances-within below xs n at =
    let e : length (instances_of below xs at) ≡ length (instances_of below (take n xs) at) + length (instances_of below (drop n xs) (at + length (instances_of below (take n xs) at)))
    = ap (λ ys. length (instances_of below ys at)) (sym (take-append-drop n xs)) ∙ (ap length (instances-append below (take n xs) (drop n xs) at) ∙ length-append (instances_of below (take n xs) at) _) in
    omega (arith, e)

-- without room, an instance has a node too many
pub many_at : (callables : List Callable) (levels k at : ℕ) → levels ≢ 0 → at ≡ 128 → 128 < at + length (instance callables levels k at)
many_at callables levels k at some full =
    rw (instance-down callables levels k at some) (omega (arith, full))

-- if the instance of a call is cut short, so is the whole
pub short_below : (callables : List Callable) (levels k at i first : ℕ) → levels ≢ 0 → i < length (module_at callables k).calls
    → first ≡ (at + 1) + length (instances_of (instance callables (levels - 1)) (take i (module_at callables k).calls) (at + 1))
    → (refusal : UnfoldRefusal) → IsCutShort callables (levels - 1) (get_or (module_at callables k).calls i 0) first refusal → IsCutShort callables levels k at refusal
short_below callables levels k at i first some inside is TooDeep short = short
short_below callables levels k at i first some inside is TooHeavy short = short
short_below callables levels k at i first some inside is NoMemory short = short
short_below callables levels k at i first some inside is TooManyInstances short =
    let calls : List ℕ = (module_at callables k).calls in
    let below : ℕ → ℕ → List Node = instance callables (levels - 1) in
    let more : length (instances_of below (take (i + 1) calls) (at + 1)) ≡ length (instances_of below (take i calls) (at + 1)) + length (below (get_or calls i 0) first)
    = ap length (instances-more below calls i (at + 1) inside) ∙ (length-append (instances_of below (take i calls) (at + 1)) _ ∙ ap (λ f. length (instances_of below (take i calls) (at + 1)) + length (below (get_or calls i 0) f)) (sym is)) in
    let within : length (instances_of below (take (i + 1) calls) (at + 1)) ≤ length (instances_of below calls (at + 1)) = instances-within below calls (i + 1) (at + 1) in
    rw (instance-down callables levels k at some) (omega (arith, more, within, is, short))

-- the same, where the calls are read from the module
pub short_at : (callables : List Callable) (levels k at i first : ℕ) (calls : List ℕ) → calls ≡ (module_at callables k).calls → levels ≢ 0 → i < length calls
    → first ≡ (at + 1) + length (instances_of (instance callables (levels - 1)) (take i calls) (at + 1))
    → (refusal : UnfoldRefusal) → IsCutShort callables (levels - 1) (get_or calls i 0) first refusal → IsCutShort callables levels k at refusal
short_at callables levels k at i first calls same some =
    let P : List ℕ → Type 0 = λ cs. i < length cs → first ≡ (at + 1) + length (instances_of (instance callables (levels - 1)) (take i cs) (at + 1))
    → (refusal : UnfoldRefusal) → IsCutShort callables (levels - 1) (get_or cs i 0) first refusal → IsCutShort callables levels k at refusal in
    subst P (sym same) (short_below callables levels k at i first some)

-- a node with the instances of all calls of its module is an instance
pub whole_instance : (callables : List Callable) (levels k at i : ℕ) (m : Callable) (calls : List ℕ) → m ≡ module_at callables k → calls ≡ m.calls → levels ≢ 0 → length calls ≤ i
    → (nodes : List Node) (parts : List ℕ) → nodes ≡ instances_of (instance callables (levels - 1)) (take i calls) (at + 1)
    → parts ≡ firsts_of (instance callables (levels - 1)) (take i calls) (at + 1)
    → node_of m k parts ∷ nodes ≡ instance callables levels k at
whole_instance callables levels k at i m calls m_is calls_are some past nodes parts nodes_are parts_are =
    let all : take i calls ≡ (module_at callables k).calls = take_all i calls past ∙ (calls_are ∙ ap (λ (n : Callable). n.calls) m_is) in
    let below : ℕ → ℕ → List Node = instance callables (levels - 1) in
    let ns : nodes ≡ instances_of below (module_at callables k).calls (at + 1) = nodes_are ∙ ap (λ cs. instances_of below cs (at + 1)) all in
    let ps : parts ≡ firsts_of below (module_at callables k).calls (at + 1) = parts_are ∙ ap (λ cs. firsts_of below cs (at + 1)) all in
    ap (λ (n : Callable). node_of n k parts ∷ nodes) m_is
    ∙ (ap (λ (qs : List ℕ). node_of (module_at callables k) k qs ∷ nodes) ps
    ∙ (ap (λ (rs : List Node). first_node callables below k at ∷ rs) ns ∙ sym (instance-down callables levels k at some)))
