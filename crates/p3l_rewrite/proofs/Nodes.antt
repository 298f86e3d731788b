-- Properties of the forms and the modules of a tree's nodes still hold when a pipe is written otherwise, if they hold
-- for every form that is added.
use Rattle.std.proofs.Common.{◌≡◌, ℕ, zero, suc, ◌+◌, ◌<◌, ◌⊎◌, inl, inr, true, List, [], ◌∷◌, ◌++◌, length, sym, subst, arith}
use Rattle.std.specs.List.{AllByRecursion}
use Rattle.p3l_skel.specs.declared.tree.Form.{Form}
use Rattle.p3l_skel.specs.declared.tree.Form.TheVariants.{Seq, Comp, Pipe, Farm, Map, Reduce, Loop}
use Rattle.p3l_skel.specs.declared.tree.ModuleInfo.{ModuleInfo}
use Rattle.p3l_skel.specs.declared.tree.Node.{Node}
use Rattle.p3l_skel.specs.Tree.{nesting}
use Rattle.p3l_check.specs.declared.callables.Callable.{Callable}
use Rattle.p3l_check.specs.Wiring.{module_at, IsWiring}
use Rattle.p3l_check.specs.Unfolding.{instances_of, instance}
use Rattle.p3l_check.specs.Refusing.{is_nested_within}
use Rattle.p3l_check.proofs.Instances.{instance-step, instance-none}
use Rattle.p3l_rewrite.proofs.Stands.{no_levels}
use Rattle.p3l_rewrite.specs.Trees.{IsFarmOf, AreFarmed, IsRewritten}
use Rattle.p3l_rewrite.proofs.Depth.{earlier, Fits, calls_fit, weaker}

-- a form that a rewriting adds
abbrev pub IsAdded : Form → Type 0
IsAdded Seq = ⊥
IsAdded Comp = Unit {0}
IsAdded Pipe = Unit {0}
IsAdded (Farm w) = Unit {0}
IsAdded (Map w cut) = ⊥
IsAdded (Reduce w len elem) = ⊥
IsAdded (Loop turns tokens) = ⊥

all_left : (P : Node → Type 0) (xs ys : List Node) → AllByRecursion P (xs ++ ys) → AllByRecursion P xs
all_left P [] ys all = tt
all_left P (x ∷ xs) ys all = (all.0, all_left P xs ys all.1)

all_right : (P : Node → Type 0) (xs ys : List Node) → AllByRecursion P (xs ++ ys) → AllByRecursion P ys
all_right P [] ys all = all
all_right P (x ∷ xs) ys all = all_right P xs ys all.1

all_both : (P : Node → Type 0) (xs ys : List Node) → AllByRecursion P xs → AllByRecursion P ys → AllByRecursion P (xs ++ ys)
all_both P [] ys a b = b
all_both P (x ∷ xs) ys a b = (a.0, all_both P xs ys a.1 b)

-- the nodes of an instance are of such modules
Each : (Form → ℕ → Type 0) → List Callable → ℕ → ℕ → Type 0
Each Is callables d k = (at : ℕ) → AllByRecursion (λ (node : Node). Is node.form node.module) (instance callables d k at)

module _ (Is : Form → ℕ → Type 0) (callables : List Callable) where
  -- the node of the module itself, and those of its calls
  each_none : (k : ℕ) → Each Is callables zero k
  unfolding Each
  each_none k at = subst (AllByRecursion (λ (node : Node). Is node.form node.module)) (sym (instance-none callables k at)) tt

  calls_each : (d : ℕ) (cs : List ℕ) (at : ℕ) → AllByRecursion (Each Is callables d) cs → AllByRecursion (λ (node : Node). Is node.form node.module) (instances_of (instance callables d) cs at)
  unfolding Each
  calls_each d [] at all = tt
  calls_each d (c ∷ cs) at all = all_both (λ (node : Node). Is node.form node.module) (instance callables d c at) _ (all.0 at) (calls_each d cs (at + length (instance callables d c at)) all.1)

  each_more : (d k : ℕ) → Is (module_at callables k).form k → AllByRecursion (Each Is callables d) (module_at callables k).calls → Each Is callables (suc d) k
  unfolding Each
  each_more d k own all at =
      subst (AllByRecursion (λ (node : Node). Is node.form node.module)) (sym (instance-step callables d k at)) (own, calls_each d (module_at callables k).calls (at + 1) all)

-- an instance of which it is so wherever it stands
Some_each : (Form → ℕ → Type 0) → List Callable → ℕ → ℕ → Type 0
Some_each Is callables d k = (at : ℕ) × AllByRecursion (λ (node : Node). Is node.form node.module) (instance callables d k at)

module _ (Is : Form → ℕ → Type 0) (callables : List Callable) where
  opened : (d k : ℕ) → Some_each Is callables (suc d) k → Is (module_at callables k).form k × AllByRecursion (Some_each Is callables d) (module_at callables k).calls
  unfolding Some_each
  opened d k has =
      let all = subst (AllByRecursion (λ (node : Node). Is node.form node.module)) (instance-step callables d k has.0) has.1 in
      (all.0, by (module_at callables k).calls (has.0 + 1) all.1)
    where
      by : (cs : List ℕ) (at : ℕ) → AllByRecursion (λ (node : Node). Is node.form node.module) (instances_of (instance callables d) cs at) → AllByRecursion (Some_each Is callables d) cs
      by [] at all = tt
      by (c ∷ cs) at all = (
        (at, all_left (λ (node : Node). Is node.form node.module) (instance callables d c at) _ all),
        by cs (at + length (instance callables d c at)) (all_right (λ (node : Node). Is node.form node.module) (instance callables d c at) _ all),
      )

zipped : (P Q : ℕ → Type 0) (cs : List ℕ) → AllByRecursion P cs → AllByRecursion Q cs → AllByRecursion (λ c. P c × Q c) cs
zipped P Q [] a b = tt
zipped P Q (c ∷ cs) a b = ((a.0, b.0), zipped P Q cs a.1 b.1)

module _ (infos : List ModuleInfo) (callables other : List Callable) (Is Other : Form → ℕ → Type 0) (wiring : IsWiring infos callables) (n : ℕ) (inside : n < length callables) (alike : (m : ℕ) → m < n → module_at other m ≡ module_at callables m)
    (go : (m : ℕ) → m < n → Is (module_at callables m).form m → Other (module_at callables m).form m) where
  -- an instance of a module before the pipe, in the other program
  stay : (d e k : ℕ) → k < n → is_nested_within callables d k ≡ true → Some_each Is callables d k → Each Other other e k
  unfolding Fits
  stay zero e k low nested has = absurd (no_levels callables k nested)
  stay (suc d) zero k low nested has = each_none Other other k
  stay (suc d) (suc e) k low nested has =
      let own = opened Is callables d k has in
      let there : k < length callables = omega (arith, low, inside) in
      let calls = (module_at callables k).calls in
      each_more Other other e k (subst (λ (w : Callable). Other w.form k) (sym (alike k low)) (go k low own.0))
      (subst (λ (w : Callable). AllByRecursion (Each Other other e) w.calls) (sym (alike k low))
      (weaker (λ c. (c < k) × (Fits infos callables wiring d c × Some_each Is callables d c)) (Each Other other e)
      (λ c h. stay d e c (omega (arith, low, h.0)) h.1.0.1 h.1.1) calls
      (zipped (λ c. c < k) (λ c. Fits infos callables wiring d c × Some_each Is callables d c) calls (earlier infos callables wiring k there)
      (zipped (Fits infos callables wiring d) (Some_each Is callables d) calls (calls_fit infos callables wiring d k there nested) own.1))))

  module _ (added : (m : ℕ) (form : Form) → IsAdded form → Other form m) where
    is_added : (m : ℕ) (form : Form) → (module_at other m).form ≡ form → IsAdded form → Other (module_at other m).form m
    is_added m form e h = subst (λ f. Other f m) (sym e) (added m form h)

    -- a module whose instances in the other program are so, down to any depth
    Good : ℕ → Type 0
    Good c = (e : ℕ) → Each Other other e c

    farm_good : (farm c : ℕ) → IsFarmOf other farm c → Good c → Good farm
    unfolding Good
    farm_good farm c is good zero = each_none Other other farm
    farm_good farm c is good (suc e) =
        each_more Other other e farm (is_added farm (Farm is.workers) is.form tt) (subst (AllByRecursion (Each Other other e)) (sym is.calls) (good e, tt))

    staged_good : (j : ℕ) → Other (module_at other j).form j → AllByRecursion Good (module_at other j).calls → Good j
    unfolding Good
    staged_good j own all zero = each_none Other other j
    staged_good j own all (suc e) = each_more Other other e j own (weaker Good (Each Other other e) (λ c good. good e) (module_at other j).calls all)

    farmed_good : (ds cs : List ℕ) → AreFarmed other ds cs → AllByRecursion Good cs → AllByRecursion Good ds
    farmed_good [] [] are all = tt
    farmed_good [] (c ∷ cs) are all = absurd are
    farmed_good (d ∷ ds) [] are all = absurd are
    farmed_good (d ∷ ds) (c ∷ cs) are all = (by are.0 all.0, farmed_good ds cs are.1 all.1)
      where
        by : (d ≡ c) ⊎ IsFarmOf other d c → Good c → Good d
        by (inl same) good = subst Good (sym same) good
        by (inr farm) good = farm_good d c farm good

    -- the pipe's calls are good
    calls_good : (d : ℕ) → is_nested_within callables (suc d) n ≡ true → Some_each Is callables (suc d) n → AllByRecursion Good (module_at callables n).calls
    unfolding Good Fits
    calls_good d nested has =
        let own = opened Is callables d n has in
        let calls = (module_at callables n).calls in
        weaker (λ c. (c < n) × (Fits infos callables wiring d c × Some_each Is callables d c)) Good
        (λ c h e. stay d e c h.0 h.1.0.1 h.1.1) calls
        (zipped (λ c. c < n) (λ c. Fits infos callables wiring d c × Some_each Is callables d c) calls (earlier infos callables wiring n inside)
        (zipped (Fits infos callables wiring d) (Some_each Is callables d) calls (calls_fit infos callables wiring d n inside nested) own.1))

    good : (its_infos : List ModuleInfo) (j : ℕ) → IsRewritten callables n its_infos other j → AllByRecursion Good (module_at callables n).calls → Good j
    good its_infos j (inl is) all = staged_good j (is_added j Pipe is.form tt) (farmed_good (module_at other j).calls (module_at callables n).calls is.calls all)
    good its_infos j (inr is) all =
        farm_good j is.work is.farm (staged_good is.work (is_added is.work Comp is.comp.form tt) (subst (AllByRecursion Good) (sym is.comp.calls) all))

    pub all_nodes : (its_infos : List ModuleInfo) (j : ℕ) → IsRewritten callables n its_infos other j → is_nested_within callables nesting n ≡ true
        → AllByRecursion (λ (node : Node). Is node.form node.module) (instance callables nesting n 0) → AllByRecursion (λ (node : Node). Other node.form node.module) (instance other nesting j 0)
    unfolding Good Each Some_each
    all_nodes its_infos j is nested all = good its_infos j is (calls_good 5 nested (0, all)) nesting 0
