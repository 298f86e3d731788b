-- The meaning of a module does not depend on the depth bound, once its calls end within it.
use Rattle.std.proofs.Common.{◌≡◌, ℕ, ℤ, zero, suc, ◌<◌, ◌≤◌, Bool, true, false, ◌&&◌, List, [], ◌∷◌, length, refl, ap, sym, ◌∙◌, arith}
use Rattle.std.specs.List.{AllByRecursion, list_all}
use Rattle.std.proofs.lemmas.List.Elements.{recursion_from_All}
use Rattle.p3l_base.specs.declared.outcome.Outcome.{Outcome}
use Rattle.p3l_skel.specs.declared.tree.ModuleInfo.{ModuleInfo}
use Rattle.p3l_skel.specs.Tree.{by_parts}
use Rattle.p3l_skel.specs.Item.{rescued, item_row}
use Rattle.p3l_check.specs.declared.callables.Callable.{Callable}
use Rattle.p3l_check.specs.Wiring.{module_at, IsWiring, IsCallableModule}
use Rattle.p3l_check.specs.Refusing.{is_nested_within}
use Rattle.p3l_check.proofs.Nested.{nested-step}
use Rattle.p3l_rewrite.proofs.Stands.{no_levels}
use Rattle.p3l_rewrite.specs.Meant.{rescue_at, rescued_by, meant_to, meant, AreAlike}
use Rattle.p3l_rewrite.proofs.Rows.{same_function, AllMean, rows-mean}

pub meant-step : (infos : List ModuleInfo) (callables : List Callable) (leaf : ℕ → List ℤ → Outcome) (d k : ℕ) → meant_to infos callables leaf (suc d) k ≡ item_row (rescued_by infos callables k) leaf k (module_at callables k).form (module_at callables k).calls (meant_to infos callables leaf d)
unfolding meant_to by_parts
meant-step infos callables leaf d k = refl

pub meant-none : (infos : List ModuleInfo) (callables : List Callable) (leaf : ℕ → List ℤ → Outcome) (k : ℕ) → meant_to infos callables leaf zero k ≡ leaf k
unfolding meant_to by_parts
meant-none infos callables leaf k = refl

both : (a b : Bool) → (a && b) ≡ true → (a ≡ true) × (b ≡ true)
both true b h = (refl, h)
both false b h = absurd cc

-- if each of some calls does the same, they mean the same one by one
pub each_means : (P : ℕ → Type 0) (f g : ℕ → List ℤ → Outcome) → ((c : ℕ) → P c → f c ≡ g c) → (cs : List ℕ) → AllByRecursion P cs → AllMean f g cs cs
unfolding AllMean
each_means P f g same [] all = tt
each_means P f g same (c ∷ cs) all = (same c all.0, each_means P f g same cs all.1)

pub weaker : (P Q : ℕ → Type 0) → ((c : ℕ) → P c → Q c) → (cs : List ℕ) → AllByRecursion P cs → AllByRecursion Q cs
weaker P Q go [] all = tt
weaker P Q go (c ∷ cs) all = (go c all.0, weaker P Q go cs all.1)

module _ (infos : List ModuleInfo) (callables : List Callable) (wiring : IsWiring infos callables) where
  -- each call is of an earlier module
  pub earlier : (k : ℕ) → k < length callables → AllByRecursion (λ c. c < k) (module_at callables k).calls
  earlier k inside = recursion_from_All (λ c. c < k) (module_at callables k).calls (wiring.each k inside).earlier

  -- a call that is of a module and nested so
  unfoldable pub Fits : ℕ → ℕ → Type 0
  Fits d c = (c < length callables) × (is_nested_within callables d c ≡ true)

  all_fit : (d k : ℕ) → k < length callables → (cs : List ℕ) → AllByRecursion (λ c. c < k) cs → list_all (is_nested_within callables d) cs ≡ true → AllByRecursion (Fits d) cs
  unfolding Fits
  all_fit d k inside [] low nested = tt
  all_fit d k inside (c ∷ cs) low nested =
      let two = both (is_nested_within callables d c) (list_all (is_nested_within callables d) cs) nested in
      let less : c < k = low.0 in
      ((omega (arith, less, inside), two.0), all_fit d k inside cs low.1 two.1)

  pub calls_fit : (d k : ℕ) → k < length callables → is_nested_within callables (suc d) k ≡ true → AllByRecursion (Fits d) (module_at callables k).calls
  calls_fit d k inside nested = all_fit d k inside (module_at callables k).calls (earlier k inside) (sym (nested-step callables d k) ∙ nested)

  both_fit : (d e : ℕ) (cs : List ℕ) → AllByRecursion (Fits d) cs → AllByRecursion (Fits e) cs → AllByRecursion (λ c. Fits d c × Fits e c) cs
  both_fit d e [] one two = tt
  both_fit d e (c ∷ cs) one two = ((one.0, two.0), both_fit d e cs one.1 two.1)

  -- a module is nested within any depth that is above its number
  calls_nested : (d : ℕ) → ((c : ℕ) → c < d → c < length callables → is_nested_within callables d c ≡ true) → (cs : List ℕ) → AllByRecursion (λ c. (c < d) × (c < length callables)) cs → list_all (is_nested_within callables d) cs ≡ true
  calls_nested d one [] low = refl
  calls_nested d one (c ∷ cs) low = ap (λ b. b && list_all (is_nested_within callables d) cs) (one c low.0.0 low.0.1) ∙ calls_nested d one cs low.1

  pub nested_own : (d k : ℕ) → k < d → k < length callables → is_nested_within callables d k ≡ true
  nested_own zero k low inside = absurd (omega (arith, low))
  nested_own (suc d) k low inside =
      nested-step callables d k
      ∙ calls_nested d (λ c less there. nested_own d c less there) (module_at callables k).calls
      (weaker (λ c. c < k) (λ c. (c < d) × (c < length callables)) (λ c less. (omega (arith, less, low), omega (arith, less, inside))) (module_at callables k).calls (earlier k inside))

  module _ (leaf : ℕ → List ℤ → Outcome) where
    -- any two depths that a module is nested within
    pub meant-any : (d e k : ℕ) → k < length callables → is_nested_within callables d k ≡ true → is_nested_within callables e k ≡ true → meant_to infos callables leaf d k ≡ meant_to infos callables leaf e k
    unfolding Fits
    meant-any zero e k inside one two = absurd (no_levels callables k one)
    meant-any (suc d) zero k inside one two = absurd (no_levels callables k two)
    meant-any (suc d) (suc e) k inside one two =
        let m : IsCallableModule infos callables k (module_at callables k) = wiring.each k inside in
        let calls = (module_at callables k).calls in
        meant-step infos callables leaf d k
        ∙ rows-mean callables (rescued_by infos callables k) (rescued_by infos callables k) leaf leaf k (meant_to infos callables leaf d) (meant_to infos callables leaf e) refl refl (module_at callables k).form (module_at callables k).ins (module_at callables k).outs calls calls m.form
        (each_means (λ c. Fits d c × Fits e c) (meant_to infos callables leaf d) (meant_to infos callables leaf e) (λ c h. meant-any d e c h.0.0 h.0.1 h.1.1) calls
        (both_fit d e calls (calls_fit d k inside one) (calls_fit e k inside two)))
        ∙ sym (meant-step infos callables leaf e k)

    pub enough : (d k : ℕ) → k < length callables → is_nested_within callables d k ≡ true → meant_to infos callables leaf d k ≡ meant infos callables leaf k
    enough d k inside nested = meant-any d (suc k) k inside nested (nested_own (suc k) k (omega arith) inside)

    pub by_calls : (k : ℕ) → k < length callables → meant infos callables leaf k ≡ item_row (rescued_by infos callables k) leaf k (module_at callables k).form (module_at callables k).calls (meant infos callables leaf)
    unfolding Fits
    by_calls k inside =
        let m : IsCallableModule infos callables k (module_at callables k) = wiring.each k inside in
        let calls = (module_at callables k).calls in
        meant-step infos callables leaf k k
        ∙ rows-mean callables (rescued_by infos callables k) (rescued_by infos callables k) leaf leaf k (meant_to infos callables leaf k) (meant infos callables leaf) refl refl (module_at callables k).form (module_at callables k).ins (module_at callables k).outs calls calls m.form
        (each_means (Fits k) (meant_to infos callables leaf k) (meant infos callables leaf) (λ c h. enough k c h.0 h.1) calls
        (calls_fit k k inside (nested_own (suc k) k (omega arith) inside)))

  module _ (its_infos : List ModuleInfo) (other : List Callable) (leaf its_leaf : ℕ → List ℤ → Outcome) (n : ℕ) (few : n ≤ length callables) (alike : AreAlike n infos its_infos callables other leaf its_leaf) where
    pub same_leaf : (k : ℕ) → k < n → its_leaf k ≡ leaf k
    same_leaf k low = same_function _ _ (λ words. alike.leaves k words low)

    -- down to any depth
    pub meant-alike : (d k : ℕ) → k < n → meant_to its_infos other its_leaf d k ≡ meant_to infos callables leaf d k
    meant-alike zero k low = meant-none its_infos other its_leaf k ∙ same_leaf k low ∙ sym (meant-none infos callables leaf k)
    meant-alike (suc d) k low =
        let inside : k < length callables = omega (arith, few, low) in
        let m : IsCallableModule infos callables k (module_at callables k) = wiring.each k inside in
        let calls = (module_at callables k).calls in
        meant-step its_infos other its_leaf d k
        ∙ ap (λ (w : Callable). item_row (rescued (rescue_at its_infos k) w.outs) its_leaf k w.form w.calls (meant_to its_infos other its_leaf d)) (alike.modules k low)
        ∙ rows-mean callables (rescued_by infos callables k) (rescued (rescue_at its_infos k) (module_at callables k).outs) leaf its_leaf k (meant_to its_infos other its_leaf d) (meant_to infos callables leaf d)
        (ap (λ r. rescued r (module_at callables k).outs) (alike.rescues k low)) (same_leaf k low) (module_at callables k).form (module_at callables k).ins (module_at callables k).outs calls calls m.form
        (each_means (λ c. c < n) (meant_to its_infos other its_leaf d) (meant_to infos callables leaf d) (λ c h. meant-alike d c h) calls
        (weaker (λ c. c < k) (λ c. c < n) (λ c less. omega (arith, less, low)) calls (earlier k inside)))
        ∙ sym (meant-step infos callables leaf d k)
