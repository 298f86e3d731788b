-- A pipe that is written otherwise means what it meant.
use Rattle.std.proofs.Common.{◌≡◌, ℕ, ℤ, suc, ◌<◌, ◌⊎◌, inl, inr, List, [], ◌∷◌, length, refl, ap, sym, ◌∙◌, arith}
use Rattle.std.specs.List.{AllByRecursion}
use Rattle.p3l_base.specs.declared.outcome.Outcome.{Outcome}
use Rattle.p3l_base.specs.declared.outcome.Outcome.TheVariants.{Value}
use Rattle.p3l_skel.specs.declared.tree.Form.{Form}
use Rattle.p3l_skel.specs.declared.tree.Form.TheVariants.{Comp, Pipe, Farm}
use Rattle.p3l_skel.specs.declared.tree.ModuleInfo.{ModuleInfo}
use Rattle.p3l_skel.specs.Item.{rescued, in_order, item_row, item, up_to_trap, meaning}
use Rattle.p3l_check.specs.declared.callables.Callable.{Callable}
use Rattle.p3l_check.specs.Wiring.{module_at, IsWiring}
use Rattle.p3l_check.specs.Unfolding.{tree_of}
use Rattle.p3l_rewrite.specs.Meant.{rescued_by, meant, AreAlike}
use Rattle.p3l_rewrite.specs.Trees.{IsFarmOf, AreFarmed, IsFarmed, IsCompOf, IsFused, IsRewritten, CompIsItsPipe, RewrittenTreesMean}
use Rattle.p3l_rewrite.proofs.Rows.{AllMean, in_order-mean}
use Rattle.p3l_rewrite.proofs.Depth.{earlier, by_calls, meant-alike}
use Rattle.p3l_rewrite.proofs.Roots.{root_means}

-- a module's meaning follows from its form and its calls
row_at : (infos : List ModuleInfo) (callables : List Callable) (leaf : ℕ → List ℤ → Outcome) (k : ℕ) (form : Form) (calls : List ℕ) → IsWiring infos callables → k < length callables
    → (module_at callables k).form ≡ form → (module_at callables k).calls ≡ calls → (words : List ℤ) → meant infos callables leaf k words ≡ item_row (rescued_by infos callables k) leaf k form calls (meant infos callables leaf) words
row_at infos callables leaf k form calls wiring inside form_is calls_are words =
    ap (λ m. m words) (by_calls infos callables wiring leaf k inside)
    ∙ ap (λ f. item_row (rescued_by infos callables k) leaf k f (module_at callables k).calls (meant infos callables leaf) words) form_is
    ∙ ap (λ cs. item_row (rescued_by infos callables k) leaf k form cs (meant infos callables leaf) words) calls_are

pub farm_means : (infos : List ModuleInfo) (callables : List Callable) (leaf : ℕ → List ℤ → Outcome) (farm worker : ℕ) (words : List ℤ) → IsWiring infos callables → IsFarmOf callables farm worker
    → meant infos callables leaf farm words ≡ meant infos callables leaf worker words
farm_means infos callables leaf farm worker words wiring is =
    row_at infos callables leaf farm (Farm is.workers) (worker ∷ []) wiring is.there is.form is.calls words

module _ (infos its_infos : List ModuleInfo) (callables other : List Callable) (leaf its_leaf : ℕ → List ℤ → Outcome) (k : ℕ) (wiring : IsWiring infos callables) (its_wiring : IsWiring its_infos other)
    (inside : k < length callables) (alike : AreAlike k infos its_infos callables other leaf its_leaf) where
  -- a module before the pipe does what it did
  as_before : (c : ℕ) → c < k → meant its_infos other its_leaf c ≡ meant infos callables leaf c
  as_before c low = meant-alike infos callables wiring its_infos other leaf its_leaf k (omega (arith, inside)) alike (suc c) c low

  -- as functions
  its_worker : (d c : ℕ) → IsFarmOf other d c → meant its_infos other its_leaf d ≡ meant its_infos other its_leaf c
  its_worker d c is = λ i words. farm_means its_infos other its_leaf d c words its_wiring is i

  call_means : (d c : ℕ) → c < k → (d ≡ c) ⊎ IsFarmOf other d c → meant its_infos other its_leaf d ≡ meant infos callables leaf c
  call_means d c low (inl same) = ap (meant its_infos other its_leaf) same ∙ as_before c low
  call_means d c low (inr farm) = its_worker d c farm ∙ as_before c low

  calls_mean : (ds cs : List ℕ) → AllByRecursion (λ c. c < k) cs → AreFarmed other ds cs → AllMean (meant its_infos other its_leaf) (meant infos callables leaf) ds cs
  unfolding AllMean
  calls_mean [] [] low are = tt
  calls_mean [] (c ∷ cs) low are = absurd are
  calls_mean (d ∷ ds) [] low are = absurd are
  calls_mean (d ∷ ds) (c ∷ cs) low are = (call_means d c low.0 are.0, calls_mean ds cs low.1 are.1)

  own_calls : (cs : List ℕ) → AllByRecursion (λ c. c < k) cs → AllMean (meant its_infos other its_leaf) (meant infos callables leaf) cs cs
  unfolding AllMean
  own_calls [] low = tt
  own_calls (c ∷ cs) low = (as_before c low.0, own_calls cs low.1)

  low_calls : AllByRecursion (λ c. c < k) (module_at callables k).calls
  low_calls = earlier infos callables wiring k inside

  farmed_means : (j : ℕ) (words : List ℤ) → IsFarmed callables k other j → meant its_infos other its_leaf j words ≡ meant infos callables leaf k words
  farmed_means j words is =
      row_at its_infos other its_leaf j Pipe (module_at other j).calls its_wiring is.there is.form refl words
      ∙ in_order-mean (meant its_infos other its_leaf) (meant infos callables leaf) (module_at other j).calls (module_at callables k).calls (Value words) (calls_mean (module_at other j).calls (module_at callables k).calls low_calls is.calls)
      ∙ sym (row_at infos callables leaf k Pipe (module_at callables k).calls wiring inside is.was refl words)

  pub comp_means : (work : ℕ) (words : List ℤ) → (module_at callables k).form ≡ Pipe → IsCompOf callables k its_infos other work → meant its_infos other its_leaf work words ≡ meant infos callables leaf k words
  comp_means work words was is =
      let calls = (module_at callables k).calls in
      row_at its_infos other its_leaf work Comp calls its_wiring is.there is.form is.calls words
      ∙ ap (λ r. rescued r (module_at other work).outs (in_order (meant its_infos other its_leaf) calls (Value words))) is.plain
      ∙ in_order-mean (meant its_infos other its_leaf) (meant infos callables leaf) calls calls (Value words) (own_calls calls low_calls)
      ∙ sym (row_at infos callables leaf k Pipe calls wiring inside was refl words)

  fused_means : (j : ℕ) (words : List ℤ) → IsFused callables k its_infos other j → meant its_infos other its_leaf j words ≡ meant infos callables leaf k words
  fused_means j words is =
      farm_means its_infos other its_leaf j is.work words its_wiring is.farm
      ∙ comp_means is.work words is.was is.comp

  pub rewritten_means : (j : ℕ) (words : List ℤ) → IsRewritten callables k its_infos other j → meant its_infos other its_leaf j words ≡ meant infos callables leaf k words
  rewritten_means j words (inl farmed) = farmed_means j words farmed
  rewritten_means j words (inr fused) = fused_means j words fused

pub comp_is_its_pipe : CompIsItsPipe
comp_is_its_pipe infos its_infos callables other leaf its_leaf k work words wiring its_wiring inside alike was is =
    comp_means infos its_infos callables other leaf its_leaf k wiring its_wiring inside alike work words was is

-- items one after another
meanings : (infos its_infos : List ModuleInfo) (callables other : List Callable) (leaf its_leaf : ℕ → List ℤ → Outcome) (k j : ℕ)
    → ((words : List ℤ) → item (tree_of its_infos other j) its_leaf 0 words ≡ item (tree_of infos callables k) leaf 0 words)
    → (items : List (List ℤ)) → meaning (tree_of its_infos other j) its_leaf items ≡ meaning (tree_of infos callables k) leaf items
meanings infos its_infos callables other leaf its_leaf k j same [] = refl
meanings infos its_infos callables other leaf its_leaf k j same (words ∷ items) =
    ap (λ o. up_to_trap o (meaning (tree_of its_infos other j) its_leaf items)) (same words)
    ∙ ap (up_to_trap (item (tree_of infos callables k) leaf 0 words)) (meanings infos its_infos callables other leaf its_leaf k j same items)

pub trees_mean : RewrittenTreesMean
trees_mean infos its_infos callables other leaf its_leaf k j items has its alike is =
    meanings infos its_infos callables other leaf its_leaf k j
    (λ words. ap (λ m. m words) (root_means its_infos other its_leaf j its.wiring its.there its.nested)
    ∙ rewritten_means infos its_infos callables other leaf its_leaf k has.wiring its.wiring has.there alike j words is
    ∙ sym (ap (λ m. m words) (root_means infos callables leaf k has.wiring has.there has.nested)))
    items
