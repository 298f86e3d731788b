-- The outcome of a form on words depends only on the outcomes of its calls.
use Rattle.std.proofs.Common.{◌≡◌, ℕ, ℤ, List, [], ◌∷◌, refl, ap, ◌∙◌}
use Rattle.p3l_base.specs.declared.outcome.Outcome.{Outcome}
use Rattle.p3l_base.specs.declared.outcome.Outcome.TheVariants.{Value}
use Rattle.p3l_skel.specs.declared.tree.Form.{Form}
use Rattle.p3l_skel.specs.declared.tree.Form.TheVariants.{Seq, Comp, Pipe, Farm, Map, Reduce, Loop}
use Rattle.p3l_skel.specs.Item.{on_value, in_order, mapped, reduced, turned, turns_spent, item_row}
use Rattle.p3l_check.specs.declared.callables.Callable.{Callable}
use Rattle.p3l_check.specs.Wiring.{IsCallableForm}

pub same_function : {A B : Type 0} (f g : A → B) → ((x : A) → f x ≡ g x) → f ≡ g
same_function f g h = λ i x. h x i

-- one by one, what these do is what those do
unfoldable pub AllMean : (ℕ → List ℤ → Outcome) → (ℕ → List ℤ → Outcome) → List ℕ → List ℕ → Type 0
AllMean f g [] [] = Unit {0}
AllMean f g [] (c ∷ cs) = ⊥
AllMean f g (p ∷ ps) [] = ⊥
AllMean f g (p ∷ ps) (c ∷ cs) = (f p ≡ g c) × AllMean f g ps cs

pub in_order-mean : (f g : ℕ → List ℤ → Outcome) (ps cs : List ℕ) (outcome : Outcome) → AllMean f g ps cs → in_order f ps outcome ≡ in_order g cs outcome
unfolding AllMean
in_order-mean f g [] [] outcome mean = refl
in_order-mean f g [] (c ∷ cs) outcome mean = absurd mean
in_order-mean f g (p ∷ ps) [] outcome mean = absurd mean
in_order-mean f g (p ∷ ps) (c ∷ cs) outcome mean =
    ap (λ m. in_order f ps (on_value m outcome)) mean.0 ∙ in_order-mean f g ps cs (on_value (g c) outcome) mean.1

module _ (callables : List Callable) (rescue its_rescue : Outcome → Outcome) (leaf its_leaf : ℕ → List ℤ → Outcome) (home : ℕ) (f g : ℕ → List ℤ → Outcome)
    (rescues : its_rescue ≡ rescue) (own : its_leaf home ≡ leaf home) where
  row-mean : (form : Form) (ins outs : ℕ) (ps cs : List ℕ) → IsCallableForm callables form ins outs cs → AllMean f g ps cs → (words : List ℤ) → item_row its_rescue its_leaf home form ps f words ≡ item_row rescue leaf home form cs g words
  unfolding AllMean
  row-mean Seq ins outs ps cs w mean words = ap (λ r. r (its_leaf home words)) rescues ∙ ap (λ m. rescue (m words)) own
  row-mean Comp ins outs ps cs w mean words = ap (λ r. r (in_order f ps (Value words))) rescues ∙ ap rescue (in_order-mean f g ps cs (Value words) mean)
  row-mean Pipe ins outs ps cs w mean words = in_order-mean f g ps cs (Value words) mean
  row-mean (Farm n) ins outs ps [] w mean words = absurd w
  row-mean (Farm n) ins outs [] (c ∷ cs) w mean words = absurd mean
  row-mean (Farm n) ins outs (p ∷ ps) (c ∷ cs) w mean words = ap (λ m. m words) mean.0
  row-mean (Map n cut) ins outs ps [] w mean words = absurd w
  row-mean (Map n cut) ins outs [] (c ∷ cs) w mean words = absurd mean
  row-mean (Map n cut) ins outs (p ∷ ps) (c ∷ cs) w mean words = ap (λ m. mapped cut m words) mean.0
  row-mean (Reduce n len elem) ins outs ps [] w mean words = absurd w
  row-mean (Reduce n len elem) ins outs [] (c ∷ cs) w mean words = absurd mean
  row-mean (Reduce n len elem) ins outs (p ∷ ps) (c ∷ cs) w mean words = ap (λ m. reduced elem m words) mean.0
  row-mean (Loop turns tokens) ins outs ps [] w mean words = absurd w
  row-mean (Loop turns tokens) ins outs ps (c ∷ []) w mean words = absurd w
  row-mean (Loop turns tokens) ins outs [] (c ∷ (d ∷ cs)) w mean words = absurd mean
  row-mean (Loop turns tokens) ins outs (p ∷ []) (c ∷ (d ∷ cs)) w mean words = absurd mean.1
  row-mean (Loop turns tokens) ins outs (p ∷ (q ∷ ps)) (c ∷ (d ∷ cs)) w mean words =
      ap (λ m. turned m (f q) (turns_spent home) turns words) mean.0 ∙ ap (λ m. turned (g c) m (turns_spent home) turns words) mean.1.0

  -- the same as functions
  pub rows-mean : (form : Form) (ins outs : ℕ) (ps cs : List ℕ) → IsCallableForm callables form ins outs cs → AllMean f g ps cs → item_row its_rescue its_leaf home form ps f ≡ item_row rescue leaf home form cs g
  rows-mean form ins outs ps cs w mean = same_function _ _ (row-mean form ins outs ps cs w mean)
