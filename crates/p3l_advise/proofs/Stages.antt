-- The stages of a tree, and the first of them with a service time.
use Rattle.std.proofs.Common.{◌≡◌, ℕ, zero, suc, ◌+◌, ◌-◌, ◌<◌, ◌≤◌, Bool, true, false, List, [], ◌∷◌, Option, Some, None, refl, ap, ◌∙◌, arith, drop, get_or, length, sym, append_assoc, Result, Ok, Err, ◌++◌}
use Rattle.std.specs.Prelude.{find}
use Rattle.std.specs.List.{flat_map}
use Rattle.std.specs.Option.{option_or}
use Rattle.std.proofs.lemmas.List.{drop_more, drop_all}
use Rattle.std.proofs.lemmas.List.{append-nil}
use Rattle.std.proofs.lemmas.List.Concat.{flat_map-append}
use Rattle.p3l_base.specs.Memory.{OnGiven}
use Rattle.std.proofs.lemmas.List.Folds.{find-append}
use Rattle.p3l_skel.specs.declared.tree.Form.{Form}
use Rattle.p3l_skel.specs.declared.tree.Form.TheVariants.{Seq, Comp, Pipe, Farm, Map, Reduce, Loop}
use Rattle.p3l_skel.specs.declared.tree.Tree.{Tree}
use Rattle.p3l_skel.specs.Counts.{outside_parts}
use Rattle.p3l_skel.specs.Tree.{node_at, by_parts}
use Rattle.p3l_advise.specs.Bottleneck.{is_stage, stages_from}

pub stages_from-zero : (tree : Tree) (k : ℕ) → stages_from tree 0 k ≡ k ∷ []
unfolding stages_from by_parts
stages_from-zero tree k = refl

pub stages_from-own : (tree : Tree) (d k : ℕ) → 0 < d → is_stage (node_at tree k).form ≡ true → stages_from tree d k ≡ k ∷ []
unfolding stages_from by_parts
stages_from-own tree zero k some other = refl
stages_from-own tree (suc d) k some other = rw other refl

stages_from-suc : (tree : Tree) (d k : ℕ) → is_stage (node_at tree k).form ≡ false → stages_from tree (suc d) k ≡ flat_map (stages_from tree d) (outside_parts (node_at tree k).form (node_at tree k).parts)
unfolding stages_from by_parts
stages_from-suc tree d k pipe = rw pipe refl

pub stages_from-pipe : (tree : Tree) (d k : ℕ) → 0 < d → is_stage (node_at tree k).form ≡ false → stages_from tree d k ≡ flat_map (stages_from tree (d - 1)) (outside_parts (node_at tree k).form (node_at tree k).parts)
stages_from-pipe tree zero k some pipe = absurd (omega arith)
stages_from-pipe tree (suc d) k some pipe = let e : suc d - 1 ≡ d = omega arith in rw e (stages_from-suc tree d k pipe)

module _ (test : ℕ → Bool) (below : ℕ → List ℕ) (parts : List ℕ) where
  -- the first of those below the parts that are left
  abbrev pub find_after : ℕ → Option ℕ
  find_after i = find test (flat_map below (drop i parts))

  split : (i d : ℕ) → i < length parts → find_after i ≡ option_or (find test (below (get_or parts i d))) (find_after (i + 1))
  split i d inside = rw (drop_more parts i d inside) (find-append test (below (get_or parts i d)) (flat_map below (drop (i + 1) parts)))

  pub find_here : (i d found : ℕ) → i < length parts → find test (below (get_or parts i d)) ≡ Some found → find_after i ≡ Some found
  find_here i d found inside is = split i d inside ∙ ap (λ o. option_or o (find_after (i + 1))) is

  pub find_next : (i d : ℕ) → i < length parts → find test (below (get_or parts i d)) ≡ None → find_after i ≡ find_after (i + 1)
  find_next i d inside is = split i d inside ∙ ap (λ o. option_or o (find_after (i + 1))) is

  pub find_end : (i : ℕ) → length parts ≤ i → find_after i ≡ None
  find_end i past = rw (drop_all i parts past) refl

-- the parts of a pipe are outside units
pub pipe_parts : (form : Form) (parts : List ℕ) → is_stage form ≡ false → outside_parts form parts ≡ parts
pipe_parts Seq parts other = cc
pipe_parts Comp parts other = cc
pipe_parts Pipe parts other = refl
pipe_parts (Farm w) parts other = cc
pipe_parts (Map w cut) parts other = cc
pipe_parts (Reduce w len elem) parts other = cc
pipe_parts (Loop turns tokens) parts other = cc

module _ (words : ℕ → List ℕ) (below : ℕ → List ℕ) (parts : List ℕ) where
  -- the words for those below the parts that are left
  abbrev pub texts_after : ℕ → List ℕ
  texts_after i = flat_map words (flat_map below (drop i parts))

  pub texts_step : (i d : ℕ) (text : List ℕ) → i < length parts → (text ++ flat_map words (below (get_or parts i d))) ++ texts_after (i + 1) ≡ text ++ texts_after i
  texts_step i d text inside =
      rw (drop_more parts i d inside)
      (append_assoc text (flat_map words (below (get_or parts i d))) (texts_after (i + 1))
      ∙ ap (λ (xs : List ℕ). text ++ xs) (sym (flat_map-append words (below (get_or parts i d)) (flat_map below (drop (i + 1) parts)))))

-- the words for one stage
pub one_more : {T E : Type 0} (text : List ℕ) (words : ℕ → List ℕ) (k : ℕ) (r : Result T E) (after : List ℕ) → OnGiven r (after ≡ text ++ words k) → OnGiven r (after ≡ text ++ flat_map words (k ∷ []))
one_more text words k (Ok v) after made = made ∙ ap (λ (xs : List ℕ). text ++ xs) (sym (append-nil (words k)))
one_more text words k (Err e) after made = made
