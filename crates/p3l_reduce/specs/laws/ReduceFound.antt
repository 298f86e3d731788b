-- WHAT IS FOUND IN A REDUCE is what its part is.
use Rattle.std.proofs.Common.{◌≡◌, ℕ, zero, suc, ◌+◌, ◌-◌, ◌^◌, ◌&&◌, inl, inr, nat_lt, List, [], ◌∷◌, ◌++◌, map, refl, sym, ap, ap₂, ◌∙◌}
use Rattle.std.proofs.lemmas.Bool.{cases_Bool, cond-true, cond-false}
use Rattle.std.proofs.lemmas.List.{map-append, length-replicate}
use Rattle.p3l_base.specs.declared.outcome.Outcome.TheVariants.{Value}
use Rattle.p3l_firing.specs.State.{State}
use Rattle.p3l_firing.specs.Token.{over, same_tags}
use Rattle.p3l_firing.specs.declared.token.Token.{Token}
use Rattle.p3l_firing.specs.kinds.Join.{paired_by}
use Rattle.p3l_reduce.specs.JoinTree.{Folding, View, unsent, pairwise, after_node, flow, matched, even, split_ok, well_kept}
use Rattle.p3l_reduce.specs.Reduce.{folding_of, view_of, tree_part, tree_shape, reduce_shape}
use Rattle.p3l_reduce.specs.laws.ReduceLaw.{tree_procs}
use Rattle.p3l_template.specs.Part.{Part, all_orderly}
use Rattle.p3l_template.specs.Placed.{proc_end, chan_end}
use Rattle.p3l_template.specs.Shape.{Base, Role, empty_chan}
use Rattle.p3l_template.specs.Units.{Units}
use Rattle.p3l_template.specs.Finding.{bare, bares, pending_of, AreSlots, EndsAt, IsFoundShape}
use Rattle.p3l_reduce.specs.ReduceKind.{bare_folding, seen_of, found_by, reduce_finds}
use Rattle.p3l_template.specs.laws.BareLaw.{bares-over}
use Rattle.p3l_template.specs.laws.RunFound.{run_found}

-- the view without outcomes
abbrev pub seen : View → View
seen v = record { tees = λ q. bares (v.tees q); segs = λ u. bares (v.segs u); sending = bares v.sending; sent = v.sent }

pub matched-bare : (xs ys : List Token) → matched (bares xs) (bares ys) ≡ matched xs ys
unfolding matched
matched-bare [] [] = refl
matched-bare [] (y ∷ ys) = refl
matched-bare (x ∷ xs) [] = refl
matched-bare (x ∷ xs) (y ∷ ys) = ap (λ b. same_tags x.tags y.tags && b) (matched-bare xs ys)

-- folds that make no outcomes leave nothing but the tags
pub over-bare : (xs : List Token) → map (over (λ o. Value [])) (bares xs) ≡ bares xs
over-bare [] = refl
over-bare (x ∷ xs) = ap (λ z. bare x ∷ z) (over-bare xs)

module _ (g : Folding) (v : View) where
  abbrev h : Folding
  h = bare_folding g.count

  pairwise-bare : (xs ys : List Token) → pairwise h (bares xs) (bares ys) ≡ bares (pairwise g xs ys)
  unfolding pairwise paired_by
  pairwise-bare [] ys = refl
  pairwise-bare (x ∷ xs) [] = refl
  pairwise-bare (x ∷ xs) (y ∷ ys) = ap (λ z. bare x ∷ z) (pairwise-bare xs ys)

  unsent-bare : (xs : List Token) (k s : ℕ) → unsent h (bares xs) k s ≡ bares (unsent g xs k s)
  unfolding unsent
  unsent-bare [] k s = refl
  unsent-bare (x ∷ xs) k s =
      elim (cases_Bool (nat_lt s k)) [
        | inl e ↦ cond-true _ _ _ e ∙ ap bares (sym (cond-true _ _ _ e))
        | inr e ↦ cond-false _ _ _ e ∙ ap bares (sym (cond-false _ _ _ e))
      ]

  -- a flow, where what is still to come is known
  flow-from : (d q : ℕ) → after_node h (seen v) d q ≡ bares (after_node g v d q) → flow h (seen v) d q ≡ bares (flow g v d q)
  flow-from d q e = ap (λ z. bares (v.tees q) ++ z) e ∙ sym (map-append bare (v.tees q) (after_node g v d q))

  pub after-bare : (d q : ℕ) → after_node h (seen v) d q ≡ bares (after_node g v d q)
  unfolding after_node
  after-bare zero q =
      ap₂ (λ a b. a ++ b) (over-bare (v.segs (q - g.count)) ∙ sym (bares-over g.fold (v.segs (q - g.count))))
      (unsent-bare v.sending v.sent (q - g.count))
      ∙ sym (map-append bare (map (over g.fold) (v.segs (q - g.count))) _)
  after-bare (suc d) q =
      ap₂ (pairwise h) (flow-from d (q + q) (after-bare d (q + q))) (flow-from d (suc (q + q)) (after-bare d (suc (q + q))))
      ∙ pairwise-bare (flow g v d (q + q)) (flow g v d (suc (q + q)))

  pub flow-bare : (d q : ℕ) → flow h (seen v) d q ≡ bares (flow g v d q)
  flow-bare d q = flow-from d q (after-bare d q)

  even-bare : (d q : ℕ) → even h (seen v) d q ≡ even g v d q
  unfolding even
  even-bare zero q = refl
  even-bare (suc d) q =
      ap₂ (λ a b. a && b)
      (ap₂ matched (flow-bare d (q + q)) (flow-bare d (suc (q + q))) ∙ matched-bare (flow g v d (q + q)) (flow g v d (suc (q + q))))
      (ap₂ (λ a b. a && b) (even-bare d (q + q)) (even-bare d (suc (q + q))))

  split-bare : (xs : List Token) (k : ℕ) → split_ok h (bares xs) k ≡ split_ok g xs k
  unfolding split_ok
  split-bare [] k = refl
  split-bare (x ∷ xs) k = refl

  kept-bare : (d : ℕ) → well_kept h d (seen v) ≡ well_kept g d v
  unfolding well_kept
  kept-bare d = ap₂ (λ a b. a && b) (even-bare d 1) (split-bare v.sending v.sent)

module _ (node d len : ℕ) where
  abbrev m : ℕ
  m = 2 ^ suc d

  tree-orderly : (units : Units) (roles : ℕ → Role) (base : Base) (parts : List Part) (s : State) → AreSlots [] parts →
      (tree_part units node m d base).orderly s
      ≡ (all_orderly parts s && (found_by m (suc d) (seen_of base m s)).orderly)
  unfolding AreSlots all_orderly found_by
  tree-orderly units roles base [] s slotted = sym (kept-bare (folding_of units node m) (view_of base m s) (suc d))
  tree-orderly units roles base (P ∷ Ps) s slotted = absurd slotted

  tree-pending : (units : Units) (base : Base) (s : State) →
      pending_of s (tree_part units node m d base) ≡ (found_by m (suc d) (seen_of base m s)).pending
  unfolding found_by
  tree-pending units base s = sym (after-bare (folding_of units node m) (view_of base m s) (suc d) 1)

  tree-ends : (units : Units) (roles : ℕ → Role) (base : Base) (parts : List Part) → AreSlots [] parts →
      EndsAt (tree_shape node m d len) base parts (tree_part units node m d base)
  unfolding AreSlots proc_end chan_end
  tree-ends units roles base [] slotted = record {
    input = refl;
    output = refl;
    proc_to = ap (λ z. base.proc + z) (sym (tree_procs node m d len refl base));
    chan_to = refl;
  }
  tree-ends units roles base (P ∷ Ps) slotted = absurd slotted

pub reduce_found : (node len level : ℕ) → IsFoundShape (reduce_shape node len level) (reduce_finds level)
unfolding reduce_shape reduce_finds
reduce_found node len zero = run_found node
reduce_found node len (suc d) = record {
  orderly = tree-orderly node d len;
  pending = λ units roles base parts s slotted. tree-pending node d len units base s;
  ends = tree-ends node d len;
  laid = λ cap base. length-replicate (2 ^ suc d + (2 ^ suc d + 2 ^ suc d - 2)) (empty_chan cap);
}
