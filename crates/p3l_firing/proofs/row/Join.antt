-- The row of a join.
use Rattle.std.proofs.Common.{◌≡◌, ℕ, ℤ, ◌*◌, ◌&&◌, true, List, [], ◌∷◌, ◌++◌, length, Some, refl, sym, ap, ap₂, ◌∙◌, subst, arith, inl, inr, length-append}
use Rattle.std.specs.List.{AllByRecursion}
use Rattle.std.proofs.lemmas.Bool.{and_parts}
use Rattle.p3l_base.specs.declared.outcome.Outcome.{Outcome}
use Rattle.p3l_base.specs.declared.outcome.Outcome.TheVariants.{Value, Trapped}
use Rattle.p3l_skel.specs.declared.tree.Tree.{Tree}
use Rattle.p3l_skel.specs.Tree.{node_at, HasLength, GivesOuts}
use Rattle.p3l_skel.specs.Fold.{combined}
use Rattle.p3l_skel.specs.Lawful.{IsLawfulTree}
use Rattle.p3l_firing.specs.declared.process.Proc.{Proc}
use Rattle.p3l_firing.specs.declared.net.Net.{Net}
use Rattle.p3l_firing.specs.Lists.{has_first}
use Rattle.p3l_firing.specs.Nodes.{Leaf, operator_of}
use Rattle.p3l_firing.specs.State.{State, front, pop, push, with_rest}
use Rattle.p3l_firing.specs.Process.{IsAt, in_of, out_of}
use Rattle.p3l_firing.specs.Widths.{Widths, Carries, FitsToken}
use Rattle.p3l_firing.specs.Typed.{IsFitting}
use Rattle.p3l_firing.specs.kinds.Join.{paired_by, can, fire, reads, Fits}
use Rattle.p3l_firing.proofs.Places.{first_in, has-nth, all-nth}
use Rattle.p3l_firing.proofs.Reading.{SameIn, room-same}
use Rattle.p3l_firing.proofs.Fitting.{fitting-push, fitting-pop, front_fits, room-pop}
use Rattle.p3l_firing.proofs.LawfulForms.{operates}

pub two_long : (cs : List ℕ) (a b : ℕ) → cs ≡ a ∷ (b ∷ []) → length cs ≡ 2
two_long cs a b e = ap length e

pub own_reads : (tree : Tree) (widths : Widths) (q : Proc) → Fits tree widths q → AllByRecursion (IsAt (Some q)) (reads q)
own_reads tree widths q fits_q =
    let long = two_long q.ins _ _ fits_q.ins in
    (inr (first_in q.outs fits_q.outs), (inl (has-nth q.ins 0 (omega (arith, long))), (inl (has-nth q.ins 1 (omega (arith, long))), tt)))

pub alike : (net : Net) (s t : State) (q : Proc) → SameIn s t (reads q) → can net s q ≡ can net t q
unfolding can
alike net s t q same = ap₂ (λ a b. a && b) (ap has_first same.1.0) (ap₂ (λ a b. a && b) (ap has_first same.1.1.0) (room-same net s t _ same.0))

pub rest_stays : (tree : Tree) (leaf : Leaf) (s : State) (rest : List (List ℤ)) (q : Proc) → fire tree leaf (with_rest s rest) q ≡ with_rest (fire tree leaf s q) rest
unfolding fire with_rest pop push
rest_stays tree leaf s rest q = refl

-- two outcomes of n words are combined to one of n words, if the operator makes n words of two times n
pub combined_long : (operator : List ℤ → Outcome) (n : ℕ) (x y : Outcome) → ((words : List ℤ) → length words ≡ 2 * n → HasLength n (operator words)) → HasLength n x → HasLength n y → HasLength n (combined operator x y)
combined_long operator n (Trapped trap) y kept left right = tt
combined_long operator n (Value v) (Trapped trap) kept left right = tt
combined_long operator n (Value v) (Value w) kept left right = kept (v ++ w) (omega (arith, length-append v w))

module _ (tree : Tree) (leaf : Leaf) (lawful : IsLawfulTree tree) (gives : GivesOuts tree leaf) (widths : Widths) (q : Proc) (fits_q : Fits tree widths q) where
  pub fits : (net : Net) (s : State) → IsFitting tree net widths s → can net s q ≡ true → IsFitting tree net widths (fire tree leaf s q)
  unfolding can fire paired_by operator_of
  fits net s fit h =
      let both = and_parts _ _ h in
      let more = and_parts _ _ both.1 in
      let outs : ℕ = (node_at tree q.node).outs in
      let long = two_long q.ins _ _ fits_q.ins in
      let left : FitsToken widths (in_of q 0) (front s (in_of q 0)) = front_fits s fit (in_of q 0) both.0 in
      let right : FitsToken widths (in_of q 1) (front s (in_of q 1)) = front_fits s fit (in_of q 1) more.0 in
      let left_is : Carries widths (in_of q 0) outs (widths.tags (out_of q 0)) = all-nth _ q.ins fits_q.takes 0 (omega (arith, long)) in
      let right_is : Carries widths (in_of q 1) outs (widths.tags (out_of q 0)) = all-nth _ q.ins fits_q.takes 1 (omega (arith, long)) in
      fitting-push (pop (pop s (in_of q 0)) (in_of q 1)) (fitting-pop (pop s (in_of q 0)) (fitting-pop s fit (in_of q 0)) (in_of q 1)) (out_of q 0)
      (paired_by (operator_of tree leaf q.node) (front s (in_of q 0)) (front s (in_of q 1)))
      (room-pop net (pop s (in_of q 0)) (in_of q 1) (out_of q 0) (room-pop net s (in_of q 0) (out_of q 0) more.1))
      (record {
        words = subst (λ n. HasLength n (operator_of tree leaf q.node (front s (in_of q 0)).body (front s (in_of q 1)).body)) (sym fits_q.gives)
            (combined_long _ outs (front s (in_of q 0)).body (front s (in_of q 1)).body (operates tree leaf lawful gives q.node fits_q.node fits_q.form)
            (subst (λ n. HasLength n (front s (in_of q 0)).body) left_is.words left.words)
            (subst (λ n. HasLength n (front s (in_of q 1)).body) right_is.words right.words));
        tags = left.tags ∙ left_is.tags;
      })
