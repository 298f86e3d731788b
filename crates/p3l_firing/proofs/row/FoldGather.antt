-- The row of a process that folds the outcomes of segments.
use Rattle.std.proofs.Common.{◌≡◌, ℕ, ℤ, zero, suc, ◌*◌, ◌/◌, ◌<◌, ◌≤◌, cond, Bool, true, false, List, [], ◌∷◌, take, drop, length, Some, slice_get, refl, sym, ap, ◌∙◌, subst, arith, inl, inr, length-append, length-take, length-drop, leb-true, leb-false}
use Rattle.std.specs.List.{AllByRecursion}
use Rattle.std.proofs.lemmas.Bool.{cases_Bool, cond-true, cond-false}
use Rattle.p3l_base.specs.declared.outcome.Outcome.{Outcome}
use Rattle.p3l_skel.specs.Fold.{fold_of_up_to}
use Rattle.p3l_skel.specs.declared.tree.Tree.{Tree}
use Rattle.p3l_skel.specs.Tree.{node_at, HasLength, GivesOuts}
use Rattle.p3l_skel.specs.Lawful.{IsLawfulTree}
use Rattle.p3l_firing.specs.declared.process.Proc.{Proc}
use Rattle.p3l_firing.specs.declared.process.ProcKind.TheVariants.{FoldGather}
use Rattle.p3l_firing.specs.declared.net.Net.{Net}
use Rattle.p3l_firing.specs.declared.token.Token.{Token}
use Rattle.p3l_firing.specs.Lists.{has_first, first_or}
use Rattle.p3l_firing.specs.Token.{credit, bodies}
use Rattle.p3l_firing.specs.Nodes.{Leaf, fold_of}
use Rattle.p3l_firing.specs.State.{LocalState, State, front, pop, push, set_own, gathering, released, has_room, with_rest}
use Rattle.p3l_firing.specs.Process.{IsAt, out_of}
use Rattle.p3l_firing.specs.Widths.{Widths, Carries, HasWidth}
use Rattle.p3l_firing.specs.Typed.{IsFitting}
use Rattle.p3l_firing.specs.kinds.FoldGather.{line_of, is_full, can, fold_sent, fire, reads, Fits, Keeps}
use Rattle.p3l_firing.proofs.Places.{first_in, has-each, all-nth}
use Rattle.p3l_firing.proofs.Reading.{SameIn, room-same, with_rest-cond}
use Rattle.p3l_firing.proofs.WidthLaw.{width_of}
use Rattle.p3l_firing.proofs.LawfulForms.{operates}
use Rattle.p3l_firing.proofs.Fitting.{fitting-push, fitting-pop, fitting-own, front_fits, all_first, all_push}
use Rattle.p3l_firing.proofs.row.Join.{combined_long}
use Rattle.p3l_firing.proofs.row.Gather.{longer_has_first}

pub own_reads : (tree : Tree) (widths : Widths) (q : Proc) → Fits tree widths q → AllByRecursion (IsAt (Some q)) (reads q)
own_reads tree widths q fits_q = (inr (first_in q.outs fits_q.outs), has-each q.ins q.ins (λ c h. h) (IsAt (Some q)) (λ c h. inl h))

pub alike : (net : Net) (s t : State) (o : LocalState) (q : Proc) → SameIn s t (reads q) → can net s o q ≡ can net t o q
unfolding can is_full
alike net s t o q same = next (is_full o q) refl
  where
    next : (b : Bool) → is_full o q ≡ b → cond b (has_room net s (out_of q 0)) (has_first (s.tokens (line_of o q))) ≡ cond b (has_room net t (out_of q 0)) (has_first (t.tokens (line_of o q)))
    next true e = room-same net s t _ same.0
    next false e = ap has_first (all-nth (λ c. s.tokens c ≡ t.tokens c) q.ins same.1 (length o.held) (leb-false _ _ e))

pub rest_stays : (tree : Tree) (leaf : Leaf) (s : State) (rest : List (List ℤ)) (p : ℕ) (o : LocalState) (q : Proc) → fire tree leaf (with_rest s rest) p o q ≡ with_rest (fire tree leaf s p o q) rest
unfolding fire fold_sent with_rest push pop set_own
rest_stays tree leaf s rest p o q = with_rest-cond (is_full o q) (fold_sent tree leaf s p o q) (set_own (pop s (line_of o q)) p (gathering o (front s (line_of o q)))) rest

AllLong : ℕ → List Outcome → Type 0
AllLong n [] = Unit {0}
AllLong n (x ∷ xs) = HasLength n x × AllLong n xs

long-take : (n k : ℕ) (xs : List Outcome) → AllLong n xs → AllLong n (take k xs)
unfolding AllLong
long-take n zero xs long = tt
long-take n (suc k) [] long = tt
long-take n (suc k) (x ∷ xs) long = (long.0, long-take n k xs long.1)

long-drop : (n k : ℕ) (xs : List Outcome) → AllLong n xs → AllLong n (drop k xs)
unfolding AllLong
long-drop n zero xs long = long
long-drop n (suc k) [] long = tt
long-drop n (suc k) (x ∷ xs) long = long-drop n k xs long.1

fold_long : (operator : List ℤ → Outcome) (n m : ℕ) (xs : List Outcome) → ((words : List ℤ) → length words ≡ 2 * n → HasLength n (operator words)) → 1 ≤ length xs → AllLong n xs → HasLength n (fold_of_up_to m operator xs)
unfolding fold_of_up_to AllLong
fold_long operator n zero [] kept some long = absurd (omega arith)
fold_long operator n zero (x ∷ []) kept some long = long.0
fold_long operator n zero (x ∷ (y ∷ xs)) kept some long = long.0
fold_long operator n (suc m) [] kept some long = absurd (omega arith)
fold_long operator n (suc m) (x ∷ []) kept some long = long.0
fold_long operator n (suc m) (x ∷ (y ∷ xs)) kept some long =
    let all : List Outcome = x ∷ (y ∷ xs) in
    let h : ℕ = length all / 2 in
    combined_long operator n _ _ kept
    (fold_long operator n m (take h all) kept (omega (arith, length-take h all)) (long-take n h all long))
    (fold_long operator n m (drop h all) kept (omega (arith, length-drop h all)) (long-drop n h all long))

held_long : (n t : ℕ) (xs : List Token) → AllByRecursion (HasWidth n t) xs → AllLong n (bodies xs)
unfolding AllLong bodies
held_long n t [] all = tt
held_long n t (x ∷ xs) all = (all.0.words, held_long n t xs all.1)

bodies_some : (n : ℕ) (xs : List Token) → n < length xs → 1 ≤ length (bodies xs)
unfolding bodies
bodies_some n [] h = absurd (omega (arith, h))
bodies_some n (x ∷ xs) h = omega arith

module _ {tree : Tree} {net : Net} {widths : Widths} (leaf : Leaf) (lawful : IsLawfulTree tree) (gives : GivesOuts tree leaf) (s : State) (p : ℕ) (o : LocalState) (q : Proc) (fit : IsFitting tree net widths s) (stands : slice_get net.procs p ≡ Some q) (kind : q.kind ≡ FoldGather) (fits_q : Fits tree widths q) where
  sent_fits : is_full o q ≡ true → has_room net s (out_of q 0) ≡ true → Keeps tree widths q o → IsFitting tree net widths (fold_sent tree leaf s p o q)
  unfolding fold_sent is_full fold_of
  sent_fits full room keeps =
      let outs : ℕ = (node_at tree q.node).outs in
      let many = leb-true _ _ full in
      let several = fits_q.several in
      let more : 1 < length o.held = omega (arith, many, several) in
      let some = longer_has_first o.held 1 more in
      let first : HasWidth outs (widths.tags (out_of q 0)) (first_or credit o.held) = all_first (HasWidth outs (widths.tags (out_of q 0))) credit o.held some keeps.held in
      fitting-own _
      (fitting-push s fit (out_of q 0) (record { tags = (first_or credit o.held).tags; body = fold_of tree leaf q.node (bodies o.held) }) room
      (record {
        words = subst (λ n. HasLength n (fold_of tree leaf q.node (bodies o.held))) (sym fits_q.gives)
            (fold_long _ outs _ (bodies o.held) (operates tree leaf lawful gives q.node fits_q.node fits_q.form) (bodies_some 1 o.held more) (held_long outs _ o.held keeps.held));
        tags = first.tags;
      }))
      p q FoldGather (released o) stands kind (record { held = tt; few = omega arith })

  taken_fits : is_full o q ≡ false → has_first (s.tokens (line_of o q)) ≡ true → Keeps tree widths q o → IsFitting tree net widths (set_own (pop s (line_of o q)) p (gathering o (front s (line_of o q))))
  unfolding is_full
  taken_fits few full keeps =
      let less = leb-false _ _ few in
      let carries : Carries widths (line_of o q) (node_at tree q.node).outs (widths.tags (out_of q 0)) = all-nth _ q.ins fits_q.takes (length o.held) less in
      fitting-own _ (fitting-pop s fit (line_of o q)) p q FoldGather (gathering o (front s (line_of o q))) stands kind
      (record {
        held = all_push _ o.held (front s (line_of o q)) keeps.held (width_of _ carries (front_fits s fit (line_of o q) full));
        few = omega (arith, less, length-append o.held (front s (line_of o q) ∷ []));
      })

  pub fits : can net s o q ≡ true → Keeps tree widths q o → IsFitting tree net widths (fire tree leaf s p o q)
  unfolding can fire
  fits h keeps =
      elim (cases_Bool (is_full o q)) [
        | inl full ↦ subst (IsFitting tree net widths) (sym (cond-true (is_full o q) _ _ full)) (sent_fits full (sym (cond-true (is_full o q) _ _ full) ∙ h) keeps)
        | inr few ↦ subst (IsFitting tree net widths) (sym (cond-false (is_full o q) _ _ few)) (taken_fits few (sym (cond-false (is_full o q) _ _ few) ∙ h) keeps)
      ]
