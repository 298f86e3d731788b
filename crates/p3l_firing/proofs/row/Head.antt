-- The row of a head.
use Rattle.std.proofs.Common.{◌≡◌, ℕ, ℤ, ◌&&◌, ◌||◌, Bool, true, false, List, [], ◌∷◌, length, Some, slice_get, sym, ap, ap₂, subst, arith, inl, inr}
use Rattle.std.specs.List.{AllByRecursion}
use Rattle.std.proofs.lemmas.Bool.{and_parts, cases_Bool, cond-true, cond-false}
use Rattle.p3l_skel.specs.declared.tree.Tree.{Tree}
use Rattle.p3l_skel.specs.Tree.{HasLength}
use Rattle.p3l_firing.specs.declared.process.Proc.{Proc}
use Rattle.p3l_firing.specs.declared.process.ProcKind.TheVariants.{Head}
use Rattle.p3l_firing.specs.declared.net.Net.{Net}
use Rattle.p3l_firing.specs.Lists.{has_first}
use Rattle.p3l_firing.specs.Token.{admitted}
use Rattle.p3l_firing.specs.State.{LocalState, State, front, pop, push, set_own, counted, has_room, with_rest}
use Rattle.p3l_firing.specs.Process.{IsAt, in_of, out_of}
use Rattle.p3l_firing.specs.Widths.{Widths, FitsToken}
use Rattle.p3l_firing.specs.Typed.{IsFitting}
use Rattle.p3l_firing.specs.kinds.Head.{can, sent_round, let_in, fire, reads, Fits}
use Rattle.p3l_firing.proofs.Places.{first_in, has-nth}
use Rattle.p3l_firing.proofs.Reading.{SameIn, room-same, with_rest-cond}
use Rattle.p3l_firing.proofs.WidthLaw.{fits_width, width_of}
use Rattle.p3l_firing.proofs.Fitting.{fitting-push, fitting-pop, fitting-own, front_fits, room-pop}

pub three_long : (cs : List ℕ) (a b c : ℕ) → cs ≡ a ∷ (b ∷ (c ∷ [])) → length cs ≡ 3
three_long cs a b c e = ap length e

pub own_reads : (tree : Tree) (widths : Widths) (q : Proc) → Fits tree widths q → AllByRecursion (IsAt (Some q)) (reads q)
own_reads tree widths q fits_q =
    let long = three_long q.ins _ _ _ fits_q.ins in
    (inr (first_in q.outs fits_q.outs), (inl (has-nth q.ins 1 (omega (arith, long))), (inl (has-nth q.ins 0 (omega (arith, long))), (inl (has-nth q.ins 2 (omega (arith, long))), tt))))

pub alike : (net : Net) (s t : State) (q : Proc) → SameIn s t (reads q) → can net s q ≡ can net t q
unfolding can
alike net s t q same =
    ap₂ (λ a b. a && b) (room-same net s t _ same.0) (ap₂ (λ a b. a || b) (ap has_first same.1.0) (ap₂ (λ a b. a && b) (ap has_first same.1.1.0) (ap has_first same.1.1.1.0)))

pub rest_stays : (s : State) (rest : List (List ℤ)) (p : ℕ) (o : LocalState) (q : Proc) → fire (with_rest s rest) p o q ≡ with_rest (fire s p o q) rest
unfolding fire sent_round let_in with_rest push pop set_own
rest_stays s rest p o q = with_rest-cond (has_first (s.tokens (in_of q 1))) (sent_round s q) (let_in s p o q) rest

-- one comes in and a credit is left if nothing comes back
pub comes_in : (a b c : Bool) → a ≡ false → (a || (b && c)) ≡ true → (b ≡ true) × (c ≡ true)
comes_in true b c e h = cc
comes_in false b c e h = and_parts b c h

module _ {tree : Tree} {net : Net} {widths : Widths} (s : State) (p : ℕ) (o : LocalState) (q : Proc) (fit : IsFitting tree net widths s) (stands : slice_get net.procs p ≡ Some q) (kind : q.kind ≡ Head) (fits_q : Fits tree widths q) (room : has_room net s (out_of q 0) ≡ true) where
  pub round_fits : has_first (s.tokens (in_of q 1)) ≡ true → IsFitting tree net widths (sent_round s q)
  unfolding sent_round
  round_fits full =
      let token : FitsToken widths (in_of q 1) (front s (in_of q 1)) = front_fits s fit (in_of q 1) full in
      fitting-push (pop s (in_of q 1)) (fitting-pop s fit (in_of q 1)) (out_of q 0) (front s (in_of q 1)) (room-pop net s (in_of q 1) (out_of q 0) room)
      (fits_width _ fits_q.gives (width_of _ fits_q.back token))

  pub in_fits : has_first (s.tokens (in_of q 0)) ≡ true → o.held ≡ [] → IsFitting tree net widths (let_in s p o q)
  unfolding let_in
  in_fits full none =
      let token : FitsToken widths (in_of q 0) (front s (in_of q 0)) = front_fits s fit (in_of q 0) full in
      let long = token.tags in
      fitting-own _
      (fitting-push (pop (pop s (in_of q 0)) (in_of q 2)) (fitting-pop (pop s (in_of q 0)) (fitting-pop s fit (in_of q 0)) (in_of q 2)) (out_of q 0) (admitted o.number (front s (in_of q 0)))
      (room-pop net (pop s (in_of q 0)) (in_of q 2) (out_of q 0) (room-pop net s (in_of q 0) (out_of q 0) room))
      (fits_width _ fits_q.gives (record { words = subst (λ n. HasLength n (front s (in_of q 0)).body) fits_q.takes token.words; tags = omega (arith, long) })))
      p q Head (counted o) stands kind none

module _ {tree : Tree} {net : Net} {widths : Widths} (s : State) (p : ℕ) (o : LocalState) (q : Proc) (fit : IsFitting tree net widths s) (stands : slice_get net.procs p ≡ Some q) (kind : q.kind ≡ Head) (fits_q : Fits tree widths q) where
  pub fits : can net s q ≡ true → o.held ≡ [] → IsFitting tree net widths (fire s p o q)
  unfolding can fire
  fits h none =
      let both = and_parts _ _ h in
      elim (cases_Bool (has_first (s.tokens (in_of q 1)))) [
        | inl back ↦ subst (IsFitting tree net widths) (sym (cond-true (has_first (s.tokens (in_of q 1))) _ _ back)) (round_fits s p o q fit stands kind fits_q both.0 back)
        | inr none_back ↦
            let new = comes_in _ _ _ none_back both.1 in
            subst (IsFitting tree net widths) (sym (cond-false (has_first (s.tokens (in_of q 1))) _ _ none_back)) (in_fits s p o q fit stands kind fits_q both.0 new.0 none)
      ]
