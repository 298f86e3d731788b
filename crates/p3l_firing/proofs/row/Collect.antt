-- The row of a collect.
use Rattle.std.proofs.Common.{◌≡◌, ℕ, ℤ, ◌+◌, ◌&&◌, true, cond, List, [], ◌∷◌, Option, Some, None, slice_get, refl, sym, ap, ap₂, ◌∙◌, subst, inl, inr}
use Rattle.std.specs.Option.{is_some}
use Rattle.std.specs.List.{AllByRecursion}
use Rattle.std.proofs.lemmas.Bool.{and_parts, cases_Bool, cond-true, cond-false}
use Rattle.p3l_skel.specs.declared.tree.Tree.{Tree}
use Rattle.p3l_skel.specs.Tree.{node_at, HasLength}
use Rattle.p3l_firing.specs.declared.process.Proc.{Proc}
use Rattle.p3l_firing.specs.declared.process.ProcKind.TheVariants.{Collect}
use Rattle.p3l_firing.specs.declared.net.Net.{Net}
use Rattle.p3l_firing.specs.declared.token.Token.{Token}
use Rattle.p3l_firing.specs.Lists.{has_first}
use Rattle.p3l_firing.specs.Token.{untagged}
use Rattle.p3l_firing.specs.State.{LocalState, State, front, pop, push, set_own, counted, has_room, with_rest}
use Rattle.p3l_firing.specs.Process.{Has, IsAt, out_of}
use Rattle.p3l_firing.specs.Widths.{Widths, Carries, FitsToken}
use Rattle.p3l_firing.specs.Typed.{IsFitting}
use Rattle.p3l_firing.specs.kinds.Collect.{front_is, due_in, can, taken_from, fire, reads, Fits}
use Rattle.p3l_firing.proofs.Places.{first_in, has-each, all-has}
use Rattle.p3l_firing.proofs.Reading.{SameIn, same-everywhere, room-same, some_same}
use Rattle.p3l_firing.proofs.WidthLaw.{later_long}
use Rattle.p3l_firing.proofs.Fitting.{fitting-push, fitting-pop, fitting-own, front_fits, room-pop}
use Rattle.p3l_firing.proofs.row.Emit.{some_one}

pub due-same : (s t : State) (n : ℕ) (cs : List ℕ) → SameIn s t cs → due_in s n cs ≡ due_in t n cs
unfolding due_in
due-same s t n [] same = refl
due-same s t n (c ∷ cs) same = ap₂ (λ ts x. cond (front_is n ts) (Some c) x) same.0 (due-same s t n cs same.1)

-- the channel that is found is one of those given
pub due_among : (s : State) (n : ℕ) (cs : List ℕ) (d : ℕ) → due_in s n cs ≡ Some d → Has cs d
unfolding due_in
due_among s n [] d e = cc
due_among s n (c ∷ cs) d e =
    elim (cases_Bool (front_is n (s.tokens c))) [
      | inl here ↦ inl (some_same c d (sym (cond-true (front_is n (s.tokens c)) _ _ here) ∙ e))
      | inr not_here ↦ inr (due_among s n cs d (sym (cond-false (front_is n (s.tokens c)) _ _ not_here) ∙ e))
    ]

front_there : (n : ℕ) (tokens : List Token) → front_is n tokens ≡ true → has_first tokens ≡ true
unfolding front_is
front_there n [] h = cc
front_there n (x ∷ xs) h = refl

-- and it has a token
pub due_full : (s : State) (n : ℕ) (cs : List ℕ) (d : ℕ) → due_in s n cs ≡ Some d → has_first (s.tokens d) ≡ true
unfolding due_in
due_full s n [] d e = cc
due_full s n (c ∷ cs) d e =
    elim (cases_Bool (front_is n (s.tokens c))) [
      | inl here ↦
          subst (λ k. has_first (s.tokens k) ≡ true) (some_same c d (sym (cond-true (front_is n (s.tokens c)) _ _ here) ∙ e))
          (front_there n (s.tokens c) here)
      | inr not_here ↦ due_full s n cs d (sym (cond-false (front_is n (s.tokens c)) _ _ not_here) ∙ e)
    ]

pub own_reads : (tree : Tree) (widths : Widths) (q : Proc) → Fits tree widths q → AllByRecursion (IsAt (Some q)) (reads q)
own_reads tree widths q fits_q = (inr (first_in q.outs fits_q.outs), has-each q.ins q.ins (λ c h. h) (IsAt (Some q)) (λ c h. inl h))

pub alike : (net : Net) (s t : State) (o : LocalState) (q : Proc) → SameIn s t (reads q) → can net s o q ≡ can net t o q
unfolding can
alike net s t o q same = ap₂ (λ a b. a && b) (ap is_some (due-same s t o.number q.ins same.1)) (room-same net s t _ same.0)

taken_from-rest : (c : Option ℕ) (s : State) (rest : List (List ℤ)) (p : ℕ) (o : LocalState) (q : Proc) → taken_from c (with_rest s rest) p o q ≡ with_rest (taken_from c s p o q) rest
unfolding taken_from with_rest push pop set_own
taken_from-rest None s rest p o q = refl
taken_from-rest (Some c) s rest p o q = refl

same_with_rest : (s : State) (rest : List (List ℤ)) (cs : List ℕ) → SameIn (with_rest s rest) s cs
unfolding with_rest
same_with_rest s rest cs = same-everywhere (with_rest s rest) s (λ c. refl) cs

pub rest_stays : (s : State) (rest : List (List ℤ)) (p : ℕ) (o : LocalState) (q : Proc) → fire (with_rest s rest) p o q ≡ with_rest (fire s p o q) rest
unfolding fire
rest_stays s rest p o q =
    ap (λ c. taken_from c (with_rest s rest) p o q) (due-same (with_rest s rest) s o.number q.ins (same_with_rest s rest q.ins))
    ∙ taken_from-rest (due_in s o.number q.ins) s rest p o q

module _ {tree : Tree} {net : Net} {widths : Widths} (s : State) (p : ℕ) (o : LocalState) (q : Proc) (fit : IsFitting tree net widths s) (stands : slice_get net.procs p ≡ Some q) (kind : q.kind ≡ Collect) (fits_q : Fits tree widths q) where
  pub taken_fits : (c : ℕ) → Has q.ins c → has_first (s.tokens c) ≡ true → has_room net s (out_of q 0) ≡ true → o.held ≡ [] → IsFitting tree net widths (taken_from (Some c) s p o q)
  unfolding taken_from
  taken_fits c among full room none =
      let token : FitsToken widths c (front s c) = front_fits s fit c full in
      let carries : Carries widths c (node_at tree q.node).outs (widths.tags (out_of q 0) + 1) = all-has _ q.ins fits_q.takes c among in
      fitting-own _
      (fitting-push (pop s c) (fitting-pop s fit c) (out_of q 0) (untagged (front s c)) (room-pop net s c (out_of q 0) room)
      (record {
        words = subst (λ n. HasLength n (front s c).body) (carries.words ∙ sym fits_q.gives) token.words;
        tags = later_long (front s c).tags (widths.tags (out_of q 0)) (token.tags ∙ carries.tags);
      }))
      p q Collect (counted o) stands kind none

  pub fits : can net s o q ≡ true → o.held ≡ [] → IsFitting tree net widths (fire s p o q)
  unfolding can fire
  fits h none =
      let both = and_parts _ _ h in
      let some = some_one (due_in s o.number q.ins) both.0 in
      subst (λ c. IsFitting tree net widths (taken_from c s p o q)) (sym some.1) (taken_fits some.0 (due_among s o.number q.ins some.0 some.1) (due_full s o.number q.ins some.0 some.1) both.1 none)
