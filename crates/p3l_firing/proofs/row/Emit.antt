-- The row of an emit.
use Rattle.std.proofs.Common.{◌≡◌, ℕ, ℤ, ◌+◌, ◌&&◌, Bool, true, false, cond, nat_le, List, [], ◌∷◌, length, Option, Some, None, slice_get, refl, sym, ap, ap₂, ◌∙◌, subst, arith, inl, inr, ◌⊎◌}
use Rattle.std.specs.Option.{is_some}
use Rattle.std.specs.List.{AllByRecursion}
use Rattle.std.proofs.lemmas.Bool.{and_parts}
use Rattle.p3l_skel.specs.declared.tree.Tree.{Tree}
use Rattle.p3l_skel.specs.Tree.{node_at, HasLength}
use Rattle.p3l_firing.specs.declared.process.Proc.{Proc}
use Rattle.p3l_firing.specs.declared.process.ProcKind.TheVariants.{Emit}
use Rattle.p3l_firing.specs.declared.net.Net.{Net}
use Rattle.p3l_firing.specs.Lists.{has_first}
use Rattle.p3l_firing.specs.Token.{tagged}
use Rattle.p3l_firing.specs.State.{LocalState, State, front, pop, push, set_own, counted, has_room, with_rest}
use Rattle.p3l_firing.specs.Process.{Has, IsAt, in_of}
use Rattle.p3l_firing.specs.Widths.{Widths, Carries, FitsToken}
use Rattle.p3l_firing.specs.Typed.{IsFitting}
use Rattle.p3l_firing.specs.kinds.Emit.{fewer, emptiest, can, sent_to, fire, reads, Fits}
use Rattle.p3l_firing.proofs.Places.{first_in, has-each, all-has}
use Rattle.p3l_firing.proofs.Reading.{SameIn, same-everywhere, room-same, some_same}
use Rattle.p3l_firing.proofs.WidthLaw.{fits_width}
use Rattle.p3l_firing.proofs.Fitting.{fitting-push, fitting-pop, fitting-own, front_fits, room-pop}

none_some : (y : ℕ) (o : Option ℕ) → o ≡ None → o ≡ Some y → ⊥
none_some y None e f = cc
none_some y (Some x) e f = cc

module _ (net : Net) (s t : State) where
  -- of what was chosen so far, the number of tokens is read too
  chosen-same : (cs : List ℕ) → SameIn s t cs → (o : Option ℕ) → emptiest net s cs ≡ o → emptiest net t cs ≡ o → (c : ℕ) → s.tokens c ≡ t.tokens c → ((d : ℕ) → o ≡ Some d → s.tokens d ≡ t.tokens d) → fewer net s c o ≡ fewer net t c o
  unfolding fewer
  chosen-same cs same None e f c here later = ap (λ b. cond b (Some c) None) (room-same net s t c here)
  chosen-same cs same (Some d) e f c here later =
      ap₂ (λ b ts. cond (b && nat_le (length ts) (length (s.tokens d))) (Some c) (Some d)) (room-same net s t c here) here
      ∙ ap (λ ts. cond (has_room net t c && nat_le (length (t.tokens c)) (length ts)) (Some c) (Some d)) (later d refl)

  one : (d : ℕ) (b : Bool) (x y : Option ℕ) → cond b x y ≡ Some d → (x ≡ Some d) ⊎ (y ≡ Some d)
  one d true x y e = inl e
  one d false x y e = inr e

  among : (c : ℕ) (cs : List ℕ) (d : ℕ) (o : Option ℕ) → ((x : ℕ) → o ≡ Some x → Has cs x) → fewer net s c o ≡ Some d → (c ≡ d) ⊎ Has cs d
  unfolding fewer
  among c cs d None h e = elim (one d (has_room net s c) (Some c) None e) [ inl f ↦ inl (some_same c d f) | inr f ↦ absurd (none_some d None refl f) ]
  among c cs d (Some x) h e =
      elim (one d (has_room net s c && nat_le (length (s.tokens c)) (length (s.tokens x))) (Some c) (Some x) e) [
        | inl f ↦ inl (some_same c d f)
        | inr f ↦ inr (subst (Has cs) (some_same x d f) (h x refl))
      ]

  -- the channel that is chosen is one of those given
  pub chosen_among : (cs : List ℕ) (d : ℕ) → emptiest net s cs ≡ Some d → Has cs d
  unfolding emptiest fewer
  chosen_among [] d e = cc
  chosen_among (c ∷ cs) d e = among c cs d (emptiest net s cs) (λ x f. chosen_among cs x f) e

-- and it has room
pub chosen_roomy : (net : Net) (s : State) (cs : List ℕ) (d : ℕ) → emptiest net s cs ≡ Some d → has_room net s d ≡ true
unfolding emptiest fewer
chosen_roomy net s [] d e = cc
chosen_roomy net s (c ∷ cs) d e = roomy (emptiest net s cs) (λ x f. chosen_roomy net s cs x f) e
  where
    by_room : (b : Bool) (y : Option ℕ) → has_room net s c ≡ true → (y ≡ Some d → has_room net s d ≡ true) → cond b (Some c) y ≡ Some d → has_room net s d ≡ true
    by_room true y r later f = subst (λ x. has_room net s x ≡ true) (some_same c d f) r
    by_room false y r later f = later f

    first_part : (a b : Bool) (y : Option ℕ) → has_room net s c ≡ a → (y ≡ Some d → has_room net s d ≡ true) → cond (a && b) (Some c) y ≡ Some d → has_room net s d ≡ true
    first_part true b y r later f = by_room b y r later f
    first_part false b y r later f = later f

    roomy : (o : Option ℕ) → ((x : ℕ) → o ≡ Some x → has_room net s x ≡ true) → fewer net s c o ≡ Some d → has_room net s d ≡ true
    roomy None g f = only (has_room net s c) refl f
      where
        only : (a : Bool) → has_room net s c ≡ a → cond a (Some c) None ≡ Some d → has_room net s d ≡ true
        only true r k = subst (λ x. has_room net s x ≡ true) (some_same c d k) r
        only false r k = cc
    roomy (Some x) g f = first_part (has_room net s c) (nat_le (length (s.tokens c)) (length (s.tokens x))) (Some x) refl (λ k. subst (λ z. has_room net s z ≡ true) (some_same x d k) (g x refl)) f

pub emptiest-same : (net : Net) (s t : State) (cs : List ℕ) → SameIn s t cs → emptiest net s cs ≡ emptiest net t cs
unfolding emptiest
emptiest-same net s t [] same = refl
emptiest-same net s t (c ∷ cs) same =
    let after = emptiest-same net s t cs same.1 in
    chosen-same net s t cs same.1 (emptiest net s cs) refl (sym after) c same.0 (λ d e. all-has (λ x. s.tokens x ≡ t.tokens x) cs same.1 d (chosen_among net s t cs d e))
    ∙ ap (fewer net t c) after

pub own_reads : (tree : Tree) (widths : Widths) (q : Proc) → Fits tree widths q → AllByRecursion (IsAt (Some q)) (reads q)
own_reads tree widths q fits = (inl (first_in q.ins fits.ins), has-each q.outs q.outs (λ c h. h) (IsAt (Some q)) (λ c h. inr h))

pub alike : (net : Net) (s t : State) (q : Proc) → SameIn s t (reads q) → can net s q ≡ can net t q
unfolding can
alike net s t q same = ap₂ (λ a b. a && b) (ap has_first same.0) (ap is_some (emptiest-same net s t q.outs same.1))

sent_to-rest : (c : Option ℕ) (s : State) (rest : List (List ℤ)) (p : ℕ) (o : LocalState) (q : Proc) → sent_to c (with_rest s rest) p o q ≡ with_rest (sent_to c s p o q) rest
unfolding sent_to with_rest push pop set_own
sent_to-rest None s rest p o q = refl
sent_to-rest (Some c) s rest p o q = refl

same_with_rest : (s : State) (rest : List (List ℤ)) (cs : List ℕ) → SameIn (with_rest s rest) s cs
unfolding with_rest
same_with_rest s rest cs = same-everywhere (with_rest s rest) s (λ c. refl) cs

pub rest_stays : (net : Net) (s : State) (rest : List (List ℤ)) (p : ℕ) (o : LocalState) (q : Proc) → fire net (with_rest s rest) p o q ≡ with_rest (fire net s p o q) rest
unfolding fire
rest_stays net s rest p o q =
    ap (λ c. sent_to c (with_rest s rest) p o q) (emptiest-same net (with_rest s rest) s q.outs (same_with_rest s rest q.outs))
    ∙ sent_to-rest (emptiest net s q.outs) s rest p o q

-- an option that is some has an element
pub some_one : {A : Type 0} (o : Option A) → is_some o ≡ true → (x : A) × (o ≡ Some x)
some_one None h = cc
some_one (Some x) h = (x, refl)

module _ {tree : Tree} {net : Net} {widths : Widths} (s : State) (p : ℕ) (o : LocalState) (q : Proc) (fit : IsFitting tree net widths s) (stands : slice_get net.procs p ≡ Some q) (kind : q.kind ≡ Emit) (fits_q : Fits tree widths q) where
  pub sent_fits : (c : ℕ) → has_first (s.tokens (in_of q 0)) ≡ true → Has q.outs c → has_room net s c ≡ true → o.held ≡ [] → IsFitting tree net widths (sent_to (Some c) s p o q)
  unfolding sent_to
  sent_fits c full among room none =
      let token : FitsToken widths (in_of q 0) (front s (in_of q 0)) = front_fits s fit (in_of q 0) full in
      let carries : Carries widths c (node_at tree q.node).ins (widths.tags (in_of q 0) + 1) = all-has _ q.outs fits_q.gives c among in
      let long = token.tags in
      fitting-own _
      (fitting-push (pop s (in_of q 0)) (fitting-pop s fit (in_of q 0)) c (tagged o.number (front s (in_of q 0)))
      (room-pop net s (in_of q 0) c room)
      (fits_width _ carries (record { words = subst (λ n. HasLength n (front s (in_of q 0)).body) fits_q.takes token.words; tags = omega (arith, long) })))
      p q Emit (counted o) stands kind none

  pub fits : can net s q ≡ true → o.held ≡ [] → IsFitting tree net widths (fire net s p o q)
  unfolding can fire
  fits h none =
      let both = and_parts _ _ h in
      let some = some_one (emptiest net s q.outs) both.1 in
      subst (λ c. IsFitting tree net widths (sent_to c s p o q)) (sym some.1) (sent_fits some.0 both.0 (chosen_among net s s q.outs some.0 some.1) (chosen_roomy net s q.outs some.0 some.1) none)
