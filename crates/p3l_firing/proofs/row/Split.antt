-- The row of a split.
use Rattle.std.proofs.Common.{◌≡◌, ℕ, ℤ, suc, ◌*◌, ◌<◌, ◌&&◌, cond, nat_lt, Bool, true, false, List, length, Some, slice_get, slice_index, refl, sym, ap, ap₂, ◌∙◌, subst, arith, inl, inr}
use Rattle.std.specs.List.{AllByRecursion}
use Rattle.std.proofs.lemmas.Bool.{and_parts, cases_Bool, cond-true, cond-false, ltb-true}
use Rattle.p3l_base.specs.declared.outcome.Outcome.{Outcome}
use Rattle.p3l_base.specs.declared.outcome.Outcome.TheVariants.{Value, Trapped}
use Rattle.p3l_skel.specs.declared.tree.Form.{Form}
use Rattle.p3l_skel.proofs.Depth.{lawful_at}
use Rattle.p3l_skel.specs.declared.tree.Tree.{Tree}
use Rattle.p3l_skel.specs.Tree.{node_at, HasLength}
use Rattle.p3l_skel.specs.Lawful.{IsLawfulTree}
use Rattle.p3l_firing.specs.declared.process.Proc.{Proc}
use Rattle.p3l_firing.specs.declared.process.ProcKind.TheVariants.{Split}
use Rattle.p3l_firing.specs.declared.net.Net.{Net}
use Rattle.p3l_firing.specs.declared.token.Token.{Token}
use Rattle.p3l_firing.specs.Lists.{has_first, first_or}
use Rattle.p3l_firing.specs.Token.{credit, over}
use Rattle.p3l_firing.specs.Segments.{segment_length, segment_words}
use Rattle.p3l_firing.specs.Nodes.{elem_of, segment_of}
use Rattle.p3l_firing.specs.State.{LocalState, State, front, pop, push, set_own, counted, holding, fresh, has_room, with_rest}
use Rattle.p3l_firing.specs.Process.{IsAt, in_of, out_of}
use Rattle.p3l_firing.specs.Widths.{Widths, FitsToken}
use Rattle.p3l_firing.specs.Typed.{IsFitting}
use Rattle.p3l_firing.specs.kinds.Split.{can, after_segment, segment_sent, fire, reads, Fits, Keeps}
use Rattle.p3l_firing.proofs.Places.{first_in, has-each, all-nth}
use Rattle.p3l_firing.proofs.Reading.{SameIn, room-same, with_rest-cond}
use Rattle.p3l_firing.proofs.WidthLaw.{fits_width}
use Rattle.p3l_firing.proofs.LawfulForms.{reduce_part, some_factor}
use Rattle.p3l_firing.proofs.SegmentLaw.{segment_long}
use Rattle.p3l_firing.proofs.Fitting.{fitting-push, fitting-pop, fitting-own, front_fits, all_first}

pub own_reads : (tree : Tree) (widths : Widths) (q : Proc) → Fits tree widths q → AllByRecursion (IsAt (Some q)) (reads q)
own_reads tree widths q fits_q = (inl (first_in q.ins fits_q.ins), has-each q.outs q.outs (λ c h. h) (IsAt (Some q)) (λ c h. inr h))

room_or_not : (net : Net) (s t : State) (outs : List ℕ) (k : ℕ) (b : Bool) → nat_lt k (length outs) ≡ b → SameIn s t outs → (b && has_room net s (slice_index outs k)) ≡ (b && has_room net t (slice_index outs k))
room_or_not net s t outs k true e same = room-same net s t _ (all-nth (λ c. s.tokens c ≡ t.tokens c) outs same k (ltb-true _ _ e))
room_or_not net s t outs k false e same = refl

pub alike : (net : Net) (s t : State) (o : LocalState) (q : Proc) → SameIn s t (reads q) → can net s o q ≡ can net t o q
unfolding can
alike net s t o q same =
    ap₂ (λ a b. cond (has_first o.held) a b) (room_or_not net s t q.outs o.number (nat_lt o.number (length q.outs)) refl same.1) (ap has_first same.0)

pub rest_stays : (tree : Tree) (s : State) (rest : List (List ℤ)) (p : ℕ) (o : LocalState) (q : Proc) → fire tree (with_rest s rest) p o q ≡ with_rest (fire tree s p o q) rest
unfolding fire segment_sent with_rest push pop set_own
rest_stays tree s rest p o q = with_rest-cond (has_first o.held) (segment_sent tree s p o q) (set_own (pop s (in_of q 0)) p (holding (front s (in_of q 0)))) rest

-- a segment has the words of its elements
pub segment_fits : (tree : Tree) (lawful : IsLawfulTree tree) (q : Proc) {widths : Widths} (fits_q : Fits tree widths q) (s : ℕ) (outcome : Outcome) → s < length q.outs → HasLength (node_at tree q.node).ins outcome → HasLength (segment_length fits_q.len (length q.outs) s * fits_q.elem) (segment_of tree q.node (length q.outs) s outcome)
unfolding segment_of
segment_fits tree lawful q fits_q s (Value words) inside long =
    let reduce = reduce_part tree lawful q.node fits_q.node fits_q.form in
    let node = lawful_at tree lawful q.node fits_q.node in
    let some : 0 < fits_q.elem = some_factor fits_q.len fits_q.elem (node_at tree q.node).ins node.ins.0 reduce.elements in
    ap (λ (f : Form). length (segment_words (elem_of f) (length q.outs) s words)) fits_q.form
    ∙ segment_long fits_q.elem fits_q.len (length q.outs) s words some (long ∙ reduce.elements)
segment_fits tree lawful q fits_q s (Trapped trap) inside long = tt

module _ {tree : Tree} {net : Net} {widths : Widths} (lawful : IsLawfulTree tree) (s : State) (p : ℕ) (o : LocalState) (q : Proc) (fit : IsFitting tree net widths s) (stands : slice_get net.procs p ≡ Some q) (kind : q.kind ≡ Split) (fits_q : Fits tree widths q) where
  kept : (b : Bool) → nat_lt (suc o.number) (length q.outs) ≡ b → Keeps widths q o → Keeps widths q (cond b (counted o) fresh)
  kept true more keeps = let less = ltb-true _ _ more in record { held = keeps.held; number = λ full. omega (arith, less) }
  kept false more keeps = record { held = tt; number = λ full. cc }

  sent_fits : has_first o.held ≡ true → nat_lt o.number (length q.outs) ≡ true → has_room net s (out_of q o.number) ≡ true → Keeps widths q o → IsFitting tree net widths (segment_sent tree s p o q)
  unfolding segment_sent after_segment
  sent_fits full inside room keeps =
      let x : Token = first_or credit o.held in
      let token : FitsToken widths (in_of q 0) x = all_first (FitsToken widths (in_of q 0)) credit o.held full keeps.held in
      let below = ltb-true _ _ inside in
      fitting-own _
      (fitting-push s fit (out_of q o.number) (over (segment_of tree q.node (length q.outs) o.number) x) room
      (fits_width _ (fits_q.gives o.number below)
      (record { words = segment_fits tree lawful q fits_q o.number x.body below (subst (λ n. HasLength n x.body) fits_q.takes token.words); tags = token.tags })))
      p q Split (after_segment (length q.outs) o) stands kind (kept _ refl keeps)

  taken_fits : has_first (s.tokens (in_of q 0)) ≡ true → IsFitting tree net widths (set_own (pop s (in_of q 0)) p (holding (front s (in_of q 0))))
  taken_fits full =
      let several = fits_q.several in
      fitting-own _ (fitting-pop s fit (in_of q 0)) p q Split (holding (front s (in_of q 0))) stands kind
      (record { held = (front_fits s fit (in_of q 0) full, tt); number = λ held. omega (arith, several) })

  pub fits : can net s o q ≡ true → Keeps widths q o → IsFitting tree net widths (fire tree s p o q)
  unfolding can fire
  fits h keeps =
      elim (cases_Bool (has_first o.held)) [
        | inl full ↦
            let both = and_parts _ _ (sym (cond-true (has_first o.held) _ _ full) ∙ h) in
            subst (IsFitting tree net widths) (sym (cond-true (has_first o.held) _ _ full)) (sent_fits full both.0 both.1 keeps)
        | inr none ↦ subst (IsFitting tree net widths) (sym (cond-false (has_first o.held) _ _ none)) (taken_fits (sym (cond-false (has_first o.held) _ _ none) ∙ h))
      ]
