-- The row of a gather.
use Rattle.std.proofs.Common.{◌≡◌, ℕ, ℤ, ◌+◌, ◌%◌, ◌<◌, cond, true, false, List, [], ◌∷◌, length, Some, slice_get, refl, sym, ap, ap₂, ◌∙◌, subst, arith, inl, inr, length-append}
use Rattle.std.specs.List.{AllByRecursion}
use Rattle.std.proofs.lemmas.Bool.{cases_Bool, cond-true, cond-false, ltb-true, ltb-false}
use Rattle.p3l_base.specs.declared.cut.Cut.{Cut}
use Rattle.p3l_base.specs.declared.slice.Slice.{Slice}
use Rattle.p3l_base.specs.declared.outcome.Outcome.{Outcome}
use Rattle.p3l_base.specs.declared.outcome.Outcome.TheVariants.{Value, Trapped}
use Rattle.p3l_base.specs.Slice.{cut_size}
use Rattle.p3l_base.specs.Cut.{token_size, array_words, arrays_words, result_word, joined_words}
use Rattle.p3l_base.proofs.Joined.{length-array_words}
use Rattle.p3l_skel.specs.declared.tree.Form.{Form}
use Rattle.p3l_skel.specs.Item.{gathered}
use Rattle.p3l_skel.specs.declared.tree.Tree.{Tree}
use Rattle.p3l_skel.specs.Tree.{node_at, part_at, HasLength}
use Rattle.p3l_skel.specs.Lawful.{IsLawfulTree}
use Rattle.p3l_firing.specs.declared.process.Proc.{Proc}
use Rattle.p3l_firing.specs.declared.process.ProcKind.TheVariants.{Gather}
use Rattle.p3l_firing.specs.declared.net.Net.{Net}
use Rattle.p3l_firing.specs.Lists.{has_first, first_or}
use Rattle.p3l_firing.specs.Token.{credit, bodies}
use Rattle.p3l_firing.specs.Nodes.{cut_of, joined_of}
use Rattle.p3l_firing.specs.State.{LocalState, State, front, pop, push, set_own, gathering, released, has_room, with_rest}
use Rattle.p3l_firing.specs.Process.{Has, IsAt, out_of}
use Rattle.p3l_firing.specs.Widths.{Widths, Carries, HasWidth}
use Rattle.p3l_firing.specs.Typed.{IsFitting}
use Rattle.p3l_firing.specs.kinds.Gather.{line_of, is_full, can, whole_sent, fire, reads, Fits, Keeps}
use Rattle.p3l_firing.proofs.Places.{first_in, has-nth, all-has, mod_less}
use Rattle.p3l_firing.proofs.Reading.{SameIn, room-same, with_rest-cond}
use Rattle.p3l_firing.proofs.WidthLaw.{width_of}
use Rattle.p3l_firing.proofs.LawfulForms.{map_part}
use Rattle.p3l_firing.proofs.Fitting.{fitting-push, fitting-pop, fitting-own, front_fits, all_first, all_push}
use Rattle.p3l_firing.proofs.row.Scatter.{some_workers}

-- the channel of the next result is one of those of the workers
pub line_among : {tree : Tree} {widths : Widths} (o : LocalState) (q : Proc) → Fits tree widths q → Has q.ins (line_of o q)
line_among {tree = tree} o q fits_q =
    has-nth q.ins (length o.held % length q.ins) (mod_less (length o.held) (length q.ins) (some_workers (node_at tree q.node).form (length q.ins) fits_q.form fits_q.count))

pub own_reads : (tree : Tree) (widths : Widths) (o : LocalState) (q : Proc) → Fits tree widths q → AllByRecursion (IsAt (Some q)) (reads o q)
own_reads tree widths o q fits_q = (inr (first_in q.outs fits_q.outs), (inl (line_among o q fits_q), tt))

pub alike : (tree : Tree) (net : Net) (s t : State) (o : LocalState) (q : Proc) → SameIn s t (reads o q) → can tree net s o q ≡ can tree net t o q
unfolding can
alike tree net s t o q same = ap₂ (λ a b. cond (is_full tree o q) a b) (room-same net s t _ same.0) (ap has_first same.1.0)

pub rest_stays : (tree : Tree) (s : State) (rest : List (List ℤ)) (p : ℕ) (o : LocalState) (q : Proc) → fire tree (with_rest s rest) p o q ≡ with_rest (fire tree s p o q) rest
unfolding fire whole_sent with_rest push pop set_own
rest_stays tree s rest p o q = with_rest-cond (is_full tree o q) (whole_sent tree s p o q) (set_own (pop s (line_of o q)) p (gathering o (front s (line_of o q)))) rest

length-arrays_words : (results : List (List ℤ)) (second : ℕ) (slices : List Slice) (at : ℕ) → length (arrays_words results second slices at) ≡ token_size slices
length-arrays_words results second [] at = refl
length-arrays_words results second (s ∷ ss) at =
    omega (arith, length-append (array_words (result_word results second) s.dims 0 0 at) (arrays_words results second ss (at + cut_size s.dims)), length-array_words (result_word results second) s.dims 0 0 at, length-arrays_words results second ss (at + cut_size s.dims))

-- gathered outcomes have n words if each join has n words, whatever the results
gathered_long : (join : List (List ℤ) → List ℤ) (n : ℕ) (outcomes : List Outcome) → ((results : List (List ℤ)) → length (join results) ≡ n) → HasLength n (gathered join outcomes)
gathered_long join n [] long = long []
gathered_long join n (Trapped trap ∷ outcomes) long = tt
gathered_long join n (Value words ∷ outcomes) long = gathered_long (λ results. join (words ∷ results)) n outcomes (λ results. long (words ∷ results))

-- the whole has the out words of the map
pub joined_long : (tree : Tree) (lawful : IsLawfulTree tree) (q : Proc) {widths : Widths} (fits_q : Fits tree widths q) (outcomes : List Outcome) → HasLength (node_at tree q.node).outs (joined_of tree q.node outcomes)
unfolding joined_of
joined_long tree lawful q fits_q outcomes =
    let map = map_part tree lawful q.node fits_q.node fits_q.form in
    let cut : Cut = cut_of (node_at tree q.node).form in
    gathered_long (joined_words cut) (node_at tree q.node).outs outcomes
    (λ results. length-arrays_words results cut.second cut.outs 0 ∙ (ap (λ (f : Form). token_size (cut_of f).outs) fits_q.form ∙ map.cuts.outs_end))

pub longer_has_first : {A : Type 0} (xs : List A) (n : ℕ) → n < length xs → has_first xs ≡ true
longer_has_first [] n h = absurd (omega (arith, h))
longer_has_first (x ∷ xs) n h = refl

module _ {tree : Tree} {net : Net} {widths : Widths} (lawful : IsLawfulTree tree) (s : State) (p : ℕ) (o : LocalState) (q : Proc) (fit : IsFitting tree net widths s) (stands : slice_get net.procs p ≡ Some q) (kind : q.kind ≡ Gather) (fits_q : Fits tree widths q) where
  sent_fits : is_full tree o q ≡ true → has_room net s (out_of q 0) ≡ true → Keeps tree widths q o → IsFitting tree net widths (whole_sent tree s p o q)
  unfolding whole_sent is_full
  sent_fits full room keeps =
      let outs : ℕ = (node_at tree (part_at tree q.node 0)).outs in
      let some = longer_has_first o.held _ (ltb-true _ _ full) in
      let first : HasWidth outs (widths.tags (out_of q 0)) (first_or credit o.held) = all_first (HasWidth outs (widths.tags (out_of q 0))) credit o.held some keeps.held in
      fitting-own _
      (fitting-push s fit (out_of q 0) (record { tags = (first_or credit o.held).tags; body = joined_of tree q.node (bodies o.held) }) room
      (record {
        words = subst (λ n. HasLength n (joined_of tree q.node (bodies o.held))) (sym fits_q.gives) (joined_long tree lawful q fits_q (bodies o.held));
        tags = first.tags;
      }))
      p q Gather (released o) stands kind (record { held = tt; few = omega arith })

  taken_fits : is_full tree o q ≡ false → has_first (s.tokens (line_of o q)) ≡ true → Keeps tree widths q o → IsFitting tree net widths (set_own (pop s (line_of o q)) p (gathering o (front s (line_of o q))))
  unfolding is_full
  taken_fits few full keeps =
      let carries : Carries widths (line_of o q) (node_at tree (part_at tree q.node 0)).outs (widths.tags (out_of q 0)) = all-has _ q.ins fits_q.takes (line_of o q) (line_among o q fits_q) in
      let more = ltb-false _ _ few in
      fitting-own _ (fitting-pop s fit (line_of o q)) p q Gather (gathering o (front s (line_of o q))) stands kind
      (record {
        held = all_push _ o.held (front s (line_of o q)) keeps.held (width_of _ carries (front_fits s fit (line_of o q) full));
        few = omega (arith, more, length-append o.held (front s (line_of o q) ∷ []));
      })

  pub fits : can tree net s o q ≡ true → Keeps tree widths q o → IsFitting tree net widths (fire tree s p o q)
  unfolding can fire
  fits h keeps =
      elim (cases_Bool (is_full tree o q)) [
        | inl full ↦ subst (IsFitting tree net widths) (sym (cond-true (is_full tree o q) _ _ full)) (sent_fits full (sym (cond-true (is_full tree o q) _ _ full) ∙ h) keeps)
        | inr few ↦ subst (IsFitting tree net widths) (sym (cond-false (is_full tree o q) _ _ few)) (taken_fits few (sym (cond-false (is_full tree o q) _ _ few) ∙ h) keeps)
      ]
