-- The row of a scatter.
use Rattle.std.proofs.Common.{◌≡◌, ℕ, ℤ, ◌%◌, ◌<◌, cond, nat_lt, Bool, true, false, List, length, Option, Some, slice_get, refl, sym, ap, ap₂, ◌∙◌, subst, arith, inl, inr}
use Rattle.std.specs.List.{AllByRecursion}
use Rattle.std.proofs.lemmas.Bool.{cases_Bool, cond-true, cond-false, ltb-true}
use Rattle.p3l_base.specs.declared.cut.Cut.{Cut}
use Rattle.p3l_base.specs.declared.outcome.Outcome.{Outcome}
use Rattle.p3l_base.specs.declared.outcome.Outcome.TheVariants.{Value, Trapped}
use Rattle.p3l_base.specs.Cut.{element_size}
use Rattle.p3l_base.specs.laws.Cut.{length-element_words}
use Rattle.p3l_skel.specs.declared.tree.Form.{Form}
use Rattle.p3l_skel.specs.declared.tree.Form.TheVariants.{Map}
use Rattle.p3l_skel.specs.Counts.{IsLawfulCount}
use Rattle.p3l_skel.specs.declared.tree.Tree.{Tree}
use Rattle.p3l_skel.specs.Tree.{node_at, part_at, HasLength}
use Rattle.p3l_skel.specs.Lawful.{IsLawfulTree}
use Rattle.p3l_firing.specs.declared.process.Proc.{Proc}
use Rattle.p3l_firing.specs.declared.process.ProcKind.TheVariants.{Scatter}
use Rattle.p3l_firing.specs.declared.net.Net.{Net}
use Rattle.p3l_firing.specs.declared.token.Token.{Token}
use Rattle.p3l_firing.specs.Lists.{has_first, first_or}
use Rattle.p3l_firing.specs.Token.{credit, over}
use Rattle.p3l_firing.specs.Nodes.{cut_of, last_element, element_of}
use Rattle.p3l_firing.specs.State.{LocalState, State, front, pop, push, set_own, counted, holding, fresh, has_room, with_rest}
use Rattle.p3l_firing.specs.Process.{Has, IsAt, in_of}
use Rattle.p3l_firing.specs.Widths.{Widths, Carries, FitsToken}
use Rattle.p3l_firing.specs.Typed.{IsFitting}
use Rattle.p3l_firing.specs.kinds.Scatter.{line_of, can, after_element, element_sent, fire, reads, Fits, Keeps}
use Rattle.p3l_firing.proofs.Places.{first_in, has-nth, all-has, mod_less}
use Rattle.p3l_firing.proofs.Reading.{SameIn, room-same, with_rest-cond}
use Rattle.p3l_firing.proofs.WidthLaw.{fits_width}
use Rattle.p3l_firing.proofs.LawfulForms.{map_part}
use Rattle.p3l_firing.proofs.Fitting.{fitting-push, fitting-pop, fitting-own, front_fits, all_first}

-- a lawful number of workers of a map is not 0
pub some_workers : (form : Form) {workers : Option ℕ} {cut : Cut} (n : ℕ) → form ≡ Map workers cut → IsLawfulCount form n → 0 < n
some_workers form {workers = workers} {cut = cut} n e count =
    let lawful : IsLawfulCount (Map workers cut) n = subst (λ f. IsLawfulCount f n) e count in
    let some = lawful.1.0 in
    omega (arith, some)

-- the channel of the next element is one of those of the workers
pub line_among : {tree : Tree} {widths : Widths} (o : LocalState) (q : Proc) → Fits tree widths q → Has q.outs (line_of o q)
line_among {tree = tree} o q fits_q =
    has-nth q.outs (o.number % length q.outs) (mod_less o.number (length q.outs) (some_workers (node_at tree q.node).form (length q.outs) fits_q.form fits_q.count))

pub own_reads : (tree : Tree) (widths : Widths) (o : LocalState) (q : Proc) → Fits tree widths q → AllByRecursion (IsAt (Some q)) (reads o q)
own_reads tree widths o q fits_q = (inl (first_in q.ins fits_q.ins), (inr (line_among o q fits_q), tt))

pub alike : (net : Net) (s t : State) (o : LocalState) (q : Proc) → SameIn s t (reads o q) → can net s o q ≡ can net t o q
unfolding can
alike net s t o q same = ap₂ (λ a b. cond (has_first o.held) a b) (room-same net s t _ same.1.0) (ap has_first same.0)

pub rest_stays : (tree : Tree) (s : State) (rest : List (List ℤ)) (p : ℕ) (o : LocalState) (q : Proc) → fire tree (with_rest s rest) p o q ≡ with_rest (fire tree s p o q) rest
unfolding fire element_sent with_rest push pop set_own
rest_stays tree s rest p o q = with_rest-cond (has_first o.held) (element_sent tree s p o q) (set_own (pop s (in_of q 0)) p (holding (front s (in_of q 0)))) rest

-- an element has the in words of the map's part
pub element_long : (tree : Tree) (lawful : IsLawfulTree tree) (q : Proc) {widths : Widths} (fits_q : Fits tree widths q) (k : ℕ) (outcome : Outcome) → HasLength (node_at tree (part_at tree q.node 0)).ins (element_of tree q.node k outcome)
unfolding element_of
element_long tree lawful q fits_q k (Value words) =
    let map = map_part tree lawful q.node fits_q.node fits_q.form in
    let cut : Cut = cut_of (node_at tree q.node).form in
    length-element_words cut.ins cut.second words k ∙ (ap (λ (f : Form). element_size (cut_of f).ins) fits_q.form ∙ map.cuts.part_ins_fit)
element_long tree lawful q fits_q k (Trapped trap) = tt

module _ {tree : Tree} {net : Net} {widths : Widths} (lawful : IsLawfulTree tree) (s : State) (p : ℕ) (o : LocalState) (q : Proc) (fit : IsFitting tree net widths s) (stands : slice_get net.procs p ≡ Some q) (kind : q.kind ≡ Scatter) (fits_q : Fits tree widths q) where
  kept : (b : Bool) → nat_lt o.number (last_element tree q.node) ≡ b → Keeps tree widths q o → Keeps tree widths q (cond b (counted o) fresh)
  kept true more keeps = let less = ltb-true _ _ more in record { held = keeps.held; number = λ full. omega (arith, less) }
  kept false more keeps = record { held = tt; number = λ full. cc }

  sent_fits : has_first o.held ≡ true → has_room net s (line_of o q) ≡ true → Keeps tree widths q o → IsFitting tree net widths (element_sent tree s p o q)
  unfolding element_sent after_element
  sent_fits full room keeps =
      let x : Token = first_or credit o.held in
      let token : FitsToken widths (in_of q 0) x = all_first (FitsToken widths (in_of q 0)) credit o.held full keeps.held in
      let carries : Carries widths (line_of o q) (node_at tree (part_at tree q.node 0)).ins (widths.tags (in_of q 0)) = all-has _ q.outs fits_q.gives (line_of o q) (line_among o q fits_q) in
      fitting-own _
      (fitting-push s fit (line_of o q) (over (element_of tree q.node o.number) x) room
      (fits_width _ carries (record { words = element_long tree lawful q fits_q o.number x.body; tags = token.tags })))
      p q Scatter (after_element tree o q) stands kind (kept _ refl keeps)

  taken_fits : has_first (s.tokens (in_of q 0)) ≡ true → IsFitting tree net widths (set_own (pop s (in_of q 0)) p (holding (front s (in_of q 0))))
  taken_fits full =
      fitting-own _ (fitting-pop s fit (in_of q 0)) p q Scatter (holding (front s (in_of q 0))) stands kind
      (record { held = (front_fits s fit (in_of q 0) full, tt); number = λ held. omega arith })

  pub fits : can net s o q ≡ true → Keeps tree widths q o → IsFitting tree net widths (fire tree s p o q)
  unfolding can fire
  fits h keeps =
      elim (cases_Bool (has_first o.held)) [
        | inl full ↦ subst (IsFitting tree net widths) (sym (cond-true (has_first o.held) _ _ full)) (sent_fits full (sym (cond-true (has_first o.held) _ _ full) ∙ h) keeps)
        | inr none ↦ subst (IsFitting tree net widths) (sym (cond-false (has_first o.held) _ _ none)) (taken_fits (sym (cond-false (has_first o.held) _ _ none) ∙ h))
      ]
