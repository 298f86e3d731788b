-- As many processes and channels are surveyed as the linker places.
use Rattle.std.proofs.Common.{◌≡◌, ℕ, zero, suc, ◌+◌, ◌<◌, ◌≤◌, List, [], ◌∷◌, length, get_or, refl, sym, subst, subst₂, arith, length-append}
use Rattle.p3l_skel.specs.declared.tree.Tree.{Tree}
use Rattle.p3l_skel.specs.Counts.{HasLawfulCounts, count_of}
use Rattle.p3l_skel.specs.Lawful.{IsLawfulTree}
use Rattle.p3l_skel.specs.Numbers.{procs}
use Rattle.p3l_skel.specs.Tree.{nesting, part_at}
use Rattle.p3l_template.specs.Kind.{Kind}
use Rattle.p3l_template.specs.Shape.{Base, Slot, no_slot}
use Rattle.p3l_template.specs.declared.width.Width.{Width}
use Rattle.p3l_link.specs.Counts.{IsCounted}
use Rattle.p3l_link.specs.Net.{Piece, base_at, inner_pieces, piece_of, root_base, root_piece}
use Rattle.p3l_link.specs.Shape.{kind_at}
use Rattle.p3l_link.proofs.Counted.{root_counted, slot_counted, shape_lawful}
use Rattle.p3l_link.proofs.Size.{root_sized}
use Rattle.p3l_link.proofs.Typing.{widths_counted}
use Rattle.p3l_fitting.specs.Survey.{HasRoomAfter, base_after, end_survey, inner_survey, node_survey}
use Rattle.p3l_fitting.specs.declared.survey.Survey.{Survey}

-- a piece has as many processes and channels as are surveyed
pub record IsSized (F : Piece) (s : Survey) : Type 0 where
  pub procs : s.procs ≡ length F.procs
  pub chans : length s.widths ≡ length F.chans

inner_sized : (f : ℕ → Base → Piece) (g : ℕ → Base → Survey) (slots : List Slot) (p c : ℕ) →
    ((v : ℕ) → v < length slots → (b : Base) → IsSized (f (get_or slots v no_slot).part b) (g (get_or slots v no_slot).part b)) →
    IsSized (inner_pieces f slots p c) (inner_survey g slots p c)
unfolding inner_pieces inner_survey
inner_sized f g [] p c each = record { procs = refl; chans = refl }
inner_sized f g (x ∷ xs) p c each =
    let F : Piece = f x.part (base_at x p c) in
    let S : Survey = g x.part (base_at x p c) in
    let here : IsSized F S = each 0 (omega arith) (base_at x p c) in
    let G : Piece = inner_pieces f xs (p + length F.procs) (c + length F.chans) in
    let more : Survey = inner_survey g xs (p + S.procs) (c + length S.widths) in
    let rest : IsSized G more =
    subst₂ (λ m n. IsSized G (inner_survey g xs (p + m) (c + n))) (sym here.procs) (sym here.chans)
    (inner_sized f g xs (p + length F.procs) (c + length F.chans) (λ v l b. each (suc v) (omega (arith, l)) b)) in
    record {
      procs = omega (arith, length-append F.procs G.procs, here.procs, rest.procs);
      chans = omega (arith, length-append F.chans G.chans, length-append S.widths more.widths, here.chans, rest.chans);
    }

module _ (tree : Tree) (count : ℕ → ℕ) (cap : ℕ) (lawful : IsLawfulTree tree) where
  pub node_sized : (d k t : ℕ) (base : Base) → IsCounted tree count d k →
      IsSized (piece_of tree count cap d k base) (node_survey tree count d k t base)
  unfolding piece_of node_survey IsCounted
  node_sized zero k t base h = absurd h
  node_sized (suc d) k t base h =
      let kind : Kind = kind_at tree count k in
      let row : List Width = kind.widths tree k t in
      let f : ℕ → Base → Piece = λ v. piece_of tree count cap d (part_at tree k v) in
      let g : ℕ → Base → Survey = λ v. node_survey tree count d (part_at tree k v) (t + kind.deeper) in
      let slots : List Slot = kind.shape.slots base in
      let p : ℕ = base.proc + length (kind.shape.procs base) in
      let law = shape_lawful tree count k lawful h.0 h.1 in
      let laid = law.laid cap base in
      let long : length row ≡ kind.shape.chans base = widths_counted tree count k lawful h.0 h.1 t base in
      let G : Piece = inner_pieces f slots p (base.chan + kind.shape.chans base) in
      let inner : IsSized G (inner_survey g slots p (base.chan + length row)) =
      subst (λ n. IsSized G (inner_survey g slots p (base.chan + n))) (sym long)
      (inner_sized f g slots p (base.chan + kind.shape.chans base)
      (λ v l b. node_sized d (part_at tree k (get_or slots v no_slot).part) (t + kind.deeper) b
      (slot_counted tree count k lawful h.0 base v l d h))) in
      record {
        procs = omega (arith, length-append (kind.shape.procs base) G.procs, inner.procs);
        chans = omega (
          arith,
          length-append (kind.shape.laid cap base) G.chans,
          length-append row (inner_survey g slots p (base.chan + length row)).widths,
          laid,
          long,
          inner.chans,
        );
      }

-- there is room for a whole net
pub root_room : (tree : Tree) (counts : List ℕ) → IsLawfulTree tree → HasLawfulCounts tree counts → procs tree counts 0 ≤ 4096 → (s : Survey) →
    s ≡ end_survey tree →
    HasRoomAfter s (node_survey tree (count_of tree counts) nesting 0 0 (base_after (record { input = 0; output = 1 }) s)).procs
    (length (node_survey tree (count_of tree counts) nesting 0 0 (base_after (record { input = 0; output = 1 }) s)).widths)
unfolding root_piece
root_room tree counts lawful counted few s e =
    let placed = root_sized tree counts 1 lawful counted in
    let same = node_sized tree (count_of tree counts) 1 lawful nesting 0 0 root_base (root_counted tree counts lawful counted) in
    subst (λ (z : Survey). HasRoomAfter z (node_survey tree (count_of tree counts) nesting 0 0 (base_after (record { input = 0; output = 1 }) z)).procs
    (length (node_survey tree (count_of tree counts) nesting 0 0 (base_after (record { input = 0; output = 1 }) z)).widths)) (sym e) (
      omega (arith, few, placed.procs, same.procs),
      omega (arith, few, placed.chans, same.chans),
    )
