-- The loops of a linked net are at the places that are surveyed, and each of its tails is that of one.
use Rattle.std.proofs.Common.{◌≡◌, ℕ, zero, suc, ◌+◌, ◌<◌, ◌≤◌, true, List, [], ◌∷◌, length, Some, slice_get, refl, ap, ◌∙◌, subst, arith}
use Rattle.std.specs.List.{AllByRecursion}
use Rattle.p3l_skel.specs.Counts.{count_of}
use Rattle.p3l_skel.specs.Tree.{nesting}
use Rattle.p3l_firing.specs.declared.net.Net.{Net}
use Rattle.p3l_firing.specs.declared.process.Proc.{Proc}
use Rattle.p3l_firing.specs.Single.{the_sink, the_source}
use Rattle.p3l_firing.specs.State.{State, chan_at}
use Rattle.p3l_firing.specs.Typed.{IsTyped}
use Rattle.p3l_firing.specs.Widths.{Carries, Widths}
use Rattle.p3l_template.specs.Placed.{AreLaid, AreStanding}
use Rattle.p3l_template.specs.Units.{Units}
use Rattle.p3l_template.specs.Width.{width_at}
use Rattle.p3l_template.specs.declared.width.Width.{Width}
use Rattle.p3l_link.specs.Laws.{IsLinkable, net_of}
use Rattle.p3l_link.specs.Net.{linked_net, root_base, root_piece}
use Rattle.p3l_link.specs.Part.{root_part}
use Rattle.p3l_link.proofs.Counted.{root_counted}
use Rattle.p3l_fitting.specs.Restoring.{AgreeOn}
use Rattle.p3l_fitting.specs.Survey.{linked_loops, linked_survey, linked_widths, node_survey}
use Rattle.p3l_fitting.proofs.Sized.{node_sized}
use Rattle.p3l_resume_laws.proofs.LoopAt.{IsAt, IsFewAt, IsLoopAt}
use Rattle.p3l_resume_laws.proofs.Places.{AllFrom, places}
use Rattle.p3l_resume_laws.proofs.Rows.{CarryRow}

standing_from : (net : Net) (p : ℕ) (xs : List Proc) →
    ((i : ℕ) (q : Proc) → slice_get xs i ≡ Some q → slice_get net.procs (p + i) ≡ Some q) → AreStanding net p xs
unfolding AreStanding
standing_from net p [] each = tt
standing_from net p (x ∷ xs) each =
    let here : p ≡ p + 0 = omega arith in
    (ap (slice_get net.procs) here ∙ each 0 x refl, standing_from net (suc p) xs (λ i q e. let next : suc p + i ≡ p + suc i = omega arith in ap (slice_get net.procs) next ∙ each (suc i) q e))

row_from : (w : Widths) (c : ℕ) (row : List Width) →
    ((i : ℕ) → i < length row → Carries w (c + i) (width_at row i).words (width_at row i).tags) → CarryRow w c row
row_from w c [] each = tt
row_from w c (x ∷ xs) each =
    let here : c + 0 ≡ c = omega arith in (
      subst (λ z. Carries w z x.words x.tags) here (each 0 (omega arith)),
      row_from w (suc c) xs (λ i low.
          let next : c + suc i ≡ suc c + i = omega arith in subst (λ z. Carries w z (width_at xs i).words (width_at xs i).tags) next (each (suc i) (omega (arith, low)))),
    )

from_at : (P : ℕ → Proc → Type 0) (p : ℕ) (xs : List Proc) → AllFrom P p xs → (i : ℕ) (q : Proc) → slice_get xs i ≡ Some q → P (p + i) q
from_at P p [] all i q e = cc
from_at P p (x ∷ xs) all zero q e =
    let here : p ≡ p + 0 = omega arith in
    let is : x ≡ q = cc in
    subst (λ z. P z q) here (subst (P p) is all.0)
from_at P p (x ∷ xs) all (suc i) q e = let next : suc p + i ≡ p + suc i = omega arith in subst (λ z. P z q) next (from_at P (suc p) xs all.1 i q e)

module _ (units : Units) (counts : List ℕ) (cap : ℕ) (l : IsLinkable units counts cap)
    (typed : IsTyped units.tree (net_of units counts cap))
    (agree : AgreeOn (length (net_of units counts cap).chans) (linked_widths units.tree counts) typed.widths) where
  abbrev net : Net
  net = net_of units counts cap

  abbrev count : ℕ → ℕ
  count = count_of units.tree counts

  -- the root is orderly
  abbrev pub IsRootOrderly : State → Type 0
  IsRootOrderly s = (root_part units counts).orderly s ≡ true

  root_stands : AreStanding net 2 (root_piece units.tree counts cap).procs
  unfolding linked_net
  root_stands = standing_from net 2 _ (λ i q e. let here : 2 + i ≡ suc (suc i) = omega arith in ap (slice_get net.procs) here ∙ e)

  root_laid : AreLaid net 2 (root_piece units.tree counts cap).chans
  unfolding linked_net
  root_laid = record { at = λ k low. let here : 2 + k ≡ suc (suc k) = omega arith in ap (chan_at net) here }

  root_ends : 2 + length (root_piece units.tree counts cap).chans ≤ length net.chans
  unfolding linked_net
  root_ends = omega arith

  root_row : CarryRow typed.widths 2 (node_survey units.tree count nesting 0 0 root_base).widths
  unfolding linked_survey root_piece
  root_row =
      let rows : List Width = (node_survey units.tree count nesting 0 0 root_base).widths in
      let many = (node_sized units.tree count cap typed.lawful nesting 0 0 root_base (root_counted units.tree counts typed.lawful l.fit)).chans in
      let ends = root_ends in
      row_from typed.widths 2 rows (λ i low.
      let here : 2 + i ≡ suc (suc i) = omega arith in
      subst (λ z. Carries typed.widths (2 + i) ((linked_widths units.tree counts).words z) ((linked_widths units.tree counts).tags z)) here
      (agree (2 + i) (omega (arith, low, many, ends))))

  root_at : IsAt net units count cap typed IsRootOrderly nesting 0 0 root_base
  unfolding root_piece root_part
  root_at =
      let ends = root_ends in
      record {
        counted = root_counted units.tree counts typed.lawful l.fit;
        good = record {
          input = omega arith;
          output = omega arith;
          apart = λ e. omega (arith, e);
          room = (typed.channels 1 (omega (arith, ends))).room;
        };
        procs = root_stands;
        chans = root_laid;
        inside = root_ends;
        row = root_row;
        orderly = λ s above. above;
      }

  -- at each place of a linked net there is a loop
  pub linked_places : AllByRecursion (IsLoopAt net units count cap typed IsRootOrderly) (linked_loops units.tree counts)
  unfolding linked_survey
  linked_places = (places net units count cap l.room typed IsRootOrderly nesting 0 0 root_base root_at).loops

  -- and each tail holds no more tokens than there may be credits
  pub linked_tails : (p : ℕ) (q : Proc) → slice_get net.procs p ≡ Some q → IsFewAt net units count cap typed IsRootOrderly p q
  unfolding linked_net root_piece
  linked_tails zero q e is = let same : the_source ≡ q = cc in let kind = ap (λ (x : Proc). x.kind) same in cc
  linked_tails (suc zero) q e is = let same : the_sink ≡ q = cc in let kind = ap (λ (x : Proc). x.kind) same in cc
  linked_tails (suc (suc i)) q e is =
      let here : 2 + i ≡ suc (suc i) = omega arith in
      subst (λ p. IsFewAt net units count cap typed IsRootOrderly p q) here
      (from_at (IsFewAt net units count cap typed IsRootOrderly) 2 _ (places net units count cap l.room typed IsRootOrderly nesting 0 0 root_base root_at).tails i q e) is
