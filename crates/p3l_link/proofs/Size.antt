-- A node places as many processes as are counted, and fewer than twice as many channels
-- (`piece_sized`).
use Rattle.std.proofs.Common.{◌≡◌, ℕ, zero, suc, ◌+◌, ◌-◌, ◌*◌, ◌^◌, ◌<◌, ◌≤◌, List, [], ◌∷◌, length, get_or, slice_index, sum_by, refl, sym, ap, ◌∙◌, subst, arith, length-append}
use Rattle.std.proofs.Math.Nat.{pow-succ'}
use Rattle.std.proofs.lemmas.Bool.Decides.{nat_tests}
use Rattle.std.proofs.lemmas.List.Sums.{sum_by-cons}
use Rattle.std.proofs.lemmas.Nat.{pow_pos}
use Rattle.p3l_skel.specs.declared.tree.Form.{Form}
use Rattle.p3l_skel.specs.declared.tree.Form.TheVariants.{Seq, Comp, Pipe, Farm, Map, Reduce, Loop}
use Rattle.p3l_skel.specs.declared.tree.Tree.{Tree}
use Rattle.p3l_skel.specs.Counts.{HasLawfulCounts, count_of, outside_parts}
use Rattle.p3l_skel.specs.Lawful.{IsLawfulForm, IsLawfulTree}
use Rattle.p3l_skel.specs.Numbers.{joined_procs, procs, procs_by, procs_row}
use Rattle.p3l_skel.specs.Tree.{node_at, part_at, nesting}
use Rattle.p3l_skel.proofs.Below.{procs_by-step}
use Rattle.p3l_skel.proofs.Depth.{lawful_at}
use Rattle.p3l_skel.proofs.Powers.{small_exponent}
use Rattle.p3l_firing.specs.Segments.{level_of, segment_lengths}
use Rattle.p3l_template.specs.Placed.{IsLawfulShape}
use Rattle.p3l_template.specs.Pipe.{stage_slots}
use Rattle.p3l_template.specs.Shape.{Base, Slot, Blueprint, fan_slots, no_slot}
use Rattle.p3l_reduce.specs.Reduce.{fold_procs, join_procs, reduce_shape}
use Rattle.p3l_reduce.specs.laws.ReduceLaw.{joins_length, lengths_length}
use Rattle.p3l_reduce.specs.laws.ReduceTyping.{level_exact}
use Rattle.p3l_link.specs.Counts.{HasOwnCount, IsCounted}
use Rattle.p3l_link.specs.Net.{Piece, HasRoom, base_at, end_net, inner_pieces, linked_net, piece_of, root_base, root_piece, whole_piece}
use Rattle.p3l_link.specs.Shape.{kind_at, kind_row, shape_row}
use Rattle.p3l_link.proofs.Counted.{root_counted, row_lawful, slot_counted}

pub record IsSizedPiece (F : Piece) (n : ℕ) : Type 0 where
  pub procs : length F.procs ≡ n
  pub chans : length F.chans + 2 ≤ 2 * n

-- the size of the inner parts at `slots` slots: n processes, and at most 2 * n channels, less two for each slot
record IsSizedInner (F : Piece) (n slots : ℕ) : Type 0 where
  procs : length F.procs ≡ n
  chans : length F.chans + 2 * slots ≤ 2 * n

-- the processes of the parts at these slots, where part v has m v
slots_sum : (ℕ → ℕ) → List Slot → ℕ
slots_sum m [] = 0
slots_sum m (slot ∷ slots) = m slot.part + slots_sum m slots

inner_size : (f : ℕ → Base → Piece) (m : ℕ → ℕ) (slots : List Slot) (p c : ℕ) →
    ((v : ℕ) → v < length slots → (b : Base) →
    IsSizedPiece (f (get_or slots v no_slot).part b) (m (get_or slots v no_slot).part)) →
    IsSizedInner (inner_pieces f slots p c) (slots_sum m slots) (length slots)
unfolding inner_pieces slots_sum
inner_size f m [] p c each = record { procs = refl; chans = omega arith }
inner_size f m (x ∷ xs) p c each =
    let here : IsSizedPiece (f x.part (base_at x p c)) (m x.part) = each 0 (omega arith) (base_at x p c) in
    let F : Piece = f x.part (base_at x p c) in
    let G : Piece = inner_pieces f xs (p + length F.procs) (c + length F.chans) in
    let rest : IsSizedInner G (slots_sum m xs) (length xs) =
    inner_size f m xs (p + length F.procs) (c + length F.chans) (λ v l b. each (suc v) (omega arith) b) in
    record {
      procs = omega (arith, length-append F.procs G.procs, here.procs, rest.procs);
      chans = omega (arith, length-append F.chans G.chans, here.chans, rest.chans);
    }

-- a template's own processes and channels with its inner parts
whole_size : (shape : Blueprint) (law : IsLawfulShape shape) (cap : ℕ) (f : ℕ → Base → Piece) (m : ℕ → ℕ) (base : Base)
    (total : ℕ) →
    ((v : ℕ) → v < length (shape.slots base) → (b : Base) →
    IsSizedPiece (f (get_or (shape.slots base) v no_slot).part b) (m (get_or (shape.slots base) v no_slot).part)) →
    length (shape.procs base) + slots_sum m (shape.slots base) ≡ total →
    shape.chans base + 2 + 2 * slots_sum m (shape.slots base) ≤ 2 * total + 2 * shape.inner →
    IsSizedPiece (whole_piece shape cap f base) total
whole_size shape law cap f m base total each same few =
    let G : Piece = inner_pieces f (shape.slots base) (base.proc + length (shape.procs base)) (base.chan + shape.chans base) in
    let inner = inner_size f m (shape.slots base) (base.proc + length (shape.procs base)) (base.chan + shape.chans base) each in
    record {
      procs = omega (arith, length-append (shape.procs base) G.procs, inner.procs, same);
      chans = omega (arith, length-append (shape.laid cap base) G.chans, inner.chans, law.laid cap base, law.count base, few);
    }

fan_sum : (m : ℕ → ℕ) (i o n : ℕ) → slots_sum m (fan_slots i o n) ≡ n * m 0
unfolding slots_sum fan_slots
fan_sum m i o zero = omega arith
fan_sum m i o (suc n) = omega (arith, fan_sum m (suc i) (suc o) n)

-- the stages from u on are these parts in order
stage_sum : (m below : ℕ → ℕ) (ps : List ℕ) (u x c y k : ℕ) → length ps ≡ suc k →
    ((v : ℕ) → v < length ps → m (u + v) ≡ below (get_or ps v 0)) →
    slots_sum m (stage_slots u x c y k) ≡ sum_by below ps
unfolding slots_sum stage_slots
stage_sum m below [] u x c y k long same = absurd (omega arith)
stage_sum m below (p ∷ []) u x c y zero long same =
    let e : u + 0 ≡ u = omega arith in
    let first = same 0 (omega arith) in
    omega (arith, first, ap m e, sum_by-cons below p [])
stage_sum m below (p ∷ (q ∷ ps)) u x c y zero long same = absurd (omega arith)
stage_sum m below (p ∷ []) u x c y (suc k) long same = absurd (omega arith)
stage_sum m below (p ∷ (q ∷ ps)) u x c y (suc k) long same =
    let e : u + 0 ≡ u = omega arith in
    let first = same 0 (omega arith) in
    let rest = stage_sum m below (q ∷ ps) (suc u) c (suc c) y k (omega arith)
    (λ v l. let f : suc u + v ≡ u + suc v = omega arith in ap m f ∙ same (suc v) (omega arith)) in
    omega (arith, first, ap m e, rest, sum_by-cons below p (q ∷ ps))

folds_length : (node m output first t s : ℕ) (ls : List ℕ) → length (fold_procs node m output first t s ls) ≡ length ls
unfolding fold_procs
folds_length node m output first t s [] = refl
folds_length node m output first t s (l ∷ ls) = ap suc (folds_length node m output first t (suc s) ls)

-- a reduce of a power of two of segments
reduce_size : (k len level cap : ℕ) (law : IsLawfulShape (reduce_shape k len level)) (f : ℕ → Base → Piece) (base : Base) →
    IsSizedPiece (whole_piece (reduce_shape k len level) cap f base) (joined_procs (2 ^ level))
unfolding reduce_shape slots_sum
reduce_size k len zero cap law f base =
    whole_size (reduce_shape k len zero) law cap f (λ v. 0) base (joined_procs (2 ^ 0)) (λ v l b. absurd (omega arith)) refl
    (omega arith)
reduce_size k len (suc d) cap law f base =
    let two : 2 ^ suc d ≡ 2 * 2 ^ d = pow-succ' 2 d in
    let some : 0 < 2 ^ d = pow_pos d in
    let many : joined_procs (2 ^ suc d) ≡ 2 * 2 ^ suc d = grind (arith, nat_tests) in
    let m : ℕ = 2 ^ suc d in
    let joins = join_procs k base.output (base.chan + m) 1 (m - 1) in
    let folds = fold_procs k m base.output base.chan (base.chan + m) 0 (segment_lengths (suc d) len) in
    whole_size (reduce_shape k len (suc d)) law cap f (λ v. 0) base (joined_procs (2 ^ suc d)) (λ v l b. absurd (omega arith))
    (omega (
      arith,
      many,
      length-append joins folds,
      joins_length k base.output (base.chan + m) 1 (m - 1),
      folds_length k m base.output base.chan (base.chan + m) 0 (segment_lengths (suc d) len),
      lengths_length (suc d) len,
    ))
    (omega (arith, many))

module _ (tree : Tree) (ins outs k n cap : ℕ) (below : ℕ → ℕ) (f : ℕ → Base → Piece) (base : Base) where
  row_size : (form : Form) (ps : List ℕ) → IsLawfulForm tree form ins outs ps → HasOwnCount form n →
      ((v : ℕ) → v < length ((shape_row form k (length ps) n).slots base) → (b : Base) →
      IsSizedPiece (f (get_or ((shape_row form k (length ps) n).slots base) v no_slot).part b)
      (below (slice_index ps (get_or ((shape_row form k (length ps) n).slots base) v no_slot).part))) →
      IsSizedPiece (whole_piece (shape_row form k (length ps) n) cap f base)
      (procs_row form n (sum_by below (outside_parts form ps)))
  unfolding kind_row slots_sum
  row_size Seq ps lawful own each =
      whole_size (shape_row Seq k (length ps) n) (row_lawful tree Seq ins outs ps k n lawful own) cap f
      (λ v. below (slice_index ps v)) base 1 each refl (omega arith)
  row_size Comp ps lawful own each =
      whole_size (shape_row Comp k (length ps) n) (row_lawful tree Comp ins outs ps k n lawful own) cap f
      (λ v. below (slice_index ps v)) base 1 each refl (omega arith)
  row_size Pipe ps lawful own each =
      let some : 1 ≤ length ps = lawful.0 in
      let long : length ps ≡ suc (length ps - 1) = omega arith in
      let sum = stage_sum (λ v. below (slice_index ps v)) below ps 0 base.input base.chan base.output (length ps - 1) long
      (λ v l. let e : 0 + v ≡ v = omega arith in ap (λ z. below (slice_index ps z)) e) in
      whole_size (shape_row Pipe k (length ps) n) (row_lawful tree Pipe ins outs ps k n lawful own) cap f
      (λ v. below (slice_index ps v)) base (sum_by below ps) each (omega (arith, sum)) (omega (arith, sum))
  row_size (Farm w) [] lawful own each = absurd lawful
  row_size (Farm w) (p ∷ []) lawful own each =
      let sum = fan_sum (λ v. below (slice_index (p ∷ []) v)) base.chan (base.chan + n) n in
      let one : sum_by below (p ∷ []) ≡ below p = omega (arith, sum_by-cons below p []) in
      let all = ap (λ z. n * z) one in
      whole_size (shape_row (Farm w) k 1 n) (row_lawful tree (Farm w) ins outs (p ∷ []) k n lawful own) cap f
      (λ v. below (slice_index (p ∷ []) v)) base (2 + n * sum_by below (p ∷ [])) each (omega (arith, sum, all))
      (omega (arith, sum, all))
  row_size (Farm w) (p ∷ (q ∷ ps)) lawful own each = absurd lawful
  row_size (Map w cut) [] lawful own each = absurd lawful
  row_size (Map w cut) (p ∷ []) lawful own each =
      let sum = fan_sum (λ v. below (slice_index (p ∷ []) v)) base.chan (base.chan + n) n in
      let one : sum_by below (p ∷ []) ≡ below p = omega (arith, sum_by-cons below p []) in
      let all = ap (λ z. n * z) one in
      whole_size (shape_row (Map w cut) k 1 n) (row_lawful tree (Map w cut) ins outs (p ∷ []) k n lawful own) cap f
      (λ v. below (slice_index (p ∷ []) v)) base (2 + n * sum_by below (p ∷ [])) each (omega (arith, sum, all))
      (omega (arith, sum, all))
  row_size (Map w cut) (p ∷ (q ∷ ps)) lawful own each = absurd lawful
  row_size (Reduce w len elem) ps lawful own each =
      let level : ℕ = own.1.0.0 in
      let power : n ≡ 2 ^ level = own.1.0.1 in
      let small : level ≤ 9 = small_exponent level (subst (λ z. z ≤ 512) power own.1.2) in
      let exact : level_of n ≡ level = ap level_of power ∙ level_exact 9 level small in
      subst (λ z. IsSizedPiece (whole_piece (reduce_shape k len (level_of n)) cap f base) (joined_procs z)) (ap (λ z. 2 ^ z) exact ∙ sym power)
      (reduce_size k len (level_of n) cap (row_lawful tree (Reduce w len elem) ins outs ps k n lawful own) f base)
  row_size (Loop turns tokens) [] lawful own each = absurd lawful
  row_size (Loop turns tokens) (p ∷ []) lawful own each = absurd lawful
  row_size (Loop turns tokens) (p ∷ (q ∷ [])) lawful own each =
      let one : sum_by below (p ∷ []) ≡ below p = omega (arith, sum_by-cons below p []) in
      whole_size (shape_row (Loop turns tokens) k 2 n)
      (row_lawful tree (Loop turns tokens) ins outs (p ∷ (q ∷ [])) k n lawful own) cap f
      (λ v. below (slice_index (p ∷ (q ∷ [])) v)) base (2 + sum_by below (p ∷ [])) each (omega (arith, one)) (omega (arith, one))
  row_size (Loop turns tokens) (p ∷ (q ∷ (r ∷ ps))) lawful own each = absurd lawful

pub piece_sized : (tree : Tree) (count : ℕ → ℕ) (cap d k : ℕ) (base : Base) → IsLawfulTree tree → IsCounted tree count d k →
    IsSizedPiece (piece_of tree count cap d k base) (procs_by tree count d k)
unfolding piece_of kind_at IsCounted
piece_sized tree count cap zero k base lawful h = absurd h
piece_sized tree count cap (suc d) k base lawful h =
    let some : 0 < suc d = omega arith in
    let e : suc d - 1 ≡ d = omega arith in
    let node = node_at tree k in
    let step : procs_by tree count (suc d) k
    ≡ procs_row node.form (count k) (sum_by (procs_by tree count d) (outside_parts node.form node.parts)) =
    rw e at (procs_by-step tree count (suc d) k some) in
    subst (IsSizedPiece (piece_of tree count cap (suc d) k base)) (sym step)
    (row_size tree node.ins node.outs k (count k) cap (procs_by tree count d)
    (λ v. piece_of tree count cap d (part_at tree k v)) base node.form node.parts (lawful_at tree lawful k h.0).form h.1
    (λ v l b. piece_sized tree count cap d _ b lawful (slot_counted tree count k lawful h.0 base v l d h)))

module _ (tree : Tree) (counts : List ℕ) (cap : ℕ) (lawful : IsLawfulTree tree) (h : HasLawfulCounts tree counts) where
  pub root_sized : IsSizedPiece (root_piece tree counts cap) (procs tree counts 0)
  unfolding root_piece
  root_sized = piece_sized tree (count_of tree counts) cap nesting 0 root_base lawful (root_counted tree counts lawful h)

  -- with the source, the sink and their channels
  pub net_procs : length (linked_net tree counts cap).procs ≡ procs tree counts 0 + 2
  unfolding linked_net
  net_procs = let s = root_sized in omega (arith, s.procs)

  pub net_chans : length (linked_net tree counts cap).chans ≤ 2 * procs tree counts 0
  unfolding linked_net
  net_chans = let s = root_sized in omega (arith, s.chans)

  pub root_room : procs tree counts 0 ≤ 4096 → HasRoom (end_net cap) (root_piece tree counts cap)
  root_room few =
      let s = root_sized in (omega (arith, s.procs, few), omega (arith, s.chans, few))
