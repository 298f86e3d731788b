-- The piece of a node has small segments, and channels in their ranges.
use Rattle.std.proofs.Common.{◌≡◌, ℕ, zero, suc, ◌+◌, ◌-◌, ◌/◌, ◌*◌, ◌<◌, ◌≤◌, ◌^◌, ◌∙◌, ⊎_elim, true, leb, List, [], ◌∷◌, ◌++◌, length, replicate, refl, sym, subst, arith}
use Rattle.std.specs.Prelude.{Bool}
use Rattle.std.specs.List.{list_all}
use Rattle.std.proofs.lemmas.Bool.{cases_lt, le-leb, leb-true}
use Rattle.std.proofs.lemmas.List.Folds.{list_all-append}
use Rattle.p3l_skel.specs.declared.tree.Form.{Form}
use Rattle.p3l_skel.specs.declared.tree.Form.TheVariants.{Seq, Comp, Pipe, Farm, Map, Reduce, Loop}
use Rattle.p3l_skel.specs.declared.tree.Node.{Node}
use Rattle.p3l_skel.specs.declared.tree.Tree.{Tree}
use Rattle.p3l_skel.specs.Counts.{count_of}
use Rattle.p3l_skel.specs.Lawful.{IsLawfulForm, IsLawfulTree, IsSize}
use Rattle.p3l_skel.specs.Tree.{node_at, part_at, nesting}
use Rattle.p3l_skel.proofs.Below.{node_at-past}
use Rattle.p3l_skel.proofs.Depth.{lawful_at}
use Rattle.std.proofs.Math.Nat.{le-mul_of_pos_right}
use Rattle.p3l_firing.specs.declared.net.Chan.{Chan}
use Rattle.p3l_firing.specs.declared.process.Proc.{Proc}
use Rattle.p3l_firing.specs.Segments.{halved, level_of, segment_lengths}
use Rattle.p3l_format.specs.Format.{as_form, pair}
use Rattle.p3l_format.specs.Numbers.{u32_in}
use Rattle.p3l_format.specs.laws.Parts.{both_true, first_true, second_true}
use Rattle.p3l_template.specs.Shape.{Base, Slot, Blueprint, empty_chan}
use Rattle.p3l_reduce.specs.Reduce.{fold_procs, join_procs, reduce_shape}
use Rattle.p3l_link.specs.Net.{Piece, base_at, end_net, inner_pieces, linked_net, piece_of, root_base, root_piece}
use Rattle.p3l_link.specs.Shape.{kind_at, kind_row, shape_at, shape_row}
use Rattle.p3l_image.specs.Net.{chan_format}
use Rattle.p3l_load.proofs.Ranges.{fits_in}

-- a segment has at most as many elements as an item has words
abbrev pub is_small : Proc → Bool
is_small q = leb q.arg 65536

pub record IsFine (procs : List Proc) (chans : List Chan) : Type 0 where
  pub small : list_all is_small procs ≡ true
  pub fits : list_all chan_format.fits chans ≡ true

all_both : {A : Type 0} (p : A → Bool) (xs ys : List A) → list_all p xs ≡ true → list_all p ys ≡ true → list_all p (xs ++ ys) ≡ true
all_both p xs ys one other = list_all-append p xs ys ∙ both_true (list_all p xs) (list_all p ys) one other

all_same : {A : Type 0} (p : A → Bool) (n : ℕ) (x : A) → p x ≡ true → list_all p (replicate n x) ≡ true
all_same p zero x is = refl
all_same p (suc n) x is = both_true (p x) (list_all p (replicate n x)) is (all_same p n x is)

pub fine_more : (ps qs : List Proc) (cs ds : List Chan) → IsFine ps cs → IsFine qs ds → IsFine (ps ++ qs) (cs ++ ds)
fine_more ps qs cs ds one other = record {
  small = all_both is_small ps qs one.small other.small;
  fits = all_both chan_format.fits cs ds one.fits other.fits;
}

chan_fits : (cap credits : ℕ) → 1 ≤ cap → cap ≤ 1024 → credits ≤ cap → chan_format.fits (record { cap = cap; credits = credits }) ≡ true
unfolding chan_format as_form pair
chan_fits cap credits some few lent =
    both_true ((u32_in 1 1024).fits cap) ((u32_in 0 cap).fits credits) (fits_in 1 1024 cap some few (omega (arith, few)))
    (fits_in 0 cap credits (omega arith) lent (omega (arith, few, lent)))

-- the numbers of a form that go into its net
abbrev HasSmallNumbers : Form → Type 0
HasSmallNumbers (Reduce w len elem) = len ≤ 65536
HasSmallNumbers (Loop turns tokens) = (1 ≤ tokens) × (tokens ≤ 1024)
HasSmallNumbers _ = Unit {0}

halved_small : (most : ℕ) (ls : List ℕ) → list_all (λ l. leb l most) ls ≡ true → list_all (λ l. leb l most) (halved ls) ≡ true
unfolding halved
halved_small most [] all = refl
halved_small most (l ∷ ls) all =
    let own = first_true (leb l most) (list_all (λ l. leb l most) ls) all in
    let low = leb-true l most own in
    both_true (leb (l / 2) most) _ (le-leb (l / 2) most (omega (arith, low)))
    (both_true (leb (l - l / 2) most) (list_all (λ l. leb l most) (halved ls)) (le-leb (l - l / 2) most (omega (arith, low)))
    (halved_small most ls (second_true (leb l most) (list_all (λ l. leb l most) ls) all)))

segments_small : (level len most : ℕ) → len ≤ most → list_all (λ l. leb l most) (segment_lengths level len) ≡ true
unfolding segment_lengths
segments_small zero len most low = both_true (leb len most) _ (le-leb len most low) refl
segments_small (suc level) len most low = halved_small most (segment_lengths level len) (segments_small level len most low)

folds_small : (node m output first t s : ℕ) (ls : List ℕ) → list_all (λ l. leb l 65536) ls ≡ true → list_all is_small (fold_procs node m output first t s ls) ≡ true
unfolding fold_procs
folds_small node m output first t s [] all = refl
folds_small node m output first t s (l ∷ ls) all =
    both_true (leb l 65536) _ (first_true (leb l 65536) (list_all (λ l. leb l 65536) ls) all)
    (folds_small node m output first t (suc s) ls (second_true (leb l 65536) (list_all (λ l. leb l 65536) ls) all))

joins_small : (node output t q n : ℕ) → list_all is_small (join_procs node output t q n) ≡ true
unfolding join_procs
joins_small node output t q zero = refl
joins_small node output t q (suc n) = joins_small node output t (suc q) n

module _ (cap : ℕ) (some : 1 ≤ cap) (few : cap ≤ 1024) where
  abbrev IsFineShape : Blueprint → Base → Type 0
  IsFineShape shape base = IsFine (shape.procs base) (shape.laid cap base)

  empties : (n : ℕ) → list_all chan_format.fits (replicate n (empty_chan cap)) ≡ true
  empties n = all_same chan_format.fits n (empty_chan cap) (chan_fits cap 0 some few (omega arith))

  reduce_fine : (k len level : ℕ) (base : Base) → len ≤ 65536 → IsFineShape (reduce_shape k len level) base
  unfolding reduce_shape
  reduce_fine k len zero base low = record { small = refl; fits = refl }
  reduce_fine k len (suc d) base low =
      let m : ℕ = 2 ^ suc d in
      let joins = join_procs k base.output (base.chan + m) 1 (m - 1) in
      let folds = fold_procs k m base.output base.chan (base.chan + m) 0 (segment_lengths (suc d) len) in
      record {
        small = all_both is_small joins folds (joins_small k base.output (base.chan + m) 1 (m - 1))
            (folds_small k m base.output base.chan (base.chan + m) 0 (segment_lengths (suc d) len) (segments_small (suc d) len 65536 low));
        fits = empties (m + (m + m - 2));
      }

  row_fine : (form : Form) (k parts n : ℕ) (base : Base) → HasSmallNumbers form → IsFineShape (shape_row form k parts n) base
  unfolding kind_row
  row_fine Seq k parts n base has = record { small = refl; fits = refl }
  row_fine Comp k parts n base has = record { small = refl; fits = refl }
  row_fine Pipe k parts n base has = record { small = refl; fits = empties (parts - 1) }
  row_fine (Farm w) k parts n base has = record { small = refl; fits = empties (n + n) }
  row_fine (Map w cut) k parts n base has = record { small = refl; fits = empties (n + n) }
  row_fine (Reduce w len elem) k parts n base has = reduce_fine k len (level_of n) base has
  row_fine (Loop turns tokens) k parts n base has =
      let empty = chan_fits cap 0 some few (omega arith) in
      record {
        small = refl;
        fits = both_true (chan_format.fits (empty_chan cap)) _ empty (both_true (chan_format.fits (empty_chan cap)) _ empty
            (both_true (chan_format.fits (empty_chan tokens)) _ (chan_fits tokens 0 has.0 has.1 (omega arith))
            (both_true (chan_format.fits (record { cap = tokens; credits = tokens })) _ (chan_fits tokens tokens has.0 has.1 (omega arith)) refl)));
      }

  inner_fine : (f : ℕ → Base → Piece) (slots : List Slot) (p c : ℕ) → ((v : ℕ) (b : Base) → IsFine (f v b).procs (f v b).chans)
      → IsFine (inner_pieces f slots p c).procs (inner_pieces f slots p c).chans
  unfolding inner_pieces
  inner_fine f [] p c each = record { small = refl; fits = refl }
  inner_fine f (slot ∷ slots) p c each =
      let here : Piece = f slot.part (base_at slot p c) in
      let rest : Piece = inner_pieces f slots (p + length here.procs) (c + length here.chans) in
      fine_more here.procs rest.procs here.chans rest.chans (each slot.part (base_at slot p c))
      (inner_fine f slots (p + length here.procs) (c + length here.chans) each)

  piece_fine : (tree : Tree) (count : ℕ → ℕ) → ((k : ℕ) → HasSmallNumbers (node_at tree k).form) → (d k : ℕ) (base : Base)
      → IsFine (piece_of tree count cap d k base).procs (piece_of tree count cap d k base).chans
  unfolding piece_of kind_at
  piece_fine tree count numbers zero k base = record { small = refl; fits = refl }
  piece_fine tree count numbers (suc d) k base =
      let shape = shape_at tree count k in
      let f : ℕ → Base → Piece = λ v. piece_of tree count cap d (part_at tree k v) in
      let p = base.proc + length (shape.procs base) in
      let c = base.chan + shape.chans base in
      fine_more (shape.procs base) (inner_pieces f (shape.slots base) p c).procs (shape.laid cap base) (inner_pieces f (shape.slots base) p c).chans
      (row_fine (node_at tree k).form k (length (node_at tree k).parts) (count k) base (numbers k))
      (inner_fine f (shape.slots base) p c (λ v b. piece_fine tree count numbers d (part_at tree k v) b))

  linked_fine : (tree : Tree) (counts : List ℕ) → ((k : ℕ) → HasSmallNumbers (node_at tree k).form)
      → IsFine (linked_net tree counts cap).procs (linked_net tree counts cap).chans
  unfolding linked_net root_piece
  linked_fine tree counts numbers =
      let empty = chan_fits cap 0 some few (omega arith) in
      let root : Piece = piece_of tree (count_of tree counts) cap nesting 0 root_base in
      fine_more (end_net cap).procs root.procs (end_net cap).chans root.chans
      (record {
        small = refl;
        fits = both_true (chan_format.fits (empty_chan cap)) _ empty (both_true (chan_format.fits (empty_chan cap)) _ empty refl);
      })
      (piece_fine tree (count_of tree counts) numbers nesting 0 root_base)

form_small : (tree : Tree) (form : Form) (ins outs : ℕ) (parts : List ℕ) → IsSize ins → IsSize outs → IsLawfulForm tree form ins outs parts → HasSmallNumbers form
form_small tree Seq ins outs parts in_size out_size is = tt
form_small tree Comp ins outs parts in_size out_size is = tt
form_small tree Pipe ins outs parts in_size out_size is = tt
form_small tree (Farm w) ins outs parts in_size out_size is = tt
form_small tree (Map w cut) ins outs parts in_size out_size is = tt
form_small tree (Reduce w len elem) ins outs [] in_size out_size is = absurd is
form_small tree (Reduce w len elem) ins outs (p ∷ (q ∷ ps)) in_size out_size is = absurd is
form_small tree (Reduce w len elem) ins outs (p ∷ []) in_size out_size is =
    let some : 0 < elem = omega (arith, out_size.0, is.result) in
    let more : len ≤ len * elem = le-mul_of_pos_right len some in
    omega (arith, more, is.elements, in_size.1)
form_small tree (Loop turns tokens) ins outs [] in_size out_size is = absurd is
form_small tree (Loop turns tokens) ins outs (p ∷ []) in_size out_size is = absurd is
form_small tree (Loop turns tokens) ins outs (p ∷ (q ∷ (r ∷ ps))) in_size out_size is = absurd is
form_small tree (Loop turns tokens) ins outs (p ∷ (q ∷ [])) in_size out_size is = (is.limits.some_tokens, is.limits.few_tokens)

numbers_small : (tree : Tree) → IsLawfulTree tree → (k : ℕ) → HasSmallNumbers (node_at tree k).form
numbers_small tree lawful k =
    ⊎_elim
    (λ there. let is = lawful_at tree lawful k there in form_small tree (node_at tree k).form (node_at tree k).ins (node_at tree k).outs (node_at tree k).parts is.ins is.outs is.form)
    (λ past. subst (λ (n : Node). HasSmallNumbers n.form) (sym (node_at-past tree k (omega (arith, past)))) tt)
    (cases_lt k (length tree.nodes))

pub net_fine : (cap : ℕ) → 1 ≤ cap → cap ≤ 1024 → (tree : Tree) (counts : List ℕ) → IsLawfulTree tree → IsFine (linked_net tree counts cap).procs (linked_net tree counts cap).chans
net_fine cap some few tree counts lawful = linked_fine cap some few tree counts (numbers_small tree lawful)
