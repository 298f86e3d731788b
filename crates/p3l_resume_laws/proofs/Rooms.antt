-- No channel of a linked net has room for more than 1,024 tokens, where its capacity is no more: that of a loop has room for its tokens.
use Rattle.std.proofs.Common.{◌≡◌, ℕ, zero, suc, ◌+◌, ◌-◌, ◌^◌, ◌≤◌, List, [], ◌∷◌, ◌++◌, length, get_or, replicate, inl, inr, subst, sym, arith}
use Rattle.std.specs.List.{AllByRecursion}
use Rattle.std.proofs.lemmas.Bool.{cases_lt}
use Rattle.std.proofs.lemmas.List.{get_or_past}
use Rattle.p3l_skel.specs.declared.tree.Form.{Form}
use Rattle.p3l_skel.specs.declared.tree.Form.TheVariants.{Seq, Comp, Pipe, Farm, Map, Reduce, Loop}
use Rattle.p3l_skel.specs.declared.tree.Node.{Node}
use Rattle.p3l_skel.specs.declared.tree.Tree.{Tree}
use Rattle.p3l_skel.specs.Lawful.{HasTwoParts, IsLawfulForm, IsLawfulLoop, IsLawfulTree}
use Rattle.p3l_skel.specs.Tree.{no_node, node_at, part_at}
use Rattle.p3l_skel.proofs.Depth.{lawful_at}
use Rattle.p3l_firing.specs.declared.net.Chan.{Chan}
use Rattle.p3l_firing.specs.Segments.{level_of}
use Rattle.p3l_firing.specs.State.{chan_at, no_chan}
use Rattle.p3l_template.specs.Shape.{Base, Slot, empty_chan}
use Rattle.p3l_reduce.specs.Reduce.{reduce_shape}
use Rattle.p3l_link.specs.Net.{Piece, base_at, inner_pieces, linked_net, piece_of, root_piece, root_base}
use Rattle.p3l_link.specs.Shape.{kind_at, kind_row, shape_row}

abbrev IsSmall : Chan → Type 0
IsSmall chan = chan.cap ≤ 1024

abbrev AreSmall : List Chan → Type 0
AreSmall chans = AllByRecursion IsSmall chans

small_append : (xs ys : List Chan) → AreSmall xs → AreSmall ys → AreSmall (xs ++ ys)
small_append [] ys one other = other
small_append (x ∷ xs) ys one other = (one.0, small_append xs ys one.1 other)

small_same : (n : ℕ) (x : Chan) → IsSmall x → AreSmall (replicate n x)
small_same zero x small = tt
small_same (suc n) x small = (small, small_same n x small)

small_at : (xs : List Chan) (c : ℕ) → AreSmall xs → (get_or xs c no_chan).cap ≤ 1024
small_at [] c all = omega arith
small_at (x ∷ xs) zero all = all.0
small_at (x ∷ xs) (suc c) all = small_at xs c all.1

-- a loop lets few tokens in at once
abbrev HasFewTokens : Form → Type 0
HasFewTokens Seq = Unit {0}
HasFewTokens Comp = Unit {0}
HasFewTokens Pipe = Unit {0}
HasFewTokens (Farm w) = Unit {0}
HasFewTokens (Map w cut) = Unit {0}
HasFewTokens (Reduce w len elem) = Unit {0}
HasFewTokens (Loop turns tokens) = tokens ≤ 1024

loop_few : (tree : Tree) (turns tokens a b : ℕ) (ps : List ℕ) → HasTwoParts (IsLawfulLoop tree turns tokens a b) ps → tokens ≤ 1024
loop_few tree turns tokens a b [] h = absurd h
loop_few tree turns tokens a b (p ∷ []) h = absurd h
loop_few tree turns tokens a b (p ∷ (q ∷ [])) h = let limits = h.limits in limits.few_tokens
loop_few tree turns tokens a b (p ∷ (q ∷ (r ∷ ps))) h = absurd h

form_few : (tree : Tree) (f : Form) (a b : ℕ) (ps : List ℕ) → IsLawfulForm tree f a b ps → HasFewTokens f
form_few tree Seq a b ps lawful = tt
form_few tree Comp a b ps lawful = tt
form_few tree Pipe a b ps lawful = tt
form_few tree (Farm w) a b ps lawful = tt
form_few tree (Map w cut) a b ps lawful = tt
form_few tree (Reduce w len elem) a b ps lawful = tt
form_few tree (Loop turns tokens) a b ps lawful = loop_few tree turns tokens a b ps lawful

node_few : (tree : Tree) → IsLawfulTree tree → (k : ℕ) → HasFewTokens (node_at tree k).form
node_few tree lawful k =
    elim (cases_lt k (length tree.nodes)) [
      | inl inside ↦ form_few tree (node_at tree k).form (node_at tree k).ins (node_at tree k).outs (node_at tree k).parts (lawful_at tree lawful k inside).form
      | inr past ↦
          (let none : node_at tree k ≡ no_node = get_or_past tree.nodes k no_node past in
          subst (λ (z : Node). HasFewTokens z.form) (sym none) tt)
    ]

module _ (cap : ℕ) (few : cap ≤ 1024) where
  empties : (n : ℕ) → AreSmall (replicate n (empty_chan cap))
  empties n = small_same n (empty_chan cap) few

  reduce_small : (k len level : ℕ) (base : Base) → AreSmall ((reduce_shape k len level).laid cap base)
  unfolding reduce_shape
  reduce_small k len zero base = tt
  reduce_small k len (suc d) base = empties (2 ^ suc d + (2 ^ suc d + 2 ^ suc d - 2))

  row_small : (f : Form) (k parts n : ℕ) (base : Base) → HasFewTokens f → AreSmall ((shape_row f k parts n).laid cap base)
  unfolding kind_row
  row_small Seq k parts n base has = tt
  row_small Comp k parts n base has = tt
  row_small Pipe k parts n base has = empties (parts - 1)
  row_small (Farm w) k parts n base has = empties (n + n)
  row_small (Map w cut) k parts n base has = empties (n + n)
  row_small (Reduce w len elem) k parts n base has = reduce_small k len (level_of n) base
  row_small (Loop turns tokens) k parts n base has = (few, (few, (has, (has, tt))))

  inner_small : (f : ℕ → Base → Piece) → ((v : ℕ) (b : Base) → AreSmall (f v b).chans) → (slots : List Slot) (p c : ℕ) →
      AreSmall (inner_pieces f slots p c).chans
  unfolding inner_pieces
  inner_small f each [] p c = tt
  inner_small f each (x ∷ xs) p c = small_append _ _ (each x.part (base_at x p c)) (inner_small f each xs _ _)

  module _ (tree : Tree) (lawful : IsLawfulTree tree) (count : ℕ → ℕ) where
    piece_small : (d k : ℕ) (base : Base) → AreSmall (piece_of tree count cap d k base).chans
    unfolding piece_of kind_at
    piece_small zero k base = tt
    piece_small (suc d) k base =
        small_append _ _ (row_small (node_at tree k).form k (length (node_at tree k).parts) (count k) base (node_few tree lawful k))
        (inner_small (λ v. piece_of tree count cap d (part_at tree k v)) (λ v b. piece_small d (part_at tree k v) b) _ _ _)

  pub net_small : (tree : Tree) (counts : List ℕ) → IsLawfulTree tree → (c : ℕ) → (chan_at (linked_net tree counts cap) c).cap ≤ 1024
  unfolding linked_net root_piece
  net_small tree counts lawful c = small_at (linked_net tree counts cap).chans c (few, (few, piece_small tree lawful _ _ 0 root_base))
