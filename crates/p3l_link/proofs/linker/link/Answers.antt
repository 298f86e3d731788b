-- The ends with the root's piece after them are the linked net.
use Rattle.std.proofs.Common.{◌≡◌, ℕ, List, sym, ap, ◌∙◌, subst}
use Rattle.p3l_skel.specs.declared.tree.Tree.{Tree}
use Rattle.p3l_skel.specs.Counts.{count_of}
use Rattle.p3l_skel.specs.Tree.{nesting}
use Rattle.p3l_firing.specs.declared.net.Net.{Net}
use Rattle.p3l_firing.specs.Typed.{IsTyped}
use Rattle.p3l_template.specs.Shape.{base_of}
use Rattle.p3l_link.specs.Net.{Piece, HasRoom, end_net, linked_net, piece_of, root_piece, with_piece}
use Rattle.p3l_link.proofs.Counted.{root_counted}
use Rattle.p3l_link.proofs.Size.{root_room}
use Rattle.p3l_link.proofs.Typing.{net_typed}
use Rattle.p3l_link.proofs.linker.link.Goals as goal
use Rattle.p3l_link.proofs.linker.link.Goals.{After-finish}

module _ (tree : Tree) (counts : List ℕ) (cap : ℕ) (b : Net) (ends : b ≡ end_net cap) where
  -- the piece of the root between the ends
  abbrev piece : Piece
  piece = piece_of tree (count_of tree counts) cap nesting 0 (base_of (record { input = 0; output = 1 }) b)

  piece_is : piece ≡ root_piece tree counts cap
  unfolding root_piece
  piece_is = ap (λ z. piece_of tree (count_of tree counts) cap nesting 0 (base_of (record { input = 0; output = 1 }) z)) ends

  room : HasRoom (end_net cap) (root_piece tree counts cap) → HasRoom b piece
  room h = subst (HasRoom b) (sym piece_is) (subst (λ z. HasRoom z (root_piece tree counts cap)) (sym ends) h)

  linked : with_piece b piece ≡ linked_net tree counts cap
  unfolding linked_net
  linked = ap (with_piece b) piece_is ∙ ap (λ z. with_piece z (root_piece tree counts cap)) ends

net_is : (c : After-finish) → c.finish.result ≡ linked_net c.args.tree.now c.args.counts.now.list c.args.cap
net_is c =
    c.finish.ensures ∙ c.in_ok-place_node.ensures
    ∙ linked c.args.tree.now c.args.counts.now.list c.args.cap c.in_ok-builder.builder c.in_ok-builder.ensures

pub place_node-requires-clause-counted : goal.place_node-requires-clause-counted
place_node-requires-clause-counted c =
    root_counted c.args.tree.now c.args.counts.now.list c.requires.tree c.requires.counts

pub place_node-requires-clause-room : goal.place_node-requires-clause-room
place_node-requires-clause-room c =
    room c.args.tree.now c.args.counts.now.list c.args.cap c.in_ok-builder.builder c.in_ok-builder.ensures
    (root_room c.args.tree.now c.args.counts.now.list c.args.cap c.requires.tree c.requires.counts c.requires.procs)

pub returns-clause-net : goal.returns-clause-net
returns-clause-net c = net_is c

pub returns-clause-typed : goal.returns-clause-typed
returns-clause-typed c =
    subst (IsTyped c.args.tree.now) (sym (net_is c))
    (net_typed c.args.tree.now c.args.counts.now.list c.args.cap c.requires.cap.0 c.requires.tree c.requires.counts
    c.requires.procs)
