use Rattle.std.proofs.Common.{◌<◌, List, length, get_or, slice_index, sym, ap, ap₂, ◌∙◌, subst, arith}
use Rattle.std.specs.List.{AllByRecursion}
use Rattle.p3l_skel.specs.declared.tree.Node.{Node}
use Rattle.p3l_skel.specs.declared.tree.Tree.{Tree}
use Rattle.p3l_skel.specs.Fold.{tree_fold}
use Rattle.p3l_skel.specs.Item.{item}
use Rattle.p3l_skel.specs.Tree.{HasLength, GivesOuts, part_at}
use Rattle.p3l_firing.specs.declared.token.Token.{Token}
use Rattle.p3l_firing.specs.Nodes.{Leaf, fold_of}
use Rattle.p3l_firing.specs.State.{own_at}
use Rattle.p3l_firing.specs.Token.{bodies}
use Rattle.p3l_firing.proofs.row.Gather.{longer_has_first}
use Rattle.p3l_net.specs.Machine.{Seen}
use Rattle.p3l_net.specs.Operators.{IsOperator, outs_of}
use Rattle.p3l_net.proofs.Standing.{first_held, own_there}
use Rattle.p3l_net.proofs.step.FoldGather.{fits_fold_gather, is_operator, held_some, held_sized}
use Rattle.p3l_net.proofs.store.Store.fold_held.Goals as goal

pub node-requires : goal.node-requires
node-requires g c = (fits_fold_gather c.requires.stands c.requires.kind).node

pub held-held-requires : goal.held-held-requires
held-held-requires g c = own_there c.requires.stands

pub folded-requires-clause-operator : goal.folded-requires-clause-operator
folded-requires-clause-operator g c =
    let m : Seen = c.args.self.now in
    let leaf : Leaf = g.U.Units.leaf c.args.units.now in
    let operator = c.part-operator.ensures ∙ ap (λ (x : Node). slice_index x.parts 0) c.node.ensures in
    let gives = subst (λ (t : Tree). GivesOuts t leaf) c.requires.units (g.met.U.Units.gives_outs c.args.units.now) in
    subst (λ t. IsOperator t leaf c.part-operator.result) (sym c.requires.units)
    (subst (IsOperator m.tree leaf) (sym operator) (is_operator c.requires.stands c.requires.kind leaf gives))

pub folded-requires-clause-some : goal.folded-requires-clause-some
folded-requires-clause-some g c =
    let some = held_some c.requires.stands c.requires.kind c.requires.full in
    let long = ap (λ (xs : List Token). length xs) c.held-held.ensures in
    omega (arith, some, long)

pub folded-requires-clause-sized : goal.folded-requires-clause-sized
folded-requires-clause-sized g c =
    let m : Seen = c.args.self.now in
    let operator = c.part-operator.ensures ∙ ap (λ (x : Node). slice_index x.parts 0) c.node.ensures in
    subst (λ t. AllByRecursion (λ (token : Token). HasLength (outs_of t c.part-operator.result) token.body) c.held-held.result.now) (sym c.requires.units)
    (subst (λ k. AllByRecursion (λ (token : Token). HasLength (outs_of m.tree k) token.body) c.held-held.result.now) (sym operator)
    (subst (AllByRecursion (λ (token : Token). HasLength (outs_of m.tree (part_at m.tree c.args.process.now.node 0)) token.body)) (sym c.held-held.ensures)
    (held_sized c.requires.stands c.requires.kind)))

pub bounds-held-0 : goal.bounds-held-0
bounds-held-0 g c = subst (λ (xs : List Token). 0 < length xs) (sym c.held-held.ensures) (held_some c.requires.stands c.requires.kind c.requires.full)

pub returns : goal.returns
unfolding fold_of
returns g c =
    let m : Seen = c.args.self.now in
    let leaf : Leaf = g.U.Units.leaf c.args.units.now in
    let held = (own_at m.owns c.args.p).held in
    let some = longer_has_first held 0 (held_some c.requires.stands c.requires.kind c.requires.full) in
    let operator = c.part-operator.ensures ∙ ap (λ (x : Node). slice_index x.parts 0) c.node.ensures in
    let first = first_held held c.index-held-0.result some (c.index-held-0.is ∙ ap (λ (xs : List Token). get_or xs 0 c.index-held-0.result) c.held-held.ensures) in
    let made = c.in_ok-body.ensures.folded
    ∙ ap₂ (λ t k. tree_fold (item t leaf k) (bodies c.held-held.result.now)) c.requires.units operator
    ∙ ap (λ xs. tree_fold (item m.tree leaf (part_at m.tree c.args.process.now.node 0)) (bodies xs)) c.held-held.ensures in
    c.copy_with.ensures ∙ ap₂ (λ (x : Token) b. record x { body = b }) first made
