use Rattle.std.proofs.Common.{◌<◌, List, length, get_or, sym, ap, ap₂, ◌∙◌, subst}
use Rattle.std.specs.List.{AllByRecursion}
use Rattle.p3l_base.specs.declared.cut.Cut.{Cut}
use Rattle.p3l_base.specs.Cut.{HasLawfulOuts, element_count, element_size, joined_words}
use Rattle.p3l_skel.specs.declared.tree.Node.{Node}
use Rattle.p3l_skel.specs.Item.{gathered}
use Rattle.p3l_skel.specs.Tree.{HasLength}
use Rattle.p3l_firing.specs.declared.token.Token.{Token}
use Rattle.p3l_firing.specs.Nodes.{cut_of, joined_of}
use Rattle.p3l_firing.specs.State.{own_at}
use Rattle.p3l_firing.specs.Token.{bodies}
use Rattle.p3l_firing.proofs.row.Gather.{longer_has_first}
use Rattle.p3l_net.specs.Forms.{IsMap}
use Rattle.p3l_net.proofs.Standing.{first_held, own_there}
use Rattle.p3l_net.proofs.step.Gather.{fits_gather, is_map, cut_outs, held_all, held_some, held_sized}
use Rattle.p3l_net.proofs.store.Store.whole_held.Goals as goal

pub node-requires : goal.node-requires
node-requires c = (fits_gather c.requires.stands c.requires.kind).node

pub cut_of-cut-requires : goal.cut_of-cut-requires
cut_of-cut-requires c = subst (λ (x : Node). IsMap x.form) (sym c.node.ensures) (is_map c.requires.stands c.requires.kind)

pub held-held-requires : goal.held-held-requires
held-held-requires c = own_there c.requires.stands

pub joined_of-requires-clause-outs : goal.joined_of-requires-clause-outs
joined_of-requires-clause-outs c = subst HasLawfulOuts (sym (c.cut_of-cut.ensures ∙ ap (λ (x : Node). cut_of x.form) c.node.ensures)) (cut_outs c.requires.stands c.requires.kind)

pub joined_of-requires-clause-count : goal.joined_of-requires-clause-count
joined_of-requires-clause-count c =
    ap (λ (xs : List Token). length xs) c.held-held.ensures ∙ held_all c.requires.stands c.requires.kind c.requires.full
    ∙ sym (ap (λ (x : Cut). element_count x) (c.cut_of-cut.ensures ∙ ap (λ (x : Node). cut_of x.form) c.node.ensures))

pub joined_of-requires-clause-sizes : goal.joined_of-requires-clause-sizes
joined_of-requires-clause-sizes c =
    subst (AllByRecursion (λ (token : Token). HasLength (element_size c.cut_of-cut.result.now.outs) token.body)) (sym c.held-held.ensures)
    (subst (λ (x : Cut). AllByRecursion (λ (token : Token). HasLength (element_size x.outs) token.body) (own_at c.args.self.now.owns c.args.p).held) (sym (c.cut_of-cut.ensures ∙ ap (λ (x : Node). cut_of x.form) c.node.ensures))
    (held_sized c.requires.stands c.requires.kind))

pub bounds-held-0 : goal.bounds-held-0
bounds-held-0 c = subst (λ (xs : List Token). 0 < length xs) (sym c.held-held.ensures) (held_some c.requires.stands c.requires.kind c.requires.full)

pub returns : goal.returns
unfolding joined_of
returns c =
    let held = (own_at c.args.self.now.owns c.args.p).held in
    let some = longer_has_first held 0 (held_some c.requires.stands c.requires.kind c.requires.full) in
    let first = first_held held c.index-held-0.result some (c.index-held-0.is ∙ ap (λ (xs : List Token). get_or xs 0 c.index-held-0.result) c.held-held.ensures) in
    let made = c.in_ok-body.ensures
    ∙ ap₂ (λ (x : Cut) xs. gathered (joined_words x) (bodies xs)) (c.cut_of-cut.ensures ∙ ap (λ (x : Node). cut_of x.form) c.node.ensures) c.held-held.ensures in
    c.copy_with.ensures ∙ ap₂ (λ (x : Token) b. record x { body = b }) first made
