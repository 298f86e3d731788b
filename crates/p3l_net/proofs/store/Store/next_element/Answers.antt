use Rattle.std.proofs.Common.{◌<◌, List, length, get_or, sym, ap, ap₂, ◌∙◌, subst}
use Rattle.p3l_base.specs.declared.cut.Cut.{Cut}
use Rattle.p3l_base.specs.declared.outcome.Outcome.TheVariants.{Value}
use Rattle.p3l_base.specs.Cut.{HasLawfulIns, element_count, element_words}
use Rattle.p3l_skel.specs.declared.tree.Node.{Node}
use Rattle.p3l_skel.specs.Item.{on_value}
use Rattle.p3l_skel.specs.Tree.{node_at}
use Rattle.p3l_firing.specs.declared.token.Token.{Token}
use Rattle.p3l_firing.specs.Lists.{first_or}
use Rattle.p3l_firing.specs.Nodes.{cut_of, element_of}
use Rattle.p3l_firing.specs.State.{own_at}
use Rattle.p3l_firing.specs.Token.{credit}
use Rattle.p3l_net.specs.Forms.{IsMap}
use Rattle.p3l_net.specs.Steps.{IfValue}
use Rattle.p3l_net.proofs.Standing.{first_held}
use Rattle.p3l_net.proofs.step.Scatter.{fits_scatter, is_map, element_there, cut_fits}
use Rattle.p3l_net.proofs.store.Store.next_element.Goals as goal

pub node-requires : goal.node-requires
node-requires c = (fits_scatter c.requires.stands c.requires.kind).node

pub cut_of-cut-requires : goal.cut_of-cut-requires
cut_of-cut-requires c = subst (λ (x : Node). IsMap x.form) (sym c.node.ensures) (is_map c.requires.stands c.requires.kind)

pub element_of-requires-clause-there : goal.element_of-requires-clause-there
element_of-requires-clause-there c =
    subst (λ (x : Cut). c.number-number.result < element_count x) (sym (c.cut_of-cut.ensures ∙ ap (λ (x : Node). cut_of x.form) c.node.ensures))
    (subst (λ n. n < element_count (cut_of (node_at c.args.self.now.tree c.args.process.now.node).form)) (sym c.number-number.ensures) (element_there c.requires.stands c.requires.kind c.requires.holds))

pub element_of-requires-clause-fits : goal.element_of-requires-clause-fits
element_of-requires-clause-fits c =
    let held = (own_at c.args.self.now.owns c.args.p).held in
    let whole = first_held held c.index-held-0.result c.requires.holds (c.index-held-0.is ∙ ap (λ (xs : List Token). get_or xs 0 c.index-held-0.result) c.held.ensures) in
    subst (λ (x : Token). IfValue x.body (λ words. HasLawfulIns c.cut_of-cut.result.now (length words))) (sym whole)
    (subst (λ (x : Cut). IfValue (first_or credit held).body (λ words. HasLawfulIns x (length words))) (sym (c.cut_of-cut.ensures ∙ ap (λ (x : Node). cut_of x.form) c.node.ensures))
    (cut_fits c.requires.stands c.requires.kind c.requires.holds))

pub returns : goal.returns
unfolding element_of
returns c =
    let held = (own_at c.args.self.now.owns c.args.p).held in
    let whole = first_held held c.index-held-0.result c.requires.holds (c.index-held-0.is ∙ ap (λ (xs : List Token). get_or xs 0 c.index-held-0.result) c.held.ensures) in
    let cut : Cut = cut_of (node_at c.args.self.now.tree c.args.process.now.node).form in
    let made = c.in_ok-body.ensures
    ∙ ap₂ (λ (x : Cut) k. on_value (λ words. Value (element_words x.ins x.second words k)) c.index-held-0.result.body) (c.cut_of-cut.ensures ∙ ap (λ (x : Node). cut_of x.form) c.node.ensures) c.number-number.ensures
    ∙ ap (λ (x : Token). on_value (λ words. Value (element_words cut.ins cut.second words (own_at c.args.self.now.owns c.args.p).number)) x.body) whole in
    c.copy_with.ensures ∙ ap₂ (λ (x : Token) b. record x { body = b }) whole made
