use Rattle.std.proofs.Common.{ℕ, ◌<◌, ◌≤◌, List, length, get_or, sym, ap, ap₂, ◌∙◌, subst, arith}
use Rattle.std.specs.Int.{IsPowerOfTwo}
use Rattle.p3l_base.specs.declared.outcome.Outcome.TheVariants.{Value}
use Rattle.p3l_skel.specs.declared.tree.Node.{Node}
use Rattle.p3l_skel.specs.Item.{on_value}
use Rattle.p3l_skel.specs.Tree.{node_at}
use Rattle.p3l_firing.specs.declared.token.Token.{Token}
use Rattle.p3l_firing.specs.Lists.{first_or}
use Rattle.p3l_firing.specs.Nodes.{elem_of, segment_of}
use Rattle.p3l_firing.specs.Segments.{segment_words}
use Rattle.p3l_firing.specs.State.{own_at}
use Rattle.p3l_firing.specs.Token.{credit}
use Rattle.p3l_net.specs.Forms.{IsReduce, IsInElements}
use Rattle.p3l_net.specs.Steps.{IfValue}
use Rattle.p3l_net.proofs.Standing.{first_held}
use Rattle.p3l_net.proofs.step.Split.{fits_split, is_reduce, some_elem, power_of_two, few_outs, segment_there, in_elements}
use Rattle.p3l_net.proofs.store.Store.next_segment.Goals as goal

pub node-requires : goal.node-requires
node-requires c = (fits_split c.requires.stands c.requires.kind).node

pub elem_of-elem-requires : goal.elem_of-elem-requires
elem_of-elem-requires c = subst (λ (x : Node). IsReduce x.form) (sym c.node.ensures) (is_reduce c.requires.stands c.requires.kind)

pub segment_of-requires-clause-some : goal.segment_of-requires-clause-some
segment_of-requires-clause-some c =
    subst (λ n. 0 < n) (sym (c.elem_of-elem.ensures ∙ ap (λ (x : Node). elem_of x.form) c.node.ensures)) (some_elem c.requires.stands c.requires.kind)

pub segment_of-requires-clause-fits : goal.segment_of-requires-clause-fits
segment_of-requires-clause-fits c =
    let held = (own_at c.args.self.now.owns c.args.p).held in
    let whole = first_held held c.index-held-0.result c.requires.holds (c.index-held-0.is ∙ ap (λ (xs : List Token). get_or xs 0 c.index-held-0.result) c.held.ensures) in
    subst (λ (x : Token). IfValue x.body (λ words. IsInElements c.elem_of-elem.result (length words))) (sym whole)
    (subst (λ n. IfValue (first_or credit held).body (λ words. IsInElements n (length words))) (sym (c.elem_of-elem.ensures ∙ ap (λ (x : Node). elem_of x.form) c.node.ensures))
    (in_elements c.requires.stands c.requires.kind c.requires.holds))

pub segment_of-requires-clause-power : goal.segment_of-requires-clause-power
segment_of-requires-clause-power c = subst IsPowerOfTwo (sym c.len-count.ensures) (power_of_two c.requires.stands c.requires.kind)

pub segment_of-requires-clause-few : goal.segment_of-requires-clause-few
segment_of-requires-clause-few c = subst (λ n. n ≤ 512) (sym c.len-count.ensures) (few_outs c.requires.stands c.requires.kind)

pub segment_of-requires-clause-there : goal.segment_of-requires-clause-there
segment_of-requires-clause-there c =
    let number = c.number-number.ensures in
    let count = c.len-count.ensures in
    let there = segment_there c.requires.stands c.requires.kind c.requires.holds in
    omega (arith, number, count, there)

pub returns : goal.returns
unfolding segment_of
returns c =
    let held = (own_at c.args.self.now.owns c.args.p).held in
    let elem : ℕ = elem_of (node_at c.args.self.now.tree c.args.process.now.node).form in
    let whole = first_held held c.index-held-0.result c.requires.holds (c.index-held-0.is ∙ ap (λ (xs : List Token). get_or xs 0 c.index-held-0.result) c.held.ensures) in
    let made = c.in_ok-body.ensures
    ∙ ap₂ (λ e n. on_value (λ words. Value (segment_words e n c.number-number.result words)) c.index-held-0.result.body) (c.elem_of-elem.ensures ∙ ap (λ (x : Node). elem_of x.form) c.node.ensures) c.len-count.ensures
    ∙ ap₂ (λ s (x : Token). on_value (λ words. Value (segment_words elem (length c.args.process.now.outs) s words)) x.body) c.number-number.ensures whole in
    c.copy_with.ensures ∙ ap₂ (λ (x : Token) b. record x { body = b }) whole made
