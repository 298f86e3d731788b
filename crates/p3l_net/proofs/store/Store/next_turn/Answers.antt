use Rattle.std.proofs.Common.{◌≡◌, ℕ, nat_lt, true, [], length, slice_index, sym, ap, ap₂, ◌∙◌, subst}
use Rattle.p3l_base.specs.Memory.{IfGivenOr}
use Rattle.p3l_base.specs.declared.outcome.Outcome.{Outcome}
use Rattle.p3l_base.specs.declared.outcome.Outcome.TheVariants.{Trapped}
use Rattle.p3l_base.specs.declared.outcome.TrapKind.TheVariants.{Turns}
use Rattle.p3l_skel.specs.declared.tree.Node.{Node}
use Rattle.p3l_skel.specs.Tree.{HasFittingLength, IsUnit, node_at, part_at}
use Rattle.p3l_firing.specs.declared.token.Token.{Token}
use Rattle.p3l_firing.specs.Lists.{first_or}
use Rattle.p3l_firing.specs.Nodes.{Leaf, outcome_of, most_turns, test_of, turns_of, spent_of}
use Rattle.p3l_firing.specs.Process.{in_of}
use Rattle.p3l_firing.specs.Token.{credit, newest_tag}
use Rattle.p3l_firing.specs.kinds.Tail.{next_turn, turn_of}
use Rattle.p3l_firing.proofs.Places.{first_in}
use Rattle.p3l_net.specs.Channel.{tokens_at}
use Rattle.p3l_net.specs.Machine.{Seen, state_of}
use Rattle.p3l_net.specs.Steps.{CanTake, IfValue}
use Rattle.p3l_net.specs.Turns.{row_turn}
use Rattle.p3l_net.proofs.Standing.{one_long, can_take}
use Rattle.p3l_net.proofs.step.Tail.{fits_tail, is_unit, fitting}
use Rattle.p3l_net.proofs.store.Store.next_turn.Goals as goal

pub input-input-requires : goal.input-input-requires
input-input-requires g c = one_long _ _ (fits_tail c.requires.stands c.requires.kind).ins

pub node-node-requires : goal.node-node-requires
node-node-requires g c = (fits_tail c.requires.stands c.requires.kind).node

pub front_newest_tag-requires : goal.front_newest_tag-requires
front_newest_tag-requires g c =
    subst (CanTake c.args.self.now) (sym c.input-input.ensures)
    (can_take c.requires.stands _ (first_in _ (fits_tail c.requires.stands c.requires.kind).ins) c.requires.comes)

pub front_body-requires : goal.front_body-requires
front_body-requires g c =
    subst (CanTake c.args.self.now) (sym c.input-input.ensures)
    (can_take c.requires.stands _ (first_in _ (fits_tail c.requires.stands c.requires.kind).ins) c.requires.comes)

pub turn_of-requires-clause-sequential : goal.turn_of-requires-clause-sequential
turn_of-requires-clause-sequential g c =
    let condition = c.part.ensures ∙ ap (λ (x : Node). slice_index x.parts 1) c.node-node.ensures in
    subst (λ t. IsUnit t c.part.result) (sym c.requires.units) (subst (IsUnit c.args.self.now.tree) (sym condition) (is_unit c.requires.stands c.requires.kind))

pub turn_of-requires-clause-fits : goal.turn_of-requires-clause-fits
turn_of-requires-clause-fits g c =
    let m : Seen = c.args.self.now in
    let condition = c.part.ensures ∙ ap (λ (x : Node). slice_index x.parts 1) c.node-node.ensures in
    let body = c.front_body.ensures ∙ ap (λ k. (first_or credit (tokens_at m.queues k)).body) c.input-input.ensures in
    subst (λ t. IfValue c.front_body.result.now (λ words. HasFittingLength t c.part.result (length words))) (sym c.requires.units)
    (subst (λ k. IfValue c.front_body.result.now (λ words. HasFittingLength m.tree k (length words))) (sym condition)
    (subst (λ (x : Outcome). IfValue x (λ words. HasFittingLength m.tree (part_at m.tree c.args.process.now.node 1) (length words))) (sym body)
    (fitting c.requires.stands c.requires.kind c.requires.comes)))

pub returns : goal.returns
unfolding test_of turns_of spent_of state_of
returns g c =
    let m : Seen = c.args.self.now in
    let leaf : Leaf = g.U.Units.leaf c.args.units.now in
    let node : ℕ = c.args.process.now.node in
    let first : Token = first_or credit (tokens_at m.queues (in_of c.args.process.now 0)) in
    let spent : Node → Outcome = λ n. Trapped (record { kind = Turns; «module» = n.module }) in
    let condition = c.part.ensures ∙ ap (λ (x : Node). slice_index x.parts 1) c.node-node.ensures in
    let body = c.front_body.ensures ∙ ap (λ k. (first_or credit (tokens_at m.queues k)).body) c.input-input.ensures in
    let newest = c.front_newest_tag.ensures ∙ ap (λ k. newest_tag (first_or credit (tokens_at m.queues k))) c.input-input.ensures in
    let most = c.most_turns.ensures ∙ ap (λ (x : Node). most_turns x.form) c.node-node.ensures in
    let turn = ap₂ (λ t k. turn_of (outcome_of t leaf k) (spent c.node-node.result.now) (nat_lt c.front_newest_tag.result c.most_turns.result) c.front_body.result.now) c.requires.units condition
    ∙ ap₂ (λ a b. turn_of (outcome_of m.tree leaf (part_at m.tree node 1)) (spent c.node-node.result.now) (nat_lt a b) c.front_body.result.now) newest most
    ∙ ap₂ (λ (n : Node) (x : Outcome). turn_of (outcome_of m.tree leaf (part_at m.tree node 1)) (spent n) (nat_lt (newest_tag first) (most_turns (node_at m.tree node).form)) x) c.node-node.ensures body in
    subst (λ (x : Outcome). IfGivenOr c.turn_of.result (λ t. row_turn t x ≡ next_turn m.tree leaf (state_of m []) c.args.process.now) (g.U.Units.may_want ≡ true)) body
    (subst (λ z. IfGivenOr c.turn_of.result (λ t. row_turn t c.front_body.result.now ≡ z) (g.U.Units.may_want ≡ true)) turn c.turn_of.ensures)
