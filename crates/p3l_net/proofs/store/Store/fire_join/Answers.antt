use Rattle.std.proofs.Common.{ℕ, ◌+◌, ◌<◌, [], ◌∷◌, length, slice_index, sym, ap, ap₂, ◌∙◌, subst, arith, length-set}
use Rattle.p3l_base.specs.declared.outcome.Outcome.{Outcome}
use Rattle.p3l_skel.specs.declared.tree.Node.{Node}
use Rattle.p3l_skel.specs.Tree.{HasFittingLength, IsUnit, part_at}
use Rattle.p3l_skel.specs.Fold.{combined}
use Rattle.p3l_skel.specs.Item.{item}
use Rattle.p3l_firing.specs.declared.process.Proc.{Proc}
use Rattle.p3l_firing.specs.declared.token.Token.{Token}
use Rattle.p3l_firing.specs.Lists.{first_or}
use Rattle.p3l_firing.specs.Token.{credit}
use Rattle.p3l_firing.specs.Nodes.{Leaf, operator_of}
use Rattle.p3l_firing.specs.kinds.Join.{paired_by}
use Rattle.p3l_firing.specs.Process.{in_of}
use Rattle.p3l_net.specs.Channel.{tokens_at}
use Rattle.p3l_net.specs.Machine.{Seen}
use Rattle.p3l_net.specs.Steps.{CanTake, CanPut, IfValues, without_first, with_last, ticked}
use Rattle.p3l_net.proofs.Standing.{one_long, put_after_take, take_after_take, here, is_kind}
use Rattle.p3l_net.proofs.step.Join.{fits_join, in_long, takes_left, takes_right, apart, puts, is_unit, fitting, joined, fired}
use Rattle.p3l_net.proofs.store.Store.fire_join.Goals as goal

pub process-process-requires : goal.process-process-requires
process-process-requires g c = c.requires.may.there

pub nth_input-left-requires : goal.nth_input-left-requires
nth_input-left-requires g c = let long = in_long (here c.requires.may c.process-process.ensures) (is_kind c.requires.may c.process-process.ensures) in omega (arith, long)

pub nth_input-right-requires : goal.nth_input-right-requires
nth_input-right-requires g c = let long = in_long (here c.requires.may c.process-process.ensures) (is_kind c.requires.may c.process-process.ensures) in omega (arith, long)

pub output-output-requires : goal.output-output-requires
output-output-requires g c = one_long _ _ (fits_join (here c.requires.may c.process-process.ensures) (is_kind c.requires.may c.process-process.ensures)).outs

pub node-requires : goal.node-requires
node-requires g c = (fits_join (here c.requires.may c.process-process.ensures) (is_kind c.requires.may c.process-process.ensures)).node

pub front_body-requires : goal.front_body-requires
front_body-requires g c = subst (CanTake c.args.self.now) (sym c.nth_input-left.ensures) (takes_left c.requires.may c.process-process.ensures)

pub front_body-requires-2 : goal.front_body-requires-2
front_body-requires-2 g c = subst (CanTake c.args.self.now) (sym c.nth_input-right.ensures) (takes_right c.requires.may c.process-process.ensures)

pub combined_of-requires-clause-sequential : goal.combined_of-requires-clause-sequential
combined_of-requires-clause-sequential g c =
    let operator = c.part-operator.ensures ∙ ap (λ (x : Node). slice_index x.parts 0) c.node.ensures in
    subst (λ t. IsUnit t c.part-operator.result) (sym c.requires.units)
    (subst (IsUnit c.args.self.now.tree) (sym operator) (is_unit c.requires.may c.process-process.ensures))

pub combined_of-requires-clause-fits : goal.combined_of-requires-clause-fits
combined_of-requires-clause-fits g c =
    let m : Seen = c.args.self.now in
    let operator = c.part-operator.ensures ∙ ap (λ (x : Node). slice_index x.parts 0) c.node.ensures in
    let left = c.front_body.ensures ∙ ap (λ k. (first_or credit (tokens_at m.queues k)).body) c.nth_input-left.ensures in
    let right = c.front_body-2.ensures ∙ ap (λ k. (first_or credit (tokens_at m.queues k)).body) c.nth_input-right.ensures in
    subst (λ t. IfValues c.front_body.result.now c.front_body-2.result.now (λ v w. HasFittingLength t c.part-operator.result (length v + length w))) (sym c.requires.units)
    (subst (λ o. IfValues c.front_body.result.now c.front_body-2.result.now (λ v w. HasFittingLength m.tree o (length v + length w))) (sym operator)
    (subst (λ (x : Outcome). IfValues x c.front_body-2.result.now (λ v w. HasFittingLength m.tree (part_at m.tree c.process-process.result.now.node 0) (length v + length w))) (sym left)
    (subst (λ (x : Outcome). IfValues (first_or credit (tokens_at m.queues (in_of c.process-process.result.now 0))).body x (λ v w. HasFittingLength m.tree (part_at m.tree c.process-process.result.now.node 0) (length v + length w))) (sym right)
    (fitting c.requires.may c.process-process.ensures))))

pub take-token-requires : goal.take-token-requires
take-token-requires g c = subst (CanTake c.args.self.now) (sym c.nth_input-left.ensures) (takes_left c.requires.may c.process-process.ensures)

pub take-right-requires : goal.take-right-requires
take-right-requires g c =
    subst (λ (x : Seen). CanTake x c.nth_input-right.result) (sym c.take-token.ensures.after)
    (take_after_take c.nth_input-left.result
    (λ e. apart c.requires.may c.process-process.ensures (sym c.nth_input-right.ensures ∙ e ∙ c.nth_input-left.ensures))
    (subst (CanTake c.args.self.now) (sym c.nth_input-right.ensures) (takes_right c.requires.may c.process-process.ensures)))

pub put-requires : goal.put-requires
put-requires g c =
    let left = (subst (CanTake c.args.self.now) (sym c.nth_input-left.ensures) (takes_left c.requires.may c.process-process.ensures)).there in
    let right = (subst (CanTake c.args.self.now) (sym c.nth_input-right.ensures) (takes_right c.requires.may c.process-process.ensures)).there in
    let can = put_after_take c.nth_input-left.result left (subst (CanPut c.args.self.now) (sym c.output-output.ensures) (puts c.requires.may c.process-process.ensures)) in
    subst (λ (x : Seen). CanPut x c.output-output.result)
    (sym (c.take-right.ensures.after ∙ ap (λ (x : Seen). without_first x c.nth_input-right.result) c.take-token.ensures.after))
    (put_after_take c.nth_input-right.result (subst (λ n. c.nth_input-right.result < n) (sym (length-set c.args.self.now.queues c.nth_input-left.result _)) right) can)

pub returns-clause-done : goal.returns-clause-done
unfolding paired_by operator_of
returns-clause-done g c =
    let m : Seen = c.args.self.now in
    let leaf : Leaf = g.U.Units.leaf c.args.units.now in
    let q : Proc = c.process-process.result.now in
    let a : ℕ = in_of q 0 in
    let b : ℕ = in_of q 1 in
    let first : ℕ → Token = λ k. first_or credit (tokens_at m.queues k) in
    let operator = c.part-operator.ensures ∙ ap (λ (x : Node). slice_index x.parts 0) c.node.ensures in
    let left = c.front_body.ensures ∙ ap (λ k. (first k).body) c.nth_input-left.ensures in
    let right = c.front_body-2.ensures ∙ ap (λ k. (first k).body) c.nth_input-right.ensures in
    let made = c.in_ok-outcome.ensures
    ∙ ap₂ (λ t k. combined (item t leaf k) c.front_body.result.now c.front_body-2.result.now) c.requires.units operator
    ∙ ap₂ (λ (x y : Outcome). combined (item m.tree leaf (part_at m.tree q.node 0)) x y) left right in
    let token = c.with_body.ensures ∙ ap₂ (λ (x : Token) o. record x { body = o }) (c.take-token.ensures.front ∙ ap first c.nth_input-left.ensures) made in
    let sent : Token = joined c.requires.may c.process-process.ensures leaf in
    let taken = c.take-right.ensures.after
    ∙ ap (λ (x : Seen). without_first x c.nth_input-right.result) c.take-token.ensures.after
    ∙ ap₂ (λ i j. without_first (without_first m i) j) c.nth_input-left.ensures c.nth_input-right.ensures in
    fired c.requires.may c.process-process.ensures leaf _
    (c.tick.ensures
    ∙ ap ticked (c.put.ensures
    ∙ ap₂ (λ (x : Seen) t. with_last x c.output-output.result t) taken token
    ∙ ap (λ k. with_last (without_first (without_first m a) b) k sent) c.output-output.ensures))
    _ (c.three.ensures ∙ ap₂ (λ i j. i ∷ (j ∷ (c.output-output.result ∷ []))) c.nth_input-left.ensures c.nth_input-right.ensures ∙ ap (λ o. a ∷ (b ∷ (o ∷ []))) c.output-output.ensures)
