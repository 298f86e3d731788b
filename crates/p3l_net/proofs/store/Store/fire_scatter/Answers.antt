use Rattle.std.proofs.Common.{[], ◌∷◌, sym, ap, ◌∙◌, subst}
use Rattle.p3l_firing.specs.Lists.{first_or}
use Rattle.p3l_firing.specs.State.{holding}
use Rattle.p3l_firing.specs.Token.{credit}
use Rattle.p3l_net.specs.Channel.{tokens_at}
use Rattle.p3l_net.specs.Steps.{CanTake, ticked, with_own, without_first}
use Rattle.p3l_net.proofs.Standing.{one_long, here, is_kind}
use Rattle.p3l_net.proofs.step.Scatter.{fits_scatter, takes, fired_taken}
use Rattle.p3l_net.proofs.store.Store.fire_scatter.Goals as goal

pub input-input-requires : goal.input-input-requires
input-input-requires c = one_long _ _ (fits_scatter (here c.requires c.process-process.ensures) (is_kind c.requires c.process-process.ensures)).ins

pub take_whole-requires-clause-token : goal.take_whole-requires-clause-token
take_whole-requires-clause-token c =
    subst (CanTake c.args.self.now) (sym c.input-input.ensures) (takes c.requires c.process-process.ensures (sym c.is_holding.ensures ∙ c.if-is_holding.false))

pub returns-else-is_holding-clause-done : goal.returns-else-is_holding-clause-done
returns-else-is_holding-clause-done c = λ leaf.
    fired_taken c.requires c.process-process.ensures (sym c.is_holding.ensures ∙ c.if-is_holding.false) leaf _
    (c.take_whole.ensures.after
    ∙ ap (λ k. ticked (with_own (without_first c.args.self.now k) c.args.p (holding (first_or credit (tokens_at c.args.self.now.queues k))))) c.input-input.ensures)
    _ (c.take_whole.ensures.touched ∙ ap (λ k. k ∷ []) c.input-input.ensures)
