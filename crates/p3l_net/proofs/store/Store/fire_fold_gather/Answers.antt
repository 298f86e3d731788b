use Rattle.std.proofs.Common.{[], ◌∷◌, sym, ap, ◌∙◌, subst}
use Rattle.p3l_firing.specs.Lists.{first_or}
use Rattle.p3l_firing.specs.State.{own_at, gathering}
use Rattle.p3l_firing.specs.Token.{credit}
use Rattle.p3l_net.specs.Channel.{tokens_at}
use Rattle.p3l_net.specs.Machine.{Seen}
use Rattle.p3l_net.specs.Steps.{CanTake, ticked, with_own, without_first}
use Rattle.p3l_net.proofs.Standing.{here, is_kind, own_there, within_room}
use Rattle.p3l_net.proofs.Given.{or_both}
use Rattle.p3l_net.proofs.step.FoldGather.{held_few, takes, fired_taken}
use Rattle.p3l_net.proofs.store.Store.fire_fold_gather.Goals as goal

pub process-process-requires : goal.process-process-requires
process-process-requires g c = c.requires.may.there

pub has_all_outcomes-requires : goal.has_all_outcomes-requires
has_all_outcomes-requires g c = own_there (here c.requires.may c.process-process.ensures)

pub outcome_line-line-requires-clause-there : goal.outcome_line-line-requires-clause-there
outcome_line-line-requires-clause-there g c = own_there (here c.requires.may c.process-process.ensures)

pub outcome_line-line-requires-clause-more : goal.outcome_line-line-requires-clause-more
outcome_line-line-requires-clause-more g c =
    held_few (here c.requires.may c.process-process.ensures) (is_kind c.requires.may c.process-process.ensures) (sym c.has_all_outcomes.ensures ∙ c.if-has_all_outcomes.false)

pub take_piece-requires-clause-there : goal.take_piece-requires-clause-there
take_piece-requires-clause-there g c = own_there (here c.requires.may c.process-process.ensures)

pub take_piece-requires-clause-token : goal.take_piece-requires-clause-token
take_piece-requires-clause-token g c =
    subst (CanTake c.args.self.now) (sym c.outcome_line-line.ensures) (takes c.requires.may c.process-process.ensures (sym c.has_all_outcomes.ensures ∙ c.if-has_all_outcomes.false))

pub take_piece-requires-clause-room : goal.take_piece-requires-clause-room
take_piece-requires-clause-room g c = within_room (here c.requires.may c.process-process.ensures) c.outcome_line-line.result

pub take_piece-requires-clause-count : goal.take_piece-requires-clause-count
take_piece-requires-clause-count g c = c.requires.may.count

pub returns-else-has_all_outcomes-clause-done : goal.returns-else-has_all_outcomes-clause-done
returns-else-has_all_outcomes-clause-done g c =
    let m : Seen = c.args.self.now in
    let line = c.outcome_line-line.ensures in
    or_both _ c.take_piece.result c.take_piece.ensures.after c.take_piece.ensures.touched
    (λ touched after named.
    fired_taken c.requires.may c.process-process.ensures (sym c.has_all_outcomes.ensures ∙ c.if-has_all_outcomes.false) (g.U.Units.leaf c.args.units.now) _
    (after ∙ ap (λ k. ticked (with_own (without_first m k) c.args.p (gathering (own_at m.owns c.args.p) (first_or credit (tokens_at m.queues k))))) line)
    touched (named ∙ ap (λ k. k ∷ []) line))
