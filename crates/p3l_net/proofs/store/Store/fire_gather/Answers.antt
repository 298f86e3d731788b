use Rattle.std.proofs.Common.{[], ◌∷◌, sym, ap, ◌∙◌, subst}
use Rattle.p3l_firing.specs.Lists.{first_or}
use Rattle.p3l_firing.specs.State.{own_at, gathering}
use Rattle.p3l_firing.specs.Token.{credit}
use Rattle.p3l_net.specs.Channel.{tokens_at}
use Rattle.p3l_net.specs.Machine.{Seen}
use Rattle.p3l_net.specs.Steps.{CanTake, ticked, with_own, without_first}
use Rattle.p3l_net.proofs.Standing.{here, is_kind, within_room}
use Rattle.p3l_net.proofs.Given.{match_both}
use Rattle.p3l_net.proofs.step.Gather.{fits_gather, some_ins, is_map, takes, fired_taken}
use Rattle.p3l_net.proofs.store.Store.fire_gather.Goals as goal

pub result_line-line-requires-clause-some : goal.result_line-line-requires-clause-some
result_line-line-requires-clause-some c = some_ins (here c.requires c.process-process.ensures) (is_kind c.requires c.process-process.ensures)

pub has_all_results-requires-clause-node : goal.has_all_results-requires-clause-node
has_all_results-requires-clause-node c = (fits_gather (here c.requires c.process-process.ensures) (is_kind c.requires c.process-process.ensures)).node

pub has_all_results-requires-clause-map : goal.has_all_results-requires-clause-map
has_all_results-requires-clause-map c = is_map (here c.requires c.process-process.ensures) (is_kind c.requires c.process-process.ensures)

pub take_piece-requires-clause-token : goal.take_piece-requires-clause-token
take_piece-requires-clause-token c =
    subst (CanTake c.args.self.now) (sym c.result_line-line.ensures) (takes c.requires c.process-process.ensures (sym c.has_all_results.ensures ∙ c.if-has_all_results.false))

pub take_piece-requires-clause-room : goal.take_piece-requires-clause-room
take_piece-requires-clause-room c = within_room (here c.requires c.process-process.ensures) c.result_line-line.result

pub returns-else-has_all_results-clause-done : goal.returns-else-has_all_results-clause-done
returns-else-has_all_results-clause-done c =
    let m : Seen = c.args.self.now in
    let line = c.result_line-line.ensures in
    match_both _ c.take_piece.result c.take_piece.ensures.after c.take_piece.ensures.touched
    (λ touched after named leaf.
    fired_taken c.requires c.process-process.ensures (sym c.has_all_results.ensures ∙ c.if-has_all_results.false) leaf _
    (after ∙ ap (λ k. ticked (with_own (without_first m k) c.args.p (gathering (own_at m.owns c.args.p) (first_or credit (tokens_at m.queues k))))) line)
    touched (named ∙ ap (λ k. k ∷ []) line))
