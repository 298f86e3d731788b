use Rattle.std.proofs.Common.{◌<◌, length, sym, ap, ◌∙◌, subst}
use Rattle.std.proofs.lemmas.Bool.{cond-true, cond-false}
use Rattle.p3l_firing.specs.Lists.{has_first}
use Rattle.p3l_net.specs.Channel.{tokens_at}
use Rattle.p3l_net.specs.Steps.{room_at}
use Rattle.p3l_net.proofs.Standing.{one_long, own_there}
use Rattle.p3l_net.proofs.step.Gather.{fits_gather, out_there, line_there, some_ins, is_map, is_ready}
use Rattle.p3l_net.proofs.store.Store.can_gather.Goals as goal

pub has_all_results-requires-clause-node : goal.has_all_results-requires-clause-node
has_all_results-requires-clause-node c = (fits_gather c.requires.stands c.requires.kind).node

pub has_all_results-requires-clause-map : goal.has_all_results-requires-clause-map
has_all_results-requires-clause-map c = is_map c.requires.stands c.requires.kind

pub output-output-requires : goal.output-output-requires
output-output-requires c = one_long _ _ (fits_gather c.requires.stands c.requires.kind).outs

pub has_room-requires : goal.has_room-requires
has_room-requires c = subst (λ k. k < length c.args.self.now.queues) (sym c.output-output.ensures) (out_there c.requires.stands c.requires.kind)

pub result_line-line-requires-clause-there : goal.result_line-line-requires-clause-there
result_line-line-requires-clause-there c = own_there c.requires.stands

pub result_line-line-requires-clause-some : goal.result_line-line-requires-clause-some
result_line-line-requires-clause-some c = some_ins c.requires.stands c.requires.kind

pub has_token-requires : goal.has_token-requires
has_token-requires c = subst (λ k. k < length c.args.self.now.queues) (sym c.result_line-line.ensures) (line_there c.requires.stands c.requires.kind)

pub returns-then-has_all_results : goal.returns-then-has_all_results
returns-then-has_all_results c =
    c.has_room.ensures ∙ ap (room_at c.args.self.now) c.output-output.ensures
    ∙ sym (is_ready c.requires.stands c.requires.kind ∙ cond-true _ _ _ (sym c.has_all_results.ensures ∙ c.if-has_all_results.true))

pub returns-else-has_all_results : goal.returns-else-has_all_results
returns-else-has_all_results c =
    c.has_token.ensures ∙ ap (λ k. has_first (tokens_at c.args.self.now.queues k)) c.result_line-line.ensures
    ∙ sym (is_ready c.requires.stands c.requires.kind ∙ cond-false _ _ _ (sym c.has_all_results.ensures ∙ c.if-has_all_results.false))
