use Rattle.std.proofs.Common.{◌≤◌, ◌+◌, ◌∙◌, IfOk, ap, subst, sym}
use Rattle.p3l_stream.specs.Seen.{Seen, item_count, most_items}
use Rattle.p3l_stream.proofs.Counting.{answers_closed, closed_after, fewer_items}
use Rattle.p3l_stream.proofs.lines.Lines.next.Goals as goal

pub returns-in_ok-answer-in-None-clause-answers : goal.returns-in_ok-answer-in-None-clause-answers
returns-in_ok-answer-in-None-clause-answers g c is_open =
    rw (c.close.ensures, c.next_of-in-None.ensures.inverse, sym c.in_ok-answer-in-None.was) (answers_closed _ _ _ _ _ c.answer-answer.ensures.answers)

pub returns-in_ok-answer-in-None-clause-items : goal.returns-in_ok-answer-in-None-clause-items
returns-in_ok-answer-in-None-clause-items g c =
    rw (c.close.ensures, c.next_of-in-None.ensures.inverse)
    (subst (λ result. IfOk result (λ answer. item_count answer + most_items (closed_after c.answer-answer.new.self c.answer-answer.result) ≤ most_items c.args.self.now)) c.in_ok-answer-in-None.was
    (fewer_items _ _ _ _ (ap (λ (s : Seen). s.closed) (sym c.self.view_is) ∙ c.in-None.is) c.answer-answer.ensures.answers))
