use Rattle.std.proofs.Common.{unwrap_or, length, ap, ◌∙◌}
use Rattle.p3l_sched.specs.Picks.{is_gap}
use Rattle.p3l_sched.proofs.Gaps.{all_gap, at_word, unwrap_or-position}
use Rattle.p3l_sched.proofs.word.next_word.Goals as goal

pub returns-in_err-start : goal.returns-in_err-start
returns-in_err-start c = rw c.from_residual.ensures (all_gap c.args.text.now c.in_err-start.ensures)

pub returns : goal.returns
returns c =
    at_word c.args.text.now _ c.split_at.result.1.now _ _ c.in_ok-start.start c.unwrap_or.result
    c.split_at.ensures.front c.split_at.ensures.back c.split_at-2.ensures.front c.split_at-2.ensures.back
    c.in_ok-start.ensures
    (c.unwrap_or.ensures ∙ ap (λ found. unwrap_or found (length c.split_at.result.1.now)) c.first_gap.ensures ∙ unwrap_or-position is_gap c.split_at.result.1.now)
