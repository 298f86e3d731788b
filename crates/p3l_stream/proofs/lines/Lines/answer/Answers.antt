use Rattle.std.proofs.Common.{◌∙◌, ap}
use Rattle.p3l_stream.specs.Answers.{answer_for}
use Rattle.p3l_stream.specs.Seen.{Seen}
use Rattle.p3l_stream.proofs.Requests.{are_passed, is_filled}
use Rattle.p3l_stream.proofs.AtHand.{answers_after, finds_at_hand, no_line}
use Rattle.p3l_stream.proofs.lines.Lines.answer.Goals as goal

pub returns-in-Some-clause-answers : goal.returns-in-Some-clause-answers
returns-in-Some-clause-answers g c =
    finds_at_hand _ _ _ c.in-Some.line _ c.requires.within c.requires.below
    (is_filled _ _ _ _ c.in_ok-line.ensures.ok c.in-Some.is)
    (c.answer_for.ensures ∙ ap (λ (s : Seen). answer_for c.in-Some.line s.passed) c.self.view_is)

pub returns-in-None-clause-answers : goal.returns-in-None-clause-answers
returns-in-None-clause-answers g c =
    answers_after _ _ _ _ _ (are_passed _ _ _ c.in_ok-line.ensures.ok c.in-None.is).0 c.read_on.ensures.answers

pub returns-in-None-clause-ready : goal.returns-in-None-clause-ready
returns-in-None-clause-ready g c has =
    let passed = are_passed _ _ _ c.in_ok-line.ensures.ok c.in-None.is in
    absurd (no_line _ _ passed.0 passed.1 has)
