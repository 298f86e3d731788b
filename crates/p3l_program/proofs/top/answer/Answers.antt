use Rattle.std.proofs.Common.{inl}
use Rattle.p3l_report.specs.declared.verdict.Verdict.TheVariants as verdict
use Rattle.p3l_program.proofs.ExpectedSteps.{expected_no_memory}
use Rattle.p3l_program.proofs.top.answer.Goals as goal

pub returns : goal.returns
returns g c = record {
  answers = record {
    verdict = verdict.NoMemory;
    status_is = c.status-in-Err.ensures;
    expected = expected_no_memory _ _ c.perform-verdict.result c.perform-verdict.ensures.expected;
    says = c.put_no_memory.ensures.known;
    begins_to_say = c.put_no_memory.ensures.begun;
    wants = inl (inl c.in-Err.ensures.text);
  };
}
