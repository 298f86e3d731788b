use Rattle.std.proofs.Common.{refl}
use Rattle.p3l_stream.proofs.Passed.{is_passed, passed_blank}
use Rattle.p3l_stream.proofs.lines.Lines.pass_blanks.Goals as goal

pub loop-line-preserved : goal.loop-line-preserved
loop-line-preserved c = passed_blank _ _ _ _ c.loop-line.invariant (is_passed _ _ _ _ c.in_ok-line.ensures.ok c.in-Some.is) (c.if-not-is_blank.ensures.0 refl)
