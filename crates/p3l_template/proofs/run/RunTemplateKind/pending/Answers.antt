use Rattle.std.proofs.Common.{Some, ap}
use Rattle.p3l_template.specs.Finding.{if_orderly}
use Rattle.p3l_template.specs.RunKind.{run_finds}
use Rattle.p3l_template.proofs.run.RunTemplateKind.pending.Goals as goal

pub returns : goal.returns
unfolding if_orderly run_finds
returns c = ap Some c.new.ensures
