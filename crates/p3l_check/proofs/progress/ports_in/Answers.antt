use Rattle.p3l_check.proofs.Measured.{given-ins, given-outs}
use Rattle.p3l_check.proofs.progress.ports_in.Goals as goal

pub returns-clause-ins : goal.returns-clause-ins
returns-clause-ins c = given-ins _ c.args.consts.now c.as_slice.result.now c.as_slice-2.result.now c.ports_of.ensures.ports

pub returns-clause-outs : goal.returns-clause-outs
returns-clause-outs c = given-outs _ c.args.consts.now c.as_slice.result.now c.as_slice-2.result.now c.ports_of.ensures.ports
