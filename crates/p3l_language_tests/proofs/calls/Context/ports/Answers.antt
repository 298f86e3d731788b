use Rattle.p3l_check.proofs.Measured.{given-ins, given-outs}
use Rattle.p3l_language_tests.proofs.calls.Context.ports.Goals as goal

pub returns-clause-ins : goal.returns-clause-ins
returns-clause-ins c = given-ins _ c.args.self.now.consts.now c.as_slice-ins.result.now c.as_slice-outs.result.now c.ports_of.ensures.ports

pub returns-clause-outs : goal.returns-clause-outs
returns-clause-outs c = given-outs _ c.args.self.now.consts.now c.as_slice-ins.result.now c.as_slice-outs.result.now c.ports_of.ensures.ports
