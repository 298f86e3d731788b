use Rattle.p3l_program.proofs.advise.advise.Goals as goal

pub returns-then-processes-clause-expected : goal.returns-then-processes-clause-expected
returns-then-processes-clause-expected g c = rw c.if-processes.true c.list_processes.ensures.expected

pub returns-else-processes-clause-expected : goal.returns-else-processes-clause-expected
returns-else-processes-clause-expected g c = rw c.if-processes.false c.write_advice.ensures.expected
