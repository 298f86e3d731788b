use Rattle.p3l_program.proofs.plan.load_network.Goals as goal

pub returns-in-Ok-clause-network : goal.returns-in-Ok-clause-network
returns-in-Ok-clause-network g c = c.in-Ok.ensures.loaded.network
