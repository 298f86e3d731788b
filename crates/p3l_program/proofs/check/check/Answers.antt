use Rattle.p3l_program.proofs.check.check.Goals as goal

pub returns-clause-wants : goal.returns-clause-wants
returns-clause-wants g c = c.write_text.ensures.wants g.F.Files.may_want
