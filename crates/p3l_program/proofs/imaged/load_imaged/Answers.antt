use Rattle.p3l_program.proofs.ImagedSteps.{loads_imaged}
use Rattle.p3l_program.proofs.imaged.load_imaged.Goals as goal

pub returns-in-Ok-clause-loaded : goal.returns-in-Ok-clause-loaded
returns-in-Ok-clause-loaded g c =
    let loads = c.in_ok-allotted.ensures.loaded in
    loads_imaged (g.F.Files.observed c.args.files.now).content c.args.build loads.r c.in_ok-allotted.allotted loads.is c.requires.processors.1 c.requires.capacity.0
    c.in-Ok.imaged c.in-Ok.ensures
