use Rattle.std.proofs.Common.{[], ◌∷◌}
use Rattle.p3l_io.specs.Change.{change}
use Rattle.p3l_program.specs.Stage.{program_stages, scannable}
use Rattle.p3l_program.proofs.FileSteps.{unchanged_faults}
use Rattle.p3l_program.proofs.LoadSteps.{not_loaded_front}
use Rattle.p3l_program.proofs.ScanSteps.{not_scanned}
use Rattle.p3l_program.proofs.scan.load_scan.Goals as goal

pub returns-in-Err-clause-refused : goal.returns-in-Err-clause-refused
returns-in-Err-clause-refused g c =
    not_loaded_front (change (g.F.Files.observed c.args.files.now) (g.F.Files.observed c.load_program.new.files)) (program_stages c.args.name) (scannable c.args.name c.args.segments ∷ []) c.in-Err.verdict c.in-Err.ensures.refused

pub returns-in-Err-can_scan-clause-refused : goal.returns-in-Err-can_scan-clause-refused
returns-in-Err-can_scan-clause-refused g c =
    let loads = c.in-Ok.ensures.loaded in
    not_scanned c.args.name c.args.segments loads.r (change (g.F.Files.observed c.args.files.now) (g.F.Files.observed c.load_program.new.files)) c.in-Ok.program loads.is.text loads.is.has
    loads.is.comes c.in-Err-can_scan.refusal c.in-Err-can_scan.ensures.refused (unchanged_faults c.in-Ok.ensures.unchanged)
