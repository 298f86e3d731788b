use Rattle.std.proofs.Common.{None, refl, subst, ap}
use Rattle.p3l_io.specs.Change.{change}
use Rattle.p3l_program.specs.Origin.{scanned}
use Rattle.p3l_program.specs.Plan.{scan_network}
use Rattle.p3l_program.specs.Run.{IsRunOf, KeepsRun}
use Rattle.p3l_program.proofs.RunSteps.{run_expected, run_touched, run_unloaded}
use Rattle.p3l_program.proofs.ScanSteps.{scan_loaded, scan_ready}
use Rattle.p3l_program.proofs.scan.scan.Goals as goal

pub run_scan-requires-clause-ready : goal.run_scan-requires-clause-ready
run_scan-requires-clause-ready g c =
    let loads = c.in-Ok.ensures.loaded in
    scan_ready c.args.name c.args.segments loads.r c.args.capacity c.in-Ok.loaded (g.F.Files.observed c.args.files.now).content loads.is

pub returns-in-Ok : goal.returns-in-Ok
returns-in-Ok g c =
    let loads = c.in-Ok.ensures.loaded in
    let compiled = loads.is.program.comes.compiled in
    let net = scan_network loads.r c.in-Ok.loaded.plan c.args.capacity in
    let origin = scanned c.args.name c.args.segments c.args.capacity in
    let observed = g.F.Files.observed in
    let end = observed c.run_scan.new.files in
    let files = change (observed c.args.files.now) end in
    let input = change (g.S.Source.observed c.args.input.now) (g.S.Source.observed c.run_scan.new.input) in
    let out = change (g.K.Sink.observed c.args.out.now) (g.K.Sink.observed c.run_scan.new.out) in
    let same = ap (λ o. change o end) c.in-Ok.ensures.unchanged in
    let ran = subst (λ f. IsRunOf net f input out c.args.request None c.args.reported c.run_scan.result) same (c.run_scan.ensures.ran loads.r compiled) in
    let kept = subst (λ f. KeepsRun net f input out c.args.request None c.run_scan.result) same (c.run_scan.ensures.kept loads.r compiled) in
    let network = scan_loaded c.args.name c.args.segments loads.r c.args.capacity c.in-Ok.loaded (observed c.args.files.now).content loads.is in
    record {
      expected = run_expected files input out origin net network c.args.request None c.args.reported c.run_scan.result ran;
      kept = kept.kept;
      over = run_touched files input out origin net network c.args.request None c.run_scan.result kept;
      wants = c.run_scan.ensures.wants;
    }

pub returns-in-Err-clause-expected : goal.returns-in-Err-clause-expected
returns-in-Err-clause-expected g c =
    let input = change (g.S.Source.observed c.args.input.now) (g.S.Source.observed c.args.input.now) in
    let out = change (g.K.Sink.observed c.args.out.now) (g.K.Sink.observed c.args.out.now) in
    run_unloaded (change (g.F.Files.observed c.args.files.now) (g.F.Files.observed c.load_scan.new.files)) input out (scanned c.args.name c.args.segments c.args.capacity) c.args.request None c.args.reported c.in-Err.verdict (record { same_content = refl; same_faults = refl })
    (record { same_content = refl; same_faults = refl }) c.in-Err.ensures.refused
