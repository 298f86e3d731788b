use Rattle.std.proofs.Common.{refl, subst, ap}
use Rattle.p3l_io.specs.Change.{change}
use Rattle.p3l_program.specs.Origin.{imaged}
use Rattle.p3l_program.specs.Plan.{network_in}
use Rattle.p3l_program.specs.Run.{IsRunOf, KeepsRun}
use Rattle.p3l_program.proofs.RunSteps.{run_expected, run_touched, run_unloaded}
use Rattle.p3l_program.proofs.exec.exec.Goals as goal

pub returns-in-Ok : goal.returns-in-Ok
returns-in-Ok g c =
    let loads = c.in-Ok.ensures.network in
    let net = network_in c.in-Ok.loaded in
    let observed = g.F.Files.observed in
    let end = observed c.run_network.new.files in
    let files = change (observed c.args.files.now) end in
    let input = change (g.S.Source.observed c.args.input.now) (g.S.Source.observed c.run_network.new.input) in
    let out = change (g.K.Sink.observed c.args.out.now) (g.K.Sink.observed c.run_network.new.out) in
    let same = ap (λ o. change o end) c.in-Ok.ensures.unchanged in
    let ran = subst (λ f. IsRunOf net f input out c.args.request c.args.trace c.args.reported c.run_network.result) same c.run_network.ensures.ran in
    let kept = subst (λ f. KeepsRun net f input out c.args.request c.args.trace c.run_network.result) same c.run_network.ensures.kept in
    record {
      expected = run_expected files input out (imaged c.args.name) net loads c.args.request c.args.trace c.args.reported c.run_network.result ran;
      kept = kept.kept;
      over = run_touched files input out (imaged c.args.name) net loads c.args.request c.args.trace c.run_network.result kept;
      wants = c.run_network.ensures.wants;
    }

pub returns-in-Err-clause-expected : goal.returns-in-Err-clause-expected
returns-in-Err-clause-expected g c =
    let input = change (g.S.Source.observed c.args.input.now) (g.S.Source.observed c.args.input.now) in
    let out = change (g.K.Sink.observed c.args.out.now) (g.K.Sink.observed c.args.out.now) in
    run_unloaded (change (g.F.Files.observed c.args.files.now) (g.F.Files.observed c.load_image.new.files)) input out (imaged c.args.name) c.args.request c.args.trace c.args.reported c.in-Err.verdict (record { same_content = refl; same_faults = refl })
    (record { same_content = refl; same_faults = refl }) c.in-Err.ensures.refused
