use Rattle.std.proofs.Common.{[], ◌∷◌, refl, subst, ap}
use Rattle.p3l_io.specs.Change.{change}
use Rattle.p3l_program.specs.Plan.{network_in}
use Rattle.p3l_program.specs.Stage.{build_stages, readable, traced}
use Rattle.p3l_program.specs.Trace.{BeginsTrace, EndsTrace, IsCheckOf, check_stages}
use Rattle.p3l_program.specs.TraceFile.{trace_limit}
use Rattle.p3l_program.specs.World.{world}
use Rattle.p3l_program.proofs.LoadSteps.{not_loaded_front}
use Rattle.p3l_program.proofs.TextSteps.{not_loaded}
use Rattle.p3l_program.proofs.TraceSteps.{check_expected}
use Rattle.p3l_program.proofs.check_trace.check_trace.Goals as goal

pub returns-in-Ok-clause-expected : goal.returns-in-Ok-clause-expected
returns-in-Ok-clause-expected g c =
    let net = network_in c.in-Ok.loaded in
    let observed = g.F.Files.observed in
    let end = observed c.check_network.new.files in
    let files = change (observed c.args.files.now) end in
    let input = change (g.S.Source.observed c.args.input.now) (g.S.Source.observed c.check_network.new.input) in
    let out = change (g.K.Sink.observed c.args.out.now) (g.K.Sink.observed c.check_network.new.out) in
    let same = ap (λ o. change o end) c.in-Ok.ensures.unchanged in
    let checked = subst (λ f. IsCheckOf net f input out c.args.name c.check_network.result) same c.check_network.ensures.checked in
    check_expected files input out c.args.build net c.in-Ok.ensures.network c.args.name c.check_network.result checked

pub returns-in-Err-clause-expected : goal.returns-in-Err-clause-expected
returns-in-Err-clause-expected g c =
    let files = change (g.F.Files.observed c.args.files.now) (g.F.Files.observed c.load_network.new.files) in
    let input = change (g.S.Source.observed c.args.input.now) (g.S.Source.observed c.args.input.now) in
    let out = change (g.K.Sink.observed c.args.out.now) (g.K.Sink.observed c.args.out.now) in
    let build = c.args.build in
    let name = c.args.name in
    let w = world files input out in
    not_loaded w (check_stages build name) (EndsTrace w build name) (BeginsTrace w build name) ⊥ c.in-Err.verdict (record { same_content = refl; same_faults = refl }) (record { same_content = refl; same_faults = refl })
    (not_loaded_front files (build_stages build) (readable trace_limit name ∷ (traced name ∷ [])) c.in-Err.verdict c.in-Err.ensures.refused)
