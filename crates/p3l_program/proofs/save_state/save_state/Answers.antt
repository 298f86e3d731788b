use Rattle.std.proofs.Common.{subst, ap}
use Rattle.p3l_io.specs.Change.{change}
use Rattle.p3l_program.specs.Plan.{network_in}
use Rattle.p3l_program.specs.SaveState.{IsSaveOf, KeepsSave}
use Rattle.p3l_program.proofs.SaveStateSteps.{save_expected, save_touched}
use Rattle.p3l_program.proofs.save_state.save_state.Goals as goal

pub returns-in-Ok-clause-expected : goal.returns-in-Ok-clause-expected
returns-in-Ok-clause-expected g c =
    let imaged = c.in-Ok.imaged in
    let net = network_in imaged.network in
    let observed = g.F.Files.observed in
    let end = observed c.save_network.new.files in
    let files = change (observed c.args.files.now) end in
    let input = change (g.S.Source.observed c.args.input.now) (g.S.Source.observed c.save_network.new.input) in
    let out = change (g.K.Sink.observed c.args.out.now) (g.K.Sink.observed c.save_network.new.out) in
    let same = ap (λ o. change o end) c.in-Ok.ensures.unchanged in
    let loads = c.in-Ok.ensures.loaded in
    let saved = subst (λ f. IsSaveOf net imaged.network.counts.list imaged.network.cap imaged.image f input out c.args.name c.args.output c.save_network.result) same c.save_network.ensures.saved in
    let moved = subst (λ k. IsSaveOf net imaged.network.counts.list k imaged.image files input out c.args.name c.args.output c.save_network.result) loads.capacity_is saved in
    save_expected files input out c.args.build c.args.name net imaged.network.counts.list imaged.image loads.network loads.has c.args.output c.save_network.result moved

pub returns-in-Ok-clause-over : goal.returns-in-Ok-clause-over
returns-in-Ok-clause-over g c =
    let imaged = c.in-Ok.imaged in
    let net = network_in imaged.network in
    let observed = g.F.Files.observed in
    let end = observed c.save_network.new.files in
    let files = change (observed c.args.files.now) end in
    let input = change (g.S.Source.observed c.args.input.now) (g.S.Source.observed c.save_network.new.input) in
    let out = change (g.K.Sink.observed c.args.out.now) (g.K.Sink.observed c.save_network.new.out) in
    let same = ap (λ o. change o end) c.in-Ok.ensures.unchanged in
    let loads = c.in-Ok.ensures.loaded in
    let kept = subst (λ f. KeepsSave net f input out c.args.name c.args.output c.save_network.result) same c.save_network.ensures.kept in
    save_touched files input out c.args.build c.args.name net imaged.network.counts.list imaged.image loads.network loads.has c.args.output c.save_network.result kept
