use Rattle.std.proofs.Common.{refl, subst, ap}
use Rattle.p3l_io.specs.Change.{change}
use Rattle.p3l_program.specs.Plan.{network_in}
use Rattle.p3l_program.specs.Time.{IsTimeOf, KeepsTime}
use Rattle.p3l_timed.specs.Price.{prices_of}
use Rattle.p3l_firing.specs.Typed.{IsTyped}
use Rattle.p3l_program.proofs.TimeSteps.{time_expected, time_touched, time_unloaded}
use Rattle.p3l_program.proofs.time.time.Goals as goal

pub time_linked-requires-clause-small : goal.time_linked-requires-clause-small
time_linked-requires-clause-small g c =
    let loaded = c.in-Ok.linked.network in
    let ready = c.in-Ok.ensures.ready in
    rw ready.net_is (c.linked_nets_have_small_prices.ensures loaded.tree c.in-Ok.linked.costs loaded.counts.list loaded.cap c.in-Ok.ensures.loaded.lawful (subst (IsTyped loaded.tree) ready.net_is ready.typed))

pub returns-in-Ok : goal.returns-in-Ok
returns-in-Ok g c =
    let loaded = c.in-Ok.linked.network in
    let net = network_in loaded in
    let prices = prices_of loaded.tree c.in-Ok.linked.costs loaded.net in
    let observed = g.F.Files.observed in
    let end = observed c.time_linked.new.files in
    let files = change (observed c.args.files.now) end in
    let input = change (g.S.Source.observed c.args.input.now) (g.S.Source.observed c.time_linked.new.input) in
    let out = change (g.K.Sink.observed c.args.out.now) (g.K.Sink.observed c.time_linked.new.out) in
    let same = ap (λ o. change o end) c.in-Ok.ensures.unchanged in
    let ran = subst (λ f. IsTimeOf net prices f input out c.args.picks c.time_linked.result) same c.time_linked.ensures.ran in
    let kept = subst (λ f. KeepsTime net prices f input out c.args.picks c.time_linked.result) same c.time_linked.ensures.kept in
    let loads = c.in-Ok.ensures.loaded in
    record {
      expected = time_expected files input out c.args.build net prices loads.network loads.priced c.args.picks c.time_linked.result ran;
      kept = kept.kept;
      over = time_touched files input out c.args.build net prices loads.network loads.priced c.args.picks c.time_linked.result kept;
      wants = c.time_linked.ensures.wants;
    }

pub returns-in-Err-clause-expected : goal.returns-in-Err-clause-expected
returns-in-Err-clause-expected g c =
    let input = change (g.S.Source.observed c.args.input.now) (g.S.Source.observed c.args.input.now) in
    let out = change (g.K.Sink.observed c.args.out.now) (g.K.Sink.observed c.args.out.now) in
    time_unloaded (change (g.F.Files.observed c.args.files.now) (g.F.Files.observed c.load_linked.new.files)) input out c.args.build c.args.picks c.in-Err.verdict (record { same_content = refl; same_faults = refl })
    (record { same_content = refl; same_faults = refl }) c.in-Err.ensures.refused
