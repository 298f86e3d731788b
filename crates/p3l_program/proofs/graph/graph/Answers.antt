use Rattle.std.proofs.Common.{refl, subst}
use Rattle.p3l_io.specs.Change.{change}
use Rattle.p3l_program.specs.Graph.{IsDrawn}
use Rattle.p3l_program.specs.Stage.{build_stages}
use Rattle.p3l_program.specs.Text.{IsWritten}
use Rattle.p3l_program.specs.Plan.{network_in}
use Rattle.p3l_program.proofs.FileSteps.{unchanged_faults}
use Rattle.p3l_program.proofs.TextSteps.{text_expected}
use Rattle.p3l_program.proofs.graph.graph.Goals as goal

pub graph_text-requires : goal.graph_text-requires
graph_text-requires g c = c.in-Ok.ensures.ready.typed

pub returns-clause-expected : goal.returns-clause-expected
returns-clause-expected g c =
    let loads = c.in-Ok.ensures.network in
    let files = change (g.F.Files.observed c.args.files.now) (g.F.Files.observed c.load_network.new.files) in
    let out = change (g.K.Sink.observed c.args.out.now) (g.K.Sink.observed c.write_text.new.out) in
    let text = c.in-Ok-graph_text.text in
    text_expected files out (build_stages c.args.build) (IsDrawn (g.F.Files.observed c.args.files.now).content c.args.build) text c.write_text.result (unchanged_faults c.in-Ok.ensures.unchanged)
    (loads.passed files refl)
    (record {
      network = network_in c.in-Ok.loaded;
      has = record { texts = loads.texts; have = loads.have; is = loads.is };
      drawn = c.in-Ok-graph_text.ensures;
    })
    (subst (λ written. IsWritten out written c.write_text.result) c.as_slice.ensures c.write_text.ensures.written)

pub returns-clause-wants : goal.returns-clause-wants
returns-clause-wants g c = c.write_text.ensures.wants g.F.Files.may_want
