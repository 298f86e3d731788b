use Rattle.std.proofs.Common.{subst, inl, inr}
use Rattle.p3l_io.specs.Change.{change}
use Rattle.p3l_program.specs.Rewrite.{IsRewritten}
use Rattle.p3l_program.specs.Source.{plain_build}
use Rattle.p3l_program.specs.Stage.{build_stages}
use Rattle.p3l_program.specs.Text.{IsWritten}
use Rattle.p3l_program.proofs.FileSteps.{unchanged_faults}
use Rattle.p3l_program.proofs.RewriteSteps.{may_be, not_many, rewritten}
use Rattle.p3l_program.proofs.TextSteps.{text_expected}
use Rattle.p3l_program.proofs.TreeSteps.{counts_pass}
use Rattle.p3l_program.proofs.rewrite.rewrite.Goals as goal

pub best_text-requires : goal.best_text-requires
best_text-requires g c =
    let build = plain_build c.args.program c.args.processors c.args.costs in
    may_be (g.F.Files.observed c.args.files.now).content build c.in-Ok.priced c.in-Ok.ensures.loaded c.requires.processors.0 c.requires.processors.1

pub returns-clause-expected : goal.returns-clause-expected
returns-clause-expected g c =
    let build = plain_build c.args.program c.args.processors c.args.costs in
    let loads = c.in-Ok.ensures.loaded in
    let files = change (g.F.Files.observed c.args.files.now) (g.F.Files.observed c.load_priced.new.files) in
    let out = change (g.K.Sink.observed c.args.out.now) (g.K.Sink.observed c.write_text.new.out) in
    let text = c.in-Ok-best_text.text in
    text_expected files out (build_stages build) (IsRewritten (g.F.Files.observed c.args.files.now).content build) text c.write_text.result (unchanged_faults c.in-Ok.ensures.unchanged)
    (counts_pass files build loads.r c.in-Ok.priced.costs c.in-Ok.priced.counts.list loads.has)
    (rewritten (g.F.Files.observed c.args.files.now).content build c.in-Ok.priced loads text c.in-Ok-best_text.ensures.best)
    (subst (λ written. IsWritten out written c.write_text.result) c.as_slice.ensures c.write_text.ensures.written)

pub returns-in-Err-best_text-clause-wants : goal.returns-in-Err-best_text-clause-wants
returns-in-Err-best_text-clause-wants g c =
    let build = plain_build c.args.program c.args.processors c.args.costs in elim c.in-Err-best_text.ensures.wants [
      | inl refused ↦ inl refused
      | inr many ↦ absurd (not_many (g.F.Files.observed c.args.files.now).content build c.in-Ok.priced c.in-Ok.ensures.loaded many)
    ]

pub returns-clause-wants : goal.returns-clause-wants
returns-clause-wants g c = c.write_text.ensures.wants g.F.Files.may_want
