use Rattle.std.proofs.Common.{subst, inl, inr, ap}
use Rattle.std.specs.declared.result.Result.TheVariants.{Ok, Err}
use Rattle.p3l_io.specs.Change.{change}
use Rattle.p3l_program.specs.Export.{IsExportOf, build_of}
use Rattle.p3l_program.specs.Saved.{SaveCause}
use Rattle.p3l_program.specs.Stage.{build_stages}
use Rattle.p3l_program.proofs.CompileSteps.{file_expected, file_failed}
use Rattle.p3l_program.proofs.ExportSteps.{may_be, program_exported}
use Rattle.p3l_program.proofs.RewriteSteps.{not_many}
use Rattle.p3l_program.proofs.TreeSteps.{counts_pass}
use Rattle.p3l_program.proofs.export.export.Goals as goal

pub program_text-requires-clause-ready : goal.program_text-requires-clause-ready
program_text-requires-clause-ready g c = may_be (g.F.Files.observed c.args.files.now).content c.args.exported c.in-Ok.priced c.in-Ok.ensures.loaded c.requires.processors.1

pub returns-in-Ok-save-clause-expected : goal.returns-in-Ok-save-clause-expected
returns-in-Ok-save-clause-expected g c =
    let build = build_of c.args.exported in
    let priced = c.in-Ok.priced in
    let loads = c.in-Ok.ensures.loaded in
    let observed = g.F.Files.observed in
    let end = observed c.save.new.files in
    let files = change (observed c.args.files.now) end in
    let text = c.in-Ok-program_text.text in
    let same = ap (λ o. change o end) c.in-Ok.ensures.unchanged in
    let written = subst (λ b. SaveCause (change (observed c.load_priced.new.files) end) c.args.name b (Ok tt)) c.as_slice.ensures c.in-Ok-save.ensures.saved.by in
    file_expected files (build_stages build) c.args.name (IsExportOf (observed c.args.files.now).content c.args.exported) text (counts_pass files build loads.r priced.costs priced.counts.list loads.has)
    (program_exported (observed c.args.files.now).content c.args.exported priced loads text c.in-Ok-program_text.ensures.text) (subst (λ f. SaveCause f c.args.name text (Ok tt)) same written)

pub returns-clause-expected : goal.returns-clause-expected
returns-clause-expected g c =
    let build = build_of c.args.exported in
    let priced = c.in-Ok.priced in
    let loads = c.in-Ok.ensures.loaded in
    let observed = g.F.Files.observed in
    let end = observed c.save.new.files in
    let files = change (observed c.args.files.now) end in
    let text = c.in-Ok-program_text.text in
    let v = c.in-Err-save.verdict in
    let same = ap (λ o. change o end) c.in-Ok.ensures.unchanged in
    let written = subst (λ b. SaveCause (change (observed c.load_priced.new.files) end) c.args.name b (Err v)) c.as_slice.ensures c.in-Err-save.ensures.saved.by in
    file_failed files (build_stages build) c.args.name (IsExportOf (observed c.args.files.now).content c.args.exported) text (counts_pass files build loads.r priced.costs priced.counts.list loads.has)
    (program_exported (observed c.args.files.now).content c.args.exported priced loads text c.in-Ok-program_text.ensures.text) v (subst (λ f. SaveCause f c.args.name text (Err v)) same written)

pub returns-in_default-clause-wants : goal.returns-in_default-clause-wants
returns-in_default-clause-wants g c = elim c.in_default.ensures.wants [
  | inl refused ↦ inl refused
  | inr many ↦ absurd (not_many (g.F.Files.observed c.args.files.now).content (build_of c.args.exported) c.in-Ok.priced c.in-Ok.ensures.loaded many)
]
