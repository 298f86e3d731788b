use Rattle.std.proofs.Common.{refl, rules, subst, inl, inr, ap, ◌∙◌}
use Rattle.std.specs.declared.result.Result.TheVariants.{Err}
use Rattle.p3l_opts.specs.declared.command.Command.TheVariants as command
use Rattle.p3l_opts.specs.Command.{Spells, texts_of}
use Rattle.p3l_program.specs.Command.{work_of}
use Rattle.p3l_program.proofs.ExpectedSteps.{check_requested, file_requested, gen_requested, profile_requested, run_requested, save_requested, saving_requested, text_requested, time_requested}
use Rattle.p3l_program.proofs.ExportSteps.{choice_within}
use Rattle.p3l_program.proofs.GenSteps.{items_few}
use Rattle.p3l_program.proofs.top.perform.Goals as goal

pub returns-in-Err-Usage-clause-expected : goal.returns-in-Err-Usage-clause-expected
returns-in-Err-Usage-clause-expected g c = inr (inl (record {
  verdict_is = refl;
  none = c.parse.ensures.usage (c.in-Err-Usage.is ∙ ap Err c.in-Err-Usage.field-0-is);
  untouched = record { input = record { same_content = refl; same_faults = refl }; output = record { same_content = refl; same_faults = refl } };
  files = record { same_content = refl; same_faults = refl };
}))

pub returns-in-Ok-Check-clause-expected : goal.returns-in-Ok-Check-clause-expected
unfolding work_of
returns-in-Ok-Check-clause-expected g c =
    let request = c.in-Ok-Check in
    let spelled : Spells (texts_of c.args.words.now) (command.Check request.program) = search (rules, request.ensures.spelled) in
    text_requested spelled refl c.check.ensures.expected c.check.ensures.same_files

pub returns-in-Ok-Fmt-clause-expected : goal.returns-in-Ok-Fmt-clause-expected
unfolding work_of
returns-in-Ok-Fmt-clause-expected g c =
    let request = c.in-Ok-Fmt in
    let spelled : Spells (texts_of c.args.words.now) (command.Fmt request.program) = search (rules, request.ensures.spelled) in
    text_requested spelled refl c.fmt.ensures.expected c.fmt.ensures.same_files

pub returns-in-None-clause-expected : goal.returns-in-None-clause-expected
unfolding work_of
returns-in-None-clause-expected g c =
    let words = texts_of c.args.words.now in
    let request = subst (λ k. Spells words k) c.in-Ok-Explain.field-0-is c.in-Ok-Explain.ensures.spelled in
    let spelled = subst (λ cert. Spells words (command.Explain c.in-Ok-Explain.build cert)) c.in-None.is request in
    text_requested spelled refl c.explain.ensures.expected c.explain.ensures.same_files

pub returns-in-Some-clause-expected : goal.returns-in-Some-clause-expected
unfolding work_of
returns-in-Some-clause-expected g c =
    let words = texts_of c.args.words.now in
    let request = subst (λ k. Spells words k) c.in-Ok-Explain.field-0-is c.in-Ok-Explain.ensures.spelled in
    let spelled = subst (λ cert. Spells words (command.Explain c.in-Ok-Explain.build cert)) c.in-Some.is request in
    saving_requested spelled refl c.certify.ensures.expected c.certify.ensures.kept

pub returns-in-Ok-Advise-clause-expected : goal.returns-in-Ok-Advise-clause-expected
unfolding work_of
returns-in-Ok-Advise-clause-expected g c =
    let request = c.in-Ok-Advise in
    let spelled : Spells (texts_of c.args.words.now) (command.Advise request.build request.processes) = search (rules, request.ensures.spelled) in
    text_requested spelled refl c.advise.ensures.expected c.advise.ensures.same_files

pub returns-in-Ok-Compile-clause-expected : goal.returns-in-Ok-Compile-clause-expected
unfolding work_of
returns-in-Ok-Compile-clause-expected g c =
    let request = c.in-Ok-Compile in
    let spelled : Spells (texts_of c.args.words.now) (command.Compile request.build request.output) = search (rules, request.ensures.spelled) in
    file_requested spelled refl (record { same_content = refl; same_faults = refl }) c.compile.ensures.expected c.compile.ensures.kept

pub returns-in-Ok-Migrate-clause-expected : goal.returns-in-Ok-Migrate-clause-expected
unfolding work_of
returns-in-Ok-Migrate-clause-expected g c =
    let request = c.in-Ok-Migrate in
    let spelled : Spells (texts_of c.args.words.now) (command.Migrate request.image request.output) = search (rules, request.ensures.spelled) in
    file_requested spelled refl (record { same_content = refl; same_faults = refl }) c.migrate.ensures.expected c.migrate.ensures.kept

pub export-requires-clause-capacity : goal.export-requires-clause-capacity
export-requires-clause-capacity g c =
    let request = c.in-Ok-Export in
    let spelled : Spells (texts_of c.args.words.now) (command.Export request.exported request.output) = search (rules, request.ensures.spelled) in
    choice_within _ request.exported.capacity spelled.values.0.capacity_is

pub returns-in-Ok-Export-clause-expected : goal.returns-in-Ok-Export-clause-expected
unfolding work_of
returns-in-Ok-Export-clause-expected g c =
    let request = c.in-Ok-Export in
    let spelled : Spells (texts_of c.args.words.now) (command.Export request.exported request.output) = search (rules, request.ensures.spelled) in
    file_requested spelled refl (record { same_content = refl; same_faults = refl }) c.export.ensures.expected c.export.ensures.kept

pub returns-in-Ok-Graph-clause-expected : goal.returns-in-Ok-Graph-clause-expected
unfolding work_of
returns-in-Ok-Graph-clause-expected g c =
    let request = c.in-Ok-Graph in
    let spelled : Spells (texts_of c.args.words.now) (command.Graph request.build) = search (rules, request.ensures.spelled) in
    text_requested spelled refl c.graph.ensures.expected c.graph.ensures.same_files

pub returns-in-Ok-Run-clause-expected : goal.returns-in-Ok-Run-clause-expected
unfolding work_of
returns-in-Ok-Run-clause-expected g c =
    let request = c.in-Ok-Run in
    let spelled : Spells (texts_of c.args.words.now) (command.Run request.build request.schedule request.trace request.stats) = search (rules, request.ensures.spelled) in
    run_requested spelled refl c.run.ensures.expected c.run.ensures.kept c.run.ensures.over

pub returns-in-Ok-VerifyCert-clause-expected : goal.returns-in-Ok-VerifyCert-clause-expected
unfolding work_of
returns-in-Ok-VerifyCert-clause-expected g c =
    let request = c.in-Ok-VerifyCert in
    let spelled : Spells (texts_of c.args.words.now) (command.VerifyCert request.program request.cert request.costs) = search (rules, request.ensures.spelled) in
    text_requested spelled refl c.verify_cert.ensures.expected c.verify_cert.ensures.same_files

pub returns-in-Ok-Exec-clause-expected : goal.returns-in-Ok-Exec-clause-expected
unfolding work_of
returns-in-Ok-Exec-clause-expected g c =
    let request = c.in-Ok-Exec in
    let spelled : Spells (texts_of c.args.words.now) (command.Exec request.image request.schedule request.trace request.stats) = search (rules, request.ensures.spelled) in
    run_requested spelled refl c.exec.ensures.expected c.exec.ensures.kept c.exec.ensures.over

pub returns-in-Ok-CheckTrace-clause-expected : goal.returns-in-Ok-CheckTrace-clause-expected
unfolding work_of
returns-in-Ok-CheckTrace-clause-expected g c =
    let request = c.in-Ok-CheckTrace in
    let spelled : Spells (texts_of c.args.words.now) (command.CheckTrace request.build request.trace) = search (rules, request.ensures.spelled) in
    check_requested spelled refl c.check_trace.ensures.expected c.check_trace.ensures.same_files

pub run_generated-requires-clause-items : goal.run_generated-requires-clause-items
run_generated-requires-clause-items g c =
    let request = c.in-Ok-Gen in
    let spelled : Spells (texts_of c.args.words.now) (command.Gen request.number request.processors request.items request.schedule request.save) = search (rules, request.ensures.spelled) in
    items_few _ request.items spelled.values.items_are

pub returns-in-Ok-Gen-clause-expected : goal.returns-in-Ok-Gen-clause-expected
unfolding work_of
returns-in-Ok-Gen-clause-expected g c =
    let request = c.in-Ok-Gen in
    let spelled : Spells (texts_of c.args.words.now) (command.Gen request.number request.processors request.items request.schedule request.save) = search (rules, request.ensures.spelled) in
    gen_requested spelled refl c.run_generated.ensures.expected

pub returns-in-Ok-Rewrite-clause-expected : goal.returns-in-Ok-Rewrite-clause-expected
unfolding work_of
returns-in-Ok-Rewrite-clause-expected g c =
    let request = c.in-Ok-Rewrite in
    let spelled : Spells (texts_of c.args.words.now) (command.Rewrite request.program request.processors request.costs) = search (rules, request.ensures.spelled) in
    text_requested spelled refl c.rewrite.ensures.expected c.rewrite.ensures.same_files

pub returns-in-Ok-Profile-clause-expected : goal.returns-in-Ok-Profile-clause-expected
unfolding work_of
returns-in-Ok-Profile-clause-expected g c =
    let request = c.in-Ok-Profile in
    let spelled : Spells (texts_of c.args.words.now) (command.Profile request.program) = search (rules, request.ensures.spelled) in
    profile_requested spelled refl c.profile.ensures.expected c.profile.ensures.same_files

pub returns-in-Ok-Time-clause-expected : goal.returns-in-Ok-Time-clause-expected
unfolding work_of
returns-in-Ok-Time-clause-expected g c =
    let request = c.in-Ok-Time in
    let spelled : Spells (texts_of c.args.words.now) (command.Time request.build request.picks) = search (rules, request.ensures.spelled) in
    time_requested spelled refl c.time.ensures.expected c.time.ensures.kept c.time.ensures.over

pub returns-in-Ok-Scan-clause-expected : goal.returns-in-Ok-Scan-clause-expected
unfolding work_of
returns-in-Ok-Scan-clause-expected g c =
    let request = c.in-Ok-Scan in
    let spelled : Spells (texts_of c.args.words.now) (command.Scan request.program request.segments request.schedule request.capacity request.stats) = search (rules, request.ensures.spelled) in
    run_requested spelled refl c.scan.ensures.expected c.scan.ensures.kept c.scan.ensures.over

pub returns-in-Ok-Save-clause-expected : goal.returns-in-Ok-Save-clause-expected
unfolding work_of
returns-in-Ok-Save-clause-expected g c =
    let request = c.in-Ok-Save in
    let spelled : Spells (texts_of c.args.words.now) (command.Save request.build request.picks request.output) = search (rules, request.ensures.spelled) in
    save_requested spelled refl c.save_state.ensures.expected c.save_state.ensures.kept c.save_state.ensures.over

pub returns-in-Ok-Save-clause-wants : goal.returns-in-Ok-Save-clause-wants
returns-in-Ok-Save-clause-wants g c =
    let request = c.in-Ok-Save in
    let spelled : Spells (texts_of c.args.words.now) (command.Save request.build request.picks request.output) = search (rules, request.ensures.spelled) in
    elim c.save_state.ensures.wants [
      | inl own ↦ inl own
      | inr long ↦ inr (record { build = request.build; picks = request.picks; output = request.output; spelled = spelled; long = long })
    ]

pub returns-in-Ok-Resume-clause-expected : goal.returns-in-Ok-Resume-clause-expected
unfolding work_of
returns-in-Ok-Resume-clause-expected g c =
    let request = c.in-Ok-Resume in
    let spelled : Spells (texts_of c.args.words.now) (command.Resume request.snapshot request.schedule request.stats) = search (rules, request.ensures.spelled) in
    run_requested spelled refl c.resume.ensures.expected c.resume.ensures.kept c.resume.ensures.over
