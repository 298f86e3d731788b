use Rattle.std.proofs.Common.{Ok, ◌<◌, ◌≤◌, ◌^◌, arith, inl, length, refl, subst, sym}
use Rattle.p3l_gen.specs.Texts.{costs_text, program_text}
use Rattle.p3l_io.specs.Change.{change}
use Rattle.p3l_program.specs.Generated.{gen_of, saves_with}
use Rattle.p3l_program.specs.Saved.{HasSaves}
use Rattle.p3l_program.proofs.GenLengths.{program_short, stream_short}
use Rattle.p3l_program.proofs.GenSteps.{generated_expected}
use Rattle.p3l_program.proofs.generated.run_generated.Goals as goal

pub run_texts-requires-clause-within : goal.run_texts-requires-clause-within
run_texts-requires-clause-within g c = subst (λ t. length t ≤ 1048576) (sym c.in-Ok.ensures.program) (program_short c.args.number)

pub run_texts-requires-clause-short : goal.run_texts-requires-clause-short
run_texts-requires-clause-short g c = subst (λ t. length t < 2 ^ 36) (sym c.in-Ok.ensures.stream) (stream_short c.args.number c.args.items (omega arith) c.requires.items)

pub returns-in-Ok-save_where : goal.returns-in-Ok-save_where
returns-in-Ok-save_where g c =
    let files = change (g.F.Files.observed c.args.files.now) (g.F.Files.observed c.save_where.new.files) in
    let out = change (g.K.Sink.observed c.args.out.now) (g.K.Sink.observed c.run_texts.new.out) in
    let q = gen_of c.args.number c.args.processors c.args.items c.args.request c.args.prefix in
    let texts = c.in-Ok.texts in
    let made = c.in-Ok.ensures in
    let one = subst (λ p. HasSaves files (saves_with c.args.prefix p texts.costs texts.stream) (Ok tt)) made.program c.in-Ok-save_where.ensures.saved in
    let two = subst (λ t. HasSaves files (saves_with c.args.prefix (program_text c.args.number) t texts.stream) (Ok tt)) made.costs one in
    let saves = subst (λ t. HasSaves files (saves_with c.args.prefix (program_text c.args.number) costs_text t) (Ok tt)) made.stream two in
    let run = c.run_texts.ensures.ran q (record { program_is = made.program; costs_are = made.costs; stream_is = made.stream }) refl refl refl in
    record { expected = inl (generated_expected files out q c.run_texts.result saves run); wants = c.run_texts.ensures.wants g.F.Files.may_want }
