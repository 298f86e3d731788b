use Rattle.std.proofs.Common.{refl, sym, subst, ◌∙◌}
use Rattle.p3l_gen.specs.Texts.{costs_text, program_text}
use Rattle.p3l_io.specs.Change.{change}
use Rattle.p3l_program.specs.Generated.{AreNotLoaded, IsLineOf, IsRanUnder, LoadsTexts, gen_capacity, line_at, summary_line}
use Rattle.p3l_program.specs.Plan.{network_of}
use Rattle.p3l_program.proofs.GenSteps.{gen_line, gen_refused, generated_by, texts_pass}
use Rattle.p3l_program.proofs.generated.run_texts.Goals as goal

pub returns-in-Err-clause-ran : goal.returns-in-Err-clause-ran
returns-in-Err-clause-ran g c = λ q texts number processors request.
    let out = change (g.K.Sink.observed c.args.out.now) (g.K.Sink.observed c.args.out.now) in
    let v = c.in-Err.verdict in
    let costs = c.as_slice-2.result.now in
    let one = subst (λ p. AreNotLoaded p costs c.args.processors v) (c.as_slice.ensures ∙ texts.program_is) c.in-Err.ensures.refused in
    let two = subst (λ t. AreNotLoaded (program_text q.number) t c.args.processors v) (c.as_slice-2.ensures ∙ texts.costs_are) one in
    let here = subst (λ k. AreNotLoaded (program_text q.number) costs_text k v) (sym processors) two in
    gen_refused out q v (record { same_content = refl; same_faults = refl }) here

pub returns-in-Ok-run_text-clause-ran : goal.returns-in-Ok-run_text-clause-ran
returns-in-Ok-run_text-clause-ran g c = λ q texts number processors request.
    let out = change (g.K.Sink.observed c.args.out.now) (g.K.Sink.observed c.put_summary.new.out) in
    let loaded = c.in-Ok.loaded in
    let ran = c.in-Ok-run_text.ran in
    let costs = c.as_slice-2.result.now in
    let service = loaded.choice.service in
    let used = loaded.choice.used in
    let one = subst (λ p. LoadsTexts p costs c.args.processors loaded) (c.as_slice.ensures ∙ texts.program_is) c.in-Ok.ensures.loaded in
    let two = subst (λ t. LoadsTexts (program_text q.number) t c.args.processors loaded) (c.as_slice-2.ensures ∙ texts.costs_are) one in
    let loads : LoadsTexts (program_text q.number) costs_text q.processors loaded = subst (λ k. LoadsTexts (program_text q.number) costs_text k loaded) (sym processors) two in
    let n = network_of loads.r loaded.choice.counts.list gen_capacity in
    let ran_there = subst (λ a. IsRanUnder n a c.args.texts.stream ran) (sym request) (c.in-Ok-run_text.ensures.ran loads.r loads.are.comes.compiled) in
    let ran_here = subst (λ t. IsRanUnder n q.request t ran) texts.stream_is ran_there in
    let is = generated_by q loaded ran loads ran_here in
    let known = subst (λ k. IsLineOf out ran.finish (line_at ran.finish (summary_line k ran.stats service used ran.sum)) c.put_summary.result) (sym number) c.put_summary.ensures.put in
    gen_line out q ran.finish (line_at ran.finish (summary_line q.number ran.stats service used ran.sum)) is (texts_pass (program_text q.number) costs_text q.processors loaded loads) c.put_summary.result known
