use Rattle.std.proofs.Common.{subst}
use Rattle.p3l_io.specs.Change.{change}
use Rattle.p3l_run.specs.Sampling.{IsSampled}
use Rattle.p3l_program.proofs.ProfileSteps.{profile_of}
use Rattle.p3l_program.proofs.profile.profile_tree.Goals as goal

pub returns-in-Ok-sample-clause-profiled : goal.returns-in-Ok-sample-clause-profiled
returns-in-Ok-sample-clause-profiled g c =
    let input = change (g.S.Source.observed c.args.input.now) (g.S.Source.observed c.sample.new.input) in
    let out = change (g.K.Sink.observed c.args.out.now) (g.K.Sink.observed c.finish.new.out) in
    profile_of c.args.tree.now c.args.codes.now c.a_profile_has_the_greatest.ensures c.sample.new.profile.greatest input out c.in-Ok-sample.sampled
    (subst (λ start. IsSampled c.args.tree.now (record { tree = c.args.tree.now; codes = c.args.codes.now }) start c.sample.new.profile.greatest input c.in-Ok-sample.sampled) c.in-Ok.ensures.none c.in-Ok-sample.ensures.sampled)
    c.finish.result c.finish.ensures.closed
