use Rattle.p3l_io.specs.Change.{change}
use Rattle.p3l_profile.specs.Greatest.{IsProfileOf}
use Rattle.p3l_run.specs.Sampling.{GivesOn}
use Rattle.p3l_run.proofs.sampling.sample.Given as goal

-- `before` items were given and noted
abbrev pub invariant-loop-before : goal.invariant-loop-before
invariant-loop-before g l = record {
  gives : GivesOn l.tree (record { tree = l.tree; codes = l.codes }) l.fn.profile.greatest l.profile.greatest (change (g.S.Source.observed l.fn.input) (g.S.Source.observed l.input)) l.lines l.before;
  of : IsProfileOf l.tree l.profile;
}
