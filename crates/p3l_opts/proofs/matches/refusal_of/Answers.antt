use Rattle.std.proofs.Common.{sym, ◌∙◌}
use Rattle.p3l_opts.specs.Wanted.{clap_wanted}
use Rattle.p3l_opts.proofs.matches.refusal_of.Goals as goal

pub returns-in-OutOfMemory-clause-memory : goal.returns-in-OutOfMemory-clause-memory
returns-in-OutOfMemory-clause-memory c = λ _. clap_wanted c.args.error.now (sym c.kind.ensures ∙ c.in-OutOfMemory.is)
