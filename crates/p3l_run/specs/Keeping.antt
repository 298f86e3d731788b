-- The lines of a trace, where they are kept.
use Rattle.std.specs.Prelude.{List, Option, Some, None}
use Rattle.p3l_trace.specs.declared.trace.TraceLine.{TraceLine}
use Rattle.p3l_run.specs.declared.keeping.Keeping.{Keeping}
use Rattle.p3l_run.specs.declared.keeping.Keeping.TheVariants as keep

-- these lines where lines are kept, and nothing where they aren't
abbrev pub kept_by : Keeping → List TraceLine → Option (List TraceLine)
kept_by keep.Lines lines = Some lines
kept_by keep.Nothing lines = None
