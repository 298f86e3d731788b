-- The names of values.
use Rattle.std.specs.Prelude.{codes}
use Rattle.clap.specs.Words.{Text}
use Rattle.p3l_opts.specs.declared.word.Value.{Value}
use Rattle.p3l_opts.specs.declared.word.Value.TheVariants as value

-- the name of a value
abbrev pub name_of : Value → Text
name_of value.Program = codes "program"
name_of value.Image = codes "image"
name_of value.Snapshot = codes "snapshot"
name_of value.Number = codes "number"
name_of value.Processors = codes "processors"
name_of value.Segments = codes "segments"
name_of value.Capacity = codes "capacity"
name_of value.Items = codes "items"
name_of value.Schedule = codes "schedule"
name_of value.Recorded = codes "schedule"
name_of value.Costs = codes "costs"
name_of value.Output = codes "output"
name_of value.Cert = codes "cert"
name_of value.Trace = codes "trace"
name_of value.Picks = codes "picks"
name_of value.Save = codes "save"
name_of value.Stats = codes "stats"
name_of value.Processes = codes "processes"
