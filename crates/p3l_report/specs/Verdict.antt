-- The statuses of verdicts, and the lines that are written with them.
use Rattle.std.specs.Prelude.{ℕ, List, [], ◌++◌, codes, Some, None, Bool, true, false, if◌then◌else◌}
use Rattle.p3l_stream.specs.declared.items.Ending.{Ending}
use Rattle.p3l_stream.specs.declared.items.Ending.TheVariants as ending
use Rattle.p3l_cert.specs.declared.cert.CertRefusal.TheVariants as cert
use Rattle.p3l_cost.specs.declared.refusal.CostRefusal.TheVariants as costs
use Rattle.p3l_image.specs.declared.image.ImageRefusal.TheVariants as image
use Rattle.p3l_load.specs.declared.loaded.LoadRefusal.TheVariants as load
use Rattle.p3l_resume.specs.declared.saved.ShotRefusal.TheVariants as shot
use Rattle.p3l_run.specs.declared.end.RunEnd.{RunEnd}
use Rattle.p3l_run.specs.declared.end.RunEnd.TheVariants as end
use Rattle.p3l_sched.specs.declared.refusal.PickRefusal.TheVariants as picks
use Rattle.p3l_trace.specs.declared.trace.TraceRefusal.TheVariants as trace
use Rattle.p3l_report.specs.declared.evidence.Evidence.TheVariants as evidence
use Rattle.p3l_report.specs.declared.verdict.Refusal.{Refusal}
use Rattle.p3l_report.specs.declared.verdict.Refusal.TheVariants as refusal
use Rattle.p3l_report.specs.declared.verdict.Finish.{Finish}
use Rattle.p3l_report.specs.declared.verdict.Finish.TheVariants as finish
use Rattle.p3l_report.specs.declared.verdict.Verdict.{Verdict}
use Rattle.p3l_report.specs.declared.verdict.Verdict.TheVariants as verdict
use Rattle.p3l_report.specs.Costs.{cost_line}
use Rattle.p3l_report.specs.Evidence.{differs_line, evidence_line}
use Rattle.p3l_report.specs.Line.{counted_line, named_line, need_line, no_memory_line, numbered_line, source_line, stats_line, stopped_line, trap_line}
use Rattle.p3l_report.specs.Scan.{scan_line}
use Rattle.p3l_report.specs.Schedule.{schedule_line}
use Rattle.p3l_report.specs.Status as status

-- the status of a refusal
abbrev pub refusal_status : Refusal → ℕ
refusal_status refusal.Usage = status.usage
refusal_status (refusal.FileFault name) = status.file
refusal_status (refusal.FileTooLong name) = status.file
refusal_status (refusal.Source fault pos) = status.source
refusal_status (refusal.Costs why) = status.costs
refusal_status (refusal.TooFew need) = status.too_few
refusal_status (refusal.Schedule why) = status.schedule
refusal_status (refusal.Evidence why) = status.evidence
refusal_status (refusal.Scan why) = status.scan

-- the refusal of a library says that memory ran out
abbrev pub is_no_memory : Refusal → Bool
is_no_memory (refusal.Costs costs.NoMemory) = true
is_no_memory (refusal.Schedule picks.NoMemory) = true
is_no_memory (refusal.Evidence (evidence.Cert cert.NoMemory)) = true
is_no_memory (refusal.Evidence (evidence.Image image.NoMemory)) = true
is_no_memory (refusal.Evidence (evidence.Load load.NoMemory)) = true
is_no_memory (refusal.Evidence (evidence.Trace trace.NoMemory)) = true
is_no_memory (refusal.Evidence (evidence.Shot shot.NoMemory)) = true
is_no_memory _ = false

-- the verdict of a refusal
abbrev pub verdict_of : Refusal → Verdict
verdict_of refused = if is_no_memory refused then verdict.NoMemory else verdict.Refused refused

-- the status of a run whose stream ended so
abbrev pub ending_status : Ending → ℕ
ending_status ending.End = status.done
ending_status (ending.BadWord line) = status.stream
ending_status (ending.WrongCount line had) = status.stream
ending_status (ending.OutOfRange line) = status.stream
ending_status ending.ReadFault = status.read
ending_status ending.TooLong = status.too_long

-- the status of a run that ended so
abbrev pub end_status : RunEnd → ℕ
end_status (end.Stopped fired idle) = status.stopped
end_status (end.Trapped item kind home) = status.trap
end_status (end.Stream close) = ending_status close

-- the status of a command's end
abbrev pub finish_status : Finish → ℕ
finish_status finish.Done = status.done
finish_status (finish.Run end) = end_status end
finish_status (finish.Differs line) = status.evidence

-- the status of a verdict
abbrev pub status_of : Verdict → ℕ
status_of (verdict.Refused refusal) = refusal_status refusal
status_of (verdict.Ended finish stats) = finish_status finish
status_of verdict.WriteFault = status.write
status_of verdict.NoMemory = status.no_memory

-- the line of a refusal
abbrev pub refusal_line : Refusal → List ℕ
refusal_line refusal.Usage = codes "usage: the words are not a command of p3l\n"
refusal_line (refusal.FileFault name) = named_line (codes "file fault") name
refusal_line (refusal.FileTooLong name) = named_line (codes "file too long") name
refusal_line (refusal.Source fault pos) = source_line fault pos
refusal_line (refusal.Costs why) = cost_line why
refusal_line (refusal.TooFew need) = need_line need
refusal_line (refusal.Schedule why) = schedule_line why
refusal_line (refusal.Evidence why) = evidence_line why
refusal_line (refusal.Scan why) = scan_line why

-- the line of a run whose stream ended so, or no bytes where none is to be written
abbrev pub ending_line : Ending → List ℕ
ending_line ending.End = []
ending_line (ending.BadWord line) = numbered_line (codes "stream") line (codes "100 BadWord")
ending_line (ending.WrongCount line had) = counted_line line had
ending_line (ending.OutOfRange line) = numbered_line (codes "stream") line (codes "102 OutOfRange")
ending_line ending.ReadFault = codes "read fault\n"
ending_line ending.TooLong = codes "input too long\n"

-- the line of a run that ended so, or no bytes where none is to be written
abbrev pub end_line : RunEnd → List ℕ
end_line (end.Stopped fired idle) = stopped_line fired idle
end_line (end.Trapped item kind home) = trap_line item kind home
end_line (end.Stream close) = ending_line close

-- the line of a command's end, or no bytes where none is to be written
abbrev pub finish_line : Finish → List ℕ
finish_line finish.Done = []
finish_line (finish.Run end) = end_line end
finish_line (finish.Differs line) = differs_line line

-- the line of a verdict's status, or no bytes where none is to be written
abbrev pub status_line : Verdict → List ℕ
status_line (verdict.Refused refusal) = refusal_line refusal
status_line (verdict.Ended finish stats) = finish_line finish
status_line verdict.WriteFault = codes "write fault\n"
status_line verdict.NoMemory = no_memory_line

-- the line of the numbers of a run, where they are to be reported
abbrev pub reported_line : Verdict → List ℕ
reported_line (verdict.Refused refusal) = []
reported_line (verdict.Ended finish None) = []
reported_line (verdict.Ended finish (Some stats)) = stats_line stats
reported_line verdict.WriteFault = []
reported_line verdict.NoMemory = []

-- all lines that are to be written with a verdict: that of the numbers comes first
abbrev pub lines_of : Verdict → List ℕ
lines_of v = reported_line v ++ status_line v
