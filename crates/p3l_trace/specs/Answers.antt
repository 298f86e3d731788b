-- Reports on a text that is no trace.
use Rattle.std.specs.Prelude.{◌≡◌, ℕ, List, Result, Ok, Err, ⊤}
use Rattle.p3l_trace.specs.declared.trace.Traced.{Traced}
use Rattle.p3l_trace.specs.declared.trace.TraceRefusal.{TraceRefusal}
use Rattle.p3l_trace.specs.declared.trace.TraceRefusal.TheVariants as refusals
use Rattle.p3l_format.specs.declared.fault.FieldFault.{FieldFault}
use Rattle.p3l_format.specs.Line.{line_number}
use Rattle.p3l_format.specs.FirstLine.{IsFirstBadLine}
use Rattle.p3l_trace.specs.Text.{trace_format}
use Rattle.p3l_base.specs.Memory.{Refused}

-- the answer of reading, with the line of its fault
abbrev pub answer_of : List ℕ → Result Traced FieldFault → Result Traced TraceRefusal
answer_of text (Ok traced) = Ok traced
answer_of text (Err fault) = Err (refusals.BadLine (line_number text fault.left))

-- a call answered what reading gives, unless out of memory
abbrev pub Answers : List ℕ → Result Traced TraceRefusal → Result Traced FieldFault → Type 0
Answers text (Err refusals.NoMemory) read = Refused
Answers text answer read = answer ≡ answer_of text read

-- a line that is reported is the first that isn't of a trace's form
abbrev pub ReportsFirst : List ℕ → Result Traced TraceRefusal → Type 0
ReportsFirst text (Err (refusals.BadLine line)) = IsFirstBadLine trace_format text line
ReportsFirst text answer = ⊤
