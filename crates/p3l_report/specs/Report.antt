-- The bytes of a report.
use Rattle.std.specs.Prelude.{◌≡◌, ℕ, List, [], ◌++◌, take, Option, Some, None}
use Rattle.p3l_io.specs.Change.{Change, HasRisen}
use Rattle.p3l_report.specs.declared.line.MessageLine.{MessageLine}
use Rattle.p3l_report.specs.declared.report.Report.{Report}
use Rattle.p3l_report.specs.declared.verdict.Verdict.{Verdict}
use Rattle.p3l_report.specs.LineText.{line_text}
use Rattle.p3l_report.specs.Verdict.{reported_line, status_line}

-- the bytes of a line, if there is one
abbrev pub optional_text : Option MessageLine → List ℕ
optional_text None = []
optional_text (Some line) = line_text line

-- the lines of a report in order
abbrev pub report_text : Report → List ℕ
report_text report = optional_text report.numbers ++ optional_text report.status

-- a report has the lines of a verdict
pub record IsReportOf (verdict : Verdict) (report : Report) : Type 0 where
  pub numbers : optional_text report.numbers ≡ reported_line verdict
  pub status : optional_text report.status ≡ status_line verdict

-- a text is put after what a sink took before, unless its count of faults rises
abbrev pub PutsText : (sink : Change (List ℕ)) → (text : List ℕ) → Type 0
PutsText sink text = (said : List ℕ) → sink.old.content ≡ Some said → (HasRisen sink → ⊥) → sink.new.content ≡ Some (said ++ text)

-- the first `size` bytes of a line are put after what was put before
pub record PutsFront (said : List ℕ) (new : Option (List ℕ)) (line : List ℕ) : Type 0 where
  pub size : ℕ
  pub put : new ≡ Some (said ++ take size line)

-- the same of two lines, in their order
pub record PutsFronts (said : List ℕ) (new : Option (List ℕ)) (first second : List ℕ) : Type 0 where
  pub first_size : ℕ
  pub second_size : ℕ
  pub put : new ≡ Some (said ++ (take first_size first ++ take second_size second))

-- a prefix of each of two lines is put, whether the count of faults rises or not
abbrev pub BeginsToPut : (sink : Change (List ℕ)) → (first second : List ℕ) → Type 0
BeginsToPut sink first second = (said : List ℕ) → sink.old.content ≡ Some said → PutsFronts said sink.new.content first second
