-- A refused text of a trace is refused by its first line that isn't of the form.
use Rattle.std.proofs.Common.{ℕ, List, [], ◌∷◌, ◌≡◌, Option, Some, None, inl, refl, Err, arith}
use Rattle.p3l_firing.specs.declared.process.ProcKind.{ProcKind}
use Rattle.p3l_firing.specs.declared.process.ProcKind.TheVariants.{Source, Sink, Run, Emit, Collect, Scatter, Gather, Split, FoldGather, Join, Head, Tail}
use Rattle.p3l_trace.specs.declared.line.LineItem.{LineItem}
use Rattle.p3l_trace.specs.Kind.{word_of, said_format}
use Rattle.p3l_trace.specs.Text.{header, end_word, space, feed, most_pick, most_count, pick_format, line_format, next_line, first_line, lines_format, counts_format, body_format, trace_format}
use Rattle.p3l_trace.specs.laws.Text.{lawful_pick, lawful_counts, lawful_lines, lines_series, counts_fit}
use Rattle.p3l_format.specs.declared.fault.FieldFault.{FieldFault}
use Rattle.p3l_format.specs.Format.{read_all}
use Rattle.p3l_format.specs.Line.{line_number}
use Rattle.p3l_format.specs.FirstLine.{IsWhole, IsFirstBadLine}
use Rattle.p3l_format.specs.laws.Decimal.{lawful_number_then}
use Rattle.p3l_format.specs.laws.FirstLine.{Each, IsInLine, IsOneLine, IsLine, IsCut, ReportsLine, part_then_line, part_is_within, whole_append, whole_line, lines_are_whole, cut_at, cut_then_line, number_then_line, number_then_reports, number_ends_line, is_line, both_report, each_both, each_record, each_text_then, each_then_text, each_until, reports_record, reports_rest, reports_text_then, reports_until, first_bad}

-- ---- lines

word_in_line : (said : Option ProcKind) → IsInLine (word_of said)
word_in_line (Some Source) = refl
word_in_line (Some Sink) = refl
word_in_line (Some Run) = refl
word_in_line (Some Emit) = refl
word_in_line (Some Collect) = refl
word_in_line (Some Scatter) = refl
word_in_line (Some Gather) = refl
word_in_line (Some Split) = refl
word_in_line (Some FoldGather) = refl
word_in_line (Some Join) = refl
word_in_line (Some Head) = refl
word_in_line (Some Tail) = refl
word_in_line None = refl

said_in_line : Each IsInLine said_format
unfolding said_format
said_in_line said fits = word_in_line said

pick_one : Each IsOneLine pick_format
unfolding pick_format
pick_one = each_record IsOneLine _ _ _
    (each_both IsInLine IsOneLine IsOneLine _ _ part_then_line (number_then_line 0 most_pick space refl)
    (each_then_text IsInLine IsOneLine IsOneLine said_format feed part_then_line said_in_line ([], refl, refl)))

pick_line : (item : LineItem) → IsLine (line_format item)
unfolding line_format
pick_line item = is_line pick_format lawful_pick pick_one

-- the counts, which end the last line
counts_line : IsLine counts_format
unfolding counts_format
counts_line = record {
  law = lawful_counts;
  one = each_both IsInLine IsOneLine IsOneLine _ _ part_then_line (number_then_line 0 most_count space refl) (number_ends_line 0 most_count);
  reports = both_report _ _ (lawful_number_then 0 most_count space (λ rest. refl)) (number_then_line 0 most_count space refl) (number_then_reports 0 most_count space) (number_then_reports 0 most_count feed);
}

header_is_line : IsOneLine header
header_is_line = (112 ∷ 51 ∷ 108 ∷ 45 ∷ 116 ∷ 114 ∷ 97 ∷ 99 ∷ 101 ∷ 32 ∷ 49 ∷ [], refl, refl)

-- ---- the lines of picks, and the word that begins the last line

lines_report : ReportsLine lines_format
unfolding lines_format
lines_report = reports_until line_format next_line first_line end_word pick_line lines_series.differs (part_is_within end_word refl) lawful_lines

lines_cut : Each IsCut lines_format
unfolding lines_format
lines_cut = each_until IsWhole IsInLine IsCut line_format next_line first_line end_word (inl refl) whole_append cut_at (λ item. lines_are_whole (line_format item) (pick_line item)) refl

-- ---- the whole

body_reports : ReportsLine body_format
unfolding body_format
body_reports = reports_record _ _ _ (λ _. refl) (λ _. refl) (reports_rest lines_format counts_format lines_report lines_cut counts_line (0, 0) (counts_fit 0 0 (omega arith) (omega arith)))

body_whole : Each IsWhole body_format
unfolding body_format
body_whole = each_record IsWhole _ _ _ (each_both IsCut IsOneLine IsWhole lines_format counts_format cut_then_line lines_cut counts_line.one)

trace_reports : ReportsLine trace_format
unfolding trace_format
trace_reports = reports_text_then header body_format header_is_line body_reports

trace_whole : Each IsWhole trace_format
unfolding trace_format
trace_whole = each_text_then IsWhole IsWhole IsWhole header body_format whole_append (whole_line header header_is_line) body_whole

-- the line that is reported of a refused text
pub trace_first_bad : (s : List ℕ) (f : FieldFault) → read_all trace_format s ≡ Err f → IsFirstBadLine trace_format s (line_number s f.left)
trace_first_bad s f e = first_bad trace_format trace_reports trace_whole s f e
