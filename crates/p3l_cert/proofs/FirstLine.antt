-- A refused text of a certificate is refused by its first line that isn't of the form.
use Rattle.std.proofs.Common.{ℕ, true, List, [], ◌∷◌, ◌≡◌, inl, refl, Err, arith}
use Rattle.p3l_cert.specs.declared.item.CountItem.{CountItem}
use Rattle.p3l_cert.specs.declared.item.RowItem.{RowItem}
use Rattle.p3l_cert.specs.Text.{header, processors_word, counts_word, service_word, used_word, row_word, end_line, space, feed, most_number, most_bound, count_format, next_count, first_count, counts_format, is_above, numbers_format, row_format, next_row, first_row, rows_format, body_format, cert_format}
use Rattle.p3l_cert.specs.laws.Text.{counts_series, rows_series, lawful_numbers, lawful_rows}
use Rattle.p3l_format.specs.Decimal.{number_in}
use Rattle.p3l_format.specs.declared.fault.FieldFault.{FieldFault}
use Rattle.p3l_format.specs.Format.{read_all}
use Rattle.p3l_format.specs.Line.{line, line_number, number_line}
use Rattle.p3l_format.specs.Series.{until}
use Rattle.p3l_format.specs.Text.{text_then}
use Rattle.p3l_format.specs.FirstLine.{IsWhole, IsFirstBadLine}
use Rattle.p3l_format.specs.laws.Formats.{lawful_within}
use Rattle.p3l_format.specs.laws.Text.{lawful_text_then}
use Rattle.p3l_format.specs.laws.Decimal.{no_digit_first}
use Rattle.p3l_format.specs.laws.Series.{lawful_until}
use Rattle.p3l_format.specs.laws.FirstLine.{Each, IsInLine, IsOneLine, IsLine, ReportsLine, part_then_part, part_then_line, whole_append, whole_line, line_is_within, lines_are_whole, number_in_line, number_then_line, number_ends_line, number_line_is, number_line_reports, is_line, reports_line, each_both, each_record, each_text_then, each_until, each_within, reports_both, reports_record, reports_text_then, reports_until, first_bad}

-- ---- lines

count_in_line : (item : CountItem) → Each IsInLine (count_format item)
unfolding count_format
count_in_line item = each_text_then IsInLine IsInLine IsInLine space (number_in 0 most_number) part_then_part refl (number_in_line 0 most_number)

counts_line : IsLine counts_format
unfolding counts_format
counts_line =
    is_line _ (lawful_text_then counts_word _ (lawful_until no_digit_first count_format next_count first_count feed counts_series))
    (each_text_then IsInLine IsOneLine IsOneLine counts_word _ part_then_line refl
    (each_until IsInLine IsOneLine IsOneLine count_format next_count first_count feed refl part_then_part part_then_line count_in_line ([], refl, refl)))

no_counts : counts_format.fits [] ≡ true
unfolding counts_format line text_then until
no_counts = refl

numbers_one : Each IsOneLine numbers_format
unfolding numbers_format
numbers_one = each_record IsOneLine _ _ _
    (each_both IsInLine IsOneLine IsOneLine _ _ part_then_line (number_then_line 0 most_number space refl)
    (each_both IsInLine IsOneLine IsOneLine _ _ part_then_line (number_then_line 0 most_bound space refl)
    (each_both IsInLine IsOneLine IsOneLine _ _ part_then_line (number_then_line 1 512 space refl) (number_ends_line 1 513))))

row_line : (item : RowItem) → IsLine (row_format item)
unfolding row_format
row_line item =
    is_line _ (lawful_text_then row_word _ (lawful_within (is_above item.above) numbers_format lawful_numbers))
    (each_text_then IsInLine IsOneLine IsOneLine row_word _ part_then_line refl (each_within IsOneLine (is_above item.above) numbers_format numbers_one))

end_is_line : IsOneLine end_line
end_is_line = (101 ∷ 110 ∷ 100 ∷ [], refl, refl)

header_is_line : IsOneLine header
header_is_line = (112 ∷ 51 ∷ 108 ∷ 45 ∷ 99 ∷ 101 ∷ 114 ∷ 116 ∷ 32 ∷ 49 ∷ [], refl, refl)

-- ---- the rows

rows_report : ReportsLine rows_format
unfolding rows_format
rows_report = reports_until row_format next_row first_row end_line row_line rows_series.differs (line_is_within end_line end_is_line) lawful_rows

rows_whole : Each IsWhole rows_format
unfolding rows_format
rows_whole = each_until IsWhole IsWhole IsWhole row_format next_row first_row end_line (inl refl) whole_append whole_append (λ item. lines_are_whole _ (row_line item)) (whole_line end_line end_is_line)

-- ---- the whole

processors_whole : Each IsWhole (number_line processors_word 1 512)
processors_whole = lines_are_whole _ (number_line_is processors_word 1 512 refl)

service_whole : Each IsWhole (number_line service_word 0 most_bound)
service_whole = lines_are_whole _ (number_line_is service_word 0 most_bound refl)

used_whole : Each IsWhole (number_line used_word 0 most_number)
used_whole = lines_are_whole _ (number_line_is used_word 0 most_number refl)

body_reports : ReportsLine body_format
unfolding body_format
body_reports = reports_record _ _ _ (λ _. refl) (λ _. refl)
    (reports_both _ _ (number_line_reports processors_word 1 512 refl (omega arith) (omega arith)) processors_whole
    (reports_both _ _ (reports_line counts_format counts_line [] no_counts) (lines_are_whole counts_format counts_line)
    (reports_both _ _ (number_line_reports service_word 0 most_bound refl (omega arith) (omega arith)) service_whole
    (reports_both _ _ (number_line_reports used_word 0 most_number refl (omega arith) (omega arith)) used_whole rows_report))))

body_whole : Each IsWhole body_format
unfolding body_format
body_whole = each_record IsWhole _ _ _
    (each_both IsWhole IsWhole IsWhole _ _ whole_append processors_whole
    (each_both IsWhole IsWhole IsWhole _ _ whole_append (lines_are_whole counts_format counts_line)
    (each_both IsWhole IsWhole IsWhole _ _ whole_append service_whole
    (each_both IsWhole IsWhole IsWhole _ _ whole_append used_whole rows_whole))))

cert_reports : ReportsLine cert_format
unfolding cert_format
cert_reports = reports_text_then header body_format header_is_line body_reports

cert_whole : Each IsWhole cert_format
unfolding cert_format
cert_whole = each_text_then IsWhole IsWhole IsWhole header body_format whole_append (whole_line header header_is_line) body_whole

-- the line that is reported of a refused text
pub cert_first_bad : (s : List ℕ) (f : FieldFault) → read_all cert_format s ≡ Err f → IsFirstBadLine cert_format s (line_number s f.left)
cert_first_bad s f e = first_bad cert_format cert_reports cert_whole s f e
