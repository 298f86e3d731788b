-- The text of a certificate is read as it is spelled.
use Rattle.std.proofs.Common.{◌≡◌, ℕ, ◌<◌, List, length, Ok, refl, arith}
use Rattle.std.proofs.lemmas.List.{length-append}
use Rattle.p3l_cert.specs.declared.cert.Row.{Row}
use Rattle.p3l_cert.specs.declared.item.CountItem.{CountItem}
use Rattle.p3l_cert.specs.declared.item.RowItem.{RowItem}
use Rattle.p3l_cert.specs.Text.{row_word, counts_word, processors_word, service_word, used_word, header, end_line, space, feed, most_number, most_bound, count_format, next_count, first_count, counts_format, is_above, numbers_format, row_format, next_row, first_row, rows_format, body_format, cert_format}
use Rattle.p3l_format.specs.Text.{text_then}
use Rattle.p3l_format.specs.Decimal.{number_in}
use Rattle.p3l_format.specs.Line.{line}
use Rattle.p3l_format.specs.Lawful.{IsLawful, IsLawfulBefore}
use Rattle.p3l_format.specs.laws.Formats.{lawful_within, lawful_both, lawful_record}
use Rattle.p3l_format.specs.laws.Text.{lawful_text_then, text_then_before, before_any, any_rest}
use Rattle.p3l_format.specs.laws.Decimal.{number_in_before, lawful_number_then, no_digit_first}
use Rattle.p3l_format.specs.laws.Line.{lawful_line, lawful_number_line}
use Rattle.p3l_format.specs.laws.Series.{IsSeries, lawful_until}
use Rattle.p3l_base.specs.Limits.{most_processors}

count_before : (item : CountItem) → IsLawfulBefore no_digit_first (count_format item)
unfolding count_format
count_before item = text_then_before no_digit_first space (number_in 0 most_number) (number_in_before 0 most_number)

pub counts_series : IsSeries no_digit_first count_format feed
unfolding count_format text_then
counts_series = record {
  items = count_before;
  starts = λ p v rest. refl;
  stops = λ rest. refl;
  differs = λ p v rest. refl;
  some = λ p v. omega arith;
}

pub lawful_counts : IsLawful counts_format
unfolding counts_format
lawful_counts = lawful_line _ (lawful_text_then counts_word _ (lawful_until no_digit_first count_format next_count first_count feed counts_series))

pub lawful_numbers : IsLawful numbers_format
unfolding numbers_format
lawful_numbers = lawful_record _ _ _ (λ _. refl) (λ _. refl)
    (lawful_both _ _ (lawful_number_then 0 most_number space (λ rest. refl)) (lawful_both _ _ (lawful_number_then 0 most_bound space (λ rest. refl)) (lawful_both _ _ (lawful_number_then 1 most_processors space (λ rest. refl)) (lawful_number_then 1 513 feed (λ rest. refl)))))

pub lawful_row : (item : RowItem) → IsLawful (row_format item)
unfolding row_format
lawful_row item = lawful_line _ (lawful_text_then row_word _ (lawful_within (is_above item.above) numbers_format lawful_numbers))

pub rows_series : IsSeries any_rest row_format end_line
unfolding row_format line text_then
rows_series = record {
  items = λ p. before_any any_rest (row_format p) (lawful_row p);
  starts = λ p v rest. refl;
  stops = λ rest. refl;
  differs = λ p v rest. refl;
  some = λ p v. omega arith;
}

pub lawful_rows : IsLawful rows_format
unfolding rows_format
lawful_rows = lawful_until any_rest row_format next_row first_row end_line rows_series

pub lawful_body : IsLawful body_format
unfolding body_format
lawful_body = lawful_record _ _ _ (λ _. refl) (λ _. refl)
    (lawful_both _ _ (lawful_number_line processors_word 1 most_processors) (lawful_both _ _ lawful_counts (lawful_both _ _ (lawful_number_line service_word 0 most_bound) (lawful_both _ _ (lawful_number_line used_word 0 most_number) lawful_rows))))

pub lawful_cert : IsLawful cert_format
unfolding cert_format
lawful_cert = lawful_text_then header body_format lawful_body

-- reading takes some bytes
pub count_takes : (item : CountItem) (s : List ℕ) (v : ℕ) (rest : List ℕ) → (count_format item).read s ≡ Ok (v, rest) → length rest < length s
count_takes item s v rest e =
    let is = (counts_series.items item).spelled s v rest e in
    let some = counts_series.some item v in
    rw is (omega (arith, length-append ((count_format item).spell v) rest))

pub row_takes : (item : RowItem) (s : List ℕ) (v : Row) (rest : List ℕ) → (row_format item).read s ≡ Ok (v, rest) → length rest < length s
row_takes item s v rest e =
    let is = (rows_series.items item).spelled s v rest e in
    let some = rows_series.some item v in
    rw is (omega (arith, length-append ((row_format item).spell v) rest))
