-- Bounds on the numbers of a certificate that has a text.
use Rattle.std.proofs.Common.{◌≡◌, ℕ, zero, suc, ◌^◌, ◌≤◌, ◌<◌, true, leb, ltb, ◌&&◌, List, [], ◌∷◌, get_or, length, refl, arith, lit<}
use Rattle.std.specs.List.{All}
use Rattle.std.proofs.lemmas.Bool.{leb-true, le-leb, lt-ltb}
use Rattle.p3l_format.specs.Format.{within, pair, as_form}
use Rattle.p3l_format.specs.Text.{text_then, then_text}
use Rattle.p3l_format.specs.Decimal.{number_text, number_in, number_then}
use Rattle.p3l_format.specs.Line.{line, number_line}
use Rattle.p3l_format.specs.Series.{fits_from, until}
use Rattle.p3l_format.specs.laws.Parts.{both_true, first_true, second_true}
use Rattle.p3l_cert.specs.declared.cert.Cert.{Cert}
use Rattle.p3l_cert.specs.declared.cert.Row.{Row}
use Rattle.p3l_cert.specs.declared.item.RowItem.{RowItem}
use Rattle.p3l_cert.specs.declared.item.CountItem.{CountItem}
use Rattle.p3l_cert.specs.Order.{comes_before}
use Rattle.p3l_cert.specs.Rows.{IsInRange, Ascend, AreRows}
use Rattle.p3l_cert.specs.Text.{processors_word, count_format, next_count, first_count, counts_format, service_word, used_word, most_bound, most_number, space, feed, is_above, numbers_format, row_format, next_row, first_row, rows_format, body_format, cert_format}
use Rattle.p3l_cert.proofs.Order.{before_chain}

in_from : (low high n : ℕ) → (number_in low high).fits n ≡ true → (low ≤ n) × (n ≤ high)
unfolding within
in_from low high n e =
    let both = second_true ((number_text (2 ^ 128)).fits n) (leb low n && leb n high) e in
    (leb-true low n (first_true (leb low n) (leb n high) both), leb-true n high (second_true (leb low n) (leb n high) both))

then_from : (low high : ℕ) (text : List ℕ) (n : ℕ) → (number_then low high text).fits n ≡ true → (low ≤ n) × (n ≤ high)
unfolding number_then then_text
then_from low high text n e = in_from low high n e

line_from : (word : List ℕ) (low high n : ℕ) → (number_line word low high).fits n ≡ true → (low ≤ n) × (n ≤ high)
unfolding number_line line text_then
line_from word low high n e = then_from low high (10 ∷ []) n e

numbers_from : (row : Row) → numbers_format.fits row ≡ true → IsInRange row
unfolding numbers_format as_form pair
numbers_from row e =
    let node = (number_then 0 most_number space).fits row.node in
    let bound = (number_then 0 most_bound space).fits row.bound in
    let cap = (number_then 1 512 space).fits row.cap in
    let least = (number_then 1 513 feed).fits row.least in
    let past_node = second_true node (bound && (cap && least)) (second_true true (node && (bound && (cap && least))) e) in
    let past_bound = second_true bound (cap && least) past_node in
    let bounds = then_from 0 most_bound space row.bound (first_true bound (cap && least) past_node) in
    let caps = then_from 1 512 space row.cap (first_true cap least past_bound) in
    let leasts = then_from 1 513 feed row.least (second_true cap least past_bound) in
    record { bound = omega (arith, bounds.1); some_cap = caps.0; cap = caps.1; some_least = leasts.0; least = leasts.1 }

row_from : (item : RowItem) (row : Row) → (row_format item).fits row ≡ true → IsInRange row × (is_above item.above row ≡ true)
unfolding row_format line text_then within
row_from item row e = (numbers_from row (first_true (numbers_format.fits row) (is_above item.above row) e), second_true (numbers_format.fits row) (is_above item.above row) e)

rows_range : (item : RowItem) (rows : List Row) → fits_from row_format next_row item rows ≡ true → All IsInRange rows
rows_range item [] e i d inside = absurd (omega arith)
rows_range item (row ∷ rows) e zero d inside = (row_from item row (first_true ((row_format item).fits row) (fits_from row_format next_row (next_row row) rows) e)).0
rows_range item (row ∷ rows) e (suc i) d inside = rows_range (next_row row) rows (second_true ((row_format item).fits row) (fits_from row_format next_row (next_row row) rows) e) i d (omega arith)

-- a row comes before all of those after it
rows_after : (first : Row) (rows : List Row) → fits_from row_format next_row (next_row first) rows ≡ true → (i : ℕ) (d : Row) → i < length rows → comes_before first (get_or rows i d) ≡ true
rows_after first [] e i d inside = absurd (omega arith)
rows_after first (row ∷ rows) e zero d inside = (row_from (next_row first) row (first_true ((row_format (next_row first)).fits row) (fits_from row_format next_row (next_row row) rows) e)).1
rows_after first (row ∷ rows) e (suc i) d inside =
    let here = (row_from (next_row first) row (first_true ((row_format (next_row first)).fits row) (fits_from row_format next_row (next_row row) rows) e)).1 in
    let later = rows_after row rows (second_true ((row_format (next_row first)).fits row) (fits_from row_format next_row (next_row row) rows) e) i d (omega arith) in
    let last = get_or rows i d in
    before_chain first.node first.bound first.cap row.node row.bound row.cap last.node last.bound last.cap here later

rows_ascend : (item : RowItem) (rows : List Row) → fits_from row_format next_row item rows ≡ true → Ascend rows
rows_ascend item [] e i j d f less inside = absurd (omega arith)
rows_ascend item (row ∷ rows) e i zero d f less inside = absurd (omega arith)
rows_ascend item (row ∷ rows) e zero (suc j) d f less inside = rows_after row rows (second_true ((row_format item).fits row) (fits_from row_format next_row (next_row row) rows) e) j f (omega arith)
rows_ascend item (row ∷ rows) e (suc i) (suc j) d f less inside = rows_ascend (next_row row) rows (second_true ((row_format item).fits row) (fits_from row_format next_row (next_row row) rows) e) i j d f (omega arith) (omega arith)

rows_from : (rows : List Row) → rows_format.fits rows ≡ true → AreRows rows
unfolding rows_format until
rows_from rows e = record { range = rows_range first_row rows e; ascend = rows_ascend first_row rows e }

pub form_from : (cert : Cert) → cert_format.fits cert ≡ true → (cert.processors ≤ 512) × AreRows cert.rows
unfolding cert_format text_then body_format as_form pair
form_from cert e =
    let processors = (number_line processors_word 1 512).fits cert.processors in
    let counts = counts_format.fits cert.counts.list in
    let service = (number_line service_word 0 most_bound).fits cert.service in
    let used = (number_line used_word 0 most_number).fits cert.used in
    let rows = rows_format.fits cert.rows in
    let all = second_true true (processors && (counts && (service && (used && rows)))) e in
    let past_processors = second_true processors (counts && (service && (used && rows))) all in
    let past_counts = second_true counts (service && (used && rows)) past_processors in
    let past_service = second_true service (used && rows) past_counts in
    ((line_from processors_word 1 512 cert.processors (first_true processors (counts && (service && (used && rows))) all)).1, rows_from cert.rows (second_true used rows past_service))

-- ---- the other way

in_to : (low high n : ℕ) → high < 2 ^ 128 → low ≤ n → n ≤ high → (number_in low high).fits n ≡ true
unfolding within number_text
in_to low high n below from to =
    both_true (ltb n (2 ^ 128)) (leb low n && leb n high) (lt-ltb n (2 ^ 128) (omega arith)) (both_true (leb low n) (leb n high) (le-leb low n from) (le-leb n high to))

then_to : (low high : ℕ) (text : List ℕ) (n : ℕ) → high < 2 ^ 128 → low ≤ n → n ≤ high → (number_then low high text).fits n ≡ true
unfolding number_then then_text
then_to low high text n below from to = in_to low high n below from to

line_to : (word : List ℕ) (low high n : ℕ) → high < 2 ^ 128 → low ≤ n → n ≤ high → (number_line word low high).fits n ≡ true
unfolding number_line line text_then
line_to word low high n below from to = then_to low high (10 ∷ []) n below from to

numbers_to : (row : Row) → row.node ≤ most_number → IsInRange row → numbers_format.fits row ≡ true
unfolding numbers_format as_form pair
numbers_to row few range =
    let bound = range.bound in
    both_true true _ refl
    (both_true _ _ (then_to 0 most_number space row.node (lit< tt) (omega arith) few)
    (both_true _ _ (then_to 0 most_bound space row.bound (lit< tt) (omega arith) (omega (arith, bound)))
    (both_true _ _ (then_to 1 512 space row.cap (lit< tt) range.some_cap range.cap) (then_to 1 513 feed row.least (lit< tt) range.some_least range.least))))

row_to : (item : RowItem) (row : Row) → row.node ≤ most_number → IsInRange row → is_above item.above row ≡ true → (row_format item).fits row ≡ true
unfolding row_format line text_then within
row_to item row few range above = both_true (numbers_format.fits row) (is_above item.above row) (numbers_to row few range) above

rows_each : (item : RowItem) (rows : List Row) → All (λ row. row.node ≤ most_number) rows → AreRows rows → ((d : Row) → 0 < length rows → is_above item.above (get_or rows 0 d) ≡ true) → fits_from row_format next_row item rows ≡ true
rows_each item [] few are first = refl
rows_each item (row ∷ rows) few are first =
    both_true ((row_format item).fits row) (fits_from row_format next_row (next_row row) rows)
    (row_to item row (few 0 row (omega arith)) (are.range 0 row (omega arith)) (first row (omega arith)))
    (rows_each (next_row row) rows (λ i d inside. few (suc i) d (omega arith)) (record { range = λ i d inside. are.range (suc i) d (omega arith); ascend = λ i j d e less inside. are.ascend (suc i) (suc j) d e (omega arith) (omega arith) })
    (λ d some. are.ascend 0 1 row d (omega arith) (omega arith)))

rows_to : (rows : List Row) → All (λ row. row.node ≤ most_number) rows → AreRows rows → rows_format.fits rows ≡ true
unfolding rows_format until
rows_to rows few are = rows_each first_row rows few are (λ d some. refl)

count_to : (item : CountItem) (n : ℕ) → n ≤ most_number → (count_format item).fits n ≡ true
unfolding count_format text_then
count_to item n few = in_to 0 most_number n (lit< tt) (omega arith) few

counts_each : (item : CountItem) (counts : List ℕ) → All (λ n. n ≤ most_number) counts → fits_from count_format next_count item counts ≡ true
counts_each item [] few = refl
counts_each item (n ∷ ns) few = both_true ((count_format item).fits n) (fits_from count_format next_count (next_count n) ns) (count_to item n (few 0 n (omega arith))) (counts_each (next_count n) ns (λ i d inside. few (suc i) d (omega arith)))

counts_to : (counts : List ℕ) → All (λ n. n ≤ most_number) counts → counts_format.fits counts ≡ true
unfolding counts_format line text_then until
counts_to counts few = counts_each first_count counts few

pub form_to : (cert : Cert) → 1 ≤ cert.processors → cert.processors ≤ 512 → All (λ n. n ≤ most_number) cert.counts.list → cert.service ≤ most_bound → cert.used ≤ most_number → All (λ row. row.node ≤ most_number) cert.rows → AreRows cert.rows → cert_format.fits cert ≡ true
unfolding cert_format text_then body_format as_form pair
form_to cert some few counts service used nodes rows =
    both_true true _ refl
    (both_true _ _ (line_to processors_word 1 512 cert.processors (lit< tt) some few)
    (both_true _ _ (counts_to cert.counts.list counts)
    (both_true _ _ (line_to service_word 0 most_bound cert.service (lit< tt) (omega arith) service)
    (both_true _ _ (line_to used_word 0 most_number cert.used (lit< tt) (omega arith) used) (rows_to cert.rows nodes rows)))))
