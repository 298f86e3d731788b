-- The text of a certificate.
use Rattle.std.specs.Prelude.{ℕ, Bool, true, List, [], ◌∷◌, Option, Some, None}
use Rattle.p3l_cert.specs.declared.cert.Cert.{Cert}
use Rattle.p3l_cert.specs.declared.cert.Row.{Row}
use Rattle.p3l_cert.specs.declared.item.CountItem.{CountItem}
use Rattle.p3l_cert.specs.declared.item.RowItem.{RowItem}
use Rattle.p3l_cert.specs.Order.{comes_before}
use Rattle.p3l_format.specs.Format.{Format, within, both, record_of}
use Rattle.p3l_format.specs.Text.{text_then}
use Rattle.p3l_format.specs.Decimal.{number_in, number_then}
use Rattle.p3l_format.specs.Line.{line, number_line}
use Rattle.p3l_format.specs.Series.{until}
use Rattle.p3l_base.specs.Limits.{most_processors}

-- "p3l-cert 1" and a line feed
abbrev pub header : List ℕ
header = 112 ∷ 51 ∷ 108 ∷ 45 ∷ 99 ∷ 101 ∷ 114 ∷ 116 ∷ 32 ∷ 49 ∷ 10 ∷ []

-- "processors "
abbrev pub processors_word : List ℕ
processors_word = 112 ∷ 114 ∷ 111 ∷ 99 ∷ 101 ∷ 115 ∷ 115 ∷ 111 ∷ 114 ∷ 115 ∷ 32 ∷ []

-- "counts"
abbrev pub counts_word : List ℕ
counts_word = 99 ∷ 111 ∷ 117 ∷ 110 ∷ 116 ∷ 115 ∷ []

-- "service "
abbrev pub service_word : List ℕ
service_word = 115 ∷ 101 ∷ 114 ∷ 118 ∷ 105 ∷ 99 ∷ 101 ∷ 32 ∷ []

-- "used "
abbrev pub used_word : List ℕ
used_word = 117 ∷ 115 ∷ 101 ∷ 100 ∷ 32 ∷ []

-- "row "
abbrev pub row_word : List ℕ
row_word = 114 ∷ 111 ∷ 119 ∷ 32 ∷ []

-- "end" and a line feed
abbrev pub end_line : List ℕ
end_line = 101 ∷ 110 ∷ 100 ∷ 10 ∷ []

abbrev pub space : List ℕ
space = 32 ∷ []

abbrev pub feed : List ℕ
feed = 10 ∷ []

-- the greatest number of 32 bits
abbrev pub most_number : ℕ
most_number = 4294967295

-- the greatest bound and service time: 2 ^ 110 - 1
abbrev pub most_bound : ℕ
most_bound = 1298074214633706907132624082305023

-- ---- counts

unfoldable pub count_format : CountItem → Format ℕ ℕ
count_format item = text_then space (number_in 0 most_number)

abbrev pub next_count : ℕ → CountItem
next_count count = record {}

abbrev pub first_count : CountItem
first_count = record {}

unfoldable pub counts_format : Format ℕ (List ℕ)
counts_format = line (text_then counts_word (until count_format next_count first_count feed))

-- ---- rows

abbrev pub is_above : Option Row → Row → Bool
is_above None row = true
is_above (Some other) row = comes_before other row

unfoldable pub numbers_format : Format ℕ Row
numbers_format = record_of (λ p. record { node = p.0; bound = p.1.0; cap = p.1.1.0; least = p.1.1.1 }) (λ r. (r.node, (r.bound, (r.cap, r.least))))
    (both (number_then 0 most_number space) (both (number_then 0 most_bound space) (both (number_then 1 most_processors space) (number_then 1 513 feed))))

-- a row above the one before it
unfoldable pub row_format : RowItem → Format ℕ Row
row_format item = line (text_then row_word (within (is_above item.above) numbers_format))

abbrev pub next_row : Row → RowItem
next_row row = record { above = Some row }

abbrev pub first_row : RowItem
first_row = record { above = None }

unfoldable pub rows_format : Format ℕ (List Row)
rows_format = until row_format next_row first_row end_line

-- ---- the whole

unfoldable pub body_format : Format ℕ Cert
body_format = record_of
    (λ p. record { processors = p.0; counts = record { list = p.1.0 }; service = p.1.1.0; used = p.1.1.1.0; rows = p.1.1.1.1 })
    (λ c. (c.processors, (c.counts.list, (c.service, (c.used, c.rows)))))
    (both (number_line processors_word 1 most_processors) (both counts_format (both (number_line service_word 0 most_bound) (both (number_line used_word 0 most_number) rows_format))))

unfoldable pub cert_format : Format ℕ Cert
cert_format = text_then header body_format
