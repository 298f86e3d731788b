-- Results of a search through the counts of some nodes.
use Rattle.std.specs.Prelude.{ℕ}
use Rattle.p3l_model.specs.declared.workers.SearchResult.{SearchResult}
use Rattle.p3l_model.specs.declared.workers.SearchResult.TheVariants.{Found, After}

-- the count that was found, or what the counts after a place give
abbrev pub count_found : SearchResult → (ℕ → ℕ) → ℕ
count_found (Found count) after = count
count_found (After next) after = after next
