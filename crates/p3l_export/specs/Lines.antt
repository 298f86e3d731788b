-- Lines of numbers, and what stands before and after the rows of a table.
use Rattle.std.specs.Prelude.{ℕ, List, [], ◌∷◌, ◌++◌, codes}
use Rattle.std.specs.Fmt.{decimal}
use Rattle.std.specs.List.{flat_map}

-- a number of a list
abbrev pub number_item : ℕ → List ℕ
number_item number = codes " " ++ (decimal number ++ codes ",")

-- numbers on a line of their own, and no line where there are none
abbrev pub numbers_line : List ℕ → List ℕ
numbers_line [] = []
numbers_line (n ∷ ns) = codes "   " ++ (flat_map number_item (n ∷ ns) ++ codes "\n")

-- the beginning of a table: what its rows have, their type and the table's name
unfoldable pub table_head : (columns name : List ℕ) → List ℕ
table_head columns name = codes "/* " ++ (columns ++ (codes " */\nstatic const " ++ (name ++ codes "[] = {\n")))

-- a table of these rows
unfoldable pub table : (columns name rows : List ℕ) → List ℕ
table columns name rows = table_head columns name ++ (rows ++ codes "};\n\n")

-- a list, to which a last row is added that no one reads, so that the list is never empty
unfoldable pub closed_table : (columns name rows last : List ℕ) → List ℕ
closed_table columns name rows last = table_head columns name ++ (rows ++ (codes "    " ++ (last ++ codes "\n};\n\n")))
