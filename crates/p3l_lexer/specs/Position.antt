-- Positions in a text.
use Rattle.std.specs.Prelude.{ℕ, ◌+◌, Bool, not, List, reverse, count_by, nat_eq, if◌then◌else◌}
use Rattle.std.specs.List.{prefix_len}
use Rattle.p3l_ast.specs.declared.position.Pos.{Pos}

-- a line feed, and nothing else, ends a line
abbrev pub is_line_end : ℕ → Bool
is_line_end byte = nat_eq byte 10

abbrev pub is_no_line_end : ℕ → Bool
is_no_line_end byte = not (is_line_end byte)

-- the position after these bytes: one line more than they have line feeds, and one column more than
-- there are bytes after the last of them
unfoldable pub position_after : List ℕ → Pos
position_after before = record {
  line = 1 + count_by is_line_end before;
  col = 1 + prefix_len is_no_line_end (reverse before);
}

-- the position after one byte more
abbrev pub moved : Pos → ℕ → Pos
moved at byte =
    if is_line_end byte then record { line = at.line + 1; col = 1 } else record { line = at.line; col = at.col + 1 }
