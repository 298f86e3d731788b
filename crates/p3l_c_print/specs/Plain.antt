-- The heights of expressions before whose use no lines stand.
use Rattle.std.specs.Prelude.{ℕ, ◌+◌, Option, None, Some, max, nat_le, if◌then◌else◌}
use Rattle.p3l_ast.specs.Tree.{Phrase}
use Rattle.p3l_c.specs.Translate.{height, is_plain}

-- the height of an expression before whose use no lines stand
unfoldable pub plain_height : Phrase → Option ℕ
plain_height e = if is_plain e then Some (height e) else None

-- a height that is not kept in a temp
abbrev pub shallow : Option ℕ → Option ℕ
shallow None = None
shallow (Some h) = if nat_le 16 h then None else Some h

-- the height of an operand before whose use no lines stand
unfoldable pub steady_height : Phrase → Option ℕ
steady_height e = shallow (plain_height e)

-- the height over two operands, if both have one
abbrev pub over_both : Option ℕ → Option ℕ → Option ℕ
over_both None b = None
over_both (Some g) None = None
over_both (Some g) (Some h) = Some (max g h + 1)
