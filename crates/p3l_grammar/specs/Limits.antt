-- The limits of bodies: at most 64 brackets open at once, and at most 256 operators in an expression.
use Rattle.std.specs.Prelude.{ℕ, zero, suc, pred, ◌≤◌, List, [], ◌∷◌, Bool, true, false, nat_le, not, ◌&&◌, if◌then◌else◌}
use Rattle.p3l_lexer.specs.declared.mark.Mark.{Mark}
use Rattle.p3l_lexer.specs.declared.mark.Mark.TheVariants as marks
use Rattle.p3l_grammar.specs.declared.nest.Nest.{Nest}
use Rattle.p3l_grammar.specs.declared.nest.Role.{Role}
use Rattle.p3l_grammar.specs.declared.nest.Role.TheVariants as roles
use Rattle.p3l_grammar.specs.Symbol.{Symbol, sign}

-- the effect of a mark on the nesting of a body
abbrev pub role_of : Mark → Role
role_of marks.While = roles.Test
role_of marks.If = roles.Test
role_of marks.For = roles.For
role_of marks.OpenBody = roles.OpenBody
role_of marks.CloseBody = roles.CloseBody
role_of marks.OpenParen = roles.OpenParen
role_of marks.CloseParen = roles.Close
role_of marks.OpenBracket = roles.OpenBracket
role_of marks.CloseBracket = roles.Close
role_of marks.OpenBrace = roles.OpenBrace
role_of marks.CloseBrace = roles.CloseBrace
role_of marks.Semicolon = roles.Semicolon
role_of marks.Assign = roles.Assign
role_of (marks.Operator op) = roles.Operator
role_of marks.Bang = roles.Operator
role_of marks.Tilde = roles.Operator
role_of _ = roles.Other

-- before a body and after it
abbrev pub at_rest : Nest
at_rest = record { in_body = false; brackets = 0; wanted = 0; in_term = false; base = 0; operators = 0 }

-- the nesting where a statement may begin
abbrev pub at_statement : ℕ → Nest
at_statement brackets = record { in_body = true; brackets = brackets; wanted = 0; in_term = false; base = brackets; operators = 0 }

-- the nesting where a part of a statement begins: an expression, or a target
abbrev pub at_part : Nest → ℕ → Bool → ℕ → Nest
at_part n wanted in_term base =
    record { in_body = true; brackets = n.brackets; wanted = wanted; in_term = in_term; base = base; operators = 0 }

-- in the head of a `for` a condition and then a target come after semicolons, and else a statement
abbrev pub part_after : Nest → ℕ → Nest
part_after n zero = at_statement n.brackets
part_after n (suc zero) = at_part n 0 false n.brackets
part_after n (suc (suc zero)) = at_part n 1 true n.brackets
part_after n (suc (suc (suc k))) = at_statement n.brackets

abbrev pub after_semicolon : Nest → Nest
after_semicolon n = part_after n n.wanted

-- a bracket that begins an index of a target begins an expression
abbrev pub after_bracket : Nest → Nest
after_bracket n = record n {
  brackets = suc n.brackets;
  operators = if not n.in_term && nat_le n.brackets n.base then 0 else n.operators;
}

-- after a mark in a body
abbrev pub after_role : Role → Nest → Nest
after_role roles.CloseBody n = at_rest
after_role roles.OpenBracket n = after_bracket n
after_role roles.OpenParen n = record n { brackets = suc n.brackets }
after_role roles.Close n = record n { brackets = pred n.brackets }
after_role roles.OpenBrace n = at_statement (suc n.brackets)
after_role roles.CloseBrace n = at_statement (pred n.brackets)
after_role roles.Semicolon n = after_semicolon n
after_role roles.Assign n = at_part n n.wanted true n.brackets
after_role roles.Test n = at_part n 0 true n.brackets
after_role roles.For n = at_part n 2 false (suc n.brackets)
after_role roles.Operator n = record n { operators = suc n.operators }
after_role roles.OpenBody n = n
after_role roles.Other n = n

-- after a mark outside bodies
abbrev pub before_body : Role → Nest
before_body roles.OpenBody = at_statement 0
before_body _ = at_rest

-- after one more symbol
abbrev pub after_symbol : Nest → Symbol → Nest
after_symbol n (sign m) = if n.in_body then after_role (role_of m) n else before_body (role_of m)
after_symbol n _ = n

abbrev pub IsKept : Nest → Type 0
IsKept n = (n.brackets ≤ 64) × (n.operators ≤ 256)

-- after the 65th bracket, or the 257th operator
abbrev pub IsPast : Nest → Type 0
IsPast n = IsKept n → ⊥

-- the nesting after some symbols
abbrev pub nest_after : Nest → List Symbol → Nest
nest_after n [] = n
nest_after n (t ∷ ts) = nest_after (after_symbol n t) ts

-- no symbol passes a limit
abbrev pub IsWithin : Nest → List Symbol → Type 0
IsWithin n [] = Unit {0}
IsWithin n (t ∷ ts) = IsKept (after_symbol n t) × IsWithin (after_symbol n t) ts
