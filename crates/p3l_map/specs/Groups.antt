-- The pieces of a map by turns, and their groups, of which the last may only have begun.
use Rattle.std.specs.Prelude.{ℕ, Bool, Option, Some, None, cond, List, [], ◌∷◌, ◌++◌, map, drop, length, get_or}
use Rattle.p3l_firing.specs.Lists.{first_or}
use Rattle.p3l_firing.specs.Token.{credit}
use Rattle.p3l_firing.specs.declared.token.Token.{Token}
use Rattle.p3l_map.specs.Map.{spot, all_alike}
use Rattle.p3l_map.specs.Places.{read_by, in_by, total, groups, left}
use Rattle.p3l_template.specs.Finding.{bare}
use Rattle.p3l_map.specs.MapKind.{bare_pieces, line_at}

-- the rest of line `w`, where `taken` has the number of tokens that were taken from each line
abbrev pub left_at : List (List Token) → List ℕ → ℕ → List Token
left_at lines taken w = drop (get_or taken w 0) (line_at lines w)

-- the number of tokens in the lines
abbrev pub count_of : List (List Token) → ℕ
count_of lines = total (line_at lines) (length lines)

-- the tokens of the lines by turns, from a place on, where groups have number pieces
abbrev pub by_turns : (number : ℕ) → List (List Token) → ℕ → List Token
by_turns number lines from = read_by (line_at lines) (spot (bare_pieces number (length lines))) from (count_of lines)

-- each line has the tokens of its places
abbrev pub are_in_turn : (number : ℕ) → List (List Token) → ℕ → Bool
are_in_turn number lines from =
    in_by (line_at lines) (spot (bare_pieces number (length lines))) (length lines) from (count_of lines)

-- the group that has begun, if there is a piece in it
unfoldable pub last_of : List Token → List (List Token)
last_of [] = []
last_of (x ∷ xs) = (x ∷ xs) ∷ []

-- the groups of these pieces, the whole ones and the one that has begun
abbrev pub begun : (number : ℕ) → List Token → List (List Token)
begun number xs = groups number [] xs ++ last_of (left number [] xs)

-- the token that a group is made, without its outcome
abbrev pub made : List Token → Token
made g = bare (first_or credit g)

-- the tokens that these groups are made, where the pieces of each are alike
unfoldable pub made_alike : List (List Token) → Option (List Token)
made_alike gs = cond (all_alike gs) (Some (map made gs)) None
