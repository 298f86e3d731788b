-- The values of a map: what Scatter, the lines and Gather hold, and what it is worth.
use Rattle.std.specs.Prelude.{ℕ, zero, suc, ◌+◌, ◌-◌, ◌%◌, Bool, true, false, ◌&&◌, nat_eq, nat_lt, nat_le, List, [], ◌∷◌, ◌++◌, map, length}
use Rattle.p3l_base.specs.declared.outcome.Outcome.{Outcome}
use Rattle.p3l_firing.specs.Lists.{first_or}
use Rattle.p3l_firing.specs.Token.{bodies, credit, same_tags}
use Rattle.p3l_firing.specs.declared.token.Token.{Token}
use Rattle.p3l_map.specs.Places.{read_by, in_by, total, groups, left}

-- a map of number elements over lines workers
pub record Pieces : Type 0 where
  pub number : ℕ
  pub lines : ℕ
  pub cut : ℕ → Outcome → Outcome
  pub inner : Outcome → Outcome
  pub join : List Outcome → Outcome

-- the line of place p: in each group from the first on
unfoldable pub spot : Pieces → ℕ → ℕ
spot q p = (p % q.number) % q.lines

abbrev pub piece : Pieces → ℕ → Token → Token
piece q k x = record x { body = q.inner (q.cut k x.body) }

-- the outcomes of m pieces of the token x from k on
unfoldable pub pieces : Pieces → ℕ → ℕ → Token → List Token
pieces q k zero x = []
pieces q k (suc m) x = piece q k x ∷ pieces q (suc k) m x

unfoldable pub outcomes : Pieces → ℕ → ℕ → Outcome → List Outcome
outcomes q k zero o = []
outcomes q k (suc m) o = q.inner (q.cut k o) ∷ outcomes q (suc k) m o

-- one group made one token
unfoldable pub joined : Pieces → List Token → Token
joined q ts = record { tags = (first_or credit ts).tags; body = q.join (bodies ts) }

-- the outcome of an item
unfoldable pub mapped : Pieces → Outcome → Outcome
mapped q o = q.join (outcomes q 0 q.number o)

pub record View : Type 0 where
  pub lines : ℕ → List Token
  -- Gather's list, Scatter's token (or none) and its k
  pub held : List Token
  pub sending : List Token
  pub sent : ℕ
  pub input : List Token
  pub output : List Token

unfoldable pub unsent : Pieces → List Token → ℕ → List Token
unsent q [] k = []
unsent q (x ∷ xs) k = pieces q k (q.number - k) x

abbrev pub under_way : Pieces → View → ℕ
under_way q v = total v.lines q.lines

-- all pieces in order
unfoldable pub whole : Pieces → View → List Token
whole q v = v.held ++ (read_by v.lines (spot q) (length v.held) (under_way q v) ++ unsent q v.sending v.sent)

unfoldable pub to_come : Pieces → View → List Token
to_come q v = map (joined q) (groups q.number [] (whole q v))

-- the piece that Scatter sends next, 0 where it holds no token
unfoldable pub next_piece : List Token → ℕ → ℕ
next_piece [] k = 0
next_piece (x ∷ xs) k = k

-- Scatter holds one token, of which a piece is left to send, or none
unfoldable pub scatter_ok : Pieces → List Token → ℕ → Bool
scatter_ok q [] k = true
scatter_ok q (x ∷ []) k = nat_lt k q.number
scatter_ok q (x ∷ (y ∷ ys)) k = false

-- all these tokens have these tags
unfoldable pub all_tagged : List ℕ → List Token → Bool
all_tagged tags [] = true
all_tagged tags (x ∷ xs) = same_tags x.tags tags && all_tagged tags xs

-- the pieces of a group have the tags of one token
unfoldable pub alike : List Token → Bool
alike [] = true
alike (x ∷ xs) = all_tagged x.tags xs

unfoldable pub all_alike : List (List Token) → Bool
all_alike [] = true
all_alike (g ∷ gs) = alike g && all_alike gs

unfoldable pub well_kept : Pieces → View → Bool
well_kept q v =
    nat_le (length v.held) q.number
    && (nat_eq ((length v.held + under_way q v) % q.number) (next_piece v.sending v.sent)
    && (in_by v.lines (spot q) q.lines (length v.held) (under_way q v)
    && (nat_eq (length (left q.number [] (whole q v))) 0
    && (all_alike (groups q.number [] (whole q v)) && scatter_ok q v.sending v.sent))))
