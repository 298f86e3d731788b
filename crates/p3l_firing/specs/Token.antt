-- Tokens and outcomes.
use Rattle.std.specs.Prelude.{ℕ, suc, List, [], ◌∷◌, Bool, true, false, ◌&&◌, nat_eq}
use Rattle.p3l_base.specs.declared.outcome.Outcome.{Outcome}
use Rattle.p3l_base.specs.declared.outcome.Outcome.TheVariants.{Value, Trapped}
use Rattle.p3l_firing.specs.declared.token.Token.{Token}

-- a token without tags
abbrev pub plain : Outcome → Token
plain body = record { tags = []; body = body }

-- a credit: a token without tags whose value has no words
abbrev pub credit : Token
credit = plain (Value [])

-- the token with `f` of its outcome, and its own tags
abbrev pub over : (Outcome → Outcome) → Token → Token
over f token = record { tags = token.tags; body = f token.body }

-- the most tags that a token has: two for each level of nodes that may be one in another
abbrev pub most_tags : ℕ
most_tags = 12

-- the token with a tag more; the newest tag is the first
abbrev pub tagged : ℕ → Token → Token
tagged tag token = record { tags = tag ∷ token.tags; body = token.body }

-- the newest of a token's tags, 0 if it has none
unfoldable pub first_tag : List ℕ → ℕ
first_tag [] = 0
first_tag (tag ∷ tags) = tag

-- the tags without the newest
unfoldable pub later_tags : List ℕ → List ℕ
later_tags [] = []
later_tags (tag ∷ tags) = tags

-- the tags with one more in the newest
unfoldable pub next_tag : List ℕ → List ℕ
next_tag [] = []
next_tag (tag ∷ tags) = suc tag ∷ tags

-- true exactly if these are the same tags
unfoldable pub same_tags : List ℕ → List ℕ → Bool
same_tags [] [] = true
same_tags [] (other ∷ others) = false
same_tags (tag ∷ tags) [] = false
same_tags (tag ∷ tags) (other ∷ others) = nat_eq tag other && same_tags tags others

-- the newest tag of a token: in a loop its turn, in a farm its number
abbrev pub newest_tag : Token → ℕ
newest_tag token = first_tag token.tags

-- the token without its newest tag
abbrev pub untagged : Token → Token
untagged token = record { tags = later_tags token.tags; body = token.body }

-- the second newest tag: in a loop the number of a token
abbrev pub second_tag : Token → ℕ
second_tag token = newest_tag (untagged token)

-- a token that enters a loop with this number, in its first turn
abbrev pub admitted : ℕ → Token → Token
admitted number token = tagged 1 (tagged number token)

-- a token that goes round a loop once more
abbrev pub once_more : Token → Token
once_more token = record { tags = next_tag token.tags; body = token.body }

-- the outcomes of tokens
unfoldable pub bodies : List Token → List Outcome
bodies [] = []
bodies (token ∷ tokens) = token.body ∷ bodies tokens

-- the outcome is a trap
abbrev pub is_trap : Outcome → Bool
is_trap (Value words) = false
is_trap (Trapped trap) = true

-- one of the outcomes is a trap
unfoldable pub has_trap : List Outcome → Bool
has_trap [] = false
has_trap (Value words ∷ outcomes) = has_trap outcomes
has_trap (Trapped trap ∷ outcomes) = true
