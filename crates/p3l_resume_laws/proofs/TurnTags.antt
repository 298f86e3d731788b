-- The two tags of a loop, as tokens inside it carry them: with more tags or fewer behind them they stay as they are.
use Rattle.std.proofs.Common.{◌≡◌, ℕ, suc, ◌+◌, ◌-◌, ◌<◌, ◌≤◌, List, [], ◌∷◌, length, get_or, ap, arith}
use Rattle.p3l_firing.specs.Token.{first_tag, later_tags, next_tag}

-- tag k from the oldest on, of tags from the newest on
abbrev pub from_oldest : List ℕ → ℕ → ℕ
from_oldest tags k = get_or tags (length tags - 1 - k) 0

pub from_oldest-more : (tag : ℕ) (tags : List ℕ) (k : ℕ) → k < length tags → from_oldest (tag ∷ tags) k ≡ from_oldest tags k
from_oldest-more tag tags k inside =
    let e : length (tag ∷ tags) - 1 - k ≡ suc (length tags - 1 - k) = omega (arith, inside) in
    ap (λ n. get_or (tag ∷ tags) n 0) e

module _ (depth next turns : ℕ) where
  -- a number below `next`, and a turn from 1 on
  pub record IsTurn (tag turn : ℕ) : Type 0 where
    pub number : tag < next
    pub some : 1 ≤ turn
    pub few : turn ≤ turns

  -- tags that reach into the loop have such a number and turn there
  abbrev pub InTurn : List ℕ → Type 0
  InTurn tags = depth + 2 ≤ length tags → IsTurn (from_oldest tags depth) (from_oldest tags (depth + 1))

  pub turn_more : (tag : ℕ) (tags : List ℕ) → depth + 2 ≤ length tags → InTurn tags → InTurn (tag ∷ tags)
  turn_more tag tags deep h enough =
      let number = from_oldest-more tag tags depth (omega (arith, deep)) in
      let turn = from_oldest-more tag tags (depth + 1) (omega (arith, deep)) in
      let here = h deep in
      let low = here.number in
      let some = here.some in
      let few = here.few in
      record { number = omega (arith, number, low); some = omega (arith, turn, some); few = omega (arith, turn, few) }

  pub turn_less : (tag : ℕ) (tags : List ℕ) → InTurn (tag ∷ tags) → InTurn tags
  turn_less tag tags h deep =
      let number = from_oldest-more tag tags depth (omega (arith, deep)) in
      let turn = from_oldest-more tag tags (depth + 1) (omega (arith, deep)) in
      let here = h (omega (arith, deep)) in
      let low = here.number in
      let some = here.some in
      let few = here.few in
      record { number = omega (arith, number, low); some = omega (arith, turn, some); few = omega (arith, turn, few) }

  pub turn_later : (tags : List ℕ) → InTurn tags → InTurn (later_tags tags)
  unfolding later_tags
  turn_later [] h = h
  turn_later (tag ∷ tags) h = turn_less tag tags h

  -- the next tag keeps the turn, if the newest tag is one of a loop further inside
  pub turn_next : (tags : List ℕ) → depth + 3 ≤ length tags → InTurn tags → InTurn (next_tag tags)
  unfolding next_tag
  turn_next [] deep h = h
  turn_next (tag ∷ tags) deep h = turn_more (suc tag) tags (omega (arith, deep)) (turn_less tag tags h)

  no_turn : (tags : List ℕ) → length tags < depth + 2 → InTurn tags
  no_turn tags few deep = absurd (omega (arith, few, deep))

  pub turn_none : InTurn []
  turn_none = no_turn [] (omega arith)

  -- the loop's own tags are the newest
  numbers_own : (tag number : ℕ) (tags : List ℕ) → length tags ≡ depth →
      (from_oldest (tag ∷ (number ∷ tags)) depth ≡ number) × (from_oldest (tag ∷ (number ∷ tags)) (depth + 1) ≡ tag)
  numbers_own tag number tags long =
      let first : length (tag ∷ (number ∷ tags)) - 1 - depth ≡ 1 = omega (arith, long) in
      let second : length (tag ∷ (number ∷ tags)) - 1 - (depth + 1) ≡ 0 = omega (arith, long) in
      (ap (λ n. get_or (tag ∷ (number ∷ tags)) n 0) first, ap (λ n. get_or (tag ∷ (number ∷ tags)) n 0) second)

  turn_own : (tag number : ℕ) (tags : List ℕ) → length tags ≡ depth → IsTurn number tag → InTurn (tag ∷ (number ∷ tags))
  turn_own tag number tags long h deep =
      let own = numbers_own tag number tags long in
      let first = own.0 in
      let second = own.1 in
      let low = h.number in
      let some = h.some in
      let few = h.few in
      record { number = omega (arith, first, low); some = omega (arith, second, some); few = omega (arith, second, few) }

  own_turn : (tag number : ℕ) (tags : List ℕ) → length tags ≡ depth → InTurn (tag ∷ (number ∷ tags)) → IsTurn number tag
  own_turn tag number tags long h =
      let own = numbers_own tag number tags long in
      let first = own.0 in
      let second = own.1 in
      let here = h (omega (arith, long)) in
      let low = here.number in
      let some = here.some in
      let few = here.few in
      record { number = omega (arith, first, low); some = omega (arith, second, some); few = omega (arith, second, few) }

  -- a token that enters with this number
  pub turn_enters : (number : ℕ) (tags : List ℕ) → length tags ≡ depth → number < next → 1 ≤ turns → InTurn (1 ∷ (number ∷ tags))
  turn_enters number tags long low some = turn_own 1 number tags long (record { number = low; some = omega arith; few = some })

  -- one that goes round once more
  pub turn_again : (tags : List ℕ) → length tags ≡ depth + 2 → first_tag tags < turns → InTurn tags → InTurn (next_tag tags)
  unfolding first_tag next_tag
  turn_again [] long more h = absurd (omega (arith, long))
  turn_again (tag ∷ []) long more h = absurd (omega (arith, long))
  turn_again (tag ∷ (number ∷ tags)) long more h =
      let here = own_turn tag number tags (omega (arith, long)) h in
      let low = here.number in
      turn_own (suc tag) number tags (omega (arith, long)) (record { number = low; some = omega arith; few = omega (arith, more) })

-- with more numbers given out
pub turn_grows : (depth next more turns : ℕ) (tags : List ℕ) → next ≤ more → InTurn depth next turns tags → InTurn depth more turns tags
turn_grows depth next more turns tags less h deep =
    let here = h deep in
    let low = here.number in
    record { number = omega (arith, low, less); some = here.some; few = here.few }
