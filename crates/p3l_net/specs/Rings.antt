-- Tokens of a channel in its two rings: their outcomes in one, the tags of those that have some in the other.
use Rattle.std.specs.Prelude.{◌≡◌, ℕ, ◌+◌, List, [], ◌∷◌, length, drop}
use Rattle.circular_buffer.specs.Buffer.{Buffer}
use Rattle.p3l_firing.specs.declared.token.Token.{Token}
use Rattle.p3l_firing.specs.Lists.{first_or}
use Rattle.p3l_firing.specs.Token.{plain}
use Rattle.p3l_net.specs.Channel.{Queue}
use Rattle.p3l_net.specs.declared.channel.Slot.{Slot}
use Rattle.p3l_net.specs.declared.channel.Slot.TheVariants.{Plain, Tagged}

-- the count of lists of tags that a slot has
abbrev pub lists_of : Slot → ℕ
lists_of (Plain body) = 0
lists_of (Tagged body) = 1

-- the token of a slot, whose tags are the first of these
abbrev pub token_in : Slot → List (List ℕ) → Token
token_in (Plain body) tags = plain body
token_in (Tagged body) tags = record { tags = first_or [] tags; body = body }

-- the tokens of slots, and the lists of tags that they have
unfoldable pub tokens_of : List Slot → List (List ℕ) → List Token
tokens_of [] tags = []
tokens_of (slot ∷ slots) tags = token_in slot tags ∷ tokens_of slots (drop (lists_of slot) tags)

unfoldable pub lists_in : List Slot → ℕ
lists_in [] = 0
lists_in (slot ∷ slots) = lists_of slot + lists_in slots

-- the queue that two rings hold
abbrev pub queue_in : Buffer Slot → Buffer (List ℕ) → Queue
queue_in slots tags = record { tokens = tokens_of slots.items tags.items; room = slots.capacity }

-- there is a list of tags for each slot that has one, and room for one for each slot
pub record AreRings (slots : Buffer Slot) (tags : Buffer (List ℕ)) : Type 0 where
  pub lists : length tags.items ≡ lists_in slots.items
  pub room : tags.capacity ≡ slots.capacity
