-- The tokens that lie in two rings, of outcomes and of tags.
use Rattle.std.proofs.Common.{◌≡◌, ℕ, zero, suc, ◌+◌, ◌<◌, ◌≤◌, List, [], ◌∷◌, ◌++◌, add-one, append_assoc, length, length-append, map, drop, Some, slice_get, refl, sym, ap, ap₂, ◌∙◌, subst, arith}
use Rattle.std.proofs.lemmas.List.{drop-drop}
use Rattle.std.proofs.Math.Path.{subst₂}
use Rattle.circular_buffer.specs.Buffer.{Buffer, buffer}
use Rattle.p3l_firing.specs.declared.token.Token.{Token}
use Rattle.p3l_firing.specs.Lists.{has_first, first_or}
use Rattle.p3l_firing.specs.Token.{credit}
use Rattle.p3l_base.specs.declared.outcome.Outcome.{Outcome}
use Rattle.p3l_firing.specs.declared.shot.SavedToken.{SavedToken}
use Rattle.p3l_firing.specs.Shot.{saved_token}
use Rattle.p3l_net.specs.declared.channel.Slot.{Slot}
use Rattle.p3l_net.specs.declared.channel.Slot.TheVariants.{Plain, Tagged}
use Rattle.p3l_net.specs.Channel.{Queue}
use Rattle.p3l_net.specs.Rings.{lists_of, token_in, tokens_of, lists_in, queue_in, AreRings}

-- a token for each slot
pub length-tokens : (slots : List Slot) (tags : List (List ℕ)) → length (tokens_of slots tags) ≡ length slots
unfolding tokens_of
length-tokens [] tags = refl
length-tokens (slot ∷ slots) tags = grind (arith, length-tokens slots (drop (lists_of slot) tags))

-- a list of tags at most for each slot
pub few_lists : (slots : List Slot) → lists_in slots ≤ length slots
unfolding lists_in
few_lists [] = omega arith
few_lists (Plain body ∷ slots) = omega (arith, few_lists slots)
few_lists (Tagged body ∷ slots) = omega (arith, few_lists slots)

-- one slot more
pub lists-appended : (slots : List Slot) (slot : Slot) → lists_in (slots ++ slot ∷ []) ≡ lists_in slots + lists_of slot
unfolding lists_in
lists-appended [] slot = omega arith
lists-appended (first ∷ slots) slot = omega (arith, lists-appended slots slot)

pub tokens-slot_appended : (slots : List Slot) (tags : List (List ℕ)) (slot : Slot) (more : List (List ℕ)) → length tags ≡ lists_in slots → tokens_of (slots ++ slot ∷ []) (tags ++ more) ≡ tokens_of slots tags ++ token_in slot more ∷ []
unfolding tokens_of lists_in
tokens-slot_appended [] [] slot more as_many = refl
tokens-slot_appended [] (t ∷ tags) slot more as_many = absurd (omega (arith, as_many))
tokens-slot_appended (Plain body ∷ slots) tags slot more as_many =
    ap (λ (tokens : List Token). token_in (Plain body) tags ∷ tokens) (tokens-slot_appended slots tags slot more (omega (arith, as_many)))
tokens-slot_appended (Tagged body ∷ slots) [] slot more as_many = absurd (omega (arith, as_many))
tokens-slot_appended (Tagged body ∷ slots) (t ∷ tags) slot more as_many =
    ap (λ (tokens : List Token). token_in (Tagged body) (t ∷ tags) ∷ tokens) (tokens-slot_appended slots tags slot more (omega (arith, as_many)))

-- a slot more, at the end, with the lists of tags that it has
module _ (slots slots' : Buffer Slot) (tags tags' : Buffer (List ℕ)) (slot : Slot) (more : List (List ℕ)) (rings : AreRings slots tags) (last : slots' ≡ buffer (slots.items ++ slot ∷ []) slots.capacity) (lists : tags' ≡ buffer (tags.items ++ more) tags.capacity) where
  pub queue-appended : queue_in slots' tags' ≡ record (queue_in slots tags) { tokens = (queue_in slots tags).tokens ++ token_in slot more ∷ [] }
  queue-appended =
      ap₂ queue_in last lists
      ∙ ap (λ tokens. record { tokens = tokens; room = slots.capacity }) (tokens-slot_appended slots.items tags.items slot more rings.lists)

  pub rings-appended : length more ≡ lists_of slot → AreRings slots' tags'
  rings-appended as_many =
      let counted = rings.lists in
      let long = length-append tags.items more in
      let more_lists = lists-appended slots.items slot in
      subst₂ AreRings (sym last) (sym lists) (record { lists = omega (arith, counted, long, more_lists, as_many); room = rings.room })

-- a slot at the front, with the lists of tags that it has
tokens-slot_first : (slot : Slot) (more : List (List ℕ)) (slots : List Slot) (tags : List (List ℕ)) → length more ≡ lists_of slot → tokens_of (slot ∷ slots) (more ++ tags) ≡ token_in slot more ∷ tokens_of slots tags
unfolding tokens_of
tokens-slot_first (Plain body) [] slots tags as_many = refl
tokens-slot_first (Plain body) (t ∷ more) slots tags as_many = absurd (omega (arith, as_many))
tokens-slot_first (Tagged body) [] slots tags as_many = absurd (omega (arith, as_many))
tokens-slot_first (Tagged body) (t ∷ []) slots tags as_many = refl
tokens-slot_first (Tagged body) (t ∷ u ∷ more) slots tags as_many = absurd (omega (arith, as_many))

-- two rings, and the same without the first slot and the lists of tags that it has
module _ (slots slots' : Buffer Slot) (tags tags' : Buffer (List ℕ)) {first : Slot} (slot : Slot) (more : List (List ℕ)) (items : slots.items ≡ first ∷ slots'.items) (is : first ≡ slot) (room : slots'.capacity ≡ slots.capacity) (lists : tags.items ≡ more ++ tags'.items) (as_many : length more ≡ lists_of slot) where
  first_is : slots.items ≡ slot ∷ slots'.items
  first_is = items ∙ ap (λ (x : Slot). x ∷ slots'.items) is

  -- the queue of the rings has one token more, in front
  queue-first : queue_in slots tags ≡ record (queue_in slots' tags') { tokens = token_in slot more ∷ (queue_in slots' tags').tokens }
  queue-first =
      ap₂ (λ (xs : List Slot) (ts : List (List ℕ)). record { tokens = tokens_of xs ts; room = slots.capacity }) first_is lists
      ∙ ap₂ (λ (tokens : List Token) n. record { tokens = tokens; room = n }) (tokens-slot_first slot more slots'.items tags'.items as_many) (sym room)

  pub queue-taken : {queue : Queue} {token : Token} → queue_in slots tags ≡ queue → token ≡ token_in slot more → queue ≡ record (queue_in slots' tags') { tokens = token ∷ (queue_in slots' tags').tokens }
  queue-taken was put =
      sym was ∙ queue-first ∙ ap (λ (x : Token). record (queue_in slots' tags') { tokens = x ∷ (queue_in slots' tags').tokens }) (sym put)

  pub queue-prepended : {queue : Queue} {token : Token} → queue_in slots' tags' ≡ queue → token_in slot more ≡ token → queue_in slots tags ≡ record queue { tokens = token ∷ queue.tokens }
  queue-prepended was put = queue-first ∙ ap₂ (λ (x : Queue) (t : Token). record x { tokens = t ∷ x.tokens }) was put

  -- and there are as many lists of tags more in one ring as the slot that is more in the other has
  counted : length tags.items + lists_in slots'.items ≡ lists_in slots.items + length tags'.items
  unfolding lists_in
  counted =
      let long = ap length lists ∙ length-append more tags'.items in
      let more_lists : lists_in slots.items ≡ lists_of slot + lists_in slots'.items = ap lists_in first_is in
      omega (arith, long, more_lists, as_many)

  pub rings-taken : tags'.capacity ≡ tags.capacity → AreRings slots tags → AreRings slots' tags'
  rings-taken same rings = let before = rings.lists in record { lists = omega (arith, counted, before); room = same ∙ rings.room ∙ sym room }

  pub rings-prepended : tags'.capacity ≡ tags.capacity → AreRings slots' tags' → AreRings slots tags
  rings-prepended same rings = let before = rings.lists in record { lists = omega (arith, counted, before); room = sym same ∙ rings.room ∙ room }

-- the channel has a token where the ring has a slot, and room where the ring has some
pub slot_there : (slots : Buffer Slot) (tags : Buffer (List ℕ)) (queue : Queue) → queue_in slots tags ≡ queue → 0 < length queue.tokens → 0 < length slots.items
slot_there slots tags queue is some =
    let there : 0 < length (tokens_of slots.items tags.items) = subst (λ (x : Queue). 0 < length x.tokens) (sym is) some in
    let long = length-tokens slots.items tags.items in
    omega (arith, there, long)

pub slot_room : (slots : Buffer Slot) (tags : Buffer (List ℕ)) (queue : Queue) → queue_in slots tags ≡ queue → length queue.tokens < queue.room → length slots.items < slots.capacity
slot_room slots tags queue is some =
    let there : length (tokens_of slots.items tags.items) < slots.capacity = subst (λ (x : Queue). length x.tokens < x.room) (sym is) some in
    let long = length-tokens slots.items tags.items in
    omega (arith, there, long)

pub list_room : (slots : Buffer Slot) (tags : Buffer (List ℕ)) → AreRings slots tags → length slots.items < slots.capacity → length tags.items < tags.capacity
list_room slots tags rings some =
    let lists = rings.lists in
    let room = rings.room in
    let few = few_lists slots.items in
    omega (arith, lists, room, few, some)

pub first-there : (slots : List Slot) (tags : List (List ℕ)) → has_first (tokens_of slots tags) ≡ has_first slots
unfolding tokens_of
first-there [] tags = refl
first-there (slot ∷ slots) tags = refl

pub rings-empty : (slots : Buffer Slot) (tags : Buffer (List ℕ)) (n : ℕ) → slots ≡ buffer [] n → tags ≡ buffer [] n → AreRings slots tags
unfolding lists_in
rings-empty slots tags n slots_are tags_are = subst₂ AreRings (sym slots_are) (sym tags_are) (record { lists = refl; room = refl })

pub queue-empty : (slots : Buffer Slot) (tags : Buffer (List ℕ)) (n : ℕ) → slots ≡ buffer [] n → tags ≡ buffer [] n → queue_in slots tags ≡ record { tokens = []; room = n }
unfolding tokens_of
queue-empty slots tags n slots_are tags_are = ap₂ queue_in slots_are tags_are

-- reading a list at a place
module _ {A : Type 0} where
  pub drop-read : (xs : List A) (k : ℕ) (x : A) → slice_get xs k ≡ Some x → drop k xs ≡ x ∷ drop (suc k) xs
  drop-read [] k x is = cc
  drop-read (y ∷ xs) zero x is = let same : y ≡ x = cc in ap (λ z. z ∷ xs) same
  drop-read (y ∷ xs) (suc k) x is = drop-read xs k x is

  pub first-read : (d : A) (xs : List A) (k : ℕ) (x : A) → slice_get xs k ≡ Some x → first_or d (drop k xs) ≡ x
  first-read d xs k x is = ap (λ (ys : List A). first_or d ys) (drop-read xs k x is)

-- the first token
pub token-first : (slots : List Slot) (tags : List (List ℕ)) (slot : Slot) → slice_get slots 0 ≡ Some slot → first_or credit (tokens_of slots tags) ≡ token_in slot tags
unfolding tokens_of
token-first slots tags slot is = ap (λ (xs : List Slot). first_or credit (tokens_of xs tags)) (drop-read slots 0 slot is)

pub body-any : (slot : Slot) (tags : List (List ℕ)) → (token_in slot []).body ≡ (token_in slot tags).body
body-any (Plain body) tags = refl
body-any (Tagged body) tags = refl

-- there is a list of tags for a slot that has one
pub list_first : (slots : Buffer Slot) (tags : Buffer (List ℕ)) (body : Outcome) → AreRings slots tags → slice_get slots.items 0 ≡ Some (Tagged body) → 0 < length tags.items
unfolding lists_in
list_first slots tags body rings is =
    let lists = rings.lists in
    let counted : lists_in slots.items ≡ 1 + lists_in (drop 1 slots.items) = ap lists_in (drop-read slots.items 0 (Tagged body) is) in
    omega (arith, lists, counted)

-- one token more is saved
pub saved-more : (slots : List Slot) (tags : List (List ℕ)) (k n : ℕ) (slot : Slot) (saved : List SavedToken) → slice_get slots k ≡ Some slot → (saved ++ saved_token (token_in slot (drop n tags)) ∷ []) ++ map saved_token (tokens_of (drop (k + 1) slots) (drop (n + lists_of slot) tags)) ≡ saved ++ map saved_token (tokens_of (drop k slots) (drop n tags))
unfolding tokens_of
saved-more slots tags k n slot saved is =
    append_assoc saved (saved_token (token_in slot (drop n tags)) ∷ []) (map saved_token (tokens_of (drop (k + 1) slots) (drop (n + lists_of slot) tags)))
    ∙ ap (λ (ts : List (List ℕ)). saved ++ saved_token (token_in slot (drop n tags)) ∷ map saved_token (tokens_of (drop (k + 1) slots) ts)) (sym (drop-drop (lists_of slot) n tags))
    ∙ ap (λ (xs : List Slot). saved ++ map saved_token (tokens_of xs (drop n tags))) (sym (drop-read slots k slot is ∙ ap (λ j. slot ∷ drop j slots) (sym (add-one k))))

pub lists-more : (slots : List Slot) (k : ℕ) (slot : Slot) → slice_get slots k ≡ Some slot → lists_in (drop k slots) ≡ lists_of slot + lists_in (drop (k + 1) slots)
unfolding lists_in
lists-more slots k slot is = ap lists_in (drop-read slots k slot is ∙ ap (λ j. slot ∷ drop j slots) (sym (add-one k)))
