-- Counts of items that were requested of a stream before picks.
use Rattle.std.specs.Prelude.{◌≡◌, ℕ, ℤ, ◌+◌, ◌-◌, List, [], ◌∷◌, ◌++◌, length, take, Option, Some, None}
use Rattle.p3l_stream.specs.declared.items.Ending.{Ending}
use Rattle.p3l_run.specs.Network.{Network, course_under}

-- the count of items that are sent before the last of some picks
abbrev pub sent_before_last : Network → List (List ℤ) → List ℕ → ℕ
sent_before_last n items picks = (course_under n items (take (length picks - 1) picks)).state.sent

-- the items that are given and not sent where a machine was fed: one, as long as the stream isn't ended
abbrev pub one_waits : Option Ending → ℕ
one_waits None = 1
one_waits (Some close) = 0

-- a stream of these items, of which one is requested before each of these picks where the inbox is empty, and at no other time,
-- gave `given` of them, and then ended so, if it did: none was requested where there are no picks; else one item waits for the
-- last of them, or the stream has ended and all that it gave were sent before
abbrev pub IsRequestedBy : Network → (items : List (List ℤ)) → (picks : List ℕ) → (given : ℕ) → Option Ending → Type 0
IsRequestedBy n items [] given close = (given ≡ 0) × (close ≡ None)
IsRequestedBy n items (p ∷ picks) given close = given ≡ sent_before_last n items (p ∷ picks) + one_waits close

-- the picks before which an item was requested, where these were made and those are left: the ones that were made, and where the
-- stream ended the one for which it had no item
abbrev pub requested_for : Option Ending → (used unused : List ℕ) → List ℕ
requested_for None used unused = used
requested_for (Some close) used [] = used
requested_for (Some close) used (p ∷ unused) = used ++ p ∷ []
