-- The items that a stream has answered of the bytes that it took.
use Rattle.std.specs.Prelude.{◌≡◌, ℕ, ℤ, ◌+◌, ◌<◌, ◌≤◌, Bool, true, false, List, [], ◌∷◌, ◌++◌, length, Option, Some, None, Result, Ok, Err}
use Rattle.std.specs.List.{AllByRecursion}
use Rattle.p3l_base.specs.declared.NoMemory.{NoMemory}
use Rattle.p3l_io.specs.Change.{Change, HasRisen, HasSameFaults}
use Rattle.p3l_stream.specs.declared.items.Ending.{Ending}
use Rattle.p3l_stream.specs.declared.items.Ending.TheVariants as ending
use Rattle.p3l_stream.specs.declared.items.Items.{Items}
use Rattle.p3l_stream.specs.declared.taken.Cutoff.{Cutoff}
use Rattle.p3l_stream.specs.declared.taken.Cutoff.TheVariants as stop
use Rattle.p3l_stream.specs.Items.{closing, items_of_lines, items_taken}
use Rattle.p3l_stream.specs.Lines.{lines_of}
use Rattle.p3l_stream.specs.Seen.{Answer, Seen}

-- items before those of later lines, whose ending stays
abbrev pub before_items : List (List ℤ) → Items → Items
before_items items rest = record rest { items = items ++ rest.items }

-- these items, and this ending
abbrev pub ended_by : List (List ℤ) → Ending → Items
ended_by items close = record { items = items; ending = close }

-- the input goes on so after the bytes taken, and stops; at its end it doesn't go on
abbrev pub GoesOn : Bool → Cutoff → List ℕ → Type 0
GoesOn at_end how more = at_end ≡ true → (how ≡ stop.End) × (more ≡ [])

-- the items of the bytes taken and those that follow
abbrev pub TakesOn : Bool → (Cutoff → List ℕ → Type 0) → Type 0
TakesOn at_end P = (how : Cutoff) (more : List ℕ) → GoesOn at_end how more → P how more

-- whatever follows, these items come first
abbrev pub AreFirst : ℕ → Bool → List ℕ → List (List ℤ) → Type 0
AreFirst width at_end bytes items = TakesOn at_end (λ how more. (later : Items) × (items_taken width how (bytes ++ more) ≡ before_items items later))

-- whatever follows, these are the items, up to a line that is refused
abbrev pub AreRefused : ℕ → Bool → List ℕ → List (List ℤ) → Ending → Type 0
AreRefused width at_end bytes items close = TakesOn at_end (λ how more. items_taken width how (bytes ++ more) ≡ ended_by items close)

-- the stream was ended by this, or is open
abbrev pub Closes : ℕ → Seen → List ℕ → List (List ℤ) → Option (Result Ending NoMemory) → Type 0
-- nothing: after the items answered come those of the bytes still held
Closes width s bytes items None =
    TakesOn s.at_end (λ how more. items_taken width how (bytes ++ more) ≡ before_items items (items_of_lines width (s.passed + 1) (closing how) (lines_of how (s.held ++ more))))
-- the end of the input: the items are those of all its bytes
Closes width s bytes items (Some (Ok ending.End)) = (s.at_end ≡ true) × (items_taken width stop.End bytes ≡ ended_by items ending.End)
-- a line: the items are those before it, whatever follows
Closes width s bytes items (Some (Ok (ending.BadWord line))) = AreRefused width s.at_end bytes items (ending.BadWord line)
Closes width s bytes items (Some (Ok (ending.WrongCount line had))) = AreRefused width s.at_end bytes items (ending.WrongCount line had)
Closes width s bytes items (Some (Ok (ending.OutOfRange line))) = AreRefused width s.at_end bytes items (ending.OutOfRange line)
-- a fault of reading, or the limit: the items are those of the lines that were ended
Closes width s bytes items (Some (Ok ending.ReadFault)) = (s.at_end ≡ false) × (s.taken < s.limit) × (items_taken width stop.Fault bytes ≡ ended_by items ending.ReadFault)
Closes width s bytes items (Some (Ok ending.TooLong)) = (s.at_end ≡ false) × (s.taken ≡ s.limit) × (items_taken width stop.Limit bytes ≡ ended_by items ending.TooLong)
-- out of memory
Closes width s bytes items (Some (Err want)) = Unit {0}

-- a stream whose items have `width` words took these bytes in all, and answered these items
pub record HasGiven (width : ℕ) (s : Seen) (bytes : List ℕ) (items : List (List ℤ)) : Type 0 where
  pub width_is : s.words ≡ width
  pub counted : s.taken ≡ length bytes
  pub within : s.taken ≤ s.limit
  pub below : s.at_end ≡ true → s.taken < s.limit
  pub wide : AllByRecursion (λ words. length words ≡ width) items
  pub first : AreFirst width s.at_end bytes items
  pub closes : Closes width s bytes items s.closed

-- the item that an answer is
abbrev pub items_in : Result Answer NoMemory → List (List ℤ)
items_in (Ok (Ok words)) = words ∷ []
items_in (Ok (Err ending)) = []
items_in (Err e) = []

-- while a stream is read, only a fault of reading, which ends it, raises the count of faults of the source
abbrev pub GivenCause : Option (Result Ending NoMemory) → (source : Change (List ℕ)) → Type 0
GivenCause (Some (Ok ending.ReadFault)) source = HasRisen source
GivenCause closed source = HasSameFaults source
