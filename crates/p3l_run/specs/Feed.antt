-- Items that a stream gives to a machine.
use Rattle.std.specs.Prelude.{◌≡◌, ◌≢◌, ℕ, ℤ, ◌+◌, ◌≤◌, true, List, [], ◌∷◌, ◌++◌, length, Option, Some, None, Result, Ok, Err, option_map}
use Rattle.p3l_base.specs.declared.NoMemory.{NoMemory}
use Rattle.p3l_io.specs.Change.{Change, Observation, change}
use Rattle.p3l_net.specs.Machine as machine
use Rattle.p3l_stream.specs.declared.items.Ending.{Ending}
use Rattle.p3l_stream.specs.Answers.{IsAtEnd}
use Rattle.p3l_stream.specs.Given.{GivenCause, HasGiven}
use Rattle.p3l_stream.specs.Seen.{Seen, ending_in, most_items}
use Rattle.p3l_stream.specs.Taken.{IsTaken}
use Rattle.std.specs.List.{AllByRecursion}

-- the most bytes of the input
abbrev pub input_limit : ℕ
input_limit = 68719476736

-- a bound on the number of items in `input_limit` bytes: each has a byte, and a line feed before the next
abbrev pub most_of_input : ℕ
most_of_input = 34359738369

-- items of `width` words were requested of a stream: these bytes were taken from the input, these items were given, and this ended it
pub record Gives (width : ℕ) (input : Change (List ℕ)) (s : Seen) (items : List (List ℤ)) (closed : Option (Result Ending NoMemory)) : Type 0 where
  pub bytes : List ℕ
  pub given : HasGiven width s bytes items
  pub limit : s.limit ≡ input_limit
  pub closed_is : s.closed ≡ closed
  pub read : IsTaken input bytes
  pub at_end : s.at_end ≡ true → IsAtEnd input.new.content
  pub cause : GivenCause closed input
  pub few : length items + most_items s ≤ most_of_input

-- the ending of a stream, if it ended
abbrev pub ending_of : Seen → Option Ending
ending_of s = ending_in s.closed

-- a stream without an ending is open: memory did not run out for it
abbrev pub IsOpenOrEnded : Seen → Type 0
IsOpenOrEnded s = ending_of s ≡ None → s.closed ≡ None

-- the ending of a stream, if it ended, as the stream holds it
abbrev pub closed_so : Option Ending → Option (Result Ending NoMemory)
closed_so close = option_map Ok close

-- an inbox that was empty was filled with an item; or nothing was offered
abbrev pub Offers : machine.Seen → machine.Seen → List (List ℤ) → Type 0
Offers m new [] = new ≡ m
Offers m new (item ∷ items) = (m.inbox ≡ None) × (new ≡ record m { inbox = Some item }) × (items ≡ [])

-- whatever a stream gave before, it gave these items more
abbrev pub GivesMore : ℕ → Change (List ℕ) → Seen → Seen → List (List ℤ) → Option (Result Ending NoMemory) → Type 0
GivesMore width input s new more closed =
    (first : Observation (List ℕ)) (items : List (List ℤ)) → Gives width (change first input.old) s items (closed_so (ending_of s)) → Gives width (change first input.new) new (items ++ more) closed

-- a machine was fed: an empty inbox was filled, as long as the stream isn't ended
pub record Feeds (width : ℕ) (m m' : machine.Seen) (s s' : Seen) (input : Change (List ℕ)) : Type 0 where
  pub more : List (List ℤ)
  pub gives : GivesMore width input s s' more (closed_so (ending_of s'))
  pub offers : Offers m m' more
  pub wide : AllByRecursion (λ (words : List ℤ). length words ≡ width) more
  pub filled : ending_of s' ≡ None → m'.inbox ≢ None
  pub request : more ≢ [] → ending_of s ≡ None
  pub kept : (e : Ending) → ending_of s ≡ Some e → ending_of s' ≡ Some e
  pub empty : (e : Ending) → ending_of s ≡ None → ending_of s' ≡ Some e → m'.inbox ≡ None

-- memory ran out for that
pub record FeedsInVain (width : ℕ) (s s' : Seen) (input : Change (List ℕ)) : Type 0 where
  pub more : List (List ℤ)
  pub gives : GivesMore width input s s' more s'.closed
  pub wide : AllByRecursion (λ (words : List ℤ). length words ≡ width) more
  pub request : ending_of s ≡ None

abbrev pub IsFed : ℕ → machine.Seen → machine.Seen → Seen → Seen → Change (List ℕ) → Result (Unit {0}) NoMemory → Type 0
IsFed width m m' s s' input (Ok done) = Feeds width m m' s s' input
IsFed width m m' s s' input (Err want) = FeedsInVain width s s' input
