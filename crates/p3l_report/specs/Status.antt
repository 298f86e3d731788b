-- The statuses that the program ends with.
use Rattle.std.specs.Prelude.{ℕ, Bool, ◌==◌, ◌||◌}

-- all that the command makes was written, and its input was read to its end
abbrev pub done : ℕ
done = 0

-- the recorded picks ended while some process could fire
abbrev pub stopped : ℕ
stopped = 1

-- the words are no command
abbrev pub usage : ℕ
usage = 2

-- the text of the program is refused
abbrev pub source : ℕ
source = 3

-- the file of costs is refused
abbrev pub costs : ℕ
costs = 4

-- no counts of workers fit the processors
abbrev pub too_few : ℕ
too_few = 5

-- a line of the stream is no item
abbrev pub stream : ℕ
stream = 6

-- an item came to a trap
abbrev pub trap : ℕ
trap = 7

-- reading the input failed
abbrev pub read : ℕ
read = 8

-- a file could not be read, or is longer than its limit
abbrev pub file : ℕ
file = 9

-- writing failed
abbrev pub write : ℕ
write = 10

-- memory ran out
abbrev pub no_memory : ℕ
no_memory = 11

-- the file of picks is refused
abbrev pub schedule : ℕ
schedule = 12

-- an image, a certificate, a trace or a snapshot is refused, or a trace differs from the run
abbrev pub evidence : ℕ
evidence = 13

-- the limit of the input was reached
abbrev pub too_long : ℕ
too_long = 14

-- the program can't be scanned in the number of segments requested
abbrev pub scan : ℕ
scan = 15

-- the statuses of commands that are refused before anything is touched; of evidence that is so with some refusals alone
abbrev pub is_refusal : ℕ → Bool
is_refusal n = n == usage || n == source || n == costs || n == too_few || n == file || n == schedule || n == scan

-- the statuses of commands that come to their end; so does one whose trace differs
abbrev pub is_end : ℕ → Bool
is_end n = n == done || n == stopped || n == stream || n == trap || n == read || n == too_long
