-- The public answers of a stream.
use Rattle.std.specs.Prelude.{Result, Ok, Err}
use Rattle.p3l_base.specs.declared.NoMemory.{NoMemory}
use Rattle.p3l_stream.specs.declared.items.Ending.TheVariants as ending
use Rattle.p3l_stream.specs.declared.next.Next.{Next}
use Rattle.p3l_stream.specs.declared.next.Next.TheVariants as next
use Rattle.p3l_stream.specs.Seen.{Answer}

-- the public answer
abbrev pub next_of : Answer → Next
next_of (Ok words) = next.Item words
next_of (Err ending.End) = next.End
next_of (Err (ending.BadWord line)) = next.BadWord line
next_of (Err (ending.WrongCount line had)) = next.WrongCount line had
next_of (Err (ending.OutOfRange line)) = next.OutOfRange line
next_of (Err ending.ReadFault) = next.ReadFault
next_of (Err ending.TooLong) = next.TooLong

-- the item that a public answer is, or the ending
abbrev pub answered : Next → Answer
answered (next.Item words) = Ok words
answered next.End = Err ending.End
answered (next.BadWord line) = Err (ending.BadWord line)
answered (next.WrongCount line had) = Err (ending.WrongCount line had)
answered (next.OutOfRange line) = Err (ending.OutOfRange line)
answered next.ReadFault = Err ending.ReadFault
answered next.TooLong = Err ending.TooLong

-- the same of a call, which may run out of memory
abbrev pub answer_in : Result Next NoMemory → Result Answer NoMemory
answer_in (Ok next) = Ok (answered next)
answer_in (Err e) = Err e
