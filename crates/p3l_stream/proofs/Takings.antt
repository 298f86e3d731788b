-- The bytes that one call takes.
use Rattle.std.proofs.Common.{ℕ, List, ◌++◌, take, drop, Option, Some, None, Ok, sym, ap, ◌∙◌}
use Rattle.std.proofs.lemmas.List.{take-append-drop}
use Rattle.p3l_io.specs.Change.{Becomes, Change}
use Rattle.p3l_io.specs.Content.{Takes, TakesOf}
use Rattle.p3l_stream.specs.Taken.{IsTaken, IsTakenOf}

-- the bytes that a call gave were taken
pub IsTaken-one : (source : Change (List ℕ)) (buf : List ℕ) (n : ℕ) → Takes source (Ok n) buf → IsTaken source (take n buf)
IsTaken-one source buf n gave = by source.old.content source.new.content gave
  where
    by : (old new : Option (List ℕ)) → Becomes (TakesOf (Ok n) buf) old new → Becomes (IsTakenOf (take n buf)) old new
    by None new gave = gave
    by (Some rest) new gave = (drop n rest, gave.left, sym (take-append-drop n rest) ∙ ap (λ front. front ++ drop n rest) (sym gave.given))
