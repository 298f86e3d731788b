use Rattle.std.proofs.Common.{ℕ, ◌+◌, List, ◌++◌, arith, length-append, length-take, take}
use Rattle.std.proofs.KnownBytes.{Consumes-trans}
use Rattle.p3l_host.proofs.files.read_within.Goals as goal

-- the bytes of the last read are one more than the limit leaves
pub returns-then-count-limit : goal.returns-then-count-limit
returns-then-count-limit g c =
    let piece : List ℕ = take c.in-Ok.count c.read_into.new.buf in (
      c.loop.bytes.items ++ piece,
      Consumes-trans _ _ _ c.loop.bytes.items piece c.loop.invariant.known c.in-Ok.ensures.bytes.0,
      omega (arith, length-append c.loop.bytes.items piece, length-take c.in-Ok.count c.read_into.new.buf, length-take (c.min.result + 1) c.loop.buf, c.in-Ok.ensures.within, c.loop.bytes.ok.0),
    )
