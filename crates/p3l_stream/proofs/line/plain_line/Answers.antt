use Rattle.p3l_stream.proofs.PlainLines.{first_feed-numeral}
use Rattle.p3l_stream.proofs.line.plain_line.Goals as goal

pub returns-then-bytes-found-eq10-clause-feed : goal.returns-then-bytes-found-eq10-clause-feed
returns-then-bytes-found-eq10-clause-feed c =
    first_feed-numeral c.args.bytes.now c.in_ok-found.found.len c.in_ok-found.found.number c.if-found-bytes.true c.in_ok-found.ensures.number c.if-bytes-found-eq10.true
