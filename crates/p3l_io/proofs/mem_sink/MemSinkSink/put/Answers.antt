use Rattle.std.proofs.Common.{rules}
use Rattle.p3l_io.proofs.mem_sink.MemSinkSink.put.Goals as goal

-- a fault puts the front that was counted
pub returns-then-fails-clause-bytes : goal.returns-then-fails-clause-bytes
returns-then-fails-clause-bytes c = (c.match-find_entry.count.0, search rules)
