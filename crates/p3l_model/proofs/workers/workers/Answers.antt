use Rattle.std.proofs.Common.{[], append-nil}
use Rattle.p3l_model.proofs.workers.workers.Goals as goal

pub returns-in-Found : goal.returns-in-Found
returns-in-Found c = rw append-nil at (rw c.as_slice.ensures at (c.in-Found.ensures []))

pub returns-in-After : goal.returns-in-After
returns-in-After c = rw append-nil at (rw c.as_slice.ensures at (c.in-After.ensures []))
