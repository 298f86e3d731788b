use Rattle.std.proofs.Common.{sym, ◌∙◌}
use Rattle.p3l_link.proofs.Counted.{root_counted}
use Rattle.p3l_orderly.proofs.RootLaw.{root_room, root_some, root_none}
use Rattle.p3l_orderly.proofs.root.root_pending.Goals as goal

pub find_in-requires-clause-counted : goal.find_in-requires-clause-counted
find_in-requires-clause-counted c = root_counted c.args.tree.now c.args.counts.now.list c.requires.tree c.requires.counts

pub find_in-requires-clause-room : goal.find_in-requires-clause-room
find_in-requires-clause-room c = root_room c.args.tree.now c.args.counts.now.list c.requires.tree c.requires.counts c.requires.procs

pub returns-in-Some : goal.returns-in-Some
returns-in-Some c = root_some _ _ _ c.in-Some.found (sym c.in-Some.is ∙ c.in_ok-found.ensures)

pub returns-in-None : goal.returns-in-None
returns-in-None c = root_none _ _ _ (sym c.in-None.is ∙ c.in_ok-found.ensures)
