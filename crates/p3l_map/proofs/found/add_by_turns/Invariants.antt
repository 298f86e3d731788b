use Rattle.p3l_map.proofs.MapSteps.{IsTaking}
use Rattle.p3l_map.proofs.found.add_by_turns.Given as goal

abbrev pub invariant-loop-turn : goal.invariant-loop-turn
invariant-loop-turn l = IsTaking l.number l.lines l.initial.list l._turn l.list l.taken.items
