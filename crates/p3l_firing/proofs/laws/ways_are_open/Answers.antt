use Rattle.p3l_firing.proofs.WaysLaw.{fire_is_a_way, way_is_ready, sees_more}
use Rattle.p3l_firing.proofs.laws.ways_are_open.Goals as goal

pub returns-clause-table : goal.returns-clause-table
returns-clause-table c = fire_is_a_way

pub returns-clause-ready : goal.returns-clause-ready
returns-clause-ready c = λ tree leaf net s t p way. way_is_ready tree leaf net s p t way

pub returns-clause-more : goal.returns-clause-more
returns-clause-more c = λ tree leaf net e f s t p more way. sees_more tree leaf net e f more s p t way
