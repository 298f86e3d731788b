use Rattle.p3l_stream.proofs.GivenLaw.{given_answered, given_started, item_wide}
use Rattle.p3l_stream.proofs.laws.a_stream_gives_its_items.Goals as goal

pub returns-clause-starts : goal.returns-clause-starts
returns-clause-starts c = given_started

pub returns-clause-answers : goal.returns-clause-answers
returns-clause-answers c = given_answered

pub returns-clause-wide : goal.returns-clause-wide
returns-clause-wide c = item_wide
