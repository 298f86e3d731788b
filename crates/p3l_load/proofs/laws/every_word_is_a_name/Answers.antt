use Rattle.p3l_load.proofs.Words.{word_is_name}
use Rattle.p3l_load.proofs.laws.every_word_is_a_name.Goals as goal

pub returns : goal.returns
returns c = word_is_name
