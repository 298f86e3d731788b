use Rattle.p3l_base.specs.Cut.{joined_words}
use Rattle.p3l_base.proofs.Result.{joined_words_is}
use Rattle.p3l_base.proofs.Unique.{joined_once}
use Rattle.p3l_base.proofs.laws.joins_once.Goals as goal

pub returns : goal.returns
returns c = λ cut results lawful count sizes.
    let joined = joined_words_is cut results lawful count sizes in record {
      joined = joined;
      only = λ token other. joined_once cut results token (joined_words cut results) lawful other joined;
    }
