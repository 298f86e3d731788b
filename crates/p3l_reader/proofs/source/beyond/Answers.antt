use Rattle.p3l_grammar.specs.Symbol.{symbols}
use Rattle.p3l_grammar.proofs.Exact.{derives_of_all}
use Rattle.p3l_reader.proofs.FirstFault.{last_is, derives_viable}
use Rattle.p3l_reader.proofs.source.beyond.Goals as goal

pub returns-in-Ok : goal.returns-in-Ok
returns-in-Ok c =
    rw c.too_nested.ensures
    (last_is c.args.tokens.now c.args.before.now c.args.last.now c.args.end c.requires.whole c.requires.within c.requires.past
    (derives_viable (symbols c.args.tokens.now) _ (derives_of_all c.args.tokens.now _ c.in-Ok.ensures.ok)))
