-- The parser over symbols, one after another.
use Rattle.std.specs.Prelude.{List, [], ◌∷◌, Option, Some, None}
use Rattle.p3l_grammar.specs.Symbol.{Symbol}
use Rattle.p3l_grammar.specs.Parser.{Parser, step}

abbrev pub bind : Option Parser → (Parser → Option Parser) → Option Parser
bind None f = None
bind (Some s) f = f s

abbrev pub run : Parser → List Symbol → Option Parser
run s [] = Some s
run s (t ∷ ts) = bind (step s t) (λ s'. run s' ts)
