-- The texts of keywords and punctuation.
use Rattle.std.specs.Prelude.{ℕ, List, [], ◌∷◌, Option, Some, None, find, bytes_eq, codes}
use Rattle.p3l_ast.specs.declared.expression.BinOp.{BinOp}
use Rattle.p3l_ast.specs.Notation.{sign_of, operator_of}
use Rattle.p3l_lexer.specs.declared.mark.Mark.{Mark}
use Rattle.p3l_lexer.specs.declared.mark.Mark.TheVariants.{Seq, Pipe, Farm, Map, Reduce, Comp, Loop, End, In, Out, Int, Const, Workers, Turns, Tokens, Budget, Rescue, While, If, Else, For, OpenBody, CloseBody, OpenParen, CloseParen, OpenBracket, CloseBracket, OpenBrace, CloseBrace, Comma, Semicolon, Assign, Bang, Tilde, Operator}

-- the bytes of a mark
abbrev pub mark_text : Mark → List ℕ
mark_text Seq = codes "seq"
mark_text Pipe = codes "pipe"
mark_text Farm = codes "farm"
mark_text Map = codes "map"
mark_text Reduce = codes "reduce"
mark_text Comp = codes "comp"
mark_text Loop = codes "loop"
mark_text End = codes "end"
mark_text In = codes "in"
mark_text Out = codes "out"
mark_text Int = codes "int"
mark_text Const = codes "const"
mark_text Workers = codes "workers"
mark_text Turns = codes "turns"
mark_text Tokens = codes "tokens"
mark_text Budget = codes "budget"
mark_text Rescue = codes "rescue"
mark_text While = codes "while"
mark_text If = codes "if"
mark_text Else = codes "else"
mark_text For = codes "for"
mark_text OpenBody = codes "${"
mark_text CloseBody = codes "}$"
mark_text OpenParen = codes "("
mark_text CloseParen = codes ")"
mark_text OpenBracket = codes "["
mark_text CloseBracket = codes "]"
mark_text OpenBrace = codes "{"
mark_text CloseBrace = codes "}"
mark_text Comma = codes ","
mark_text Semicolon = codes ";"
mark_text Assign = codes "="
mark_text Bang = codes "!"
mark_text Tilde = codes "~"
mark_text (Operator op) = sign_of op

-- the marks that are no operators between operands, the keywords first
abbrev pub keywords : List Mark
keywords = Seq ∷ Pipe ∷ Farm ∷ Map ∷ Reduce ∷ Comp ∷ Loop ∷ End ∷ In ∷ Out ∷ Int ∷ Const ∷ Workers ∷ Turns ∷ Tokens ∷ Budget ∷ Rescue ∷ While ∷ If ∷ Else ∷ For ∷ []

abbrev pub punctuation : List Mark
punctuation = OpenBody ∷ CloseBody ∷ OpenParen ∷ CloseParen ∷ OpenBracket ∷ CloseBracket ∷ OpenBrace ∷ CloseBrace ∷ Comma ∷ Semicolon ∷ Assign ∷ Bang ∷ Tilde ∷ []

-- the mark among these that is written so
abbrev pub mark_among : List Mark → List ℕ → Option Mark
mark_among marks text = find (λ mark. bytes_eq (mark_text mark) text) marks

-- the keyword that is written so
unfoldable pub keyword_of : List ℕ → Option Mark
keyword_of text = mark_among keywords text

-- an operator, or else one of the other marks
abbrev pub operator_or : Option BinOp → Option Mark → Option Mark
operator_or (Some op) other = Some (Operator op)
operator_or None other = other

-- the mark of punctuation that is written so
unfoldable pub punctuation_of : List ℕ → Option Mark
punctuation_of text = operator_or (operator_of text) (mark_among punctuation text)
