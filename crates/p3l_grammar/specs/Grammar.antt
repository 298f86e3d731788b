-- The program that a text spells, and the first place where it is wrong.
use Rattle.std.specs.Prelude.{◌≡◌, ℕ, List, [], ◌∷◌, ◌++◌}
use Rattle.p3l_ast.specs.declared.position.Pos.{Pos}
use Rattle.p3l_ast.specs.declared.refusal.Fault.{Fault}
use Rattle.p3l_ast.specs.declared.refusal.Fault.TheVariants.{Expected, TooNested}
use Rattle.p3l_ast.specs.Tree.{EntryTree, ProgramTree}
use Rattle.p3l_lexer.specs.declared.token.Lexeme.{Lexeme}
use Rattle.p3l_lexer.specs.declared.token.Lexeme.TheVariants.{Faulty}
use Rattle.p3l_lexer.specs.declared.token.TextToken.{TextToken}
use Rattle.p3l_lexer.specs.Token.{IsTokens}
use Rattle.p3l_lexer.specs.Position.{position_after}
use Rattle.p3l_grammar.specs.Symbol.{Symbol, symbols}
use Rattle.p3l_grammar.specs.Written.{Passage, IsText, spell_text, text_tree}
use Rattle.p3l_grammar.specs.Limits.{at_rest, nest_after, IsPast, IsWithin}

-- the symbols are written for these entries
pub record Derives (symbols : List Symbol) (entries : List EntryTree) : Type 0 where
  pub written : List Passage
  pub is_text : IsText written
  pub spelled : symbols ≡ spell_text written []
  pub tree_is : text_tree written ≡ entries

-- some program begins with these symbols
pub record IsViable (symbols : List Symbol) : Type 0 where
  pub written : List Passage
  pub more : List Symbol
  pub is_text : IsText written
  pub begins : symbols ++ more ≡ spell_text written []

-- the text is written for this program, and passes no limit
pub record Spells (bytes : List ℕ) (program : ProgramTree) : Type 0 where
  pub tokens : List TextToken
  pub are_tokens : IsTokens bytes tokens
  pub derives : Derives (symbols tokens) program.entries
  pub within : IsWithin at_rest (symbols tokens)
  pub end_is : program.end ≡ position_after bytes

-- the fault of a token, where all before it begins a program: its own if it is a faulty one, and else that
-- no program goes on with it, or that it passes a limit
abbrev pub IsFaultOf : Lexeme → Fault → List Symbol → Type 0
IsFaultOf (Faulty f) fault upto = fault ≡ f
IsFaultOf _ Expected upto = IsViable upto → ⊥
IsFaultOf _ TooNested upto = IsViable upto × IsPast (nest_after at_rest upto)
IsFaultOf _ _ upto = ⊥

-- the fault at the front of the tokens that are left, and its position, at the end after the last byte
abbrev pub IsWrong : List ℕ → List TextToken → List TextToken → Fault → Pos → Type 0
IsWrong bytes before [] fault at =
    (fault ≡ Expected) × (at ≡ position_after bytes) × ((entries : List EntryTree) → Derives (symbols before) entries → ⊥)
IsWrong bytes before (token ∷ after) fault at = (at ≡ token.at) × IsFaultOf token.lexeme fault (symbols (before ++ token ∷ []))

-- the first fault of the text: all before it begins a program and passes no limit
pub record IsFirstFault (bytes : List ℕ) (fault : Fault) (at : Pos) : Type 0 where
  pub tokens : List TextToken
  pub are_tokens : IsTokens bytes tokens
  pub before : List TextToken
  pub after : List TextToken
  pub whole : tokens ≡ before ++ after
  pub viable : IsViable (symbols before)
  pub within : IsWithin at_rest (symbols before)
  pub wrong : IsWrong bytes before after fault at
