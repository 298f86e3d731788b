-- The first fault of a text, as the reader answers it.
use Rattle.std.specs.Prelude.{◌≡◌, ℕ, ◌<◌, ◌≤◌, List, [], ◌∷◌, ◌++◌, length, map}
use Rattle.std.specs.declared.result.Result.{Result}
use Rattle.std.specs.declared.result.Result.TheVariants.{Ok, Err}
use Rattle.p3l_base.specs.declared.list.List as lists
use Rattle.p3l_ast.specs.declared.position.Pos.{Pos}
use Rattle.p3l_ast.specs.declared.refusal.Fault.{Fault}
use Rattle.p3l_ast.specs.declared.refusal.Fault.TheVariants.{Expected, TooNested, SourceTooLong}
use Rattle.p3l_ast.specs.declared.refusal.SourceRefusal.{SourceRefusal}
use Rattle.p3l_ast.specs.declared.refusal.SourceRefusal.TheVariants.{At, NoMemory}
use Rattle.p3l_ast.specs.declared.program.Entry.{Entry}
use Rattle.p3l_ast.specs.declared.program.Program.{Program}
use Rattle.p3l_ast.specs.Tree.{EntryTree, entry_tree, ProgramTree, program_tree}
use Rattle.p3l_lexer.specs.declared.token.Lexeme.{Lexeme}
use Rattle.p3l_lexer.specs.declared.token.Lexeme.TheVariants.{Faulty}
use Rattle.p3l_lexer.specs.declared.token.TextToken.{TextToken}
use Rattle.p3l_grammar.specs.Symbol.{symbols}
use Rattle.p3l_grammar.specs.Limits.{at_rest, IsWithin}
use Rattle.p3l_grammar.specs.Grammar.{Derives, IsViable, IsFaultOf, IsFirstFault}
use Rattle.p3l_base.specs.Memory.{Refused}

-- the fault of a token with which no program goes on
abbrev pub own_fault : Lexeme → Fault
own_fault (Faulty f) = f
own_fault _ = Expected

-- the refusal in front of the tokens that are left
abbrev pub wrong_at : List TextToken → Pos → SourceRefusal
wrong_at [] end = At Expected end
wrong_at (t ∷ ts) end = At (own_fault t.lexeme) t.at

-- the refusal of a token that passes a limit
abbrev pub too_nested : TextToken → SourceRefusal
too_nested t = At TooNested t.at

-- the fault in front of the tokens that are left, if the text ends at this position
abbrev pub IsWrongBefore : List TextToken → List TextToken → Pos → Fault → Pos → Type 0
IsWrongBefore before [] end fault at =
    (fault ≡ Expected) × (at ≡ end) × ((entries : List EntryTree) → Derives (symbols before) entries → ⊥)
IsWrongBefore before (t ∷ after) end fault at = (at ≡ t.at) × IsFaultOf t.lexeme fault (symbols (before ++ t ∷ []))

-- the first fault of the tokens
pub record IsFirstIn (tokens : List TextToken) (end : Pos) (fault : Fault) (at : Pos) : Type 0 where
  pub before : List TextToken
  pub after : List TextToken
  pub whole : tokens ≡ before ++ after
  pub viable : IsViable (symbols before)
  pub within : IsWithin at_rest (symbols before)
  pub wrong : IsWrongBefore before after end fault at

abbrev pub IsFaultIn : List TextToken → Pos → SourceRefusal → Type 0
IsFaultIn tokens end NoMemory = Refused
IsFaultIn tokens end (At fault at) = IsFirstIn tokens end fault at

-- the same, where the fault is at the last token or before it
abbrev pub IsLastFault : List TextToken → Pos → SourceRefusal → Type 0
IsLastFault tokens end NoMemory = Refused
IsLastFault tokens end (At fault at) = (f : IsFirstIn tokens end fault at) × (0 < length f.after)

-- the entries that are derived are those that were read, unless memory ran out
abbrev pub IsOnlyList : List EntryTree → Result (lists.List Entry) SourceRefusal → Type 0
IsOnlyList entries (Ok list) = map entry_tree list ≡ entries
IsOnlyList entries (Err NoMemory) = Refused
IsOnlyList entries (Err (At fault at)) = ⊥

abbrev pub IsOnly : ProgramTree → Result Program SourceRefusal → Type 0
IsOnly program (Ok p) = program_tree p ≡ program
IsOnly program (Err NoMemory) = Refused
IsOnly program (Err (At fault at)) = ⊥

-- the refusal of a text of too many bytes
abbrev pub too_long : SourceRefusal
too_long = At SourceTooLong (record { line = 1; col = 1 })

-- a refusal names the first fault, unless the text is too long or memory ran out
abbrev pub IsRefusal : List ℕ → SourceRefusal → Type 0
IsRefusal bytes NoMemory = Refused
IsRefusal bytes (At fault at) = length bytes ≤ 1048576 → IsFirstFault bytes fault at
