-- Images that can be written.
use Rattle.std.specs.Prelude.{◌≡◌, ℕ, ◌^◌, ◌<◌, ◌≤◌, true, List, length, Some, IfSome, ⊤}
use Rattle.p3l_base.specs.Limits.{most_tokens}
use Rattle.std.specs.List.{All, AllByRecursion}
use Rattle.p3l_ast.specs.Tree.{EntryTree, ProgramTree, constant, defined}
use Rattle.p3l_lexer.specs.declared.token.Lexeme.TheVariants.{Word}
use Rattle.p3l_lexer.specs.declared.token.Piece.TheVariants.{Token}
use Rattle.p3l_lexer.specs.Piece.{piece_of}
use Rattle.p3l_grammar.specs.Grammar.{Spells}
use Rattle.p3l_skel.specs.declared.tree.ModuleInfo.{ModuleInfo}
use Rattle.p3l_code.specs.declared.instr.Instr.{Instr}
use Rattle.p3l_code.specs.declared.instr.Instr.TheVariants.{Push, Load, Store, Step, LoadAt, StoreAt, Unary, Binary, Jump, JumpZero, JumpNonZero, Turn, End}
use Rattle.p3l_code.specs.declared.instr.Code.{Code}
use Rattle.p3l_format.specs.Numbers.{is_i64}
use Rattle.p3l_tree_format.specs.Module.{is_name}
use Rattle.p3l_image.specs.declared.image.Image.{Image}
use Rattle.p3l_image.specs.Image.{CanBeWritten, IsSpelling}
use Rattle.p3l_load.specs.declared.loaded.LoadRefusal.{LoadRefusal}
use Rattle.p3l_load.specs.declared.loaded.LoadRefusal.TheVariants.{NoMemory}
use Rattle.p3l_load.specs.Load.{IsRunnable, Refuses, migrated_of}

-- a text is a name of the language, of at most 64 bytes
abbrev pub IsNameText : List ℕ → Type 0
IsNameText text = (is_name text ≡ true) × (length text ≤ 64)

-- the name of a module is one
abbrev pub HasName : ModuleInfo → Type 0
HasName info = IsNameText info.name

-- the name of an entry is one
abbrev pub HasNameOf : EntryTree → Type 0
HasNameOf (constant x value) = IsNameText x.name
HasNameOf (defined m) = IsNameText m.at.name

-- the operands of an instruction are numbers of their types
abbrev pub HasOperands : Instr → Type 0
HasOperands (Push n) = is_i64 n ≡ true
HasOperands (Load n) = n < 2 ^ 32
HasOperands (Store n) = n < 2 ^ 32
HasOperands (Step n) = n < 2 ^ 32
HasOperands (LoadAt n m) = (n < 2 ^ 32) × (m < 2 ^ 32)
HasOperands (StoreAt n m) = (n < 2 ^ 32) × (m < 2 ^ 32)
HasOperands (Unary op) = ⊤
HasOperands (Binary op) = ⊤
HasOperands (Jump n) = n < 2 ^ 32
HasOperands (JumpZero n) = n < 2 ^ 32
HasOperands (JumpNonZero n) = n < 2 ^ 32
HasOperands Turn = ⊤
HasOperands End = ⊤

-- and so are those of all instructions of a code
abbrev pub HasAllOperands : Code → Type 0
HasAllOperands code = All HasOperands code.instrs

-- the rescue number of a module, if it has one, is a number of its type
abbrev pub HasRescueInRange : ModuleInfo → Type 0
HasRescueInRange info = IfSome info.rescue (λ number. is_i64 number ≡ true)

-- an image that can be run can be written
abbrev pub EveryRunnableImageCanBeWritten : Type 0
EveryRunnableImageCanBeWritten =
    (image : Image) → IsRunnable image → 1 ≤ image.cap → image.cap ≤ most_tokens
    → All HasName image.tree.modules → All HasRescueInRange image.tree.modules
    → All HasAllOperands image.codes → CanBeWritten image

-- an image that was read and migrated can be written
abbrev pub EveryMigratedImageCanBeWritten : Type 0
EveryMigratedImageCanBeWritten =
    (image : Image) (bytes : List ℕ) → IsSpelling image bytes → IsRunnable (migrated_of image)
    → CanBeWritten (migrated_of image)

-- loading an image that can be run gives the program, or else memory ran out
abbrev pub NoRunnableImageIsRefused : Type 0
NoRunnableImageIsRefused =
    (image : Image) (refusal : LoadRefusal) → IsRunnable image → Refuses image refusal
    → refusal ≡ NoMemory

-- a text that is one word, and no keyword, is such a name
abbrev pub EveryWordIsAName : Type 0
EveryWordIsAName = (text name : List ℕ) → piece_of text ≡ Some (Token (Word name)) → IsNameText name

-- the names of the entries that a text spells are such names
abbrev pub EveryEntryHasAName : Type 0
EveryEntryHasAName =
    (bytes : List ℕ) (program : ProgramTree) → Spells bytes program
    → AllByRecursion HasNameOf program.entries
