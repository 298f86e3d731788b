-- The command `fmt`: the canonical text of the program of a file.
use Rattle.std.specs.Prelude.{◌≡◌, ℕ, List, [], ◌∷◌, Option}
use Rattle.p3l_ast.specs.declared.position.Pos.{Pos}
use Rattle.p3l_ast.specs.declared.refusal.Fault.{Fault}
use Rattle.p3l_ast.specs.declared.refusal.SourceRefusal.{SourceRefusal}
use Rattle.p3l_ast.specs.declared.refusal.SourceRefusal.TheVariants as source
use Rattle.p3l_ast.specs.Tree.{ProgramTree}
use Rattle.p3l_grammar.specs.Grammar.{IsFirstFault, Spells}
use Rattle.p3l_io.specs.Content.{Held}
use Rattle.p3l_print.specs.Program.{canonical}
use Rattle.p3l_program.specs.File.{HasProgram, text_limit}
use Rattle.p3l_program.specs.Stage.{Stage, readable, spelled}
use Rattle.p3l_base.specs.Memory.{Refused}

-- the file is read, and its text spells a program
abbrev pub fmt_stages : List ℕ → List Stage
fmt_stages name = readable text_limit name ∷ (spelled name ∷ [])

-- the canonical text of the program that the file spells
pub record IsFormatted (files : Option Held) (name text : List ℕ) : Type 0 where
  pub program : ProgramTree
  pub has : HasProgram files name program
  pub text_is : text ≡ canonical program

-- the text spells a program whose canonical text is this
pub record IsCanonicalOf (text bytes : List ℕ) : Type 0 where
  pub program : ProgramTree
  pub spelled : Spells text program
  pub bytes_are : bytes ≡ canonical program

-- the text spells no program, and this is its first fault
pub record IsFaulty (text : List ℕ) (fault : Fault) (pos : Pos) : Type 0 where
  pub first : IsFirstFault text fault pos
  pub no_program : (program : ProgramTree) → Spells text program → ⊥

-- why there is no canonical text, unless memory ran out
abbrev pub HasNoCanonical : List ℕ → SourceRefusal → Type 0
HasNoCanonical text (source.At fault pos) = IsFaulty text fault pos
HasNoCanonical text source.NoMemory = Refused
