-- Contents of files, as far as they report them.
use Rattle.std.specs.Prelude.{◌≡◌, ℕ, ◌<◌, ◌≤◌, List, length, Option, Some, None}
use Rattle.p3l_ast.specs.declared.position.Pos.{Pos}
use Rattle.p3l_ast.specs.declared.refusal.Fault.{Fault}
use Rattle.p3l_ast.specs.Tree.{ProgramTree}
use Rattle.p3l_grammar.specs.Grammar.{IsFirstFault, Spells}
use Rattle.p3l_io.specs.Content.{Held}

-- the most bytes of a file of a program, and of one of costs
abbrev pub text_limit : ℕ
text_limit = 1048576

-- these bytes are held under the name, if the files report what they hold
abbrev pub Holds : Option Held → List ℕ → List ℕ → Type 0
Holds None name bytes = Unit {0}
Holds (Some held) name bytes = held name ≡ Some bytes

-- a text within a limit is held under the name
pub record HasText (files : Option Held) (limit : ℕ) (name text : List ℕ) : Type 0 where
  pub holds : Holds files name text
  pub within : length text ≤ limit

-- a file of this name is held, and longer than a limit
pub record HoldsLonger (held : Held) (limit : ℕ) (name : List ℕ) : Type 0 where
  pub bytes : List ℕ
  pub holds : held name ≡ Some bytes
  pub longer : limit < length bytes

-- the same, where the files report what they hold
abbrev pub IsTooLong : Option Held → ℕ → List ℕ → Type 0
IsTooLong None limit name = Unit {0}
IsTooLong (Some held) limit name = HoldsLonger held limit name

-- the file of this name spells this program
pub record HasProgram (files : Option Held) (name : List ℕ) (program : ProgramTree) : Type 0 where
  pub text : List ℕ
  pub has : HasText files text_limit name text
  pub spelled : Spells text program

-- it spells no program, and this is its first fault
pub record HasFault (files : Option Held) (name : List ℕ) (fault : Fault) (pos : Pos) : Type 0 where
  pub text : List ℕ
  pub has : HasText files text_limit name text
  pub first : IsFirstFault text fault pos
  pub no_program : (program : ProgramTree) → Spells text program → ⊥
