-- The world that a command works on, before and after it.
use Rattle.std.specs.Prelude.{◌≡◌, List, ℕ, Some}
use Rattle.p3l_io.specs.Change.{Change, HasRisen, IsStill}
use Rattle.p3l_io.specs.Content.{Held}

-- the files, the input and the output
pub record World : Type 0 where
  pub files : Change Held
  pub input : Change (List ℕ)
  pub output : Change (List ℕ)

abbrev pub world : Change Held → (input output : Change (List ℕ)) → World
world files input output = record { files = files; input = input; output = output }

-- nothing was taken and nothing written
pub record IsUntouched (w : World) : Type 0 where
  pub input : IsStill w.input
  pub output : IsStill w.output

-- a statement on the contents before, where they are known: of the files, of the input and of the output
abbrev pub WhenKnown : World → (Held → (rest taken : List ℕ) → Type 0) → Type 0
WhenKnown w P =
    (held : Held) (rest taken : List ℕ) → w.files.old.content ≡ Some held → w.input.old.content ≡ Some rest → w.output.old.content ≡ Some taken →
    P held rest taken

-- no count of faults rose
pub record HasNoFault (w : World) : Type 0 where
  pub files : HasRisen w.files → ⊥
  pub input : HasRisen w.input → ⊥
  pub output : HasRisen w.output → ⊥
