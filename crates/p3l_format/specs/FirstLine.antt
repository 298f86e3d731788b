-- The first line of a text that isn't of its form, by what a format spells and not by how it reads.
use Rattle.std.specs.Prelude.{◌≡◌, ℕ, ◌+◌, ◌==◌, ◌⊎◌, true, List, [], ◌∷◌, ◌++◌, count_by}
use Rattle.p3l_format.specs.Format.{Format}

-- the count of line feeds in a text
abbrev pub feeds : List ℕ → ℕ
feeds s = count_by (λ b. b == 10) s

-- each line of a text is ended by a line feed
abbrev pub IsWhole : List ℕ → Type 0
IsWhole s = (s ≡ []) ⊎ ((front : List ℕ) × (s ≡ front ++ 10 ∷ []))

-- two texts begin with the same line, ended by a line feed in both
pub record BeginAlike (s t : List ℕ) : Type 0 where
  pub first : List ℕ
  pub one : feeds first ≡ 0
  pub s_rest : List ℕ
  pub s_is : s ≡ first ++ 10 ∷ s_rest
  pub t_rest : List ℕ
  pub t_is : t ≡ first ++ 10 ∷ t_rest

-- a text is a prefix of a value's spelling
abbrev pub Begins : {A : Type 0} → Format ℕ A → List ℕ → Type 0
Begins {A = A} format s = (v : A) × (rest : List ℕ) × (format.fits v ≡ true) × (format.spell v ≡ s ++ rest)

-- The lines before it begin a spelling, and no spelling that continues them has this line. So a last line
-- with no line feed is itself at fault, and where a text ends early it is the line after its last.
pub record IsFirstBadLine {A : Type 0} (format : Format ℕ A) (text : List ℕ) (line : ℕ) : Type 0 where
  -- the lines before it, and the others
  pub before : List ℕ
  pub others : List ℕ
  pub is : text ≡ before ++ others
  pub whole : IsWhole before
  pub number : line ≡ feeds before + 1
  pub good : Begins format before
  pub bad : (v : A) (more : List ℕ) → format.fits v ≡ true → format.spell v ≡ before ++ more → BeginAlike more others → ⊥
