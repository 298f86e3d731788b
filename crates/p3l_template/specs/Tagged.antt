-- The number of tags that each kind of node adds.
use Rattle.std.specs.Prelude.{◌≡◌, ◌⊎◌, ℕ, ◌+◌, ◌≤◌, List}
use Rattle.std.specs.List.{AllByRecursion}
use Rattle.p3l_template.specs.declared.width.Width.{Width}

-- a channel of this width carries no words, or t tags at least; and two more at most
abbrev pub IsNear : ℕ → Width → Type 0
IsNear t x = ((x.words ≡ 0) ⊎ (t ≤ x.tags)) × (x.tags ≤ t + 2)

-- the tokens inside a node have two tags more at most, and so have those in its own channels, which have as many at least
pub record IsTagged (deeper : ℕ) (row : ℕ → List Width) : Type 0 where
  pub shallow : deeper ≤ 2
  pub near : (t : ℕ) → AllByRecursion (IsNear t) (row t)
