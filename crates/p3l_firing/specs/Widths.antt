-- The words and tags of the tokens in channels.
use Rattle.std.specs.Prelude.{◌≡◌, ℕ, List, length}
use Rattle.std.specs.List.{AllByRecursion}
use Rattle.p3l_skel.specs.Tree.{HasLength}
use Rattle.p3l_firing.specs.declared.token.Token.{Token}

-- the number of words of a value in each channel, and the number of tags of each token
pub record Widths : Type 0 where
  pub words : ℕ → ℕ
  pub tags : ℕ → ℕ

-- channel c carries w words and t tags
pub record Carries (widths : Widths) (c w t : ℕ) : Type 0 where
  pub words : widths.words c ≡ w
  pub tags : widths.tags c ≡ t

-- all these channels carry w words and t tags
abbrev pub AllCarry : Widths → List ℕ → ℕ → ℕ → Type 0
AllCarry widths cs w t = AllByRecursion (λ c. Carries widths c w t) cs

-- a token has w words, if it is a value, and t tags
pub record HasWidth (w t : ℕ) (token : Token) : Type 0 where
  pub words : HasLength w token.body
  pub tags : length token.tags ≡ t

-- a token has the words and tags of channel c
abbrev pub FitsToken : Widths → ℕ → Token → Type 0
FitsToken widths c token = HasWidth (widths.words c) (widths.tags c) token

-- all tokens have the words and tags of channel c
abbrev pub AllFit : Widths → ℕ → List Token → Type 0
AllFit widths c tokens = AllByRecursion (FitsToken widths c) tokens
