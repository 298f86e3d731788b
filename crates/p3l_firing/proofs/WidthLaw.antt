-- Words and tags of tokens that are moved on.
use Rattle.std.proofs.Common.{◌≡◌, ℕ, ◌+◌, List, [], ◌∷◌, length, sym, subst, ◌∙◌, arith}
use Rattle.p3l_skel.specs.Tree.{HasLength}
use Rattle.p3l_firing.specs.declared.token.Token.{Token}
use Rattle.p3l_firing.specs.Token.{later_tags, next_tag}
use Rattle.p3l_firing.specs.Widths.{Widths, Carries, HasWidth, FitsToken}

-- a token of a channel has the channel's words and tags, and one that has these fits the channel
pub width_of : {widths : Widths} {c w t : ℕ} (x : Token) → Carries widths c w t → FitsToken widths c x → HasWidth w t x
width_of x carries fits = record { words = subst (λ n. HasLength n x.body) carries.words fits.words; tags = fits.tags ∙ carries.tags }

pub fits_width : {widths : Widths} {c w t : ℕ} (x : Token) → Carries widths c w t → HasWidth w t x → FitsToken widths c x
fits_width x carries has = record { words = subst (λ n. HasLength n x.body) (sym carries.words) has.words; tags = has.tags ∙ sym carries.tags }

pub later_long : (tags : List ℕ) (t : ℕ) → length tags ≡ t + 1 → length (later_tags tags) ≡ t
unfolding later_tags
later_long [] t h = absurd (omega (arith, h))
later_long (tag ∷ tags) t h = omega (arith, h)

pub next_long : (tags : List ℕ) → length (next_tag tags) ≡ length tags
unfolding next_tag
next_long [] = omega arith
next_long (tag ∷ tags) = omega arith
