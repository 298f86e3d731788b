-- Numbers of words and tags that the channels of typed nets carry.
use Rattle.std.specs.Prelude.{ℕ, ◌<◌, ◌≤◌, List, length}
use Rattle.p3l_base.specs.Limits.{most_words}
use Rattle.p3l_skel.specs.declared.tree.Tree.{Tree}
use Rattle.p3l_skel.specs.Counts.{HasLawfulCounts}
use Rattle.p3l_firing.specs.declared.net.Net.{Net}
use Rattle.p3l_firing.specs.Typed.{IsTyped}
use Rattle.p3l_link.specs.Net.{linked_net}
use Rattle.p3l_fitting.specs.Restoring.{AgreeOn}
use Rattle.p3l_fitting.specs.Survey.{linked_widths}

-- each channel of a typed net carries at most 65,536 words
abbrev pub EveryWidthIsSmall : Type 0
EveryWidthIsSmall = (tree : Tree) (net : Net) (typed : IsTyped tree net) (c : ℕ) → c < length net.chans → typed.widths.words c ≤ most_words

-- however a linked net is typed, its channels carry the widths that are surveyed: they are forced, from channel 0 on
abbrev pub EveryLinkedNetCarriesItsWidths : Type 0
EveryLinkedNetCarriesItsWidths =
    (tree : Tree) (counts : List ℕ) (cap : ℕ) (typed : IsTyped tree (linked_net tree counts cap)) → HasLawfulCounts tree counts
    → AgreeOn (length (linked_net tree counts cap).chans) (linked_widths tree counts) typed.widths
