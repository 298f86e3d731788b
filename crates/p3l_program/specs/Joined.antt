-- Runs on blocks of a stream, whose texts are put together.
use Rattle.std.specs.Prelude.{◌≡◌, ◌↔◌, ℕ, List, [], ◌∷◌, ◌++◌}
use Rattle.std.specs.List.{AllByRecursion}
use Rattle.p3l_run.specs.Network.{Network, meaning_of, width_of}
use Rattle.p3l_run.specs.Start.{fresh}
use Rattle.p3l_run.specs.Sampling.{IsValue}
use Rattle.p3l_stream.specs.declared.items.Ending.TheVariants as ending
use Rattle.p3l_stream.specs.declared.items.Items.{Items}
use Rattle.p3l_stream.specs.Items.{items_of}
use Rattle.p3l_stream.specs.Text.{text_of}

-- the text of a run on these items
abbrev pub text_on : Network → Items → List ℕ
text_on n seen = text_of (meaning_of n seen.items)

-- a block of whole lines, the last of them this one
abbrev pub block : List ℕ → List ℕ
block front = front ++ 10 ∷ []

-- the run on both blocks ends well where that on the second does, and its text is that of the one and then that of the other
pub record Joins (n : Network) (first second both : Items) : Type 0 where
  pub ends : (both.ending ≡ ending.End) ↔ (second.ending ≡ ending.End)
  pub text : text_on n both ≡ text_on n first ++ text_on n second

-- ITEMS KNOW NOTHING OF EACH OTHER: where all lines of a block are accepted and none of its items traps, whatever comes after the
-- block may be run apart from it
abbrev pub BlocksJoin : Type 0
BlocksJoin =
    (n : Network) (front rest : List ℕ) → n.start ≡ fresh → (items_of (width_of n) (block front)).ending ≡ ending.End →
    AllByRecursion IsValue (meaning_of n (items_of (width_of n) (block front)).items) →
    Joins n (items_of (width_of n) (block front)) (items_of (width_of n) rest) (items_of (width_of n) (block front ++ rest))
