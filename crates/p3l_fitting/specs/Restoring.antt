-- Conditions under which a machine can be restored from a shot that fits.
use Rattle.std.specs.Prelude.{ℕ, ◌<◌, List, length}
use Rattle.p3l_skel.specs.declared.tree.Tree.{Tree}
use Rattle.p3l_firing.specs.declared.net.Net.{Net}
use Rattle.p3l_firing.specs.Typed.{IsTyped}
use Rattle.p3l_firing.specs.Widths.{Carries, Widths}
use Rattle.p3l_firing.specs.declared.shot.Shot.{Shot}
use Rattle.p3l_net.specs.Fitting.{Fitting, LoopPlace}
use Rattle.p3l_net.specs.Shot.{CanRestore}

-- two widths agree on the first n channels
abbrev pub AgreeOn : ℕ → Widths → Widths → Type 0
AgreeOn n one other = (c : ℕ) → c < n → Carries other c (one.words c) (one.tags c)

-- of a net that is typed by widths that agree on its channels with those under which a shot fits it
abbrev pub WhatFitsCanBeRestored : Type 0
WhatFitsCanBeRestored =
    (tree : Tree) (net : Net) (typed : IsTyped tree net) (widths : Widths) (loops : List LoopPlace) (shot : Shot) →
    AgreeOn (length net.chans) widths typed.widths → Fitting tree net widths loops shot → CanRestore tree net shot
