-- Saved states of machines in which a run of a linked net can be.
use Rattle.std.specs.Prelude.{List, [], ℕ}
use Rattle.p3l_firing.specs.declared.net.Net.{Net}
use Rattle.p3l_firing.specs.declared.shot.Shot.{Shot}
use Rattle.p3l_net.specs.Fitting.{Fitting}
use Rattle.p3l_template.specs.Units.{Units}
use Rattle.p3l_link.specs.Laws.{IsOrderly}
use Rattle.p3l_fitting.specs.Survey.{linked_loops, linked_widths}
use Rattle.p3l_orderly.specs.Root.{IsBalanced, saved_state}

-- it fits the net of a tree under these counts, the root is orderly, and each item sent was emitted or is still in the net. This
-- assumes that the net was linked for the tree under these counts: in other nets a place that is surveyed for a loop may have no loop
pub record IsSound (units : Units) (counts : List ℕ) (net : Net) (shot : Shot) : Type 0 where
  pub fitting : Fitting units.tree net (linked_widths units.tree counts) (linked_loops units.tree counts) shot
  pub orderly : IsOrderly units counts (saved_state units.tree net shot [])
  pub balanced : IsBalanced units counts net shot
