-- Runs that continue from snapshots.
use Rattle.std.specs.Prelude.{◌≡◌, ◌<◌, ◌^◌}
use Rattle.p3l_firing.specs.declared.shot.Shot.{Shot}
use Rattle.p3l_run.specs.Feed.{most_of_input}
use Rattle.p3l_run.specs.Network.{IsSound, Network, resumed}
use Rattle.p3l_run.specs.Start.{Resumption, most_from, saved}

-- a network that is resumed from a shot continues from this: its runs can begin there, and however many items come, their
-- firings can be counted
pub record IsResumedBy (n : Network) (shot : Shot) (r : Resumption) : Type 0 where
  pub shot_is : r.shot ≡ shot
  pub sound : IsSound (resumed r n)
  pub fits : most_from (saved r) n.firings most_of_input < 2 ^ 63

-- a network can be resumed from a shot
abbrev pub IsResumable : Network → Shot → Type 0
IsResumable n shot = (r : Resumption) × IsResumedBy n shot r
