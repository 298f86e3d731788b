-- The command `graph`: the picture of the network that is built for a program.
use Rattle.std.specs.Prelude.{ℕ, List, Option}
use Rattle.p3l_io.specs.Content.{Held}
use Rattle.p3l_graph.specs.Graph.{IsGraph}
use Rattle.p3l_opts.specs.declared.command.Build.{Build}
use Rattle.p3l_run.specs.Network.{Network}
use Rattle.p3l_program.specs.Origin.{built}
use Rattle.p3l_program.specs.Plan.{HasNetwork}

-- the picture of the network that files and words request: that which `run` runs
pub record IsDrawn (files : Option Held) (build : Build) (text : List ℕ) : Type 0 where
  pub network : Network
  pub has : HasNetwork files (built build) network
  pub drawn : IsGraph network.tree network.net text
