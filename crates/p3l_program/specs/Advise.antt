-- The command `advise`: what numbers of processors buy for a program, or the processes of its nodes.
use Rattle.std.specs.Prelude.{◌≡◌, ℕ, Bool, false, true, List, Option}
use Rattle.p3l_io.specs.Content.{Held}
use Rattle.p3l_cost.specs.declared.costs.Costs.{Costs}
use Rattle.p3l_advise.specs.Advice.{IsAdvice}
use Rattle.p3l_graph.specs.Processes.{processes_text}
use Rattle.p3l_opts.specs.declared.command.Build.{Build}
use Rattle.p3l_run.specs.Network.{Network}
use Rattle.p3l_check.specs.Resolving.{ResolvedTree}
use Rattle.p3l_program.specs.Origin.{built}
use Rattle.p3l_program.specs.Plan.{HasCounts, HasNetwork}

-- the advice on the program that files and words request, up to the processors that they name
pub record IsAdvised (files : Option Held) (build : Build) (text : List ℕ) : Type 0 where
  pub r : ResolvedTree
  pub cs : Costs
  pub counts : List ℕ
  pub has : HasCounts files build r cs counts
  pub advice : IsAdvice r.tree cs build.processors text

-- the processes of each node of the network that files and words request: that which `run` runs
pub record IsListed (files : Option Held) (build : Build) (text : List ℕ) : Type 0 where
  pub network : Network
  pub has : HasNetwork files (built build) network
  pub text_is : text ≡ processes_text network.tree network.net

-- the text that is requested: the advice, or the processes of each node in its place
abbrev pub IsRequested : Option Held → Build → (processes : Bool) → List ℕ → Type 0
IsRequested files build false = IsAdvised files build
IsRequested files build true = IsListed files build
