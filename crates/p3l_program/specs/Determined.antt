-- The words and the files determine the network of a program.
use Rattle.std.specs.Prelude.{◌≡◌, Option, Some}
use Rattle.p3l_io.specs.Content.{Held}
use Rattle.p3l_opts.specs.declared.command.Build.{Build}
use Rattle.p3l_run.specs.Network.{Network}
use Rattle.p3l_program.specs.Origin.{built}
use Rattle.p3l_program.specs.Plan.{HasNetwork, HaveTexts}

-- files that hold the texts of which a program's network was made, of the program and of its costs, make no other by the same words
abbrev pub EveryProgramHasOneNetwork : Type 0
EveryProgramHasOneNetwork =
    (files : Option Held) (held : Held) (build : Build) (n other : Network) → (h : HasNetwork files (built build) n) →
    HaveTexts (Some held) (built build) h.texts → HasNetwork (Some held) (built build) other → other ≡ n
