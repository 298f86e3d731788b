-- The net of a tree that is one unit: source, run and sink in a row.
use Rattle.std.specs.Prelude.{ℕ, [], ◌∷◌}
use Rattle.p3l_firing.specs.declared.process.Proc.{Proc}
use Rattle.p3l_firing.specs.declared.process.ProcKind.TheVariants.{Source, Sink, Run}
use Rattle.p3l_firing.specs.declared.net.Chan.{Chan}
use Rattle.p3l_firing.specs.declared.net.Net.{Net}

-- the source sends into channel 0
abbrev pub the_source : Proc
the_source = record { kind = Source; node = 0; arg = 0; ins = []; outs = 0 ∷ [] }

-- the sink takes from channel 1
abbrev pub the_sink : Proc
the_sink = record { kind = Sink; node = 0; arg = 0; ins = 1 ∷ []; outs = [] }

-- the run of the root is between them
abbrev pub the_run : Proc
the_run = record { kind = Run; node = 0; arg = 0; ins = 0 ∷ []; outs = 1 ∷ [] }

-- a channel that begins empty
abbrev pub empty_chan : ℕ → Chan
empty_chan cap = record { cap = cap; credits = 0 }

-- the net of one unit, with channels of this capacity
abbrev pub unit_net : ℕ → Net
unit_net cap =
    record { procs = the_source ∷ (the_sink ∷ (the_run ∷ [])); chans = empty_chan cap ∷ (empty_chan cap ∷ []) }
