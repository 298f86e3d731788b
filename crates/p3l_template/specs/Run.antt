-- The template of a node that is one process.
use Rattle.std.specs.Prelude.{ℕ, ◌+◌, true, [], ◌∷◌}
use Rattle.p3l_base.specs.declared.outcome.Outcome.{Outcome}
use Rattle.p3l_firing.specs.declared.process.Proc.{Proc}
use Rattle.p3l_firing.specs.declared.process.ProcKind.TheVariants.{Run}
use Rattle.p3l_template.specs.Part.{Part}
use Rattle.p3l_template.specs.Shape.{Blueprint, Base}
use Rattle.p3l_template.specs.Units.{outcome_at}

-- the one process
abbrev pub run_proc : ℕ → Base → Proc
run_proc node base = record { kind = Run; node = node; arg = 0; ins = base.input ∷ []; outs = base.output ∷ [] }

-- nothing is ever pending in it, and it owes nothing
abbrev pub run_part : (Outcome → Outcome) → Base → Part
run_part meaning base =
    record {
      input = base.input;
      output = base.output;
      proc_from = base.proc;
      proc_to = base.proc + 1;
      chan_from = base.chan;
      chan_to = base.chan;
      meaning = meaning;
      pending = λ s. [];
      orderly = λ s. true;
      firings = 1;
      owed = λ s. 0;
    }

abbrev pub run_shape : ℕ → Blueprint
run_shape node =
    record {
      procs = λ base. run_proc node base ∷ [];
      chans = λ base. 0;
      laid = λ cap base. [];
      inner = 0;
      slots = λ base. [];
      meaning = λ units roles. outcome_at units node;
      firings = λ units roles. 1;
      part = λ units roles base inner. run_part (outcome_at units node) base;
    }
