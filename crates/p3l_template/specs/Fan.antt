-- Workers side by side between two processes of their node: what a farm and a map place alike.
use Rattle.std.specs.Prelude.{ℕ, ◌+◌, Bool, List, [], ◌∷◌, replicate}
use Rattle.p3l_base.specs.declared.outcome.Outcome.{Outcome}
use Rattle.p3l_firing.specs.declared.process.Proc.{Proc}
use Rattle.p3l_firing.specs.declared.process.ProcKind.{ProcKind}
use Rattle.p3l_firing.specs.declared.token.Token.{Token}
use Rattle.p3l_firing.specs.State.{State}
use Rattle.p3l_template.specs.Part.{Part}
use Rattle.p3l_template.specs.Placed.{proc_end, chan_end}
use Rattle.p3l_template.specs.Shape.{Blueprint, Role, Base, empty_chan, numbers_from, fan_slots}
use Rattle.p3l_template.specs.Units.{Units}

-- the first process reads what comes in, and writes the in channels of the n workers
abbrev pub first_proc : ProcKind → ℕ → ℕ → Base → Proc
first_proc kind node n base =
    record { kind = kind; node = node; arg = 0; ins = base.input ∷ []; outs = numbers_from base.chan n }

-- the last process reads the out channels of the workers, and writes what goes out
abbrev pub last_proc : ProcKind → ℕ → ℕ → Base → Proc
last_proc kind node n base =
    record { kind = kind; node = node; arg = 0; ins = numbers_from (base.chan + n) n; outs = base.output ∷ [] }

abbrev pub fan_procs : ProcKind → ProcKind → ℕ → ℕ → Base → List Proc
fan_procs first last node n base = first_proc first node n base ∷ (last_proc last node n base ∷ [])

-- the node of a skeleton with workers: its meaning and its firings, and its part's view of a state
pub record Fanned : Type 0 where
  pub meaning : Units → (ℕ → Role) → Outcome → Outcome
  pub firings : Units → (ℕ → Role) → ℕ
  pub pending : Units → (ℕ → Role) → Base → List Part → State → List Token
  pub orderly : Units → (ℕ → Role) → Base → List Part → State → Bool
  pub owed : Units → (ℕ → Role) → Base → List Part → State → ℕ

-- the part of such a node, round n workers
abbrev pub fan_part : ℕ → Fanned → Units → (ℕ → Role) → Base → List Part → Part
fan_part n fanned units roles base parts =
    record {
      input = base.input;
      output = base.output;
      proc_from = base.proc;
      proc_to = proc_end (base.proc + 2) parts;
      chan_from = base.chan;
      chan_to = chan_end (base.chan + (n + n)) parts;
      meaning = fanned.meaning units roles;
      pending = fanned.pending units roles base parts;
      orderly = fanned.orderly units roles base parts;
      firings = fanned.firings units roles;
      owed = fanned.owed units roles base parts;
    }

-- the shape with these two processes and n workers
abbrev pub fan_shape : ProcKind → ProcKind → (node n : ℕ) → Fanned → Blueprint
fan_shape first last node n fanned =
    record {
      procs = fan_procs first last node n;
      chans = λ base. n + n;
      laid = λ cap base. replicate (n + n) (empty_chan cap);
      inner = n;
      slots = λ base. fan_slots base.chan (base.chan + n) n;
      meaning = fanned.meaning;
      firings = fanned.firings;
      part = fan_part n fanned;
    }
