-- The shapes of work: what a command does is one of these.
use Rattle.std.specs.Prelude.{ℕ, List, Option}
use Rattle.p3l_io.specs.Content.{Held}
use Rattle.p3l_opts.specs.declared.command.Build.{Build}
use Rattle.p3l_program.specs.Behavior.{Behavior}
use Rattle.p3l_program.specs.Generated.{Gen, gen_behavior}
use Rattle.p3l_program.specs.Origin.{Running}
use Rattle.p3l_program.specs.Profile.{profile_behavior}
use Rattle.p3l_program.specs.Run.{run_behavior}
use Rattle.p3l_program.specs.Saved.{saving_behavior}
use Rattle.p3l_program.specs.SaveState.{save_behavior}
use Rattle.p3l_program.specs.Stage.{Stage}
use Rattle.p3l_program.specs.Text.{text_behavior}
use Rattle.p3l_program.specs.Time.{time_behavior}
use Rattle.p3l_program.specs.Trace.{check_behavior}

-- after these stages, a text by what the files hold is written, and nothing is read; a file of a name
-- is written, with bytes by what the files hold, and then such a text; a network is run on the input;
-- the trace of a file is checked against the run of a program on the input; what is generated is run;
-- a program is profiled on the input, and its cost file is written; a program is run on the input in
-- virtual time; a program is run on the input under the picks of a file, and its state is written to
-- another
pub data Work : Type 1 where
  write_text : List Stage → (Option Held → List ℕ → Type 0) → Work
  save_file : List Stage → (Option Held → List ℕ → Type 0) → List ℕ → (Option Held → List ℕ → Type 0) → Work
  run_network : Running → Work
  check_trace : Build → List ℕ → Work
  run_generated : Gen → Work
  profile_input : List ℕ → Work
  run_in_time : Build → Option (List ℕ) → Work
  save_state : Build → (picks output : List ℕ) → Work

abbrev pub behavior : Work → Behavior
behavior (write_text stages IsText) = text_behavior stages IsText
behavior (save_file stages IsText name IsBytes) = saving_behavior stages IsText name IsBytes
behavior (run_network run) = run_behavior run
behavior (check_trace build name) = check_behavior build name
behavior (run_generated g) = gen_behavior g
behavior (profile_input name) = profile_behavior name
behavior (run_in_time build name) = time_behavior build name
behavior (save_state build picks output) = save_behavior build picks output
