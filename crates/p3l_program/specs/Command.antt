-- The commands: the work of each, and what it does.
use Rattle.std.specs.Prelude.{ℕ, List, Option, Some, None}
use Rattle.p3l_opts.specs.declared.command.Command.{Command}
use Rattle.p3l_opts.specs.declared.command.Command.TheVariants as command
use Rattle.p3l_report.specs.declared.stats.Stats.{Stats}
use Rattle.p3l_report.specs.declared.verdict.Finish.{Finish}
use Rattle.p3l_report.specs.declared.verdict.Verdict.{Verdict}
use Rattle.p3l_program.specs.Advise.{IsRequested}
use Rattle.p3l_program.specs.Behavior.{Behavior, IsExpectedBy}
use Rattle.p3l_program.specs.Certificate.{IsCertificate}
use Rattle.p3l_program.specs.Check.{IsCounted}
use Rattle.p3l_program.specs.Compile.{IsImageOf}
use Rattle.p3l_program.specs.Explain.{IsExplained}
use Rattle.p3l_program.specs.Export.{IsExportOf, build_of}
use Rattle.p3l_program.specs.Fmt.{IsFormatted, fmt_stages}
use Rattle.p3l_program.specs.Generated.{gen_of}
use Rattle.p3l_program.specs.Graph.{IsDrawn}
use Rattle.p3l_program.specs.Migrate.{IsMigrated}
use Rattle.p3l_program.specs.Origin.{Running, built, continued, imaged, running, scanned}
use Rattle.p3l_program.specs.Rewrite.{IsRewritten}
use Rattle.p3l_program.specs.Source.{plain_build}
use Rattle.p3l_program.specs.Stage.{Stage, build_stages, migrate_stages, program_stages, verify_stages}
use Rattle.p3l_program.specs.Text.{IsNothing}
use Rattle.p3l_program.specs.Verify.{IsVerified}
use Rattle.p3l_program.specs.Work.{Work, behavior, check_trace, profile_input, run_generated, run_in_time, run_network, save_file, save_state, write_text}
use Rattle.p3l_program.specs.World.{World}

-- the work of each command
unfoldable pub work_of : Command → Work
work_of (command.Check name) = write_text (program_stages name) (λ files. IsCounted files name)
work_of (command.Fmt name) = write_text (fmt_stages name) (λ files. IsFormatted files name)
work_of (command.Explain build None) = write_text (build_stages build) (λ files. IsExplained files build)
work_of (command.Explain build (Some cert)) =
    save_file (build_stages build) (λ files. IsExplained files build) cert (λ files. IsCertificate files build)
work_of (command.Advise build processes) = write_text (build_stages build) (λ files. IsRequested files build processes)
work_of (command.Compile build name) =
    save_file (build_stages build) (λ files. IsNothing) name (λ files. IsImageOf files build)
work_of (command.Migrate name output) =
    save_file (migrate_stages name) (λ files. IsNothing) output (λ files. IsMigrated files name)
work_of (command.Export exported name) =
    save_file (build_stages (build_of exported)) (λ files. IsNothing) name (λ files. IsExportOf files exported)
work_of (command.Graph build) = write_text (build_stages build) (λ files. IsDrawn files build)
work_of (command.Run build schedule trace reported) = run_network (running (built build) schedule trace reported)
work_of (command.Exec name schedule trace reported) = run_network (running (imaged name) schedule trace reported)
work_of (command.VerifyCert program cert costs) =
    write_text (verify_stages program cert costs) (λ files. IsVerified files program costs cert)
work_of (command.CheckTrace build name) = check_trace build name
work_of (command.Gen number processors items schedule prefix) =
    run_generated (gen_of number processors items schedule prefix)
work_of (command.Rewrite program processors costs) =
    write_text (build_stages (plain_build program processors costs)) (λ files. IsRewritten files (plain_build program processors costs))
work_of (command.Profile name) = profile_input name
work_of (command.Time build picks) = run_in_time build picks
work_of (command.Scan name segments schedule capacity reported) = run_network (running (scanned name segments capacity) schedule None reported)
work_of (command.Save build picks output) = save_state build picks output
work_of (command.Resume name schedule reported) = run_network (running (continued name) schedule None reported)

abbrev pub behavior_of : Command → Behavior
behavior_of command = behavior (work_of command)

-- the stages before a command's work
abbrev pub stages_of : Command → List Stage
stages_of command = (behavior_of command).stages

-- the names of the files that it writes
abbrev pub written_of : Command → List (List ℕ)
written_of command = (behavior_of command).written

-- the files that it writes before its work, each a name and its bytes
abbrev pub saved_first : Command → List (List ℕ × List ℕ)
saved_first command = (behavior_of command).saved_first

-- the network that it runs on the input, if it runs one
abbrev pub run_of : Command → Option Running
run_of command = (behavior_of command).run

-- it came to this end, with these numbers to be reported
abbrev pub Ends : World → Command → Finish → Option Stats → Type 0
Ends w command finish stats = (behavior_of command).Ends w finish stats

-- a prefix of what it writes was written
abbrev pub Begins : World → Command → Type 0
Begins w command = (behavior_of command).Begins w

-- by when it changes a file
abbrev pub Touches : World → Command → Type 0
Touches w command = (behavior_of command).Touches w

-- all that it writes was written, over an input and an output that report
abbrev pub IsWhole : World → List ℕ → List ℕ → Command → Type 0
IsWhole w rest taken command = (behavior_of command).IsWhole w rest taken

-- the status that it is expected to end with where its stages pass and no fault comes
abbrev pub IsStatusExpected : World → List ℕ → Command → ℕ → Type 0
IsStatusExpected w rest command n = (behavior_of command).IsStatusExpected w rest n

-- a verdict is expected of it
abbrev pub IsExpectedOf : World → Command → Verdict → Type 0
IsExpectedOf w command v = IsExpectedBy w (behavior_of command) v
