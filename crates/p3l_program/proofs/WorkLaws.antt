-- Premises of the answers of each command, by the shape of its work.
use Rattle.p3l_opts.specs.declared.command.Command.{Command}
use Rattle.p3l_program.specs.Command.{behavior_of, work_of}
use Rattle.p3l_program.specs.Work.{Work, behavior, check_trace, profile_input, run_generated, run_in_time, run_network, save_file, save_state, write_text}
use Rattle.p3l_program.proofs.GenLaws.{gen_lawful}
use Rattle.p3l_program.proofs.Lawful.{Lawful}
use Rattle.p3l_program.proofs.ProfileLaws.{profile_lawful}
use Rattle.p3l_program.proofs.RunLaws.{run_lawful}
use Rattle.p3l_program.proofs.SaveStateLaws.{save_lawful}
use Rattle.p3l_program.proofs.TextLaws.{saving_lawful, text_lawful}
use Rattle.p3l_program.proofs.TimeLaws.{time_lawful}
use Rattle.p3l_program.proofs.TraceLaws.{check_lawful}

lawful_work : (k : Work) → Lawful (behavior k)
lawful_work (write_text stages IsText) = text_lawful stages IsText
lawful_work (save_file stages IsText name IsBytes) = saving_lawful stages IsText name IsBytes
lawful_work (run_network run) = run_lawful run
lawful_work (check_trace build name) = check_lawful build name
lawful_work (run_generated g) = gen_lawful g
lawful_work (profile_input name) = profile_lawful name
lawful_work (run_in_time build name) = time_lawful build name
lawful_work (save_state build picks output) = save_lawful build picks output

pub lawful : (c : Command) → Lawful (behavior_of c)
lawful c = lawful_work (work_of c)
