-- The verdicts of runs that failed.
use Rattle.p3l_report.specs.declared.verdict.Verdict.{Verdict}
use Rattle.p3l_report.specs.declared.verdict.Verdict.TheVariants as verdict
use Rattle.p3l_run.specs.declared.fault.RunFault.{RunFault}
use Rattle.p3l_run.specs.declared.fault.RunFault.TheVariants as fault

-- the verdict of a run that failed
abbrev pub fault_verdict : RunFault → Verdict
fault_verdict fault.Write = verdict.WriteFault
fault_verdict fault.NoMemory = verdict.NoMemory
