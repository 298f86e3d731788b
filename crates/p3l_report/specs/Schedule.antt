-- Lines of refused files of picks.
use Rattle.std.specs.Prelude.{ℕ, List, ◌++◌, codes}
use Rattle.std.specs.Fmt.{decimal}
use Rattle.p3l_sched.specs.declared.refusal.PickRefusal.{PickRefusal}
use Rattle.p3l_sched.specs.declared.refusal.PickRefusal.TheVariants as picks
use Rattle.p3l_report.specs.Line.{no_memory_line, numbered_line}

-- schedule: line N: 96 NoSuchProcess PICK of COUNT
abbrev pub process_line : ℕ → ℕ → ℕ → List ℕ
process_line line pick count =
    codes "schedule: line " ++ (decimal line ++ (codes ": 96 NoSuchProcess " ++ (decimal pick ++ (codes " of " ++ (decimal count ++ codes "\n")))))

-- schedule: line N: NUMBER NAME, with the pick and the number of processes where it is a pick of none
abbrev pub schedule_line : PickRefusal → List ℕ
schedule_line (picks.BadPick line) = numbered_line (codes "schedule") line (codes "95 BadPick")
schedule_line (picks.NoSuchProcess line pick count) = process_line line pick count
schedule_line picks.NoMemory = no_memory_line
