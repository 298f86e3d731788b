-- Lines for the standard error.
use Rattle.std.specs.Prelude.{ℕ, List, ◌++◌, codes}
use Rattle.std.specs.Fmt.{decimal}
use Rattle.p3l_ast.specs.declared.refusal.Fault.{Fault}
use Rattle.p3l_ast.specs.declared.position.Pos.{Pos}
use Rattle.p3l_ast.specs.Refusal as source
use Rattle.p3l_base.specs.declared.outcome.TrapKind.{TrapKind}
use Rattle.p3l_run.specs.declared.end.RunStats.{RunStats}
use Rattle.p3l_report.specs.declared.stats.Stats.{Stats}
use Rattle.p3l_report.specs.declared.stats.Stats.TheVariants as stats
use Rattle.p3l_report.specs.Trap.{kind_text}

-- no memory
abbrev pub no_memory_line : List ℕ
no_memory_line = codes "no memory\n"

-- WHAT: NAME
abbrev pub named_line : List ℕ → List ℕ → List ℕ
named_line what name = what ++ (codes ": " ++ (name ++ codes "\n"))

-- source: LINE:COL: NUMBER NAME
abbrev pub source_line : Fault → Pos → List ℕ
source_line fault pos =
    codes "source: " ++ (decimal pos.line ++ (codes ":" ++ (decimal pos.col ++ (codes ": " ++ (decimal (source.number_of fault) ++ (codes " " ++ (source.name_of fault ++ codes "\n")))))))

-- WHAT: line N: NUMBER NAME
abbrev pub numbered_line : List ℕ → ℕ → List ℕ → List ℕ
numbered_line what line fault = what ++ (codes ": line " ++ (decimal line ++ (codes ": " ++ (fault ++ codes "\n"))))

-- stream: line N: 101 WrongCount COUNT
abbrev pub counted_line : ℕ → ℕ → List ℕ
counted_line line had = codes "stream: line " ++ (decimal line ++ (codes ": 101 WrongCount " ++ (decimal had ++ codes "\n")))

-- too few processors: need N
abbrev pub need_line : ℕ → List ℕ
need_line need = codes "too few processors: need " ++ decimal need ++ codes "\n"

-- stopped: F fired, I idle
abbrev pub stopped_line : ℕ → ℕ → List ℕ
stopped_line fired idle =
    codes "stopped: " ++ (decimal fired ++ (codes " fired, " ++ (decimal idle ++ codes " idle\n")))

-- trap: item N: KIND in MODULE
abbrev pub trap_line : ℕ → TrapKind → List ℕ → List ℕ
trap_line item kind home =
    codes "trap: item " ++ (decimal item ++ (codes ": " ++ (kind_text kind ++ (codes " in " ++ (home ++ codes "\n")))))

-- items N, fired F, idle I, bound B
abbrev pub numbers_text : RunStats → List ℕ
numbers_text numbers =
    codes "items " ++ (decimal numbers.items ++ (codes ", fired " ++ (decimal numbers.fired ++ (codes ", idle " ++ (decimal numbers.idle ++ (codes ", bound " ++ decimal numbers.bound))))))

-- stats: NUMBERS; of a run in virtual time
-- time: items N, fired F, finish T, busiest P B; and of a run whose state was saved
-- saved: items K, picks A
abbrev pub stats_line : Stats → List ℕ
stats_line (stats.Scheduled numbers) = codes "stats: " ++ (numbers_text numbers ++ codes "\n")
stats_line (stats.Timed items fired finish busiest busy) =
    codes "time: items " ++ (decimal items ++ (codes ", fired " ++ (decimal fired ++ (codes ", finish " ++ (decimal finish
    ++ (codes ", busiest " ++ (decimal busiest ++ (codes " " ++ (decimal busy ++ codes "\n")))))))))
stats_line (stats.Saved items picks) = codes "saved: items " ++ (decimal items ++ (codes ", picks " ++ (decimal picks ++ codes "\n")))
