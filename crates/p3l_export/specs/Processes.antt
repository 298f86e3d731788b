-- The tables of the processes and of their channels.
use Rattle.std.specs.Prelude.{ℕ, List, ◌++◌, codes, length, slice_index}
use Rattle.std.specs.Fmt.{decimal}
use Rattle.std.specs.List.{flat_map}
use Rattle.p3l_firing.specs.declared.process.Proc.{Proc}
use Rattle.p3l_firing.specs.declared.process.ProcKind.{ProcKind}
use Rattle.p3l_firing.specs.declared.process.ProcKind.TheVariants.{Source, Sink, Run, Emit, Collect, Scatter, Gather, Split, FoldGather, Join, Head, Tail}
use Rattle.p3l_export.specs.Lines.{closed_table, number_item, table}
use Rattle.p3l_export.specs.Numbered.{numbered}

-- the engine's name of a kind of process
abbrev pub kind_name : ProcKind → List ℕ
kind_name Source = codes "KIND_SOURCE"
kind_name Sink = codes "KIND_SINK"
kind_name Run = codes "KIND_RUN"
kind_name Emit = codes "KIND_EMIT"
kind_name Collect = codes "KIND_COLLECT"
kind_name Scatter = codes "KIND_SCATTER"
kind_name Gather = codes "KIND_GATHER"
kind_name Split = codes "KIND_SPLIT"
kind_name FoldGather = codes "KIND_FOLD_GATHER"
kind_name Join = codes "KIND_JOIN"
kind_name Head = codes "KIND_HEAD"
kind_name Tail = codes "KIND_TAIL"

-- the first half of a process's row: its kind, its node and its argument
abbrev pub process_words : Proc → List ℕ
process_words process =
    codes "    { " ++ (kind_name process.kind ++ (codes ", " ++ (decimal process.node ++ (codes ", " ++ decimal process.arg))))

-- the second half: how many channels it reads and writes, and its load
abbrev pub process_numbers : Proc → ℕ → List ℕ
process_numbers process load =
    codes ", " ++ (decimal (length process.ins) ++ (codes ", " ++ (decimal (length process.outs) ++ (codes ", "
    ++ (decimal load ++ codes " },\n")))))

-- the row of a process, where the load of each is known
unfoldable pub process_line : List ℕ → ℕ → Proc → List ℕ
process_line loads number process = process_words process ++ process_numbers process (slice_index loads number)

-- the table of the processes
unfoldable pub processes_text : List ℕ → List Proc → List ℕ
processes_text loads procs =
    table (codes "kind, node, argument, channels in, channels out, load") (codes "struct process_row PROCESS")
    (numbered (process_line loads) 0 procs)

-- the channels of a process: those that it reads, then those that it writes
unfoldable pub ends_line : Proc → List ℕ
ends_line process =
    codes "   " ++ (flat_map number_item process.ins ++ (flat_map number_item process.outs ++ codes "\n"))

-- the channels of all processes
unfoldable pub ends_text : List Proc → List ℕ
ends_text procs =
    closed_table (codes "the channels of the processes: those that each reads, then those that it writes") (codes "int32_t END")
    (flat_map ends_line procs) (codes "-1")
