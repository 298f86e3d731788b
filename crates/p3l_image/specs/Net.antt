-- The format of nets.
use Rattle.std.specs.Prelude.{ℕ, List, [], ◌∷◌, length}
use Rattle.p3l_base.specs.Limits.{most_tokens}
use Rattle.p3l_firing.specs.declared.net.Chan.{Chan}
use Rattle.p3l_firing.specs.declared.net.Net.{Net}
use Rattle.p3l_firing.specs.declared.process.Proc.{Proc}
use Rattle.p3l_firing.specs.declared.process.ProcKind.{ProcKind}
use Rattle.p3l_firing.specs.declared.process.ProcKind.TheVariants.{Source, Sink, Run, Emit, Collect, Scatter, Gather, Split, FoldGather, Join, Head, Tail}
use Rattle.p3l_format.specs.Format.{Format, both, pair, record_of, counted}
use Rattle.p3l_format.specs.Numbers.{u32_format, u32_in, u32_below, one_of}
use Rattle.p3l_tree_format.specs.Tree.{indices_format}

-- a channel has at most as many credits as it holds tokens
unfoldable pub chan_format : Format ℕ Chan
chan_format = record_of (λ p. record { cap = p.0; credits = p.1 }) (λ c. (c.cap, c.credits)) (pair (u32_in 1 most_tokens) (λ cap. u32_in 0 cap))

abbrev pub chans_format : Format ℕ (List Chan)
chans_format = counted (u32_in 0 4294967295) (λ _. chan_format)

abbrev pub proc_kinds : List ProcKind
proc_kinds = Source ∷ Sink ∷ Run ∷ Emit ∷ Collect ∷ Scatter ∷ Gather ∷ Split ∷ FoldGather ∷ Join ∷ Head ∷ Tail ∷ []

abbrev pub proc_number : ProcKind → ℕ
proc_number Source = 0
proc_number Sink = 1
proc_number Run = 2
proc_number Emit = 3
proc_number Collect = 4
proc_number Scatter = 5
proc_number Gather = 6
proc_number Split = 7
proc_number FoldGather = 8
proc_number Join = 9
proc_number Head = 10
proc_number Tail = 11

abbrev pub proc_kind_format : Format ℕ ProcKind
proc_kind_format = one_of proc_kinds proc_number

-- a process of a tree of `nodes` nodes, in a net of `chans` channels
unfoldable pub proc_format : (nodes chans : ℕ) → Format ℕ Proc
proc_format nodes chans = record_of
    (λ p. record { kind = p.0; node = p.1.0; arg = p.1.1.0; ins = p.1.1.1.0; outs = p.1.1.1.1 })
    (λ q. (q.kind, (q.node, (q.arg, (q.ins, q.outs)))))
    (both proc_kind_format (both (u32_below nodes) (both u32_format (both (indices_format chans) (indices_format chans)))))

unfoldable pub procs_format : (nodes chans : ℕ) → Format ℕ (List Proc)
procs_format nodes chans = counted (u32_in 0 4294967295) (λ _. proc_format nodes chans)

-- the net of a tree of `nodes` nodes: its channels, and its processes
unfoldable pub net_format : (nodes : ℕ) → Format ℕ Net
net_format nodes = record_of (λ p. record { chans = p.0; procs = p.1 }) (λ n. (n.chans, n.procs)) (pair chans_format (λ chans. procs_format nodes (length chans)))
