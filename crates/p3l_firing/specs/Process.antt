-- The channels of processes, and which process is at a place.
use Rattle.std.specs.Prelude.{◌≡◌, ℕ, ◌==◌, ◌⊎◌, List, [], ◌∷◌, Option, None, Some, slice_get, slice_index, count_by}
use Rattle.std.specs.List.{flat_map}
use Rattle.std.specs.Option.{option_map}
use Rattle.p3l_firing.specs.declared.process.Proc.{Proc}
use Rattle.p3l_firing.specs.declared.process.ProcKind.{ProcKind}
use Rattle.p3l_firing.specs.declared.net.Net.{Net}

-- channel k of those that a process reads, and of those that it writes
abbrev pub in_of : Proc → ℕ → ℕ
in_of q k = slice_index q.ins k

abbrev pub out_of : Proc → ℕ → ℕ
out_of q k = slice_index q.outs k

-- the kind of process p, if there is one
abbrev pub kind_at : Net → ℕ → Option ProcKind
kind_at net p = option_map (λ q. q.kind) (slice_get net.procs p)

-- the channels that processes read, and those that they write, as often as they do
abbrev pub all_ins : List Proc → List ℕ
all_ins = flat_map (λ q. q.ins)

abbrev pub all_outs : List Proc → List ℕ
all_outs = flat_map (λ q. q.outs)

-- the count of a number in a list
abbrev pub times : ℕ → List ℕ → ℕ
times c = count_by (λ d. d == c)

-- a number occurs in a list
abbrev pub Has : List ℕ → ℕ → Type 0
Has [] c = ⊥
Has (d ∷ ds) c = (d ≡ c) ⊎ Has ds c

-- a process is there, and reads or writes channel c
abbrev pub IsAt : Option Proc → ℕ → Type 0
IsAt None c = ⊥
IsAt (Some q) c = Has q.ins c ⊎ Has q.outs c
