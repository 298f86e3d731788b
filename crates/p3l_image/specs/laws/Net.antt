-- Nets are read as they are spelled.
use Rattle.std.proofs.Common.{◌≡◌, ℕ, length, Some, refl}
use Rattle.std.specs.List.{slice_get}
use Rattle.p3l_base.specs.Limits.{most_tokens}
use Rattle.p3l_firing.specs.declared.process.ProcKind.{ProcKind}
use Rattle.p3l_firing.specs.declared.process.ProcKind.TheVariants.{Source, Sink, Run, Emit, Collect, Scatter, Gather, Split, FoldGather, Join, Head, Tail}
use Rattle.p3l_format.specs.Lawful.{IsLawful}
use Rattle.p3l_format.specs.laws.Formats.{lawful_pair, lawful_both, lawful_record, lawful_counted}
use Rattle.p3l_format.specs.laws.Numbers.{lawful_u32, lawful_u32_in, lawful_u32_below, lawful_one_of}
use Rattle.p3l_tree_format.specs.laws.Tree.{lawful_indices}
use Rattle.p3l_image.specs.Net.{chan_format, chans_format, proc_kinds, proc_number, proc_kind_format, proc_format, procs_format, net_format}

pub lawful_chan : IsLawful chan_format
unfolding chan_format
lawful_chan = lawful_record _ _ _ (λ _. refl) (λ _. refl) (lawful_pair _ _ (lawful_u32_in 1 most_tokens) (λ cap. lawful_u32_in 0 cap))

pub lawful_chans : IsLawful chans_format
lawful_chans = lawful_counted _ _ (lawful_u32_in 0 4294967295) (λ _. lawful_chan)

proc_there : (k : ProcKind) → slice_get proc_kinds (proc_number k) ≡ Some k
proc_there Source = refl
proc_there Sink = refl
proc_there Run = refl
proc_there Emit = refl
proc_there Collect = refl
proc_there Scatter = refl
proc_there Gather = refl
proc_there Split = refl
proc_there FoldGather = refl
proc_there Join = refl
proc_there Head = refl
proc_there Tail = refl

pub lawful_proc_kind : IsLawful proc_kind_format
lawful_proc_kind = lawful_one_of proc_kinds proc_number refl proc_there

pub lawful_proc : (nodes chans : ℕ) → IsLawful (proc_format nodes chans)
unfolding proc_format
lawful_proc nodes chans = lawful_record _ _ _ (λ _. refl) (λ _. refl)
    (lawful_both _ _ lawful_proc_kind (lawful_both _ _ (lawful_u32_below nodes) (lawful_both _ _ lawful_u32 (lawful_both _ _ (lawful_indices chans) (lawful_indices chans)))))

pub lawful_procs : (nodes chans : ℕ) → IsLawful (procs_format nodes chans)
unfolding procs_format
lawful_procs nodes chans = lawful_counted _ _ (lawful_u32_in 0 4294967295) (λ _. lawful_proc nodes chans)

pub lawful_net : (nodes : ℕ) → IsLawful (net_format nodes)
unfolding net_format
lawful_net nodes = lawful_record _ _ _ (λ _. refl) (λ _. refl) (lawful_pair _ _ lawful_chans (λ chans. lawful_procs nodes (length chans)))
