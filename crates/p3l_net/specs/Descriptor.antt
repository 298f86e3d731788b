-- Processes in short.
use Rattle.std.specs.Prelude.{◌≡◌, ℕ, Some, slice_get}
use Rattle.p3l_firing.specs.declared.net.Net.{Net}
use Rattle.p3l_firing.specs.declared.process.Proc.{Proc}
use Rattle.p3l_firing.specs.declared.process.ProcKind.TheVariants.{Run}
use Rattle.p3l_firing.specs.Process.{in_of, out_of}
use Rattle.p3l_net.specs.declared.descriptor.Descriptor.{Descriptor}

-- the descriptor of a process
abbrev pub descriptor_of : Proc → Descriptor
descriptor_of q = record { kind = q.kind; node = q.node; input = in_of q 0; output = out_of q 0 }

-- process p of a net is there, and has this descriptor
pub record IsDescribed (net : Net) (p : ℕ) (descriptor : Descriptor) : Type 0 where
  pub process : Proc
  pub stands : slice_get net.procs p ≡ Some process
  pub described : descriptor ≡ descriptor_of process

-- process p of a net is a run, and has this descriptor
pub record IsRun (net : Net) (p : ℕ) (descriptor : Descriptor) : Type 0 where
  pub described : IsDescribed net p descriptor
  pub kind : descriptor.kind ≡ Run
