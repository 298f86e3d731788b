-- From what the reading of a file says to its stages.
use Rattle.std.proofs.Common.{◌≡◌, ℕ, ◌≤◌, List, ◌∷◌, length, Option, Some, None, inl, subst, sym, ap}
use Rattle.std.specs.declared.result.Result.{Result}
use Rattle.std.specs.declared.result.Result.TheVariants.{Ok, Err}
use Rattle.p3l_io.specs.Causes.{HasSameFailed}
use Rattle.p3l_io.specs.Change.{Becomes, Change, HasFailed, HasSameContent, HasSameFaults, Observation, change}
use Rattle.p3l_io.specs.declared.fault.FileFault.{FileFault}
use Rattle.p3l_io.specs.declared.fault.FileFault.TheVariants as fault
use Rattle.p3l_io.specs.Content.{Held, Reads, ReadsFile}
use Rattle.p3l_skel.specs.declared.tree.Tree.{Tree}
use Rattle.p3l_program.specs.declared.file.FileRefusal.{FileRefusal}
use Rattle.p3l_program.specs.declared.file.FileRefusal.TheVariants as file
use Rattle.p3l_program.specs.File.{HasText, IsTooLong, text_limit}
use Rattle.p3l_program.specs.Load.{IsCostless, IsNotLoaded, IsUnreadable, file_verdict}
use Rattle.p3l_program.specs.Stage.{Stage, readable}

-- the effect of a reading on known files
abbrev ReadsOf : (name : List ℕ) → (limit : ℕ) → Result (List ℕ) FileFault → Held → Option Held → Type 0
ReadsOf name limit result held new = (new ≡ Some held) × ReadsFile (held name) limit result

-- files of which nothing that is observed changed have their count of faults
pub unchanged_faults : {old new : Observation Held} → new ≡ old → HasSameFaults (change old new)
unchanged_faults same = ap (λ o. o.faults) same

-- a reading changes no file
pub same_content : (files : Change Held) (limit : ℕ) (name : List ℕ) (result : Result (List ℕ) FileFault) → Reads files name limit result → HasSameContent files
same_content files limit name result reads = by files.old.content files.new.content reads
  where
    by : (old new : Option Held) → Becomes (ReadsOf name limit result) old new → new ≡ old
    by None new reads = reads
    by (Some held) new reads = reads.0

-- and one that gives a text changes nothing that is observed
pub unchanged_by : (files : Change Held) (limit : ℕ) (name text : List ℕ) → Reads files name limit (Ok text) → HasSameFaults files → HasSameFailed files → files.new ≡ files.old
unchanged_by files limit name text reads faults failed = λ i. record { content = same_content files limit name (Ok text) reads i; faults = faults i; failed = failed i }

-- a text that was read is held
pub text_of : (files : Change Held) (limit : ℕ) (name text : List ℕ) → Reads files name limit (Ok text) → length text ≤ limit → HasText files.old.content limit name text
text_of files limit name text reads within = by files.old.content files.new.content reads
  where
    by : (old new : Option Held) → Becomes (ReadsOf name limit (Ok text)) old new → HasText old limit name text
    by None new reads = record { holds = tt; within = within }
    by (Some held) new reads = record { holds = reads.1.0; within = within }

-- a text that is too long is held
pub longer_of : (files : Change Held) (limit : ℕ) (name : List ℕ) → Reads files name limit (Err fault.TooLong) → IsTooLong files.old.content limit name
longer_of files limit name reads = by files.old.content files.new.content reads
  where
    by : (old new : Option Held) → Becomes (ReadsOf name limit (Err fault.TooLong)) old new → IsTooLong old limit name
    by None new reads = tt
    by (Some held) new reads = record { bytes = reads.1.0; holds = reads.1.1; longer = reads.1.2 }

-- a file that gives no text stops the stages at their first
pub unreadable : (files : Change Held) (limit : ℕ) (name : List ℕ) (stages : List Stage) (r : FileRefusal) → IsUnreadable files limit name r → IsNotLoaded files (readable limit name ∷ stages) (file_verdict r)
unreadable files limit name stages (file.Fault named) h = (inl h, subst (λ k. HasFailed files k) (sym h.0) h.1)
unreadable files limit name stages (file.TooLong named) h = (inl (h.0, h.1), h.2)
unreadable files limit name stages file.NoMemory h = h

-- and where costs were to be read
pub costs_unreadable : (files : Change Held) (name : List ℕ) (tree : Tree) (r : FileRefusal) → IsUnreadable files text_limit name r → IsCostless files (Some name) tree (file_verdict r)
costs_unreadable files name tree (file.Fault named) h = inl (h, subst (λ k. HasFailed files k) (sym h.0) h.1)
costs_unreadable files name tree (file.TooLong named) h = inl ((h.0, h.1), h.2)
costs_unreadable files name tree file.NoMemory h = h
