-- The label of a pick: the kind of the process that fires, or idle; each is spelled by a word.
use Rattle.std.specs.Prelude.{ℕ, List, [], ◌∷◌, Option, Some, None, Result, Ok, Err}
use Rattle.p3l_firing.specs.declared.process.ProcKind.{ProcKind}
use Rattle.p3l_firing.specs.declared.process.ProcKind.TheVariants.{Source, Sink, Run, Emit, Collect, Scatter, Gather, Split, FoldGather, Join, Head, Tail}
use Rattle.p3l_format.specs.declared.fault.Cause.TheVariants.{Range}
use Rattle.p3l_format.specs.declared.fault.FieldFault.{FieldFault}
use Rattle.p3l_format.specs.Format.{Format, always, fault_at}
use Rattle.p3l_format.specs.Text.{after_text}

-- the words: source, sink, run, emit, collect, scatter, gather, split, fold-gather, join, head, tail, and idle
abbrev pub word_of : Option ProcKind → List ℕ
word_of (Some Source) = 115 ∷ 111 ∷ 117 ∷ 114 ∷ 99 ∷ 101 ∷ []
word_of (Some Sink) = 115 ∷ 105 ∷ 110 ∷ 107 ∷ []
word_of (Some Run) = 114 ∷ 117 ∷ 110 ∷ []
word_of (Some Emit) = 101 ∷ 109 ∷ 105 ∷ 116 ∷ []
word_of (Some Collect) = 99 ∷ 111 ∷ 108 ∷ 108 ∷ 101 ∷ 99 ∷ 116 ∷ []
word_of (Some Scatter) = 115 ∷ 99 ∷ 97 ∷ 116 ∷ 116 ∷ 101 ∷ 114 ∷ []
word_of (Some Gather) = 103 ∷ 97 ∷ 116 ∷ 104 ∷ 101 ∷ 114 ∷ []
word_of (Some Split) = 115 ∷ 112 ∷ 108 ∷ 105 ∷ 116 ∷ []
word_of (Some FoldGather) = 102 ∷ 111 ∷ 108 ∷ 100 ∷ 45 ∷ 103 ∷ 97 ∷ 116 ∷ 104 ∷ 101 ∷ 114 ∷ []
word_of (Some Join) = 106 ∷ 111 ∷ 105 ∷ 110 ∷ []
word_of (Some Head) = 104 ∷ 101 ∷ 97 ∷ 100 ∷ []
word_of (Some Tail) = 116 ∷ 97 ∷ 105 ∷ 108 ∷ []
word_of None = 105 ∷ 100 ∷ 108 ∷ 101 ∷ []

-- all that can be said
abbrev pub all_said : List (Option ProcKind)
all_said =
    Some Source ∷ Some Sink ∷ Some Run ∷ Some Emit ∷ Some Collect ∷ Some Scatter ∷ Some Gather ∷ Some Split ∷ Some FoldGather ∷ Some Join ∷ Some Head ∷ Some Tail ∷ None ∷ []

-- this is said where its word is in front, and else what is read
abbrev pub said_or : Option ProcKind → Option (List ℕ) → Result (Option ProcKind × List ℕ) FieldFault → Result (Option ProcKind × List ℕ) FieldFault
said_or said (Some rest) read = Ok (said, rest)
said_or said None read = read

-- the first of these whose word is in front, and what is after it
abbrev pub first_said : List (Option ProcKind) → List ℕ → Result (Option ProcKind × List ℕ) FieldFault
first_said [] s = Err (fault_at Range s)
first_said (said ∷ more) s = said_or said (after_text (word_of said) s) (first_said more s)

unfoldable pub said_format : Format ℕ (Option ProcKind)
said_format = record {
  fits = always;
  spell = word_of;
  read = first_said all_said;
}
