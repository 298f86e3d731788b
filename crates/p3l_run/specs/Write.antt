-- Effects of writing a text: on the content of the output, where that is known, and on its count of faults.
use Rattle.std.specs.Prelude.{◌≡◌, ℕ, List, ◌++◌, Result, Ok, Err}
use Rattle.p3l_io.specs.Change.{Change, HasRisen, HasSameFaults}
use Rattle.p3l_io.specs.Content.{Puts}
use Rattle.p3l_run.specs.declared.fault.RunFault.{RunFault}
use Rattle.p3l_run.specs.declared.fault.RunFault.TheVariants as fault

-- the text was written, as by one put
abbrev pub HasPut : (output : Change (List ℕ)) → (text : List ℕ) → Type 0
HasPut output text = Puts output (Ok tt) text

-- a prefix of the text was written
pub record HasBegun (output : Change (List ℕ)) (text : List ℕ) : Type 0 where
  pub written : List ℕ
  pub more : List ℕ
  pub put : HasPut output written
  pub text_is : written ++ more ≡ text

-- the count of faults of the output rises exactly by a fault of writing
abbrev pub WriteCause : {T : Type 0} → (output : Change (List ℕ)) → Result T RunFault → Type 0
WriteCause output (Ok done) = HasSameFaults output
WriteCause output (Err fault.Write) = HasRisen output
WriteCause output (Err fault.NoMemory) = HasSameFaults output
