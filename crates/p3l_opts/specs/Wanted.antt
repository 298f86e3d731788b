-- The answer of `clap` that memory ran out.
use Rattle.std.specs.Prelude.{◌≡◌}
use Rattle.clap.specs.Words.{kind_of}
use Rattle.clap.specs.declared.error.Error.{Error}
use Rattle.clap.specs.declared.error.kind.ErrorKind.TheVariants.{OutOfMemory}

-- `clap` answered that memory ran out. The definition is opened in this file alone.
pub ClapWanted : Type 0
ClapWanted = Unit {0}

-- The one way to conclude it: an error of `clap` has that kind.
pub clap_wanted : (error : Error) → kind_of error ≡ OutOfMemory → ClapWanted
unfolding ClapWanted
clap_wanted error is = tt
