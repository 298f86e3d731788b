-- toml's own answer that memory ran out.
use Rattle.toml.specs.declared.de.error.Error.{Error}
use Rattle.toml.specs.Errors.{IsMemory}

-- toml answered that memory ran out. The definition is opened in this file alone.
pub TomlWanted : Type 0
TomlWanted = Unit {0}

-- The one way to conclude it, from such an answer.
pub toml_wanted : (error : Error) → IsMemory error → TomlWanted
unfolding TomlWanted
toml_wanted error memory = tt
