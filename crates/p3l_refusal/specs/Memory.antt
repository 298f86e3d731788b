-- The fact behind every answer that memory ran out.

-- A request for memory was refused. The definition is opened in this file alone.
pub Refused : Type 0
Refused = Unit {0}

-- The one way to conclude it, for the two conversions of std's errors.
pub refused_by_std : Refused
unfolding Refused
refused_by_std = tt
