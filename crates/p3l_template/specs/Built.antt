-- The ports of placed inner parts, as a template hands them out.
use Rattle.std.specs.Prelude.{List, map}
use Rattle.p3l_template.specs.declared.template.Ports.{Ports}
use Rattle.p3l_template.specs.Shape.{Slot, ports_of}

-- the channels of these slots
abbrev pub all_ports : List Slot → List Ports
all_ports = map ports_of
