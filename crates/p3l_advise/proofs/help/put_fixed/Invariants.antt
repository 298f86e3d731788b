use Rattle.std.proofs.Common.{◌≡◌, ◌++◌, drop, Some}
use Rattle.std.specs.Prelude.{string_bytes}
use Rattle.std.specs.List.{flat_map}
use Rattle.p3l_advise.specs.Help.{fixed_help, wider_help}
use Rattle.p3l_advise.proofs.help.put_fixed.Given as goal

-- the text so far, with the help for the parts that are left
abbrev pub invariant-loop-part : goal.invariant-loop-part
invariant-loop-part l =
    string_bytes l.text ++ flat_map (wider_help l.tree l.costs l.counts.list l.idle l.number l.fixed) (drop l.part-index l.part-items)
    ≡ string_bytes l.fn.text ++ fixed_help l.tree l.costs l.counts.list l.idle l.number (Some l.fixed)
