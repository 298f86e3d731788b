use Rattle.std.proofs.Common.{◌≡◌, ◌-◌, ◌++◌, drop}
use Rattle.std.specs.Prelude.{string_bytes}
use Rattle.std.specs.List.{flat_map}
use Rattle.p3l_advise.specs.Bottleneck.{stages_from}
use Rattle.p3l_advise.specs.Help.{stage_help}
use Rattle.p3l_advise.proofs.help.+put_stages.Given as goal

abbrev pub decreases-put_stages : goal.decreases-put_stages
decreases-put_stages l = l.levels

-- the text so far, with the help for the stages of the parts that are left
abbrev pub invariant-loop-part : goal.invariant-loop-part
invariant-loop-part l =
    string_bytes l.text ++ flat_map (stage_help l.tree l.costs l.counts.list l.idle l.time) (flat_map (stages_from l.tree (l.levels - 1)) (drop l.part-index l.part-items))
    ≡ string_bytes l.fn.text ++ flat_map (stage_help l.tree l.costs l.counts.list l.idle l.time) (stages_from l.tree l.levels l.number)
