use Rattle.std.proofs.Common.{◌≡◌, ◌++◌, map, take}
use Rattle.p3l_template.specs.Width.{outs_width}
use Rattle.p3l_template.proofs.width.push_stages.Given as goal

abbrev pub invariant-loop-part : goal.invariant-loop-part
invariant-loop-part l = l.row ≡ l.fn.row ++ map (λ p. outs_width l.tree p l.tags) (take l.part-index l.stages)
