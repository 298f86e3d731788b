use Rattle.std.proofs.Common.{◌<◌, subst, arith}
use Rattle.p3l_model.specs.declared.cost.Sharing.{Sharing}
use Rattle.p3l_model.specs.Costed.{IsSharing}
use Rattle.p3l_model.proofs.Rules.{ceil_some}
use Rattle.p3l_alloc.proofs.walk.part_time.Goals as goal

pub nonzero_div-within : goal.nonzero_div-within
nonzero_div-within c =
    let some : 0 < c.in-Elements.count = subst (λ (h : Sharing). IsSharing h) c.in-Elements.is c.requires.sharing in
    let ceil = ceil_some c.in-Elements.count c.args.workers some c.requires.some in
    omega (arith, c.div_ceil.ensures, ceil)
