use Rattle.std.proofs.Common.{replicate, false, sym, ◌≡◌, subst, arith}
use Rattle.p3l_ready.specs.Flags.{IsCounted}
use Rattle.p3l_ready.proofs.Counting.{counted-new}
use Rattle.p3l_ready.proofs.ready.ReadySet.new.Goals as goal

pub invariant_of-result : goal.invariant_of-result
invariant_of-result c =
    let flags : c.in_ok-flags.flags.items ≡ replicate c.args.size false = c.in_ok-flags.ensures.items_if_clones_equal (λ y h. h) in
    let blocks : c.in_ok-blocks.blocks.items ≡ replicate c.div_ceil.result 0 = c.in_ok-blocks.ensures.items_if_clones_equal (λ y h. h) in
    let e = c.div_ceil.ensures in
    let whole : IsCounted (replicate c.args.size false) (replicate c.div_ceil.result 0) 0 = counted-new c.args.size c.div_ceil.result c.requires (omega (arith, e)) (omega (arith, e)) in
    subst (λ fs. IsCounted fs c.in_ok-blocks.blocks.items 0) (sym flags) (subst (λ bs. IsCounted (replicate c.args.size false) bs 0) (sym blocks) whole)
