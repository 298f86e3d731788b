use Rattle.std.proofs.Common.{◌≡◌, ℕ, List, get_or, ◌/◌, ◌-◌, ◌++◌, ◌+◌, [], ◌∷◌, drop, sym, ap, ◌∙◌, append_assoc, append-nil}
use Rattle.p3l_reduce.proofs.Placing.{halved_step, halved_end}
use Rattle.p3l_firing.specs.Segments.{halved}
use Rattle.p3l_reduce.proofs.segments.halves.Goals as goal

pub loop-part-preserved : goal.loop-part-preserved
loop-part-preserved c =
    let x : ℕ = get_or c.args.lengths.now c.loop-part.part-index 0 in
    let a : c.push.new.self.items
    ≡ c.loop-part.cut.items ++ (get_or c.args.lengths.now c.loop-part.part-index 0 / 2) ∷ [] =
    c.in_ok-push.ensures.items in
    let b : c.push-in-loop-part.new.self.items
    ≡ c.push.new.self.items
    ++ (get_or c.args.lengths.now c.loop-part.part-index 0 - get_or c.args.lengths.now c.loop-part.part-index 0 / 2) ∷ [] =
    c.in_ok-push-2.ensures.items in
    let more : List ℕ = halved (drop (c.loop-part.part-index + 1) c.args.lengths.now) in
    ap (λ z. z ++ halved (drop (c.loop-part.part-index + 1) c.args.lengths.now))
    (b ∙ ap (λ z. z
    ++ (get_or c.args.lengths.now c.loop-part.part-index 0
    - get_or c.args.lengths.now c.loop-part.part-index 0 / 2) ∷ []) a)
    ∙ append_assoc (c.loop-part.cut.items ++ (get_or c.args.lengths.now c.loop-part.part-index 0 / 2) ∷ []) _ _
    ∙ append_assoc c.loop-part.cut.items _ _
    ∙ ap (λ z. c.loop-part.cut.items ++ z)
    (sym (halved_step c.args.lengths.now c.loop-part.part-index 0 c.loop-part-test.true))
    ∙ c.loop-part.invariant

pub returns : goal.returns
returns c =
    sym (append-nil c.loop-part.cut.items)
    ∙ ap (λ z. c.loop-part.cut.items ++ z)
    (sym (halved_end c.args.lengths.now c.loop-part.part-index c.loop-part-test.false))
    ∙ c.loop-part.invariant
