use Rattle.std.proofs.Common.{◌∙◌, ◌++◌, ◌+◌, ◌<◌, ℕ, List, ap, sym, subst, drop, length}
use Rattle.std.specs.Prelude.{string_bytes, slice_index}
use Rattle.std.specs.List.{Contains, flat_map}
use Rattle.p3l_skel.specs.declared.tree.Node.{Node}
use Rattle.p3l_skel.specs.Counts.{outside, outside_parts}
use Rattle.p3l_advise.specs.Help.{wider_help}
use Rattle.p3l_advise.proofs.Nodes.{parts_step}
use Rattle.p3l_advise.proofs.help.put_fixed.Goals as goal

pub loop-part-init : goal.loop-part-init
loop-part-init c =
    let help : ℕ → List ℕ = wider_help c.args.tree.now c.args.costs.now c.args.counts.now.list c.args.idle c.args.number c.in-Some.fixed in
    ap (λ (ps : List ℕ). string_bytes c.args.text.now ++ flat_map help ps) c.outside_parts-part-items.ensures
    ∙ ap (λ (n : Node). string_bytes c.args.text.now ++ flat_map help (outside_parts n.form n.parts)) c.requires.node

pub loop-part-preserved : goal.loop-part-preserved
loop-part-preserved c =
    let help : ℕ → List ℕ = wider_help c.args.tree.now c.args.costs.now c.args.counts.now.list c.args.idle c.args.number c.in-Some.fixed in
    let parts = c.outside_parts-part-items.result.now in
    ap (λ (text : List ℕ). text ++ flat_map help (drop (c.loop-part.part-index + 1) parts)) c.in_ok-put_wider.ensures
    ∙ parts_step help parts c.loop-part.part-index 0 (string_bytes c.loop-part.text) c.loop-part-test.true ∙ c.loop-part.invariant

pub put_wider-requires-clause-part : goal.put_wider-requires-clause-part
put_wider-requires-clause-part c =
    let i : ℕ = c.loop-part.part-index in
    let are = c.outside_parts-part-items.ensures in
    subst (λ (ps : List ℕ). Contains (outside c.args.tree.now) (slice_index ps i)) (sym are)
    (c.requires.parts i (subst (λ (ps : List ℕ). i < length ps) are c.loop-part-test.true))
