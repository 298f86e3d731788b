use Rattle.std.proofs.Common.{◌+◌, ◌<◌, ◌≤◌, List, [], ◌∷◌, ◌++◌, drop, get_or, length, subst, sym, ap, ◌∙◌}
use Rattle.p3l_firing.specs.declared.net.Chan.{Chan}
use Rattle.p3l_export.specs.declared.channels.ChannelRow.{ChannelRow}
use Rattle.p3l_export.specs.Capacity.{placed, row_of}
use Rattle.p3l_export.proofs.PlacedSteps.{placed_end, placed_step}
use Rattle.p3l_export.proofs.capacity.rows.Goals as goal

pub loop-c-preserved : goal.loop-c-preserved
loop-c-preserved c =
    let items = c.args.net.now.chans in
    let number = c.loop-c.c in
    let none : Chan = record { cap = 0; credits = 0 } in
    let inside : number < length items = subst (λ (xs : List Chan). number < length xs) c.as_slice-channels.ensures c.loop-c-test.true in
    let make = row_of c.args.tree.now c.args.costs.now c.args.net.now c.args.ends.now c.args.widths.now c.args.chosen in
    let made : List ChannelRow = c.loop-c.rows.items in
    ap (λ (xs : List ChannelRow). xs ++ placed make (number + 1) (drop (number + 1) items))
    (c.in_ok-push.ensures.items ∙ ap (λ (x : ChannelRow). made ++ x ∷ [])
    (c.row.ensures ∙ ap (λ (xs : List Chan). make number (get_or xs number none)) c.as_slice-channels.ensures))
    ∙ (placed_step make items number none made inside ∙ c.loop-c.invariant)

pub returns : goal.returns
returns c =
    let items = c.args.net.now.chans in
    let past : length items ≤ c.loop-c.c = subst (λ (xs : List Chan). length xs ≤ c.loop-c.c) c.as_slice-channels.ensures c.loop-c-test.false in
    c.from_vec.ensures ∙ sym (placed_end (row_of c.args.tree.now c.args.costs.now c.args.net.now c.args.ends.now c.args.widths.now c.args.chosen) items c.loop-c.c
    c.loop-c.rows.items past)
    ∙ c.loop-c.invariant
