use Rattle.std.proofs.Common.{ℕ, ◌+◌, ◌<◌, ◌≤◌, List, ◌++◌, drop, get_or, length, subst, sym, ap, ◌∙◌}
use Rattle.std.specs.Prelude.{string_bytes}
use Rattle.p3l_firing.specs.declared.net.Chan.{Chan}
use Rattle.p3l_graph.specs.Boxes.{channel_line}
use Rattle.p3l_graph.specs.Numbered.{numbered}
use Rattle.p3l_graph.proofs.NumberedSteps.{numbered_end, numbered_step}
use Rattle.p3l_graph.proofs.graph.put_channels.Goals as goal

pub loop-number-preserved : goal.loop-number-preserved
loop-number-preserved c =
    let items = c.args.net.now.chans in
    let number = c.loop-number.number in
    let none : Chan = record { cap = 0; credits = 0 } in
    let inside : number < length items = subst (λ (xs : List Chan). number < length xs) c.as_slice-channels.ensures c.loop-number-test.true in
    let text : List ℕ = string_bytes c.loop-number.text in
    let line = channel_line c.args.ends.now in
    ap (λ bytes. bytes ++ numbered line (number + 1) (drop (number + 1) items))
    (c.in_ok-put_channel.ensures ∙ ap (λ (xs : List Chan). text ++ line number (get_or xs number none)) c.as_slice-channels.ensures)
    ∙ (numbered_step line items number none text inside ∙ c.loop-number.invariant)

pub returns : goal.returns
returns c =
    let items = c.args.net.now.chans in
    let past : length items ≤ c.loop-number.number = subst (λ (xs : List Chan). length xs ≤ c.loop-number.number) c.as_slice-channels.ensures c.loop-number-test.false in
    sym (numbered_end (channel_line c.args.ends.now) items c.loop-number.number (string_bytes c.loop-number.text) past) ∙ c.loop-number.invariant
