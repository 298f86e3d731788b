use Rattle.std.proofs.Common.{◌≡◌, ℕ, ◌+◌, ◌<◌, ◌≤◌, List, ◌++◌, drop, get_or, length, subst, sym, ap, ◌∙◌}
use Rattle.std.specs.Prelude.{string_bytes}
use Rattle.p3l_firing.specs.declared.process.Proc.{Proc}
use Rattle.p3l_graph.specs.Numbered.{numbered}
use Rattle.p3l_graph.specs.Processes.{stream_words}
use Rattle.p3l_graph.proofs.NumberedSteps.{numbered_end, numbered_step}
use Rattle.p3l_graph.proofs.processes.ends.Goals as goal

pub loop-number-preserved : goal.loop-number-preserved
loop-number-preserved c =
    let items = c.args.net.now.procs in
    let number = c.loop-number.number in
    let item = c.index-processes-number.result in
    let there : item ≡ get_or items number item = c.index-processes-number.is ∙ ap (λ (xs : List Proc). get_or xs number item) c.as_slice-processes.ensures in
    let inside : number < length items = subst (λ (xs : List Proc). number < length xs) c.as_slice-processes.ensures c.loop-number-test.true in
    let text : List ℕ = string_bytes c.loop-number.text in
    ap (λ bytes. bytes ++ numbered stream_words (number + 1) (drop (number + 1) items))
    (c.in_ok-put_end.ensures ∙ ap (λ (x : Proc). text ++ stream_words number x) there)
    ∙ (numbered_step stream_words items number item text inside ∙ c.loop-number.invariant)

pub returns : goal.returns
returns c =
    let items = c.args.net.now.procs in
    let past : length items ≤ c.loop-number.number = subst (λ (xs : List Proc). length xs ≤ c.loop-number.number) c.as_slice-processes.ensures c.loop-number-test.false in
    sym (numbered_end stream_words items c.loop-number.number (string_bytes c.loop-number.text) past) ∙ c.loop-number.invariant
