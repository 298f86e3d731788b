use Rattle.std.proofs.Common.{ℕ, ◌+◌, List, ◌++◌, drop, sym, ap, ◌∙◌}
use Rattle.p3l_firing.specs.declared.process.Proc.{Proc}
use Rattle.p3l_export.specs.Processes.{process_line}
use Rattle.p3l_export.specs.Numbered.{numbered}
use Rattle.p3l_export.proofs.NumberedSteps.{numbered_end, numbered_step}
use Rattle.p3l_export.proofs.processes.put_rows.Goals as goal

pub loop-number-preserved : goal.loop-number-preserved
loop-number-preserved c =
    let items = c.args.procs.now in
    let number = c.loop-number.number in
    let item = c.index-procs-number.result in
    let line = (process_line c.args.loads.now) in
    let text : List ℕ = c.loop-number.text.items in
    ap (λ bytes. bytes ++ numbered line (number + 1) (drop (number + 1) items))
    (c.in_ok-put_process.ensures ∙ ap (λ (x : Proc). text ++ line number x) c.index-procs-number.is)
    ∙ (numbered_step line items number item text c.loop-number-test.true ∙ c.loop-number.invariant)

pub returns : goal.returns
returns c =
    sym (numbered_end (process_line c.args.loads.now) c.args.procs.now c.loop-number.number c.loop-number.text.items c.loop-number-test.false)
    ∙ c.loop-number.invariant
