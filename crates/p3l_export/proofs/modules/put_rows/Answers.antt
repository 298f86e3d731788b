use Rattle.std.proofs.Common.{ℕ, ◌+◌, List, ◌++◌, drop, sym, ap, ◌∙◌}
use Rattle.p3l_skel.specs.declared.tree.ModuleInfo.{ModuleInfo}
use Rattle.p3l_export.specs.Modules.{module_line}
use Rattle.p3l_export.specs.Numbered.{numbered}
use Rattle.p3l_export.proofs.NumberedSteps.{numbered_end, numbered_step}
use Rattle.p3l_export.proofs.modules.put_rows.Goals as goal

pub loop-number-preserved : goal.loop-number-preserved
loop-number-preserved c =
    let items = c.args.modules.now in
    let number = c.loop-number.number in
    let item = c.index-modules-number.result in
    let line = module_line in
    let text : List ℕ = c.loop-number.text.items in
    ap (λ bytes. bytes ++ numbered line (number + 1) (drop (number + 1) items))
    (c.in_ok-put_module.ensures ∙ ap (λ (x : ModuleInfo). text ++ line number x) c.index-modules-number.is)
    ∙ (numbered_step line items number item text c.loop-number-test.true ∙ c.loop-number.invariant)

pub returns : goal.returns
returns c =
    sym (numbered_end module_line c.args.modules.now c.loop-number.number c.loop-number.text.items c.loop-number-test.false)
    ∙ c.loop-number.invariant
