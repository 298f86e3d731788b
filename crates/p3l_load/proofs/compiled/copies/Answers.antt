use Rattle.std.proofs.Common.{List, [], ◌∷◌, ◌++◌, take, sym, ap, ◌∙◌, subst}
use Rattle.std.specs.List.{All}
use Rattle.std.proofs.lemmas.List.Elements.{All-push}
use Rattle.p3l_code.specs.declared.instr.Code.{Code}
use Rattle.p3l_code.specs.Safe.{IsSafe}
use Rattle.p3l_compile.proofs.Leaves.{take_next}
use Rattle.p3l_load.proofs.compiled.copies.Goals as goal

pub loop-code-preserved : goal.loop-code-preserved
loop-code-preserved c =
    let codes = c.args.codes.now in
    let i = c.loop-code.code-index in
    let inv = c.loop-code.invariant in
    let copy = c.in_ok-copy_of.field-0 in
    let pushed = c.in_ok-push.ensures.ok in
    record {
      same = pushed
          ∙ (ap (λ (l : List Code). l ++ copy ∷ []) inv.same
          ∙ (ap (λ (x : Code). take i codes ++ x ∷ []) c.in_ok-copy_of.ensures.same ∙ sym (take_next codes i c.code-item.result c.loop-code-test.true c.code-item.is)));
      safe = subst (All IsSafe) (sym pushed) (All-push IsSafe c.loop-code.copies copy inv.safe c.in_ok-copy_of.ensures.safe);
    }
