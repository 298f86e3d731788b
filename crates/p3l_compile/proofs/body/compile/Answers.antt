use Rattle.std.proofs.Common.{◌≡◌, ℕ, ◌+◌, ◌++◌, List, sym, ap, ◌∙◌, subst, refl, arith}
use Rattle.p3l_body.specs.declared.var.Var.{Var}
use Rattle.p3l_body.specs.Seq.{seq_tree}
use Rattle.p3l_code.specs.declared.instr.Code.{Code}
use Rattle.p3l_compile.specs.Condition.{total, Compiles}
use Rattle.p3l_compile.proofs.Started.{total_append}
use Rattle.p3l_compile.proofs.Compiled.{is_safe, compiles}
use Rattle.p3l_compile.proofs.body.compile.Goals as goal

whole_memory : (ins outs locals : List Var) (a b d : ℕ) → a ≡ total ins → b ≡ total outs → d ≡ total locals → a + b + d ≡ total ((ins ++ outs) ++ locals)
whole_memory ins outs locals a b d ea eb ed = omega (arith, total_append (ins ++ outs) locals, total_append ins outs)

pub seal-requires : goal.seal-requires
seal-requires c =
    let seq = seq_tree c.args.seq.now in
    let ins = c.total-ins.ensures ∙ ap total c.as_slice.ensures in
    let outs = c.total-outs.ensures ∙ ap total c.as_slice-2.ensures in
    let locals = c.total.ensures ∙ ap total c.as_slice-3.ensures in
    is_safe seq _ c.requires refl ins outs (whole_memory seq.ins seq.outs seq.locals c.total-ins.result c.total-outs.result c.total.result ins outs locals) c.in_ok-instrs.ensures

pub returns : goal.returns
returns c =
    let seq = seq_tree c.args.seq.now in
    let ins = c.total-ins.ensures ∙ ap total c.as_slice.ensures in
    let outs = c.total-outs.ensures ∙ ap total c.as_slice-2.ensures in
    let locals = c.total.ensures ∙ ap total c.as_slice-3.ensures in
    let code : Code = record { budget = c.args.seq.now.budget; ins = c.total-ins.result; outs = c.total-outs.result; memory = c.total-ins.result + c.total-outs.result + c.total.result; instrs = c.in_ok-instrs.instrs } in
    subst (Compiles seq) (sym c.seal.ensures)
    (compiles seq code c.requires refl ins outs (whole_memory seq.ins seq.outs seq.locals c.total-ins.result c.total-outs.result c.total.result ins outs locals) c.in_ok-instrs.ensures)
