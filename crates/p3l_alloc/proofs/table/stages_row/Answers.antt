use Rattle.std.proofs.Common.{◌≡◌, ◌+◌, ◌-◌, ◌<◌, ℕ, drop, length, get_or, subst, sym, ap, ◌∙◌, arith}
use Rattle.p3l_model.specs.Costed.{Empty, stages}
use Rattle.p3l_alloc.specs.Soonest.{IsRow}
use Rattle.p3l_alloc.specs.Table.{row_in}
use Rattle.p3l_alloc.proofs.Rows.{stages_none, stages_more}
use Rattle.p3l_alloc.proofs.table.stages_row.Goals as goal

pub loop-after-init : goal.loop-after-init
loop-after-init c = λ below rows.
    stages_none below c.args.parts.now (length c.args.parts.now - 0) (λ a. IsRow a c.args.most c.in_ok-row.row) (omega arith) (c.in_ok-row.ensures Empty tt)

pub loop-after-preserved : goal.loop-after-preserved
loop-after-preserved c = λ below rows.
    let parts = c.args.parts.now in
    let most = c.args.most in
    let i : ℕ = length parts - (c.loop-after.after + 1) in
    let inside : i < length parts = omega arith in
    let part = get_or parts i 0 in
    let next : length parts - c.loop-after.after ≡ i + 1 = omega arith in
    let others : IsRow (stages below (drop (i + 1) parts)) most c.loop-after.row = subst (λ n. IsRow (stages below (drop n parts)) most c.loop-after.row) next (c.loop-after.invariant below rows) in
    let here : IsRow (below part) most c.row_in.result.now = subst (IsRow (below part) most) (sym (c.row_in.ensures ∙ ap (row_in c.args.tree.now c.args.rows.now) (ap (λ n. get_or parts n 0) (omega arith)))) (rows i 0 inside) in
    stages_more below parts i (λ a. IsRow a most c.in_ok-row-2.row) inside (c.in_ok-row-2.ensures (below part) (stages below (drop (i + 1) parts)) here (subst (IsRow (stages below (drop (i + 1) parts)) most) (sym c.as_slice.ensures) others))

pub returns : goal.returns
returns c = λ below rows.
    let parts = c.args.parts.now in
    let all : length parts - c.loop-after.after ≡ 0 = omega arith in
    subst (λ n. IsRow (stages below (drop n parts)) c.args.most c.loop-after.row) all (c.loop-after.invariant below rows)
