use Rattle.std.proofs.Common.{◌<◌, ◌^◌, ◌+◌, ◌∷◌, [], length, ap, ◌∙◌, arith, rules, length-append}
use Rattle.std.specs.Prelude.{slice_get}
use Rattle.p3l_units.specs.Table.{seqs_before}
use Rattle.p3l_units.proofs.Places.{few_before, counted_more, placed_more}
use Rattle.p3l_profile.proofs.profile.code_places.Goals as goal

pub overflow_add-before : goal.overflow_add-before
overflow_add-before c =
    let modules = c.args.tree.now.modules in
    let i = c.loop-info.info-index in
    let more = counted_more modules c.as_slice-info-items.result.now i c.info-item.result c.loop-info.before c.one_if_seq-before.result c.as_slice-info-items.ensures c.loop-info-test.true c.info-item.is c.loop-info.invariant.count c.one_if_seq-before.ensures in
    let small : c.loop-info.before + c.one_if_seq-before.result < 2 ^ 32 = omega (arith, more, few_before modules (i + 1), c.requires.few_modules, ap length c.as_slice-info-items.ensures) in
    search rules

pub loop-info-preserved : goal.loop-info-preserved
loop-info-preserved c =
    let modules = c.args.tree.now.modules in
    let i = c.loop-info.info-index in
    let inv = c.loop-info.invariant in
    record {
      same = c.as_slice-info-items.ensures;
      count = counted_more modules c.as_slice-info-items.result.now i c.info-item.result c.loop-info.before c.one_if_seq-before.result c.as_slice-info-items.ensures c.loop-info-test.true c.info-item.is inv.count c.one_if_seq-before.ensures;
      long = ap length c.in_ok-push.ensures.ok ∙ (let l = length-append c.loop-info.places (c.loop-info.before ∷ []) in omega (arith, l, inv.long));
      places = λ m low. ap (λ xs. slice_get xs m) c.in_ok-push.ensures.ok ∙ placed_more (seqs_before modules) c.loop-info.places c.loop-info.before i m inv.long inv.count inv.places low;
    }
