use Rattle.std.proofs.Common.{◌<◌, ◌^◌, ◌+◌, ◌∷◌, [], length, refl, ap, ◌∙◌, arith, rules, length-append}
use Rattle.std.specs.Prelude.{slice_get}
use Rattle.p3l_units.specs.Table.{seqs_before}
use Rattle.p3l_units.proofs.Places.{few_before, counted_more, placed_more}
use Rattle.p3l_load.proofs.codes.code_places.Goals as goal

pub overflow_add-before : goal.overflow_add-before
overflow_add-before c =
    let modules = c.args.modules.now in
    let i = c.loop-info.info-index in
    let more = counted_more modules modules i c.info-item.result c.loop-info.before c.one_if_seq-before.result refl c.loop-info-test.true c.info-item.is c.loop-info.invariant.count c.one_if_seq-before.ensures in
    let small : c.loop-info.before + c.one_if_seq-before.result < 2 ^ 32 = omega (arith, more, few_before modules (i + 1), c.requires) in
    search rules

pub loop-info-preserved : goal.loop-info-preserved
loop-info-preserved c =
    let modules = c.args.modules.now in
    let i = c.loop-info.info-index in
    let inv = c.loop-info.invariant in
    record {
      count = counted_more modules modules i c.info-item.result c.loop-info.before c.one_if_seq-before.result refl c.loop-info-test.true c.info-item.is inv.count c.one_if_seq-before.ensures;
      long = ap length c.in_ok-push.ensures.ok ∙ (let l = length-append c.loop-info.places (c.loop-info.before ∷ []) in omega (arith, l, inv.long));
      places = λ m low. ap (λ xs. slice_get xs m) c.in_ok-push.ensures.ok ∙ placed_more (seqs_before modules) c.loop-info.places c.loop-info.before i m inv.long inv.count inv.places low;
    }
