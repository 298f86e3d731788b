use Rattle.std.proofs.Common.{◌≡◌, suc, ◌+◌, ◌-◌, [], ◌∷◌, ◌++◌, length, arith, sym}
use Rattle.std.proofs.lemmas.List.{length_push}
use Rattle.std.proofs.lemmas.Result.{err_from_is_err_and}
use Rattle.p3l_format.specs.Series.{until}
use Rattle.p3l_format.proofs.SeriesLoop.{until_stops, until_goes_on, until_fails}
use Rattle.p3l_format.proofs.series.read_until.Goals as goal

pub returns-in-Some : goal.returns-in-Some
returns-in-Some g c =
    until_stops g.I.Item.format g.I.Item.next c.args.stop.now (suc (length c.args.bytes.now) - length c.loop-after.values) c.loop-after.kind c.loop-after.rest.now c.in-Some.after.now c.loop-after.values
    ((until g.I.Item.format g.I.Item.next c.args.first c.args.stop.now).read c.args.bytes.now) (sym c.in-Some.ensures) c.loop-after.invariant.so_far

pub returns-in_err-value : goal.returns-in_err-value
returns-in_err-value g c =
    let p = err_from_is_err_and c.from_residual.result c.from_residual.ensures.1 in
    let total = (until g.I.Item.format g.I.Item.next c.args.first c.args.stop.now).read c.args.bytes.now in
    rw (p.1, p.2) (until_fails g.I.Item.format g.I.Item.next c.args.stop.now (suc (length c.args.bytes.now) - length c.loop-after.values) (length c.args.bytes.now - length c.loop-after.values) c.loop-after.kind c.loop-after.rest.now c.in_err-value.field-0.0 c.loop-after.values total
    (omega arith) (sym c.in_default.ensures) c.in_err-value.ensures c.loop-after.invariant.so_far)

pub loop-after-preserved : goal.loop-after-preserved
loop-after-preserved g c =
    let total = (until g.I.Item.format g.I.Item.next c.args.first c.args.stop.now).read c.args.bytes.now in
    let some = g.met.I.Item.takes_some c.loop-after.kind c.loop-after.rest.now c.in_ok-value.value c.in_ok-value.after.now c.in_ok-value.ensures in
    let pushed = c.in_ok-push.ensures.ok in
    let len : length (c.loop-after.values ++ c.in_ok-value.value ∷ []) ≡ length c.loop-after.values + 1 = length_push c.loop-after.values c.in_ok-value.value in
    record {
      so_far = rw (pushed, c.after-kind.ensures) (until_goes_on g.I.Item.format g.I.Item.next c.args.stop.now (suc (length c.args.bytes.now) - length c.loop-after.values) (suc (length c.args.bytes.now) - length (c.loop-after.values ++ c.in_ok-value.value ∷ [])) c.loop-after.kind c.loop-after.rest.now c.in_ok-value.after.now c.in_ok-value.value c.loop-after.values total
          (omega arith) (sym c.in_default.ensures) c.in_ok-value.ensures c.loop-after.invariant.so_far);
      room = rw pushed (omega arith);
    }
