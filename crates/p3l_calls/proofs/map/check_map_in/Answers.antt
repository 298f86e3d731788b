use Rattle.std.proofs.Common.{rules, ◌≡◌, [], Err, slice_get}
use Rattle.p3l_body.proofs.Definite.{handed_on}
use Rattle.p3l_calls.specs.Map.{map_in_rule}
use Rattle.p3l_calls.proofs.Definite.{members_definite, sizes_definite}
use Rattle.p3l_calls.proofs.map.check_map_in.Goals as goal

pub returns-in_err-check_members : goal.returns-in_err-check_members
returns-in_err-check_members c =
    let refusal = c.in_err-check_members.field-0.0 in
    let means : map_in_rule c.args.indices.now c.args.array.now (slice_get c.args.ports.now c.args.k) c.args.arg.now ≡ Err refusal = search rules in
    handed_on _ refusal _ _ c.from_residual-in_err-check_members.ensures.1 (members_definite c.args.indices.now [] c.as_slice-subs.result.now) c.in_err-check_members.ensures means

pub returns-in_err-check_sizes : goal.returns-in_err-check_sizes
returns-in_err-check_sizes c =
    let refusal = c.in_err-check_sizes.field-0.0 in
    let means : map_in_rule c.args.indices.now c.args.array.now (slice_get c.args.ports.now c.args.k) c.args.arg.now ≡ Err refusal = search rules in
    handed_on _ refusal _ _ c.from_residual-in_err-check_sizes.ensures.1 (sizes_definite c.args.indices.now c.as_slice-subs.result.now c.as_slice.result.now) c.in_err-check_sizes.ensures means
