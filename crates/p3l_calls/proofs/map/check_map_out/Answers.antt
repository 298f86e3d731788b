use Rattle.std.proofs.Common.{rules, ◌≡◌, ◌&&◌, not, true, [], ◌∷◌, Err, bytes_eq, length, slice_get, arith}
use Rattle.std.specs.Prelude.{◌==◌}
use Rattle.std.proofs.lemmas.Grind.{common_steps}
use Rattle.p3l_body.proofs.Definite.{handed_on}
use Rattle.p3l_ast.specs.declared.refusal.Fault.TheVariants.{Wiring, TypeDiffers, FreeIndex}
use Rattle.p3l_types.specs.Verdict.{broken_if}
use Rattle.p3l_calls.specs.Index.{are_indices, has_indices, sizes_rule}
use Rattle.p3l_calls.specs.Map.{leaves, map_out_rule}
use Rattle.p3l_calls.proofs.Definite.{sizes_definite, fourth_first}
use Rattle.p3l_calls.proofs.map.check_map_out.Goals as goal

pub returns-in_err-check_sizes : goal.returns-in_err-check_sizes
returns-in_err-check_sizes c =
    let refusal = c.in_err-check_sizes.field-0.0 in
    let indices = c.args.indices.now in
    let var = c.args.var.now in
    let arg = c.args.arg.now in
    let name : bytes_eq var.name arg.at.name ≡ true = grind (arith, common_steps, c.if-ne.false, c.ne.ensures) in
    let many : (length arg.subs == length var.shape.sizes) ≡ true = grind (arith, common_steps, c.if-subs-sizes.false, c.as_slice-subs.ensures, c.as_slice-sizes.ensures) in
    let free : are_indices indices && has_indices indices arg.subs ≡ true =
    grind (arith, common_steps, c.if-not-are_indices.false, c.if-not-has_indices.false, c.are_indices.ensures, c.has_indices.ensures, c.as_slice-subs.ensures) in
    let sizes : Err refusal ≡ sizes_rule indices arg.subs var.shape.sizes = search rules in
    let means : map_out_rule indices var (slice_get c.args.ports.now c.args.k) arg ≡ Err refusal =
    fourth_first (bytes_eq var.name arg.at.name) (length arg.subs == length var.shape.sizes) (are_indices indices && has_indices indices arg.subs)
    Wiring TypeDiffers FreeIndex arg.at.pos (sizes_rule indices arg.subs var.shape.sizes)
    (broken_if (not (leaves (slice_get c.args.ports.now c.args.k) arg.subs var.shape)) TypeDiffers arg.at.pos ∷ []) refusal name many free sizes in
    handed_on _ refusal _ _ c.from_residual.ensures.1 (sizes_definite indices c.as_slice-subs.result.now c.as_slice-sizes.result.now) c.in_err-check_sizes.ensures means
