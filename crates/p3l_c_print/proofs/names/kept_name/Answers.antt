use Rattle.std.proofs.Common.{◌≡◌, ◌∙◌, ap, take, arith}
use Rattle.p3l_c_print.specs.Name.{kept_name}
use Rattle.p3l_c_print.proofs.Kept.{last_taken}
use Rattle.p3l_c_print.proofs.names.kept_name.Goals as goal

pub returns : goal.returns
unfolding kept_name
returns c =
    let floor = c.floor_char_boundary in
    let front : c.range.result.now ≡ take floor.result c.args.name.now = c.range.ensures.value ∙ ap (λ n. take n c.args.name.now) (omega arith) in
    front ∙ last_taken c.args.name.now 39 floor.result (floor.ensures.bound, floor.ensures.boundary, floor.ensures.nearest)
