use Rattle.std.proofs.Common.{◌≡◌, ◌≤◌, ◌∙◌, length, ap}
use Rattle.p3l_base.specs.Cut.{joined_words}
use Rattle.p3l_base.proofs.Result.{filled_all}
use Rattle.p3l_base.proofs.cut.join.Goals as goal

pub returns : goal.returns
returns c =
    let cut = c.args.cut.now in
    let ended : length cut.outs ≤ c.loop-slice.slice-index = rw c.as_slice-slice-items.ensures at c.loop-slice-test.false in
    let sliced = c.as_slice-results.result.now in
    let whole : c.loop-slice.token.items ≡ joined_words cut sliced =
    filled_all sliced cut.second cut.outs c.loop-slice.slice-index c.loop-slice.at c.loop-slice.token.items (joined_words cut sliced) ended c.loop-slice.invariant.so_far in
    c.from_vec.ensures ∙ whole ∙ ap (joined_words cut) c.as_slice-results.ensures
