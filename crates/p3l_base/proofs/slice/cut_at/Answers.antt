use Rattle.std.proofs.Common.{◌≡◌, refl, ap, ◌∙◌, length}
use Rattle.p3l_base.specs.Slice.{cut_words}
use Rattle.p3l_base.specs.laws.Slice.{length-cut_words}
use Rattle.p3l_base.proofs.slice.cut_at.Goals as goal

pub returns-clause-size : goal.returns-clause-size
returns-clause-size c =
    let slice = c.args.slice.now in
    let words = c.args.words.now in
    let same : c.from_vec.result ≡ cut_words slice words c.args.i c.args.j =
    c.from_vec.ensures ∙ c.in_ok-copy_cut.ensures ∙ rw (c.new-cut.ensures.items, c.as_slice-dims.ensures, c.as_slice.ensures) refl in
    ap length same ∙ length-cut_words slice words c.args.i c.args.j
