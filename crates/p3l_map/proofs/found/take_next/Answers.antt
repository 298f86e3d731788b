use Rattle.std.proofs.Common.{slice_index_or, slice_set, refl, sym, ◌+◌, ◌∙◌, ltb-true}
use Rattle.p3l_map.proofs.MapSteps.{left_taken}
use Rattle.p3l_map.proofs.found.take_next.Goals as goal

pub returns-clause-left : goal.returns-clause-left
returns-clause-left c = λ yes.
    left_taken c.args.lines.now c.args.taken.now c.args.line (slice_index_or c.args.taken.now c.args.line 0) c.as_slice.result.now
    c.index-lines-line.result c.requires.line c.requires.lines (c.as_slice.ensures ∙ c.index-lines-line.is) refl c.in-Some.token.now _
    (ltb-true _ _ (sym c.in-Some.ensures.lookup.0)) c.in-Some.ensures.lookup.1
    (slice_set c.args.taken.now c.args.line (slice_index_or c.args.taken.now c.args.line 0 + 1)) refl
