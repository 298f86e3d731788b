use Rattle.std.proofs.Common.{◌/◌, sym, rules, arith}
use Rattle.std.proofs.lemmas.List.Elements.{All-rest, All-head, All-same}
use Rattle.p3l_base.specs.declared.slice.Dim.{Dim}
use Rattle.p3l_base.specs.Cut.{HasIndexSize, element_size}
use Rattle.p3l_base.proofs.Fill.{inner_cut, inner_cut_within, first_below, second_below, filled_more}
use Rattle.p3l_base.proofs.cut.+fill_array.Goals as goal

pub inner-corner-requires : goal.inner-corner-requires
inner-corner-requires t c =
    let dim = c.in-Some.dim.now in
    let inner = c.in-Some.inner.now in
    let parts = c.in-Some.ensures.cases in
    let stride = inner_cut c.args.len c.taken_len.result c.args.dims.now inner dim parts.0 c.requires.sized c.taken_len.ensures c.if-dim-eq0.false in
    let within = inner_cut_within c.args.len c.args.corner.at (element_size c.args.cut.now.outs) c.loop-k.k (c.args.len / c.taken_len.result) c.args.dims.now inner dim parts.0 c.requires.sized stride c.requires.within c.loop-k-test.true in
    omega arith

pub fill_array-requires : goal.fill_array-requires
fill_array-requires t c =
    let dim = c.in-Some.dim.now in
    let inner = c.in-Some.inner.now in
    let parts = c.in-Some.ensures.cases in
    let cut = c.args.cut.now in
    let fits = λ (d : Dim). HasIndexSize cut.first cut.second d.place d.size in
    let fit = All-head fits dim inner (All-same fits _ _ (sym parts.0) c.requires.free) in
    let stride = inner_cut c.args.len c.taken_len.result c.args.dims.now inner dim parts.0 c.requires.sized c.taken_len.ensures c.if-dim-eq0.false in
    let within = inner_cut_within c.args.len c.args.corner.at (element_size cut.outs) c.loop-k.k (c.args.len / c.taken_len.result) c.args.dims.now inner dim parts.0 c.requires.sized stride c.requires.within c.loop-k-test.true in
    let step = c.inner-corner.ensures in (
      search rules,
      (
        rw step.first (first_below dim.place cut.first cut.second c.loop-k.k dim.size _ fit c.loop-k-test.true c.requires.first),
        (
          rw step.second (second_below dim.place cut.first cut.second c.loop-k.k dim.size _ fit c.loop-k-test.true c.requires.second),
          (
            c.requires.count,
            (
              c.requires.sizes,
              (
                All-rest fits dim inner c.args.dims.now parts.0 c.requires.free,
                (
                  stride,
                  (
                    rw step.at within,
                    c.requires.small,
                  ),
                ),
              ),
            ),
          ),
        ),
      ),
    )

pub loop-k-preserved : goal.loop-k-preserved
loop-k-preserved t c =
    let dim = c.in-Some.dim.now in
    let inner = c.in-Some.inner.now in
    let stride = inner_cut c.args.len c.taken_len.result c.args.dims.now inner dim c.in-Some.ensures.cases.0 c.requires.sized c.taken_len.ensures c.if-dim-eq0.false in
    let step = c.inner-corner.ensures in
    filled_more c.args.results.now c.args.cut.now.second dim.place inner c.args.corner.first c.args.corner.second c.args.corner.at c.loop-k.k (c.args.len / c.taken_len.result) _ _ _ _ _ _ stride step.first step.second step.at c.loop-k.invariant c.in_ok-fill_array.ensures
