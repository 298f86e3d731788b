use Rattle.std.proofs.Common.{◌/◌, rules, arith}
use Rattle.std.proofs.lemmas.List.Elements.{All-rest}
use Rattle.p3l_base.specs.declared.slice.Dim.{Dim}
use Rattle.p3l_base.specs.Slice.{IsBelowSize}
use Rattle.p3l_base.proofs.Walk.{inner_stride, inner_within, copied_more}
use Rattle.p3l_base.proofs.slice.+copy_cut.Goals as goal

pub copy_cut-requires : goal.copy_cut-requires
copy_cut-requires t c =
    let dim = c.in-Some.dim.now in
    let inner = c.in-Some.inner.now in
    let parts = c.in-Some.ensures.cases in
    let stride = inner_stride c.args.len c.args.dims.now inner dim parts.0 c.requires.sized c.if-dim-eq0.false in
    let within = inner_within c.args.start c.args.len _ c.loop-k.k (c.args.len / dim.size) c.args.dims.now inner dim parts.0 c.requires.sized stride c.requires.within (omega arith) in
    (search rules, (stride, (within, All-rest (λ (d : Dim). IsBelowSize c.args.free.first c.args.free.second d.place d.size) dim inner c.args.dims.now parts.0 c.requires.free)))

pub loop-k-preserved : goal.loop-k-preserved
loop-k-preserved t c =
    let dim = c.in-Some.dim.now in
    let inner = c.in-Some.inner.now in
    let stride = inner_stride c.args.len c.args.dims.now inner dim c.in-Some.ensures.cases.0 c.requires.sized c.if-dim-eq0.false in
    copied_more c.args.words.now c.args.start inner c.args.free.first c.args.free.second c.taken-low.result.0 c.loop-k.k (c.args.len / dim.size) _ _ _ (omega arith) stride c.loop-k.invariant c.in_ok-copy_cut.ensures
