use Rattle.std.proofs.Common.{◌≡◌, ap, ◌∙◌, sym, arith}
use Rattle.p3l_base.specs.Slice.{array_size}
use Rattle.p3l_calls.proofs.Slices.{outs_after-more}
use Rattle.p3l_calls.proofs.map.map_outs.Goals as goal

pub loop-k-preserved : goal.loop-k-preserved
loop-k-preserved c =
    let size : c.array_len.result ≡ array_size c.in_ok-slice.slice.dims = c.array_len.ensures ∙ ap array_size c.as_slice.ensures in
    record {
      same =
          rw (c.in_ok-push.ensures.ok, size)
          (sym (outs_after-more c.args.indices.now c.args.call c.loop-k.slices c.loop-k.start c.args.vars.now c.args.ports.now c.args.outs.now
          c.loop-k.k c.index-outs-k.result c.in_ok-slice.slice (omega arith) c.index-outs-k.is c.in_ok-slice.ensures.slice)
          ∙ c.loop-k.invariant.same);
      few = omega (arith, size, c.in_ok-slice.ensures.few);
    }
