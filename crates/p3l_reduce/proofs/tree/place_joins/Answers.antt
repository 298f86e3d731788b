use Rattle.std.proofs.Common.{◌++◌, ◌+◌, ◌-◌, ◌∷◌, sym, ap, ap₂, ◌∙◌, arith, append_assoc, append-nil, length, length-append}
use Rattle.p3l_reduce.proofs.Placing.{joins_step, joins_end}
use Rattle.p3l_reduce.specs.Reduce.{join_procs}
use Rattle.p3l_reduce.proofs.tree.place_joins.Goals as goal

pub loop-q-preserved : goal.loop-q-preserved
loop-q-preserved c =
    let i = c.loop-q.invariant in
    let a = c.in_ok-_join.ensures.added in
    let j = c.in_ok-proc.ensures in
    record {
      first = omega arith;
      procs =
          ap (λ b. b.procs
          ++ join_procs c.args.node c.args.output c.args.from (c.loop-q.q + 1) (c.args.m - (c.loop-q.q + 1))) a
          ∙ append_assoc c.loop-q.builder.procs _ _
          ∙ ap (λ z. c.loop-q.builder.procs
          ++ (z ∷ join_procs c.args.node c.args.output c.args.from (c.loop-q.q + 1) (c.args.m - (c.loop-q.q + 1)))) j
          ∙ ap (λ z. c.loop-q.builder.procs ++ z)
          (sym (joins_step c.args.node c.args.output c.args.from c.loop-q.q c.args.m c.loop-q-test.true))
          ∙ i.procs;
      chans = ap (λ b. b.chans) a ∙ i.chans;
      count = ap (λ b. length b.procs) a ∙ length-append c.loop-q.builder.procs _ ∙ omega (arith, i.count, i.first);
    }

pub returns : goal.returns
returns c =
    let i = c.loop-q.invariant in
    ap₂ (λ x y. record { procs = x; chans = y })
    (sym (append-nil c.loop-q.builder.procs)
    ∙ ap (λ z. c.loop-q.builder.procs ++ z)
    (sym (joins_end c.args.node c.args.output c.args.from c.loop-q.q c.args.m c.loop-q-test.false))
    ∙ i.procs)
    (i.chans ∙ sym (append-nil c.args.builder.now.chans))
