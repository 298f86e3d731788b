use Rattle.std.proofs.Common.{◌++◌, ◌+◌, ◌∷◌, sym, ap, ap₂, ◌∙◌, arith, append_assoc, append-nil, length, length-append, drop}
use Rattle.p3l_reduce.proofs.Placing.{folds_step, folds_end}
use Rattle.p3l_reduce.specs.Reduce.{fold_procs}
use Rattle.p3l_reduce.proofs.tree.place_folds.Goals as goal

pub loop-s-preserved : goal.loop-s-preserved
loop-s-preserved c =
    let i = c.loop-s.invariant in
    let a = c.in_ok-_fold.ensures.added in
    let j = c.in_ok-proc.ensures in
    record {
      procs =
          ap (λ b. b.procs
          ++ fold_procs c.args.node (length c.args.lengths.now) c.args.output c.args.first c.args.from (c.loop-s.s + 1)
          (drop (c.loop-s.s + 1) c.args.lengths.now)) a
          ∙ append_assoc c.loop-s.builder.procs _ _
          ∙ ap (λ z. c.loop-s.builder.procs
          ++ (z ∷ fold_procs c.args.node (length c.args.lengths.now) c.args.output c.args.first c.args.from
          (c.loop-s.s + 1) (drop (c.loop-s.s + 1) c.args.lengths.now))) j
          ∙ ap (λ z. c.loop-s.builder.procs ++ z)
          (sym (folds_step c.args.node
          (length c.args.lengths.now) c.args.output c.args.first c.args.from c.loop-s.s c.args.lengths.now 0
          (omega (arith, c.loop-s-test.true))))
          ∙ i.procs;
      chans = ap (λ b. b.chans) a ∙ i.chans;
      count = ap (λ b. length b.procs) a ∙ length-append c.loop-s.builder.procs _ ∙ omega (arith, i.count);
    }

pub returns : goal.returns
returns c =
    let i = c.loop-s.invariant in
    ap₂ (λ x y. record { procs = x; chans = y })
    (sym (append-nil c.loop-s.builder.procs)
    ∙ ap (λ z. c.loop-s.builder.procs ++ z)
    (sym (folds_end c.args.node
    (length c.args.lengths.now) c.args.output c.args.first c.args.from c.loop-s.s c.args.lengths.now
    (omega (arith, c.loop-s-test.false))))
    ∙ i.procs)
    (i.chans ∙ sym (append-nil c.args.builder.now.chans))
