use Rattle.std.proofs.Common.{[], ◌∷◌, sym, ap, ap₂, ◌∙◌, subst}
use Rattle.p3l_firing.specs.State.{own_at, released}
use Rattle.p3l_net.specs.Machine.{Seen}
use Rattle.p3l_net.specs.Steps.{CanPut, ticked, with_last, with_own}
use Rattle.p3l_net.proofs.Standing.{one_long, here, is_kind}
use Rattle.p3l_net.proofs.step.FoldGather.{fits_fold_gather, puts, fired_sent}
use Rattle.p3l_net.proofs.store.Store.send_fold.Goals as goal

pub process-process-requires : goal.process-process-requires
process-process-requires g c = c.requires.may.there

pub output-output-requires : goal.output-output-requires
output-output-requires g c = one_long _ _ (fits_fold_gather (here c.requires.may c.process-process.ensures) (is_kind c.requires.may c.process-process.ensures)).outs

pub put-requires : goal.put-requires
put-requires g c = subst (CanPut c.args.self.now) (sym c.output-output.ensures) (puts c.requires.may c.process-process.ensures (c.requires.full _ c.process-process.ensures))

pub returns-clause-done : goal.returns-clause-done
returns-clause-done g c =
    let m : Seen = c.args.self.now in
    let output = c.output-output.ensures in
    let put = c.put.ensures ∙ ap₂ (with_last m) output c.in_ok-fold.ensures in
    fired_sent c.requires.may c.process-process.ensures (c.requires.full _ c.process-process.ensures) (g.U.Units.leaf c.args.units.now) _
    (c.tick.ensures ∙ ap ticked (c.release.ensures ∙ ap (λ (x : Seen). with_own x c.args.p (released (own_at x.owns c.args.p))) put))
    _ (c.one.ensures ∙ ap (λ k. k ∷ []) output)
