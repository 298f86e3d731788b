use Rattle.std.proofs.Common.{◌≡◌, ◌<◌, ◌^◌, ◌+◌, ℕ, [], arith, ap, refl, sym, subst, ◌∙◌}
use Rattle.std.proofs.lemmas.Result.{err_from_is_err_and}
use Rattle.p3l_firing.specs.declared.net.Net.{Net}
use Rattle.p3l_firing.specs.declared.shot.Shot.{Shot}
use Rattle.p3l_net.specs.Machine.{Seen, state_of}
use Rattle.p3l_net.specs.Shot.{CanRestore, restored}
use Rattle.p3l_sched.specs.declared.schedule.Schedule.{Schedule}
use Rattle.p3l_sched.specs.Picker.{NamesProcesses, recorded}
use Rattle.p3l_skel.specs.declared.tree.Tree.{Tree}
use Rattle.p3l_stream.specs.Given.{HasGiven}
use Rattle.p3l_stream.specs.Seen as stream
use Rattle.p3l_run.specs.declared.execution.Execution.{Execution}
use Rattle.p3l_run.specs.declared.keeping.Keeping.TheVariants.{Nothing}
use Rattle.p3l_run.specs.Execution.{Ends, Executes, Job, begun_on, job_of}
use Rattle.p3l_run.specs.Feed.{input_limit}
use Rattle.p3l_run.specs.Laws.{Laws}
use Rattle.p3l_run.specs.Network.{IsSound, Network, network, resumed, size_of, width_of}
use Rattle.p3l_run.specs.Resume.{IsResumedBy}
use Rattle.p3l_run.specs.Start.{Resumption, uncounted}
use Rattle.p3l_run.specs.Streams.{Streams, streams}
use Rattle.p3l_run.proofs.ExecutionSteps.{ends_unstarted, executes_first}
use Rattle.p3l_run.proofs.resume.resume.Goals as goal

-- the job of a run that continues from a shot
abbrev job_from : Network → Schedule → Streams → Resumption → Job
job_from n schedule before r = job_of (resumed r n) schedule Nothing before

-- a shot that can be restored can also be restored without the count of its outcomes
uncounted_restores : (tree : Tree) (net : Net) (shot : Shot) → CanRestore tree net shot → CanRestore tree net (uncounted shot)
unfolding restored state_of
uncounted_restores tree net shot can = record {
  typed = can.typed;
  fits = record {
    chans = can.fits.chans;
    owns = can.fits.owns;
    state = can.fits.state;
    countable = record { numbers = can.fits.countable.numbers; sent = can.fits.countable.sent; emitted = omega arith };
  };
}

restores_by : (n : Network) (shot : Shot) (r : Resumption) → IsResumedBy n shot r → CanRestore n.tree n.net (uncounted shot)
restores_by n shot r by = uncounted_restores n.tree n.net shot (subst (CanRestore n.tree n.net) by.shot_is by.sound.begins.restores)

-- the tree of a machine that was restored
tree_restored : (m : Seen) (tree : Tree) (net : Net) (shot : Shot) → m ≡ restored tree net shot → tree ≡ m.tree
unfolding restored
tree_restored m tree net shot is = sym (ap (λ k. k.tree) is)

-- whatever is to come of the shot, the execution that was started runs the network from there
executes_from : (n : Network) (schedule : Schedule) (before : Streams) (shot : Shot) (r : Resumption) → IsResumedBy n shot r → ((m : Network) → IsSound m → Laws m) → recorded schedule < 2 ^ 63 → NamesProcesses (size_of n) schedule →
    HasGiven (width_of n) (stream.started (width_of n) input_limit) [] [] → (m : Seen) (given : Shot) → m ≡ restored n.tree n.net given → given ≡ uncounted shot → (width : ℕ) → width ≡ width_of n → (e : Execution) →
    e ≡ begun_on m shot.emitted n.firings width schedule Nothing → Executes (job_from n schedule before r) before e
executes_from n schedule before shot r by laws few named starts m given restores given_is width wide e is =
    let same : shot ≡ r.shot = sym by.shot_is in
    executes_first (job_from n schedule before r) (laws (resumed r n) by.sound) by.fits few named starts m (restores ∙ ap (restored n.tree n.net) (given_is ∙ ap (λ s. uncounted s) same)) shot.emitted
    (subst (λ (s : Shot). s.emitted < 2 ^ 63) by.shot_is by.sound.begins.restores.fits.countable.emitted) (λ k. ap (λ (s : Shot). s.emitted + k) by.shot_is) width wide e is

pub restore-requires : goal.restore-requires
restore-requires g c = subst (CanRestore c.args.plan.tree.now c.args.plan.net) (sym c.uncounted.ensures) (restores_by (network c.args.plan.tree.now (g.U.Units.leaf c.args.plan.units.now) c.args.plan.net c.args.plan.firings) c.args.shot c.requires.resumable.0 c.requires.resumable.1)

pub returns-in_err-machine-clause-ends : goal.returns-in_err-machine-clause-ends
returns-in_err-machine-clause-ends g c = λ r by.
    let p = err_from_is_err_and c.from_residual.result c.from_residual.ensures.1 in
    rw p.1 (ends_unstarted (job_from (network c.args.plan.tree.now (g.U.Units.leaf c.args.plan.units.now) c.args.plan.net c.args.plan.firings) c.args.schedule (streams (g.S.Source.observed c.args.input.now) (g.K.Sink.observed c.args.out.now)) r) (c.a_stream_gives_its_items.ensures.starts _ _)).ends

pub returns-in_err-execution-clause-ends : goal.returns-in_err-execution-clause-ends
returns-in_err-execution-clause-ends g c = λ r by.
    let p = err_from_is_err_and c.from_residual-in_err-execution.result c.from_residual-in_err-execution.ensures.1 in
    rw p.1 (ends_unstarted (job_from (network c.args.plan.tree.now (g.U.Units.leaf c.args.plan.units.now) c.args.plan.net c.args.plan.firings) c.args.schedule (streams (g.S.Source.observed c.args.input.now) (g.K.Sink.observed c.args.out.now)) r) (c.a_stream_gives_its_items.ensures.starts _ _)).ends

pub complete-requires-clause-tree : goal.complete-requires-clause-tree
complete-requires-clause-tree g c =
    tree_restored c.in_ok-machine.machine _ _ _ c.in_ok-machine.ensures ∙ sym (ap (λ (e : Execution). e.machine.tree) c.in_ok-execution.ensures)

pub complete-requires-clause-job : goal.complete-requires-clause-job
complete-requires-clause-job g c =
    let n : Network = network c.args.plan.tree.now (g.U.Units.leaf c.args.plan.units.now) c.args.plan.net c.args.plan.firings in
    let before : Streams = streams (g.S.Source.observed c.args.input.now) (g.K.Sink.observed c.args.out.now) in
    record {
      job = job_from n c.args.schedule before c.requires.resumable.0;
      leaf_is = refl;
      executes = executes_from n c.args.schedule before c.args.shot c.requires.resumable.0 c.requires.resumable.1 c.laws.ensures c.requires.few c.requires.named (c.a_stream_gives_its_items.ensures.starts _ _) c.in_ok-machine.machine _ c.in_ok-machine.ensures c.uncounted.ensures c.args.plan.width c.requires.width c.in_ok-execution.execution c.in_ok-execution.ensures;
    }

pub returns : goal.returns
returns g c =
    let n : Network = network c.args.plan.tree.now (g.U.Units.leaf c.args.plan.units.now) c.args.plan.net c.args.plan.firings in
    let before : Streams = streams (g.S.Source.observed c.args.input.now) (g.K.Sink.observed c.args.out.now) in
    let end : (r : Resumption) → IsResumedBy n c.args.shot r → Ends (job_from n c.args.schedule before r) _ c.complete.result =
    λ r by. c.complete.ensures.ends (job_from n c.args.schedule before r) refl refl
    (executes_from n c.args.schedule before c.args.shot r by c.laws.ensures c.requires.few c.requires.named (c.a_stream_gives_its_items.ensures.starts _ _) c.in_ok-machine.machine _ c.in_ok-machine.ensures c.uncounted.ensures c.args.plan.width c.requires.width c.in_ok-execution.execution c.in_ok-execution.ensures) in
    record { ends = λ r by. (end r by).ends; output = (end c.requires.resumable.0 c.requires.resumable.1).output; wants = c.complete.ensures.wants }
