use Rattle.std.proofs.Common.{ℕ, ℤ, List, arith, refl}
use Rattle.std.proofs.lemmas.Result.{err_from_is_err_and}
use Rattle.p3l_base.specs.declared.outcome.Outcome.{Outcome}
use Rattle.p3l_firing.specs.declared.net.Net.{Net}
use Rattle.p3l_skel.specs.declared.tree.Tree.{Tree}
use Rattle.p3l_run.specs.Execution.{Job, job_of}
use Rattle.p3l_run.specs.Network.{IsSound, network, network_named}
use Rattle.p3l_run.specs.Streams.{streams}
use Rattle.p3l_run.proofs.ExecutionSteps.{ends_unstarted, executes_first}
use Rattle.p3l_run.proofs.RunSteps.{none_before}
use Rattle.p3l_run.proofs.run.run_named.Goals as goal

-- a network is sound whatever names its traps
named_sound : (named tree : Tree) (leaf : ℕ → List ℤ → Outcome) (net : Net) (firings : ℕ) → IsSound (network tree leaf net firings) → IsSound (network_named named tree leaf net firings)
named_sound named tree leaf net firings sound = record { typed = sound.typed; has_invariants = sound.has_invariants; begins = tt }

pub returns-in_err-execution-clause-ends : goal.returns-in_err-execution-clause-ends
returns-in_err-execution-clause-ends g c =
    let job : Job = job_of (network_named c.args.named.now c.args.plan.tree.now (g.U.Units.leaf c.args.plan.units.now) c.args.plan.net c.args.plan.firings) c.args.schedule c.args.keeping (streams (g.S.Source.observed c.args.input.now) (g.K.Sink.observed c.args.out.now)) in
    let p = err_from_is_err_and c.from_residual.result c.from_residual.ensures.1 in
    rw p.1 (ends_unstarted job (c.a_stream_gives_its_items.ensures.starts _ _)).ends

pub complete-requires-clause-job : goal.complete-requires-clause-job
complete-requires-clause-job g c =
    let job : Job = job_of (network_named c.args.named.now c.args.plan.tree.now (g.U.Units.leaf c.args.plan.units.now) c.args.plan.net c.args.plan.firings) c.args.schedule c.args.keeping (streams (g.S.Source.observed c.args.input.now) (g.K.Sink.observed c.args.out.now)) in
    record {
      job = job;
      leaf_is = refl;
      executes = executes_first job (c.laws.ensures _ (named_sound c.args.named.now _ _ _ _ c.requires.sound)) c.requires.fits c.requires.few c.requires.picks (c.a_stream_gives_its_items.ensures.starts _ _) _ refl 0 (omega arith) none_before c.args.plan.width c.requires.width c.in_ok-execution.execution c.in_ok-execution.ensures;
    }

pub returns : goal.returns
returns g c =
    let job : Job = job_of (network_named c.args.named.now c.args.plan.tree.now (g.U.Units.leaf c.args.plan.units.now) c.args.plan.net c.args.plan.firings) c.args.schedule c.args.keeping (streams (g.S.Source.observed c.args.input.now) (g.K.Sink.observed c.args.out.now)) in
    let end = c.complete.ensures.ends job refl refl (executes_first job (c.laws.ensures _ (named_sound c.args.named.now _ _ _ _ c.requires.sound)) c.requires.fits c.requires.few c.requires.picks (c.a_stream_gives_its_items.ensures.starts _ _) _ refl 0 (omega arith) none_before c.args.plan.width c.requires.width c.in_ok-execution.execution c.in_ok-execution.ensures) in
    record { ends = end.ends; output = end.output; wants = c.complete.ensures.wants }
