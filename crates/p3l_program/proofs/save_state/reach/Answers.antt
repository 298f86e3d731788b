use Rattle.std.proofs.Common.{refl, sym, subst}
use Rattle.std.specs.declared.result.Result.TheVariants.{Ok}
use Rattle.p3l_io.specs.Change.{change}
use Rattle.p3l_run.specs.Checkpoint.{IsCheckpointEnd}
use Rattle.p3l_run.specs.Network.{Network, network}
use Rattle.p3l_sched.specs.declared.schedule.Schedule.TheVariants.{Recorded}
use Rattle.p3l_program.specs.SaveState.{IsUnreached}
use Rattle.p3l_program.specs.Scheduled.{HasPicks}
use Rattle.p3l_program.proofs.FileSteps.{unchanged_faults}
use Rattle.p3l_program.proofs.SaveStateSteps.{broken_so, ended_so, reached_so}
use Rattle.p3l_program.proofs.save_state.reach.Goals as goal

pub returns-in-Err-run_to_checkpoint-clause-ended : goal.returns-in-Err-run_to_checkpoint-clause-ended
returns-in-Err-run_to_checkpoint-clause-ended g c =
    let n : Network = network c.args.plan.tree.now (g.U.Units.leaf c.args.plan.units.now) c.args.plan.net c.args.plan.firings in
    let observed = g.F.Files.observed in
    let files = change (observed c.args.files.now) (observed c.picks_in.new.files) in
    let input = change (g.S.Source.observed c.args.input.now) (g.S.Source.observed c.run_to_checkpoint.new.input) in
    let out = change (g.K.Sink.observed c.args.out.now) (g.K.Sink.observed c.run_to_checkpoint.new.out) in
    let has = subst (λ k. HasPicks (observed c.args.files.now).content k c.args.name (Recorded c.in-Ok.picks)) c.len-count.ensures c.in-Ok.ensures.found in
    subst (λ v. IsUnreached n files input out c.args.name v) (sym c.fault_verdict.ensures)
    (broken_so n files input out c.args.name c.in-Ok.picks has (c.laws.ensures n c.requires.sound) refl c.in-Err-run_to_checkpoint.fault c.in-Err-run_to_checkpoint.ensures.ends
    (unchanged_faults c.in-Ok.ensures.unchanged) c.in-Err-run_to_checkpoint.ensures.output)

pub returns-in-Ok-Ended-clause-ended : goal.returns-in-Ok-Ended-clause-ended
returns-in-Ok-Ended-clause-ended g c =
    let n : Network = network c.args.plan.tree.now (g.U.Units.leaf c.args.plan.units.now) c.args.plan.net c.args.plan.firings in
    let observed = g.F.Files.observed in
    let files = change (observed c.args.files.now) (observed c.picks_in.new.files) in
    let input = change (g.S.Source.observed c.args.input.now) (g.S.Source.observed c.run_to_checkpoint.new.input) in
    let out = change (g.K.Sink.observed c.args.out.now) (g.K.Sink.observed c.run_to_checkpoint.new.out) in
    let has = subst (λ k. HasPicks (observed c.args.files.now).content k c.args.name (Recorded c.in-Ok.picks)) c.len-count.ensures c.in-Ok.ensures.found in
    let ends = subst (λ e. IsCheckpointEnd n c.in-Ok.picks input out (Ok e)) c.in-Ok-Ended.field-0-is c.in-Ok-Ended.ensures.ends in
    ended_so n files input out c.args.name c.in-Ok.picks has (c.laws.ensures n c.requires.sound) refl c.in-Ok-Ended.end ends (unchanged_faults c.in-Ok.ensures.unchanged) c.in-Ok-Ended.ensures.output

pub returns-in-Ok-Saved-clause-reached : goal.returns-in-Ok-Saved-clause-reached
returns-in-Ok-Saved-clause-reached g c =
    let n : Network = network c.args.plan.tree.now (g.U.Units.leaf c.args.plan.units.now) c.args.plan.net c.args.plan.firings in
    let observed = g.F.Files.observed in
    let files = change (observed c.args.files.now) (observed c.picks_in.new.files) in
    let input = change (g.S.Source.observed c.args.input.now) (g.S.Source.observed c.run_to_checkpoint.new.input) in
    let out = change (g.K.Sink.observed c.args.out.now) (g.K.Sink.observed c.run_to_checkpoint.new.out) in
    let has = subst (λ k. HasPicks (observed c.args.files.now).content k c.args.name (Recorded c.in-Ok.picks)) c.len-count.ensures c.in-Ok.ensures.found in
    let ends = subst (λ e. IsCheckpointEnd n c.in-Ok.picks input out (Ok e)) c.in-Ok-Saved.field-0-is c.in-Ok-Saved.ensures.ends in
    reached_so n files input out c.args.name c.in-Ok.picks has (c.laws.ensures n c.requires.sound) refl c.in-Ok-Saved.checkpoint ends
