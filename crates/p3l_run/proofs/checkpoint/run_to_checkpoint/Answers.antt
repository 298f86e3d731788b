use Rattle.std.proofs.Common.{ℕ, List, refl, sym, subst}
use Rattle.std.proofs.lemmas.Result.{err_from_is_err_and}
use Rattle.p3l_sched.specs.declared.schedule.Schedule.TheVariants as schedules
use Rattle.p3l_run.specs.declared.keeping.Keeping.TheVariants.{Nothing}
use Rattle.p3l_run.specs.Network.{network}
use Rattle.p3l_run.specs.Replay.{Halts, IsToReplay, Opens, Replay, replay_of}
use Rattle.p3l_run.specs.Streams.{Streams, streams}
use Rattle.p3l_run.proofs.ReplaySteps.{comes_early, comes_unstarted, opens_first}
use Rattle.p3l_run.proofs.checkpoint.run_to_checkpoint.Goals as goal

pub returns-in_err-execution-clause-ends : goal.returns-in_err-execution-clause-ends
returns-in_err-execution-clause-ends g c =
    let r : Replay = replay_of (network c.args.plan.tree.now (g.U.Units.leaf c.args.plan.units.now) c.args.plan.net c.args.plan.firings) c.args.picks (streams (g.S.Source.observed c.args.input.now) (g.K.Sink.observed c.args.out.now)) in
    let p = err_from_is_err_and c.from_residual.result c.from_residual.ensures.1 in
    rw p.1 (comes_unstarted r (c.a_stream_gives_its_items.ensures.starts _ _)).ends

pub replay-requires-clause-replay : goal.replay-requires-clause-replay
replay-requires-clause-replay g c =
    let before : Streams = streams (g.S.Source.observed c.args.input.now) (g.K.Sink.observed c.args.out.now) in
    let r : Replay = replay_of (network c.args.plan.tree.now (g.U.Units.leaf c.args.plan.units.now) c.args.plan.net c.args.plan.firings) c.args.picks before in
    let opens : Opens r c.args.picks before c.in_ok-execution.execution =
    opens_first c.args.plan.tree.now (g.U.Units.leaf c.args.plan.units.now) c.args.plan.net c.args.plan.firings c.args.picks before (c.laws.ensures _ c.requires.sound) c.requires.few c.requires.named (c.a_stream_gives_its_items.ensures.starts _ _) c.args.plan.width c.requires.width (schedules.Recorded c.new.result) Nothing c.in_ok-execution.execution c.in_ok-execution.ensures in
    subst (λ (ps : List ℕ). IsToReplay (g.U.Units.leaf c.args.plan.units.now) ps before c.in_ok-execution.execution) (sym c.as_slice.ensures) (record { replay = r; leaf_is = refl; opens = opens })

pub returns-in_err-replay-clause-ends : goal.returns-in_err-replay-clause-ends
returns-in_err-replay-clause-ends g c =
    let before : Streams = streams (g.S.Source.observed c.args.input.now) (g.K.Sink.observed c.args.out.now) in
    let r : Replay = replay_of (network c.args.plan.tree.now (g.U.Units.leaf c.args.plan.units.now) c.args.plan.net c.args.plan.firings) c.args.picks before in
    let opens : Opens r c.args.picks before c.in_ok-execution.execution =
    opens_first c.args.plan.tree.now (g.U.Units.leaf c.args.plan.units.now) c.args.plan.net c.args.plan.firings c.args.picks before (c.laws.ensures _ c.requires.sound) c.requires.few c.requires.named (c.a_stream_gives_its_items.ensures.starts _ _) c.args.plan.width c.requires.width (schedules.Recorded c.new.result) Nothing c.in_ok-execution.execution c.in_ok-execution.ensures in
    let p = err_from_is_err_and c.from_residual-in_err-replay.result c.from_residual-in_err-replay.ensures.1 in
    rw p.1 (c.in_err-replay.ensures.halts r refl (subst (λ (ps : List ℕ). Opens r ps before c.in_ok-execution.execution) (sym c.as_slice.ensures) opens)).ends

pub returns-in_err-replay-clause-output : goal.returns-in_err-replay-clause-output
returns-in_err-replay-clause-output g c =
    let before : Streams = streams (g.S.Source.observed c.args.input.now) (g.K.Sink.observed c.args.out.now) in
    let r : Replay = replay_of (network c.args.plan.tree.now (g.U.Units.leaf c.args.plan.units.now) c.args.plan.net c.args.plan.firings) c.args.picks before in
    let opens : Opens r c.args.picks before c.in_ok-execution.execution =
    opens_first c.args.plan.tree.now (g.U.Units.leaf c.args.plan.units.now) c.args.plan.net c.args.plan.firings c.args.picks before (c.laws.ensures _ c.requires.sound) c.requires.few c.requires.named (c.a_stream_gives_its_items.ensures.starts _ _) c.args.plan.width c.requires.width (schedules.Recorded c.new.result) Nothing c.in_ok-execution.execution c.in_ok-execution.ensures in
    let p = err_from_is_err_and c.from_residual-in_err-replay.result c.from_residual-in_err-replay.ensures.1 in
    rw (p.1, p.2) (c.in_err-replay.ensures.halts r refl (subst (λ (ps : List ℕ). Opens r ps before c.in_ok-execution.execution) (sym c.as_slice.ensures) opens)).output

pub into_checkpoint-requires : goal.into_checkpoint-requires
into_checkpoint-requires g c =
    let before : Streams = streams (g.S.Source.observed c.args.input.now) (g.K.Sink.observed c.args.out.now) in
    let r : Replay = replay_of (network c.args.plan.tree.now (g.U.Units.leaf c.args.plan.units.now) c.args.plan.net c.args.plan.firings) c.args.picks before in
    let opens : Opens r c.args.picks before c.in_ok-execution.execution =
    opens_first c.args.plan.tree.now (g.U.Units.leaf c.args.plan.units.now) c.args.plan.net c.args.plan.firings c.args.picks before (c.laws.ensures _ c.requires.sound) c.requires.few c.requires.named (c.a_stream_gives_its_items.ensures.starts _ _) c.args.plan.width c.requires.width (schedules.Recorded c.new.result) Nothing c.in_ok-execution.execution c.in_ok-execution.ensures in (
      r,
      streams (g.S.Source.observed c.replay.new.input) (g.K.Sink.observed c.replay.new.out),
      c.in_ok-replay.ensures.halts r refl (subst (λ (ps : List ℕ). Opens r ps before c.in_ok-execution.execution) (sym c.as_slice.ensures) opens),
    )

pub returns-in_err-into_checkpoint-clause-ends : goal.returns-in_err-into_checkpoint-clause-ends
returns-in_err-into_checkpoint-clause-ends g c =
    let before : Streams = streams (g.S.Source.observed c.args.input.now) (g.K.Sink.observed c.args.out.now) in
    let now : Streams = streams (g.S.Source.observed c.replay.new.input) (g.K.Sink.observed c.replay.new.out) in
    let r : Replay = replay_of (network c.args.plan.tree.now (g.U.Units.leaf c.args.plan.units.now) c.args.plan.net c.args.plan.firings) c.args.picks before in
    let opens : Opens r c.args.picks before c.in_ok-execution.execution =
    opens_first c.args.plan.tree.now (g.U.Units.leaf c.args.plan.units.now) c.args.plan.net c.args.plan.firings c.args.picks before (c.laws.ensures _ c.requires.sound) c.requires.few c.requires.named (c.a_stream_gives_its_items.ensures.starts _ _) c.args.plan.width c.requires.width (schedules.Recorded c.new.result) Nothing c.in_ok-execution.execution c.in_ok-execution.ensures in
    let halts : Halts r now c.replay.new.self = c.in_ok-replay.ensures.halts r refl (subst (λ (ps : List ℕ). Opens r ps before c.in_ok-execution.execution) (sym c.as_slice.ensures) opens) in
    let p = err_from_is_err_and c.from_residual-in_err-into_checkpoint.result c.from_residual-in_err-into_checkpoint.ensures.1 in
    rw p.1 (comes_early r halts.used halts.unused now c.replay.new.self halts.replays).ends

pub returns-in_err-into_checkpoint-clause-output : goal.returns-in_err-into_checkpoint-clause-output
returns-in_err-into_checkpoint-clause-output g c =
    let before : Streams = streams (g.S.Source.observed c.args.input.now) (g.K.Sink.observed c.args.out.now) in
    let now : Streams = streams (g.S.Source.observed c.replay.new.input) (g.K.Sink.observed c.replay.new.out) in
    let r : Replay = replay_of (network c.args.plan.tree.now (g.U.Units.leaf c.args.plan.units.now) c.args.plan.net c.args.plan.firings) c.args.picks before in
    let opens : Opens r c.args.picks before c.in_ok-execution.execution =
    opens_first c.args.plan.tree.now (g.U.Units.leaf c.args.plan.units.now) c.args.plan.net c.args.plan.firings c.args.picks before (c.laws.ensures _ c.requires.sound) c.requires.few c.requires.named (c.a_stream_gives_its_items.ensures.starts _ _) c.args.plan.width c.requires.width (schedules.Recorded c.new.result) Nothing c.in_ok-execution.execution c.in_ok-execution.ensures in
    let halts : Halts r now c.replay.new.self = c.in_ok-replay.ensures.halts r refl (subst (λ (ps : List ℕ). Opens r ps before c.in_ok-execution.execution) (sym c.as_slice.ensures) opens) in
    let p = err_from_is_err_and c.from_residual-in_err-into_checkpoint.result c.from_residual-in_err-into_checkpoint.ensures.1 in
    rw (p.1, p.2) (comes_early r halts.used halts.unused now c.replay.new.self halts.replays).output

pub returns : goal.returns
returns g c =
    let before : Streams = streams (g.S.Source.observed c.args.input.now) (g.K.Sink.observed c.args.out.now) in
    let now : Streams = streams (g.S.Source.observed c.replay.new.input) (g.K.Sink.observed c.replay.new.out) in
    let r : Replay = replay_of (network c.args.plan.tree.now (g.U.Units.leaf c.args.plan.units.now) c.args.plan.net c.args.plan.firings) c.args.picks before in
    let opens : Opens r c.args.picks before c.in_ok-execution.execution =
    opens_first c.args.plan.tree.now (g.U.Units.leaf c.args.plan.units.now) c.args.plan.net c.args.plan.firings c.args.picks before (c.laws.ensures _ c.requires.sound) c.requires.few c.requires.named (c.a_stream_gives_its_items.ensures.starts _ _) c.args.plan.width c.requires.width (schedules.Recorded c.new.result) Nothing c.in_ok-execution.execution c.in_ok-execution.ensures in
    let halts : Halts r now c.replay.new.self = c.in_ok-replay.ensures.halts r refl (subst (λ (ps : List ℕ). Opens r ps before c.in_ok-execution.execution) (sym c.as_slice.ensures) opens) in
    let end = c.in_ok-into_checkpoint.ensures r now refl halts in
    record { ends = end.ends; output = end.output; wants = tt }
