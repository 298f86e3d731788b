use Rattle.std.proofs.Common.{◌||◌, refl, subst, sym}
use Rattle.std.proofs.lemmas.List.{length-map}
use Rattle.p3l_io.specs.Change.{change}
use Rattle.p3l_run.specs.Network.{Network, network}
use Rattle.p3l_run.specs.Timed.{EndsInTime}
use Rattle.p3l_timed.specs.Price.{price_of, prices_of}
use Rattle.p3l_program.specs.Time.{IsTimeOf}
use Rattle.p3l_program.specs.Wants.{Wants}
use Rattle.p3l_program.proofs.WantSteps.{run_wants, wants_more}
use Rattle.p3l_program.proofs.TimeSteps.{after, closed_time, closed_time_kept, early_time, job, stays_time}
use Rattle.p3l_program.proofs.time.time_plan.Goals as goal

pub close-requires : goal.close-requires
close-requires g c = record { some = c.in-Ok.ensures.does.some }

pub returns-in-Ok-clause-ran : goal.returns-in-Ok-clause-ran
returns-in-Ok-clause-ran g c =
    let n : Network = network c.args.plan.tree.now (g.U.Units.leaf c.args.plan.units.now) c.args.plan.net c.args.plan.firings in
    let prices = prices_of c.args.plan.tree.now c.args.costs.now c.args.plan.net in
    let files = change (g.F.Files.observed c.args.files.now) (g.F.Files.observed c.close.new.files) in
    let input = change (g.S.Source.observed c.args.input.now) (g.S.Source.observed c.run_in_time.new.input) in
    let out = change (g.K.Sink.observed c.args.out.now) (g.K.Sink.observed c.run_in_time.new.out) in
    let size = length-map c.args.plan.net.procs (price_of c.args.plan.tree.now c.args.costs.now) in
    let ends = subst (λ k. EndsInTime (job n prices input out k) prices (after n prices input out) c.in-Ok.end.ran c.in-Ok.end.timer) c.keeping_for-keeping.ensures c.in-Ok.ensures.does in
    closed_time n prices input out c.requires.sound.typed.few_procs refl c.a_timed_run_is_a_run.ensures c.a_finish_is_between_one_and_all.ensures files size c.in-Ok.end.ran c.in-Ok.end.timer c.args.picks ends c.close.result ends.ends.output c.close.ensures.closed

pub returns-in-Ok-clause-kept : goal.returns-in-Ok-clause-kept
returns-in-Ok-clause-kept g c =
    let n : Network = network c.args.plan.tree.now (g.U.Units.leaf c.args.plan.units.now) c.args.plan.net c.args.plan.firings in
    let prices = prices_of c.args.plan.tree.now c.args.costs.now c.args.plan.net in
    let files = change (g.F.Files.observed c.args.files.now) (g.F.Files.observed c.close.new.files) in
    let input = change (g.S.Source.observed c.args.input.now) (g.S.Source.observed c.run_in_time.new.input) in
    let out = change (g.K.Sink.observed c.args.out.now) (g.K.Sink.observed c.run_in_time.new.out) in
    let size = length-map c.args.plan.net.procs (price_of c.args.plan.tree.now c.args.costs.now) in
    let ends = subst (λ k. EndsInTime (job n prices input out k) prices (after n prices input out) c.in-Ok.end.ran c.in-Ok.end.timer) c.keeping_for-keeping.ensures c.in-Ok.ensures.does in
    closed_time_kept n prices input out c.requires.sound.typed.few_procs refl c.a_timed_run_is_a_run.ensures c.a_finish_is_between_one_and_all.ensures files size c.in-Ok.end.ran c.in-Ok.end.timer c.args.picks ends c.close.result c.close.ensures.closed

pub returns-in-Err : goal.returns-in-Err
returns-in-Err g c =
    let n : Network = network c.args.plan.tree.now (g.U.Units.leaf c.args.plan.units.now) c.args.plan.net c.args.plan.firings in
    let prices = prices_of c.args.plan.tree.now c.args.costs.now c.args.plan.net in
    let files = change (g.F.Files.observed c.args.files.now) (g.F.Files.observed c.args.files.now) in
    let input = change (g.S.Source.observed c.args.input.now) (g.S.Source.observed c.run_in_time.new.input) in
    let out = change (g.K.Sink.observed c.args.out.now) (g.K.Sink.observed c.run_in_time.new.out) in
    record {
      ran =
          subst (λ v. IsTimeOf n prices files input out c.args.picks v) (sym c.fault_verdict.ensures)
          (early_time n prices input out files _ c.args.picks c.in-Err.fault refl c.in-Err.ensures.does);
      kept = stays_time n prices files input out c.args.picks _ refl;
      wants = subst (λ v. Wants (g.U.Units.may_want || g.F.Files.may_want) v) (sym c.fault_verdict.ensures) (run_wants g.U.Units.may_want g.F.Files.may_want c.in-Err.fault c.in-Err.ensures.wants);
    }

pub returns-in-Ok-clause-wants : goal.returns-in-Ok-clause-wants
returns-in-Ok-clause-wants g c = wants_more g.U.Units.may_want g.F.Files.may_want c.close.result c.close.ensures.wants
