use Rattle.std.proofs.Common.{◌≡◌, refl, sym, ap, subst}
use Rattle.std.proofs.lemmas.Result.{err_from_is_err_and}
use Rattle.p3l_sched.specs.declared.schedule.Schedule.TheVariants as schedules
use Rattle.p3l_run.specs.Execution.{Job, started}
use Rattle.p3l_run.specs.Network.{network}
use Rattle.p3l_firing.specs.declared.net.Net.{Net}
use Rattle.p3l_run.specs.declared.execution.Execution.{Execution}
use Rattle.p3l_run.specs.Streams.{streams}
use Rattle.p3l_run.specs.Timed.{IsTimedEnd, timed_job}
use Rattle.p3l_skel.specs.declared.tree.Tree.{Tree}
use Rattle.p3l_cost.specs.declared.costs.Costs.{Costs}
use Rattle.p3l_net.specs.Machine.{Seen}
use Rattle.p3l_timed.specs.Clock.{Clock, IsStarted}
use Rattle.p3l_timed.specs.Price.{EverySmallPriceCounts, HasSmallPrices, counted_prices, prices_of}
use Rattle.p3l_run.proofs.TimedSteps.{in_time_first, unstarted_in_time}
use Rattle.p3l_run.proofs.in_time.run_in_time.Goals as goal

-- a timer begins with prices in full if they are small
in_full : (tree : Tree) (costs : Costs) (net : Net) (m : Seen) (k : Clock) → EverySmallPriceCounts → HasSmallPrices tree costs net →
    m.net ≡ net → IsStarted (counted_prices tree costs m.net) m k → IsStarted (prices_of tree costs m.net) m k
in_full tree costs net m k counts small net_is is =
    subst (λ ps. IsStarted ps m k) (counts tree costs m.net (subst (HasSmallPrices tree costs) (sym net_is) small)) is

pub returns-in_err-execution-clause-does : goal.returns-in_err-execution-clause-does
returns-in_err-execution-clause-does g c =
    let job : Job = timed_job (network c.args.plan.tree.now (g.U.Units.leaf c.args.plan.units.now) c.args.plan.net c.args.plan.firings) c.args.keeping (streams (g.S.Source.observed c.args.input.now) (g.K.Sink.observed c.args.out.now)) in
    let p = err_from_is_err_and c.from_residual.result c.from_residual.ensures.1 in
    rw (p.1, p.2) (unstarted_in_time job _ (c.a_stream_gives_its_items.ensures.starts _ _))

pub returns-in_err-timer-clause-does : goal.returns-in_err-timer-clause-does
returns-in_err-timer-clause-does g c =
    let job : Job = timed_job (network c.args.plan.tree.now (g.U.Units.leaf c.args.plan.units.now) c.args.plan.net c.args.plan.firings) c.args.keeping (streams (g.S.Source.observed c.args.input.now) (g.K.Sink.observed c.args.out.now)) in
    let p = err_from_is_err_and c.from_residual-in_err-timer.result c.from_residual-in_err-timer.ensures.1 in
    rw (p.1, p.2) (unstarted_in_time job _ (c.a_stream_gives_its_items.ensures.starts _ _))

pub complete_in_time-requires-clause-job : goal.complete_in_time-requires-clause-job
complete_in_time-requires-clause-job g c =
    let job : Job = timed_job (network c.args.plan.tree.now (g.U.Units.leaf c.args.plan.units.now) c.args.plan.net c.args.plan.firings) c.args.keeping (streams (g.S.Source.observed c.args.input.now) (g.K.Sink.observed c.args.out.now)) in
    record {
      job = job;
      prices = prices_of c.args.plan.tree.now c.args.costs.now c.in_ok-execution.execution.machine.net;
      leaf_is = refl;
      is = in_time_first job _ c.in_ok-execution.execution c.in_ok-timer.timer (c.laws.ensures _ c.requires.sound) refl c.requires.fits (c.a_stream_gives_its_items.ensures.starts _ _) c.args.plan.width c.requires.width (subst (λ l. c.in_ok-execution.execution ≡ started c.args.plan.tree.now c.args.plan.net c.args.plan.firings c.args.plan.width (schedules.Recorded l) c.args.keeping) c.new.ensures c.in_ok-execution.ensures) (in_full c.args.plan.tree.now c.args.costs.now c.args.plan.net c.in_ok-execution.execution.machine c.in_ok-timer.timer c.small_prices_are_counted_in_full.ensures c.requires.small (ap (λ (e : Execution). e.machine.net) c.in_ok-execution.ensures) c.in_ok-timer.ensures);
    }

pub returns-clause-does : goal.returns-clause-does
returns-clause-does g c =
    let job : Job = timed_job (network c.args.plan.tree.now (g.U.Units.leaf c.args.plan.units.now) c.args.plan.net c.args.plan.firings) c.args.keeping (streams (g.S.Source.observed c.args.input.now) (g.K.Sink.observed c.args.out.now)) in
    let net_is : c.in_ok-execution.execution.machine.net ≡ c.args.plan.net = ap (λ (e : Execution). e.machine.net) c.in_ok-execution.ensures in
    subst (λ (net : Net). IsTimedEnd job (prices_of c.args.plan.tree.now c.args.costs.now net) (streams (g.S.Source.observed c.complete_in_time.new.input) (g.K.Sink.observed c.complete_in_time.new.out)) c.complete_in_time.result) net_is
    (c.complete_in_time.ensures.ends job _ refl refl (in_time_first job _ c.in_ok-execution.execution c.in_ok-timer.timer (c.laws.ensures _ c.requires.sound) refl c.requires.fits (c.a_stream_gives_its_items.ensures.starts _ _) c.args.plan.width c.requires.width (subst (λ l. c.in_ok-execution.execution ≡ started c.args.plan.tree.now c.args.plan.net c.args.plan.firings c.args.plan.width (schedules.Recorded l) c.args.keeping) c.new.ensures c.in_ok-execution.ensures) (in_full c.args.plan.tree.now c.args.costs.now c.args.plan.net c.in_ok-execution.execution.machine c.in_ok-timer.timer c.small_prices_are_counted_in_full.ensures c.requires.small net_is c.in_ok-timer.ensures)))
