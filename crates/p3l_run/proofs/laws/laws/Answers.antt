use Rattle.p3l_run.proofs.FiringSteps.{picked_leaves}
use Rattle.p3l_run.proofs.StartSteps as start
use Rattle.p3l_run.proofs.StoppedSteps.{only_recorded_picks_stop}
use Rattle.p3l_run.proofs.laws.laws.Goals as goal

pub returns : goal.returns
returns c = λ n sound. record {
  typed = sound.typed;
  some = start.some_process n.net.procs sound.typed.source;
  starts = start.follows_start n.tree n.net (c.a_filled_machine_follows_the_run.ensures.starts n.tree n.net) n.start;
  offered = c.a_filled_machine_follows_the_run.ensures.offered;
  fires = λ m new outcomes rest k p outcome. c.a_filled_machine_follows_the_run.ensures.fired m new outcomes rest k n.leaf p outcome;
  idles = λ m outcomes rest k p. c.a_filled_machine_follows_the_run.ensures.idle m outcomes rest k n.leaf p;
  can_fires = c.a_filled_machine_follows_the_run.ensures.can_fire;
  readies = c.a_filled_machine_is_picked_for_as_its_run.ensures.ready;
  picks = c.a_filled_machine_is_picked_for_as_its_run.ensures.pick;
  picked_from = c.picks_are_ready.ensures.ready;
  next = c.picks_go_one_by_one.ensures.next n.tree n.leaf n.net;
  ended = c.picks_go_one_by_one.ensures.ended n.tree n.leaf n.net;
  stuck = c.picks_go_one_by_one.ensures.stuck n.tree n.leaf n.net;
  none_can = λ k. c.picks_are_ready.ensures.stuck n.tree n.net k.state;
  none_comes = λ k p. (picked_leaves n.tree n.leaf n.net k p).unsent;
  one_more = c.runs_go_pick_by_pick.ensures.more n.tree n.leaf n.net;
  fired_within = start.fired_within n sound;
  fired_most = start.fired_most n sound;
  counted = start.counted n sound;
  numbers = start.numbers_within n.tree n.leaf n.net (c.counts_rise_by_one_at_most.ensures.numbers n.tree n.leaf n.net);
  stops = λ schedule items widths on. only_recorded_picks_stop n schedule items sound widths on;
  begins = start.begins n sound;
  finished = start.finished n sound;
}
