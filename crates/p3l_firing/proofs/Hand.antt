-- The runs of the nets that were set up by hand.
use Rattle.std.proofs.Common.{refl}
use Rattle.p3l_ready.specs.At.{at}
use Rattle.p3l_skel.specs.Tree.{by_parts}
use Rattle.p3l_skel.specs.Item.{item_to}
use Rattle.p3l_skel.specs.Fold.{fold_of_up_to, segments}
use Rattle.p3l_firing.specs.Token.{first_tag, later_tags, next_tag, bodies, has_trap}
use Rattle.p3l_firing.specs.Segments.{level_up_to, halved, segment_lengths, segment_words}
use Rattle.p3l_firing.specs.Nodes.{turns_of, spent_of, last_element, element_of, joined_of, segment_of, test_of, operator_of, fold_of}
use Rattle.p3l_firing.specs.State.{pop, push, set_own, has_room, at_first, first_state}
use Rattle.p3l_firing.specs.Fire.{row_can, row_fire, ready_of, fire_of, is_ready, can_fire, fire}
use Rattle.p3l_firing.specs.Run.{picked, after_picks}
use Rattle.p3l_firing.specs.RoundRobin.{round_robin}
use Rattle.p3l_firing.specs.Examples.{HandValues}
use Rattle.p3l_firing.specs.kinds.Source as source
use Rattle.p3l_firing.specs.kinds.Sink as sink
use Rattle.p3l_firing.specs.kinds.Run as run
use Rattle.p3l_firing.specs.kinds.Emit as emit
use Rattle.p3l_firing.specs.kinds.Collect as collect
use Rattle.p3l_firing.specs.kinds.Scatter as scatter
use Rattle.p3l_firing.specs.kinds.Gather as gather
use Rattle.p3l_firing.specs.kinds.Split as split
use Rattle.p3l_firing.specs.kinds.FoldGather as fold_gather
use Rattle.p3l_firing.specs.kinds.Join as join
use Rattle.p3l_firing.specs.kinds.Head as head
use Rattle.p3l_firing.specs.kinds.Tail as tail

pub hand_values : HandValues
unfolding at first_tag later_tags next_tag bodies has_trap level_up_to halved segment_lengths segment_words turns_of spent_of last_element element_of joined_of segment_of test_of operator_of fold_of pop push set_own has_room at_first first_state row_can row_fire ready_of fire_of is_ready can_fire fire picked after_picks round_robin by_parts item_to fold_of_up_to segments source.can source.fire sink.can sink.fire run.can run.fire emit.can emit.fire emit.fewer emit.emptiest emit.sent_to collect.can collect.fire collect.front_is collect.due_in collect.taken_from scatter.can scatter.fire scatter.after_element scatter.element_sent gather.can gather.fire gather.is_full gather.whole_sent split.can split.fire split.after_segment split.segment_sent fold_gather.can fold_gather.fire fold_gather.is_full fold_gather.fold_sent join.can join.fire join.paired_by head.can head.fire head.sent_round head.let_in tail.can tail.fire tail.has_number tail.pick_number tail.drop_number tail.by_test tail.turn_of tail.can_release tail.after_release tail.release tail.take_turn
hand_values = record {
  farm = record { emits = refl; fires = refl; idles = refl };
  map = record { emits = refl; fires = refl; idles = refl };
  trapped = record { emits = refl; fires = refl; idles = refl };
  flat = record { emits = refl; fires = refl; idles = refl };
  joined = record { emits = refl; fires = refl; idles = refl };
  loop = record { emits = refl; fires = refl; idles = refl };
  spent = refl;
}
