use Rattle.std.proofs.Common.{◌≡◌, ◌+◌, ◌++◌, length, map, drop}
use Rattle.p3l_firing.specs.Shot.{saved_token}
use Rattle.p3l_net.specs.Rings.{tokens_of, lists_in}
use Rattle.p3l_net.proofs.channel.saved_slots.Given as goal

abbrev pub invariant-loop-k : goal.invariant-loop-k
invariant-loop-k l = record {
  tokens : l.saved ++ map saved_token (tokens_of (drop l.k l.slots.items) (drop l.next l.tags.items)) ≡ map saved_token (tokens_of l.slots.items l.tags.items);
  lists : l.next + lists_in (drop l.k l.slots.items) ≡ length l.tags.items;
}
