-- The nets that were worked out by hand.
use Rattle.std.proofs.Common.{refl}
use Rattle.p3l_skel.specs.Tree.{by_parts, seq_tree}
use Rattle.p3l_skel.specs.Counts.{counted_from}
use Rattle.p3l_template.specs.Pipe.{stage_slots}
use Rattle.p3l_template.specs.Shape.{numbers_from, fan_slots}
use Rattle.p3l_link.specs.Examples.{HandValues}
use Rattle.p3l_link.specs.Net.{inner_pieces, piece_of, root_piece, linked_net}
use Rattle.p3l_link.specs.Shape.{kind_at, kind_row}

pub hand_values : HandValues
unfolding linked_net root_piece piece_of inner_pieces kind_at kind_row by_parts counted_from seq_tree stage_slots numbers_from fan_slots
hand_values = record { one_process = refl; a_farm_of_five = refl }
