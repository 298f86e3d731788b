-- The kind of a map: what is found in it by the tags alone, and the widths to and from its workers.
use Rattle.std.specs.Prelude.{ℕ, suc, ◌+◌, false, List, [], get_or}
use Rattle.p3l_base.specs.declared.outcome.Outcome.TheVariants.{Value}
use Rattle.p3l_skel.specs.Tree.{part_at}
use Rattle.p3l_firing.specs.Nodes.{last_element}
use Rattle.p3l_firing.specs.State.{State}
use Rattle.p3l_firing.specs.declared.token.Token.{Token}
use Rattle.p3l_map.specs.Map.{Pieces, View, to_come, well_kept}
use Rattle.p3l_map.specs.MapShape.{map_shape}
use Rattle.p3l_template.specs.Finding.{Finding, Finds, bares}
use Rattle.p3l_template.specs.Kind.{Kind}
use Rattle.p3l_template.specs.Lines.{lines_by}
use Rattle.p3l_template.specs.Shape.{Base, fan_slots}
use Rattle.p3l_template.specs.Width.{ins_width, outs_width, worker_widths}

-- a map of number elements over n workers, all of whose outcomes are without words
abbrev pub bare_pieces : (number n : ℕ) → Pieces
bare_pieces number n =
    record { number = number; lines = n; cut = λ k outcome. Value []; inner = λ outcome. outcome; join = λ outcomes. Value [] }

-- the line of each worker, and none for a number without one
abbrev pub line_at : List (List Token) → ℕ → List Token
line_at lines w = get_or lines w []

-- the view of a map of n workers, without the outcomes and but for what waits and what has left
abbrev pub seen_of : ℕ → Base → State → List (List Token) → View
seen_of n base s inner =
    record {
      lines = line_at (lines_by s (fan_slots base.chan (base.chan + n) n) inner);
      held = bares (s.own (base.proc + 1)).held;
      sending = bares (s.own base.proc).held;
      sent = (s.own base.proc).number;
      input = [];
      output = [];
    }

unfoldable pub found_by : Pieces → View → Finding
found_by q v = record { orderly = well_kept q v; pending = to_come q v }

unfoldable pub map_finds : (node n : ℕ) → Finds
map_finds node n tree base s inner = found_by (bare_pieces (suc (last_element tree node)) n) (seen_of n base s inner)

-- a map over n workers, which carry the words of its part
abbrev pub map_kind : (node n : ℕ) → Kind
map_kind node n =
    record {
      shape = map_shape node n;
      widths = λ tree k t. worker_widths n (ins_width tree (part_at tree k 0) t) (outs_width tree (part_at tree k 0) t);
      deeper = 0;
      is_loop = false;
      finds = map_finds node n;
    }
