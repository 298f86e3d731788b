-- The kind of a farm: what is found in it by the tags alone, and the widths to and from its workers.
use Rattle.std.specs.Prelude.{ℕ, ◌+◌, false, List, [], length}
use Rattle.p3l_firing.specs.State.{State}
use Rattle.p3l_firing.specs.declared.token.Token.{Token}
use Rattle.p3l_farm.specs.Farm.{View, farm_shape, joined, well_kept}
use Rattle.p3l_template.specs.Bag.{read}
use Rattle.p3l_template.specs.Finding.{Finding, Finds, bares}
use Rattle.p3l_template.specs.Kind.{Kind}
use Rattle.p3l_template.specs.Lines.{lines_by}
use Rattle.p3l_template.specs.Shape.{Base, fan_slots}
use Rattle.p3l_template.specs.Width.{ins_width, outs_width, worker_widths}

-- the view of a farm of n workers, without the outcomes and but for what waits and what has left
abbrev pub seen_of : ℕ → Base → State → List (List Token) → View
seen_of n base s inner =
    record {
      next = (s.own base.proc).number;
      least = (s.own (base.proc + 1)).number;
      lines = lines_by s (fan_slots base.chan (base.chan + n) n) inner;
      input = [];
      output = [];
    }

unfoldable pub found_by : View → Finding
found_by v = record { orderly = well_kept v; pending = bares (read (joined v.lines) v.least (length (joined v.lines))) }

unfoldable pub farm_finds : ℕ → Finds
farm_finds n tree base s inner = found_by (seen_of n base s inner)

-- a farm of n workers, inside which each token has one tag more
abbrev pub farm_kind : (node n : ℕ) → Kind
farm_kind node n =
    record {
      shape = farm_shape node n;
      widths = λ tree k t. worker_widths n (ins_width tree k (t + 1)) (outs_width tree k (t + 1));
      deeper = 1;
      is_loop = false;
      finds = farm_finds n;
    }
