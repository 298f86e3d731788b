-- The kind of a node that is one process: what is found in it by the tags alone, and that it has no channels of its own.
use Rattle.std.specs.Prelude.{ℕ, true, false, []}
use Rattle.p3l_template.specs.Finding.{Finds}
use Rattle.p3l_template.specs.Kind.{Kind}
use Rattle.p3l_template.specs.Run.{run_shape}

-- nothing is ever pending in it
unfoldable pub run_finds : Finds
run_finds tree base s inner = record { orderly = true; pending = [] }

abbrev pub run_kind : ℕ → Kind
run_kind node =
    record {
      shape = run_shape node;
      widths = λ tree k t. [];
      deeper = 0;
      is_loop = false;
      finds = run_finds;
    }
