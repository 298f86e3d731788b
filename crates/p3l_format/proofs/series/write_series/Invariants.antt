use Rattle.std.proofs.Common.{◌≡◌, ◌++◌, drop, true}
use Rattle.p3l_format.specs.Series.{fits_from, spell_from}
use Rattle.p3l_format.proofs.series.write_series.Given as goal

abbrev pub invariant-loop-value : goal.invariant-loop-value
invariant-loop-value g l =
    let item = g.I.Item.format in
    let next = g.I.Item.next in
    record {
      so_far : l.out.items ++ spell_from item next l.kind (drop l.value-index l.values) ≡ l.initial.out.items ++ spell_from item next l.fn.first l.values;
      fit : fits_from item next l.kind (drop l.value-index l.values) ≡ true;
    }
