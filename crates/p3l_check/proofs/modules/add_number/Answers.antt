use Rattle.std.specs.Prelude.{bytes_eq}
use Rattle.indexmap.proofs.CallerLemmas.{insert_entry-new}
use Rattle.p3l_check.proofs.modules.add_number.Goals as goal

pub returns : goal.returns
returns c =
    let table = insert_entry-new bytes_eq c.args.numbers.now c.args.name.now c.args.number c.requires in
    cc (table, c.in_ok-name.ensures, c.in_ok-insert.ensures.entries)
