use Rattle.std.proofs.Common.{arith}
use Rattle.std.proofs.lemmas.Int.{to_z-of_z}
use Rattle.std.specs.Prelude.{bytes_eq}
use Rattle.indexmap.proofs.CallerLemmas.{insert_entry-new}
use Rattle.p3l_types.proofs.Constants.{absent_before, taken}
use Rattle.p3l_types.proofs.consts.front.Goals as goal

pub loop-k-preserved : goal.loop-k-preserved
loop-k-preserved c =
    let es = c.args.values.now.entries in
    let name = c.in-Some.name.now in
    let value = c.in-Some.value.now in
    grind (
      arith,
      to_z-of_z,
      absent_before es c.loop-k.k name value c.len.ensures.unique,
      taken es c.loop-k.k name value,
      insert_entry-new bytes_eq c.loop-k.front c.in_ok-name.name value,
    )
