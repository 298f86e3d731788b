use Rattle.std.proofs.Common.{arith}
use Rattle.std.proofs.lemmas.Int.{to_z-of_z}
use Rattle.std.specs.Prelude.{bytes_eq}
use Rattle.p3l_types.proofs.Constants.{absent_in_front, found_in_front, after_front}
use Rattle.p3l_types.proofs.consts.Consts.get.Goals as goal

pub returns-in_err-place : goal.returns-in_err-place
returns-in_err-place c = grind (arith, absent_in_front (bytes_eq c.args.name.now) c.self.inside.values.value.entries c.self.inside.len)

pub returns-then-place-self : goal.returns-then-place-self
returns-then-place-self c = grind (arith, to_z-of_z, found_in_front (bytes_eq c.args.name.now) c.self.inside.values.value.entries c.self.inside.len c.in_ok-place.place)

pub returns-else-place-self : goal.returns-else-place-self
returns-else-place-self c = grind (arith, after_front (bytes_eq c.args.name.now) c.self.inside.values.value.entries c.self.inside.len c.in_ok-place.place)
