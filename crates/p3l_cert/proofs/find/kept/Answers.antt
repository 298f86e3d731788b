use Rattle.std.proofs.Common.{sym, ◌∙◌}
use Rattle.p3l_cert.proofs.Lookup.{place_kept, place_small, place_other, place_past}
use Rattle.p3l_cert.proofs.find.kept.Goals as goal

pub returns-in_default-clause-least : goal.returns-in_default-clause-least
returns-in_default-clause-least c = place_past c.args.rows.now c.args.key c.place.result c.place.ensures c.in_default.ensures.lookup.0

pub returns-then-is_key-clause-least : goal.returns-then-is_key-clause-least
returns-then-is_key-clause-least c =
    place_kept c.args.rows.now c.args.key c.place.result c.in-Some.row.now c.place.ensures c.in-Some.ensures.lookup.0 c.in-Some.ensures.lookup.1 (sym c.is_key.ensures ∙ c.if-is_key.true)

pub returns-then-is_key-clause-small : goal.returns-then-is_key-clause-small
returns-then-is_key-clause-small c = place_small c.args.rows.now c.place.result c.in-Some.row.now c.requires.range c.in-Some.ensures.lookup.0 c.in-Some.ensures.lookup.1

pub returns-clause-least : goal.returns-clause-least
returns-clause-least c =
    place_other c.args.rows.now c.args.key c.place.result c.in-Some.row.now c.requires.ascend c.place.ensures c.in-Some.ensures.lookup.0 c.in-Some.ensures.lookup.1 (sym c.is_key.ensures ∙ c.if-is_key.false)
