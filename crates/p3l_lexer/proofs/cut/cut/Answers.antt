use Rattle.std.proofs.Common.{sym, refl}
use Rattle.p3l_lexer.proofs.Cutting.{cuts_run, cuts_pair, cuts_one}
use Rattle.p3l_lexer.proofs.cut.cut.Goals as goal
use Rattle.p3l_lexer.proofs.Truths.{nat_false}

pub returns-then-word_byte : goal.returns-then-word_byte
returns-then-word_byte c =
    cuts_run c.args.text.now _ _ c.requires (sym c.if-word_byte.ensures) c.run.ensures.whole c.run.ensures.all c.run.ensures.end

pub returns-then-pair : goal.returns-then-pair
returns-then-pair c =
    cuts_pair c.args.text.now _ _ (c.if-pair.ensures.within refl) (sym c.if-word_byte.ensures) (nat_false _ _ c.if-text-eq47.false) (sym c.if-pair.ensures.pair) c.split_at.ensures.front c.split_at.ensures.back

pub returns : goal.returns
returns c =
    cuts_one c.args.text.now _ _ c.requires (sym c.if-word_byte.ensures) (nat_false _ _ c.if-text-eq47.false) (sym c.if-pair.ensures.pair) c.split_at-2.ensures.front c.split_at-2.ensures.back
