use Rattle.std.proofs.lemmas.List.{take_rest}
use Rattle.p3l_lexer.proofs.Cutting.{cuts_closed, cuts_open}
use Rattle.p3l_lexer.proofs.cut.comment.Goals as goal

pub returns-in-Some : goal.returns-in-Some
returns-in-Some c =
    cuts_closed c.args.text.now _ _ c.in-Some.n c.requires.some c.requires.slash c.requires.star (rw take_rest at c.in-Some.ensures.some) c.split_at.ensures.front c.split_at.ensures.back

pub returns-in-None : goal.returns-in-None
returns-in-None c =
    cuts_open c.args.text.now _ _ c.requires.some c.requires.slash c.requires.star (rw take_rest at c.in-None.ensures.none) c.split_at-in-None.ensures.front c.split_at-in-None.ensures.back
