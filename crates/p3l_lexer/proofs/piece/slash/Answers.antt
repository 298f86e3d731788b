use Rattle.std.proofs.Common.{◌∙◌, subst, arith}
use Rattle.std.specs.Prelude.{IsSome}
use Rattle.std.proofs.lemmas.List.{take_rest}
use Rattle.p3l_lexer.proofs.Classifying.{slash_sign, slash_block, slash_gap}
use Rattle.p3l_lexer.proofs.piece.slash.Goals as goal

pub sign-requires-clause-piece : goal.sign-requires-clause-piece
sign-requires-clause-piece c = subst IsSome (slash_sign c.args.text.now c.if-text-eq1.true) c.requires.piece

pub returns-then-text-eq1 : goal.returns-then-text-eq1
returns-then-text-eq1 c = slash_sign c.args.text.now c.if-text-eq1.true ∙ c.sign.ensures

pub block-requires : goal.block-requires
block-requires c =
    rw take_rest (subst IsSome (slash_block c.args.text.now (omega arith) c.if-text-eq42.true) c.requires.piece)

pub returns-then-text-eq42 : goal.returns-then-text-eq42
returns-then-text-eq42 c =
    slash_block c.args.text.now (omega arith) c.if-text-eq42.true ∙ (rw take_rest at c.block.ensures)

pub returns : goal.returns
returns c = slash_gap c.args.text.now (omega arith) c.if-text-eq42.false c.requires.piece
