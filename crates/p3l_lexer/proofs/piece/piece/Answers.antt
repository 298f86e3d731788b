use Rattle.std.proofs.Common.{Some, ap, get_or, sym, ◌∙◌, subst}
use Rattle.std.specs.Prelude.{IsSome}
use Rattle.p3l_lexer.specs.declared.token.Piece.TheVariants.{Token}
use Rattle.p3l_lexer.proofs.Classifying.{run_all, letter_is_word_byte, piece_word, piece_number, piece_slash, piece_sign}
use Rattle.p3l_lexer.proofs.piece.piece.Goals as goal

pub word-requires : goal.word-requires
word-requires c = run_all c.args.text.now c.requires.some (letter_is_word_byte (get_or c.args.text.now 0 0) (sym c.if-letter.ensures)) c.requires.piece

pub returns-then-letter : goal.returns-then-letter
returns-then-letter c =
    piece_word c.args.text.now c.requires.some (sym c.if-letter.ensures) c.requires.piece ∙ ap (λ x. Some (Token x)) (sym c.in_ok-word.ensures)

pub returns-then-digit : goal.returns-then-digit
returns-then-digit c =
    piece_number c.args.text.now c.requires.some (sym c.if-letter.ensures) (sym c.if-digit.ensures) c.requires.piece ∙ ap (λ x. Some (Token x)) (sym c.number.ensures)

pub slash-requires-clause-piece : goal.slash-requires-clause-piece
slash-requires-clause-piece c = subst IsSome (piece_slash c.args.text.now c.requires.some c.if-text-eq47.true) c.requires.piece

pub returns-then-text-eq47 : goal.returns-then-text-eq47
returns-then-text-eq47 c = piece_slash c.args.text.now c.requires.some c.if-text-eq47.true ∙ c.slash.ensures

pub sign-requires-clause-piece : goal.sign-requires-clause-piece
sign-requires-clause-piece c =
    subst IsSome (piece_sign c.args.text.now c.requires.some (sym c.if-letter.ensures) (sym c.if-digit.ensures) c.if-text-eq47.false) c.requires.piece

pub returns : goal.returns
returns c =
    piece_sign c.args.text.now c.requires.some (sym c.if-letter.ensures) (sym c.if-digit.ensures) c.if-text-eq47.false ∙ c.sign.ensures
