use Rattle.std.proofs.Common.{refl, sym}
use Rattle.p3l_lexer.specs.Position.{position_after}
use Rattle.p3l_lexer.proofs.Lexing.{not_empty, at_start, one_more, at_end, line_fits, column_fits, shorter, no_bytes}
use Rattle.p3l_lexer.proofs.Unique.{tokens_same}
use Rattle.p3l_lexer.proofs.lexer.tokens.Goals as goal

pub loop-rest-init : goal.loop-rest-init
unfolding position_after
loop-rest-init c = at_start c.args.text.now _ _ refl c.new-list.ensures

pub put-requires-clause-some : goal.put-requires-clause-some
put-requires-clause-some c = not_empty _ c.cut.ensures.piece c.cut.ensures.cut.is_piece

pub advance-at-requires-clause-line : goal.advance-at-requires-clause-line
advance-at-requires-clause-line c = line_fits _ _ _ _ _ _ c.loop-rest.invariant c.cut.ensures c.requires

pub advance-at-requires-clause-col : goal.advance-at-requires-clause-col
advance-at-requires-clause-col c = column_fits _ _ _ _ _ _ c.loop-rest.invariant c.cut.ensures c.requires

pub loop-rest-smaller : goal.loop-rest-smaller
loop-rest-smaller c = shorter _ _ _ c.cut.ensures

pub loop-rest-preserved : goal.loop-rest-preserved
loop-rest-preserved c = one_more _ _ _ _ _ _ _ _ c.loop-rest.invariant c.cut.ensures c.in_ok-put.ensures c.advance-at.ensures

pub returns-clause-found : goal.returns-clause-found
returns-clause-found c = at_end _ _ _ _ c.loop-rest.invariant (no_bytes _ (sym c.loop-rest-test.ensures))

pub returns-clause-only : goal.returns-clause-only
returns-clause-only c =
    λ others h. tokens_same c.args.text.now others c.loop-rest.list h (at_end _ _ _ _ c.loop-rest.invariant (no_bytes _ (sym c.loop-rest-test.ensures)))
