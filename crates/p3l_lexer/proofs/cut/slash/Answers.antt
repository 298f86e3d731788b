use Rattle.std.specs.Prelude.{nat_eq}
use Rattle.p3l_lexer.proofs.Cutting.{cuts_line, cuts_slash, ends_short, ends_other}
use Rattle.p3l_lexer.proofs.cut.slash.Goals as goal
use Rattle.p3l_lexer.proofs.cut.slash.Goals.{else-text-gt1-via-then-text-gt1+else-text-eq47, else-text-gt1-via-else-text-gt1, else-text-gt1-2-via-then-text-gt1-2+else-text-eq42, else-text-gt1-2-via-else-text-gt1-2}
use Rattle.p3l_lexer.proofs.Truths.{nat_false}

pub returns-then-text-eq47 : goal.returns-then-text-eq47
returns-then-text-eq47 c =
    cuts_line c.args.text.now _ _ c.if-text-gt1.true c.requires.slash c.if-text-eq47.true c.line.ensures.whole c.line.ensures.all c.line.ensures.end

pub returns : goal.returns
returns c =
    cuts_slash c.args.text.now _ _ c.requires.some c.requires.slash
    (elim c.else-text-gt1.branch [
      | else-text-gt1-via-then-text-gt1+else-text-eq47 w ↦ ends_other (λ b. nat_eq b 47) c.args.text.now w.if-text-gt1.true (nat_false _ _ w.if-text-eq47.false)
      | else-text-gt1-via-else-text-gt1 w ↦ ends_short (λ b. nat_eq b 47) c.args.text.now w.if-text-gt1.false
    ])
    (elim c.else-text-gt1-2.branch [
      | else-text-gt1-2-via-then-text-gt1-2+else-text-eq42 w ↦ ends_other (λ b. nat_eq b 42) c.args.text.now w.if-text-gt1-2.true (nat_false _ _ w.if-text-eq42.false)
      | else-text-gt1-2-via-else-text-gt1-2 w ↦ ends_short (λ b. nat_eq b 42) c.args.text.now w.if-text-gt1-2.false
    ])
    c.split_at.ensures.front c.split_at.ensures.back
