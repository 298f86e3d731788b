use Rattle.std.proofs.Common.{◌≡◌, ◌∙◌, ap}
use Rattle.std.specs.Str.{bytes_eq}
use Rattle.p3l_lexer.specs.Mark.{mark_text}
use Rattle.p3l_reader.proofs.Tokens.{is_sign}
use Rattle.p3l_reader.proofs.mark.is_mark.Goals as goal

pub returns-in-Sign : goal.returns-in-Sign
returns-in-Sign c =
    let same : c.eq.result ≡ bytes_eq (mark_text c.in-Sign.found) (mark_text c.args.mark) =
    c.eq.ensures ∙ ap (λ x. bytes_eq x c.text-in-Sign.result.now) c.text.ensures ∙ ap (bytes_eq (mark_text c.in-Sign.found)) c.text-in-Sign.ensures in
    is_sign c.args.token.now c.in-Sign.found c.args.mark c.eq.result c.in-Sign.is same
