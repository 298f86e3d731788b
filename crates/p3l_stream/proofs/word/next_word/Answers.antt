use Rattle.std.proofs.Common.{ℕ, ◌-◌, List, take, drop, length, unwrap_or, ap, arith, length-drop, sym, ◌∙◌}
use Rattle.std.proofs.lemmas.List.{take_all}
use Rattle.p3l_stream.proofs.Positions.{position-none}
use Rattle.p3l_stream.proofs.WordsApart.{IsFirstWord-found, words_of-none}
use Rattle.p3l_stream.specs.Words.{is_of_word}
use Rattle.p3l_stream.proofs.word.next_word.Goals as goal

pub returns-in_err-start : goal.returns-in_err-start
returns-in_err-start c =
    rw c.from_residual.ensures (words_of-none c.args.bytes.now (position-none is_of_word c.args.bytes.now (sym c.in_err-start.ensures)))

pub returns : goal.returns
returns c =
    let rest : List ℕ = take (length c.args.bytes.now - c.in_ok-start.start) (drop c.in_ok-start.start c.args.bytes.now) in
    IsFirstWord-found c.args.bytes.now c.in_ok-start.start c.unwrap_or.result rest _ _ c.in_ok-start.ensures
    (take_all _ _ (omega (arith, length-drop {A = ℕ})))
    (c.unwrap_or.ensures ∙ ap (λ found. unwrap_or found (length rest)) c.first_blank.ensures) c.split_at.ensures.front c.split_at.ensures.back
