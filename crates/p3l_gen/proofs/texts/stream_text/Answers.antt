use Rattle.std.proofs.Common.{◌≡◌, ℕ, ◌+◌, List, [], ◌++◌, ap, ◌∙◌, arith}
use Rattle.std.specs.List.{flat_map, range_with_len}
use Rattle.p3l_gen.specs.Texts.{line_text}
use Rattle.p3l_gen.proofs.Rows.{row_more}
use Rattle.p3l_gen.proofs.texts.stream_text.Goals as goal

pub loop-k-preserved : goal.loop-k-preserved
loop-k-preserved c =
    let f : ℕ → List ℕ = λ k. line_text (c.args.n + k) in
    let here : line_text (c.args.n + c.loop-k.k + 1) ≡ f (1 + c.loop-k.k) = ap line_text (omega arith) in
    c.in_ok-put_line.ensures ∙ (ap (λ (text : List ℕ). text ++ line_text (c.args.n + c.loop-k.k + 1)) c.loop-k.invariant
    ∙ (ap (λ (line : List ℕ). flat_map f (range_with_len 1 c.loop-k.k) ++ line) here ∙ row_more f 1 c.loop-k.k []))
