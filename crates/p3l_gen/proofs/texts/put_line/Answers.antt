use Rattle.std.proofs.Common.{◌≡◌, ℕ, ◌+◌, List, ◌++◌, ap, ◌∙◌, arith}
use Rattle.std.specs.Prelude.{string_bytes}
use Rattle.std.specs.List.{flat_map, range_with_len}
use Rattle.p3l_gen.specs.Texts.{word_text}
use Rattle.p3l_gen.proofs.Rows.{row_more}
use Rattle.p3l_gen.proofs.texts.put_line.Goals as goal

pub loop-i-preserved : goal.loop-i-preserved
loop-i-preserved c =
    let here : word_text c.args.first c.loop-i.i ≡ word_text c.args.first (0 + c.loop-i.i) = ap (word_text c.args.first) (omega arith) in
    c.in_ok-put_word.ensures ∙ (ap (λ (text : List ℕ). text ++ word_text c.args.first c.loop-i.i) c.loop-i.invariant
    ∙ (ap (λ (word : List ℕ). (string_bytes c.args.text.now ++ flat_map (word_text c.args.first) (range_with_len 0 c.loop-i.i)) ++ word) here ∙ row_more (word_text c.args.first) 0 c.loop-i.i (string_bytes c.args.text.now)))
