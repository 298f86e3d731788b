use Rattle.std.proofs.Common.{◌≡◌, ◌++◌, ap, ◌∙◌, string_bytes}
use Rattle.p3l_body.specs.Seq.{seq_tree}
use Rattle.p3l_c.specs.Condition.{vars_shapes}
use Rattle.p3l_c_print.specs.Function.{outs_text, turns_text}
use Rattle.p3l_c_print.proofs.Puts.{body_put}
use Rattle.p3l_c_print.proofs.function.body_text.Goals as goal

pub returns : goal.returns
returns c =
    let seq = seq_tree c.args.seq.now in
    let names = c.in_ok-names.names in
    let code = c.in_ok-code.code in
    let temps = string_bytes c.put_temps.new.out in
    let turns = string_bytes c.push_str.new.self in
    let outs = string_bytes c.put_outs.new.out in
    let whole = string_bytes c.push_str-3.new.self in
    c.of-2.ensures ∙ body_put seq names code (string_bytes c.new-text.result) (string_bytes c.put_opening.new.out) (string_bytes c.put_entries.new.out) temps turns (string_bytes c.push_str-2.new.self) outs whole
    c.in_ok-names.ensures c.in_ok-code.ensures c.new-text.ensures.bytes c.in_ok-put_opening.ensures c.in_ok-put_entries.ensures c.in_ok-put_temps.ensures
    (c.in_ok-push_str.ensures.bytes ∙ ap (λ t. temps ++ t) c.turns_text.ensures)
    (c.in_ok-push_str-2.ensures.bytes ∙ ap (λ t. turns ++ t) c.as_str.ensures)
    (c.in_ok-put_outs.ensures ∙ ap (λ vars. string_bytes c.push_str-2.new.self ++ outs_text names 0 (vars_shapes vars)) c.as_slice.ensures) c.in_ok-push_str-3.ensures.bytes
