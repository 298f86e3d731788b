use Rattle.std.proofs.Common.{◌≡◌, ◌++◌, refl, ap, ◌∙◌}
use Rattle.p3l_c_print.specs.Function.{storage_text}
use Rattle.p3l_c_print.proofs.function.put_taken.Goals as goal

pub returns : goal.returns
returns c =
    let bytes = c.in_ok-push_str.ensures.bytes in
    let shown = c.as_str.ensures.value in
    let text = c.in_ok-lines.ensures.ok in
    let brackets = c.as_str-brackets.ensures ∙ c.in_ok-brackets.ensures in
    let storage = c.storage_text-storage.ensures ∙ ap storage_text c.is_automatic.ensures in
    rw (bytes, shown, text, brackets, storage) refl
