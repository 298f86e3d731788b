use Rattle.std.proofs.Common.{◌≡◌, ◌++◌, refl, ◌∙◌}
use Rattle.p3l_c_print.specs.Line.{stop_line}
use Rattle.p3l_c_print.proofs.line.put_stop.Goals as goal

pub returns : goal.returns
unfolding stop_line
returns c =
    let bytes = c.in_ok-push_str.ensures.bytes in
    let shown = c.as_str.ensures.value in
    let text = c.in_ok-line.ensures.ok in
    let code = c.trap_code-code.ensures in
    let reason = c.trap_reason-reason.ensures in
    rw (bytes, shown, text, code, reason) refl
