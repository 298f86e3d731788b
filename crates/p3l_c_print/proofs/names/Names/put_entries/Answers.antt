use Rattle.std.proofs.Common.{◌≡◌, ◌++◌, map, string_bytes, ap, ◌∙◌}
use Rattle.p3l_c.specs.Condition.{take_entries, zero_entry}
use Rattle.p3l_c_print.specs.Function.{entries_text}
use Rattle.p3l_c_print.proofs.Puts.{entries_put}
use Rattle.p3l_c_print.proofs.names.Names.put_entries.Goals as goal

pub returns : goal.returns
returns c =
    let names = c.args.self.now in
    let seq = c.args.seq.now in
    let old = string_bytes c.args.out.now in
    let one = string_bytes c.put_all_taken.new.out in
    let two = string_bytes c.put_all_zero.new.out in
    entries_put names seq.ins seq.outs seq.locals old one two (string_bytes c.put_all_zero-2.new.out)
    (c.in_ok-put_all_taken.ensures ∙ ap (λ vars. old ++ entries_text names (take_entries 0 vars)) c.as_slice.ensures)
    (c.in_ok-put_all_zero.ensures ∙ ap (λ vars. one ++ entries_text names (map zero_entry vars)) c.as_slice-2.ensures)
    (c.in_ok-put_all_zero-2.ensures ∙ ap (λ vars. two ++ entries_text names (map zero_entry vars)) c.as_slice-3.ensures)
