use Rattle.std.proofs.Common.{◌≡◌, ◌++◌, append-nil, string_bytes, sym, ap, ◌∙◌}
use Rattle.p3l_c_print.proofs.Functions.{no_temps, temp_then}
use Rattle.p3l_c_print.proofs.function.put_temps.Goals as goal

pub loop-temp-init : goal.loop-temp-init
loop-temp-init c = let old = string_bytes c.args.out.now in sym (append-nil old) ∙ ap (λ t. old ++ t) (sym no_temps)

pub loop-temp-preserved : goal.loop-temp-preserved
loop-temp-preserved c = temp_then (string_bytes c.args.out.now) (string_bytes c.loop-temp.out) (string_bytes c.put_temp.new.out) c.loop-temp.temp c.loop-temp.invariant c.in_ok-put_temp.ensures
