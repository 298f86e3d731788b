use Rattle.std.proofs.Common.{◌≡◌, ◌++◌, drop, string_bytes}
use Rattle.p3l_c_print.specs.Function.{sizes_text}
use Rattle.p3l_c_print.proofs.function.sizes_text.Given as goal

abbrev pub invariant-loop-size : goal.invariant-loop-size
invariant-loop-size l = string_bytes l.text ++ sizes_text (drop l.size-index l.sizes) ≡ sizes_text l.sizes
