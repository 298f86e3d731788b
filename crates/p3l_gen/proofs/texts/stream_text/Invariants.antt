use Rattle.std.proofs.Common.{◌≡◌, ◌+◌}
use Rattle.std.specs.Prelude.{string_bytes}
use Rattle.std.specs.List.{flat_map, range_with_len}
use Rattle.p3l_gen.specs.Texts.{line_text}
use Rattle.p3l_gen.proofs.texts.stream_text.Given as goal

-- the lines so far
abbrev pub invariant-loop-k : goal.invariant-loop-k
invariant-loop-k l = string_bytes l.text ≡ flat_map (λ k. line_text (l.n + k)) (range_with_len 1 l.k)
