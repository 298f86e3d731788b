use Rattle.std.proofs.Common.{◌≡◌, ◌-◌}
use Rattle.p3l_format.specs.Format.{read_many}
use Rattle.p3l_format.specs.Numbers.{i64_format}
use Rattle.p3l_format.proofs.Loop.{with_front}
use Rattle.p3l_resume.proofs.words.read_so_many_words.Given as goal

abbrev pub invariant-loop : goal.invariant-loop
invariant-loop l =
    with_front l.words (read_many i64_format.read (l.count - l.counter) l.rest) ≡ read_many i64_format.read l.count l.bytes
