use Rattle.std.proofs.Common.{◌≡◌, ◌+◌, ◌≤◌, ◌∙◌, ap, arith, false, inl, length, length-take, take}
use Rattle.p3l_stream.specs.Seen.{Seen}
use Rattle.p3l_stream.proofs.Pieces.{requests_in_vain, takes_piece}
use Rattle.p3l_stream.proofs.lines.Lines.take_into.Goals as goal

pub returns-in_err-push-in-Ok-clause-requests : goal.returns-in_err-push-in-Ok-clause-requests
returns-in_err-push-in-Ok-clause-requests g c =
    let it = c.self.inside in
    let seen : Seen = record { words = it.words; limit = it.limit; held = it.held; taken = it.taken; passed = it.passed; at_end = it.at_end; closed = it.closed } in
    let is_open : it.at_end ≡ false = ap (λ (s : Seen). s.at_end) c.self.view_is ∙ c.requires.open in
    let room : it.taken + length c.take.new.buf ≤ it.limit = omega (arith, ap (λ (s : Seen). s.taken) c.self.view_is, ap (λ (s : Seen). s.limit) c.self.view_is) in
    rw (← c.self.view_is)
    (requests_in_vain _ _ _ _ _ c.from_residual.ensures.0
    (takes_piece seen
    _ c.take.new.buf c.in-Ok.count (length c.take.new.buf) _ _ is_open c.in-Ok.ensures.bound (omega arith) room c.in-Ok.ensures.bound c.in-Ok.ensures.bytes c.in_err-push-in-Ok.ensures.err))

pub returns-in_ok-push-in-Ok-clause-requests : goal.returns-in_ok-push-in-Ok-clause-requests
returns-in_ok-push-in-Ok-clause-requests g c =
    let it = c.self.inside in
    let seen : Seen = record { words = it.words; limit = it.limit; held = it.held; taken = it.taken; passed = it.passed; at_end = it.at_end; closed = it.closed } in
    let is_open : it.at_end ≡ false = ap (λ (s : Seen). s.at_end) c.self.view_is ∙ c.requires.open in
    let room : it.taken + length c.take.new.buf ≤ it.limit = omega (arith, ap (λ (s : Seen). s.taken) c.self.view_is, ap (λ (s : Seen). s.limit) c.self.view_is) in
    let size : length (take c.in-Ok.count c.take.new.buf) ≡ c.in-Ok.count = length-take c.in-Ok.count c.take.new.buf ∙ omega (arith, c.in-Ok.ensures.bound) in
    rw (← c.self.view_is) (
      take c.in-Ok.count c.take.new.buf,
      takes_piece seen
          _ c.take.new.buf c.in-Ok.count (length c.take.new.buf) _ _ is_open c.in-Ok.ensures.bound (omega arith) room c.in-Ok.ensures.bound c.in-Ok.ensures.bytes c.in_ok-push-in-Ok.ensures.ok,
      inl (omega (arith, size, c.in-Ok.count-is)),
    )
