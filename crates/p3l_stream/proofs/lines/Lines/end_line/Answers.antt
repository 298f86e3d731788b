use Rattle.std.proofs.Common.{◌≡◌, List, ℕ, position, ◌∙◌, ap, sym, subst}
use Rattle.std.specs.Str.Lines.{strip_carriage_return}
use Rattle.p3l_stream.specs.Lines.{is_feed}
use Rattle.p3l_stream.specs.Part.{no_part}
use Rattle.p3l_stream.specs.Passing.{EndsLine}
use Rattle.p3l_stream.specs.Seen.{Seen}
use Rattle.p3l_stream.proofs.PartlyRead.{ended_here}
use Rattle.p3l_stream.proofs.lines.Lines.end_line.Goals as goal

pub returns-clause-ok : goal.returns-clause-ok
returns-clause-ok c =
    let it = c.self.inside in
    let end : ℕ = c.in-Some.end in
    let searched : List ℕ = c.first_feed.new.self in
    let seen : Seen = record { words = it.words; limit = it.limit; held = it.held; taken = it.taken; passed = it.passed; at_end = it.at_end; closed = it.closed } in
    let same : searched ≡ it.held = c.in-Some.ensures.same in (
      rw (← c.self.view_is)
          (subst (λ (held : List ℕ). EndsLine (record seen { held = held }) c.pass_to.new.self c.args.part.now c.end.result) same
          (ended_here (record seen { held = searched }) c.pass_to.new.self c.args.part.now c.read.new.self end c.without_return.result.now c.end.result
          (c.in-Some.ensures.first ∙ ap (position is_feed) (sym same))
          c.in_ok-read.ensures.ok c.end.ensures.holds
          (c.without_return.ensures ∙ ap strip_carriage_return c.front.ensures)
          c.pass_to.ensures)),
      c.end.ensures.empty ∙ ap no_part c.in_ok-read.ensures.width,
    )
