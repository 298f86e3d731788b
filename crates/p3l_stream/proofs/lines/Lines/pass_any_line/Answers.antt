use Rattle.std.proofs.Common.{◌≡◌, List, ℕ, position, ◌∙◌, ap, sym, subst}
use Rattle.std.specs.Str.Lines.{strip_carriage_return}
use Rattle.p3l_stream.specs.Lines.{is_feed, line_of}
use Rattle.p3l_stream.specs.Passing.{PassesLine}
use Rattle.p3l_stream.specs.Seen.{Seen}
use Rattle.p3l_stream.proofs.Passed.{passes_to}
use Rattle.p3l_stream.proofs.lines.Lines.pass_any_line.Goals as goal

pub returns-clause-ok : goal.returns-clause-ok
returns-clause-ok c =
    let it = c.self.inside in
    let end = c.in-Some.end in
    let searched : List ℕ = c.first_feed.new.self in
    let seen : Seen = record { words = it.words; limit = it.limit; held = it.held; taken = it.taken; passed = it.passed; at_end = it.at_end; closed = it.closed } in
    let same : searched ≡ it.held = c.in-Some.ensures.same in
    rw (← c.self.view_is)
    (subst (λ (held : List ℕ). PassesLine (record seen { held = held }) c.pass_to.new.self c.in_ok-line.line) same
    (passes_to (record seen { held = searched }) c.pass_to.new.self end c.in_ok-line.line
    (c.in-Some.ensures.first ∙ ap (position is_feed) (sym same))
    (sym (c.in_ok-line.ensures ∙ ap (line_of it.words) (c.without_return.ensures ∙ ap strip_carriage_return c.front.ensures)))
    c.pass_to.ensures))
