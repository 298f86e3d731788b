use Rattle.std.proofs.Common.{◌≡◌, ◌||◌, Bool, [], take, ◌∙◌, ap, arith, if◌then◌else◌}
use Rattle.std.specs.Str.Lines.{strip_carriage_return}
use Rattle.std.proofs.lemmas.List.{take_all}
use Rattle.p3l_stream.specs.Passing.{moved_past}
use Rattle.p3l_stream.specs.Seen.{Seen}
use Rattle.p3l_stream.specs.Words.{is_filled}
use Rattle.p3l_stream.proofs.Parts.{line_after-read}
use Rattle.p3l_stream.proofs.PartlyRead.{reads_last}
use Rattle.p3l_stream.proofs.lines.Lines.pass_last.Goals as goal

pub returns-clause-ok : goal.returns-clause-ok
returns-clause-ok c so_far was =
    let it = c.self.inside in
    let all : take c.len.result it.held ≡ it.held = take_all c.len.result it.held (omega (arith, c.len.ensures)) in
    reads_last c.args.self.now c.pass_rest.new.self c.args.part.now c.read.new.self so_far c.end.result c.requires was
    (line_after-read c.args.part.now c.read.new.self c.without_return.result.now c.args.self.now.held c.end.result c.in_ok-read.ensures.ok c.end.ensures.holds
    (c.without_return.ensures ∙ ap strip_carriage_return (c.front.ensures ∙ all ∙ ap (λ (s : Seen). s.held) c.self.view_is)))
    (c.pass_rest.ensures
    ∙ ap (λ (b : Bool). moved_past c.args.self.now (if b || is_filled c.args.self.now.held then 1 else 0) []) (c.has_begun.ensures ∙ c.in_ok-read.ensures.begun))
