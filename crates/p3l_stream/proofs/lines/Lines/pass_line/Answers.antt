use Rattle.std.proofs.Common.{◌≡◌, ℕ, ℤ, List, [], ◌∷◌, ◌++◌, take, w64, to_z, of_z, ◌∙◌, ap, sym}
use Rattle.std.proofs.lemmas.Int.{to_z-of_z}
use Rattle.p3l_stream.specs.declared.line.LineContent.TheVariants as line
use Rattle.p3l_stream.specs.Ended.{held_by}
use Rattle.p3l_stream.proofs.Numerals.{number_fits}
use Rattle.p3l_stream.proofs.Passed.{passes_to}
use Rattle.p3l_stream.proofs.PlainLines.{held_by-numeral}
use Rattle.p3l_stream.proofs.lines.Lines.pass_line.Goals as goal

pub returns-in_ok-push-in-Some-clause-ok : goal.returns-in_ok-push-in-Some-clause-ok
returns-in_ok-push-in-Some-clause-ok c =
    let number : ℤ = c.in-Some.found.number in
    let word : List ℕ = take c.in-Some.found.len c.args.self.now.held in
    let is = c.in-Some.ensures.number in
    let words : c.push.new.self ≡ number ∷ [] =
    c.in_ok-push-in-Some.ensures.ok
    ∙ ap (λ (l : List ℤ). l ++ to_z w64 (of_z w64 number) ∷ []) c.new-words.ensures
    ∙ ap (λ (n : ℤ). n ∷ []) (to_z-of_z w64 number (number_fits word number is)) in
    let holds : held_by c.args.self.now.words word ≡ line.Item c.push.new.self =
    ap (λ (n : ℕ). held_by n word) c.in-Some.ensures.width ∙ held_by-numeral word number is ∙ ap line.Item (sym words) in
    passes_to c.args.self.now c.pass_to.new.self c.in-Some.found.len (line.Item c.push.new.self) c.in-Some.ensures.feed holds c.pass_to.ensures
