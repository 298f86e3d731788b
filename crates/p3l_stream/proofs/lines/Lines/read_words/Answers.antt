use Rattle.std.proofs.Common.{◌≡◌, ◌+◌, ◌++◌, ◌∷◌, ◌<◌, ℕ, List, length, get_or, drop, ap, subst, sym, ◌∙◌, refl, true}
use Rattle.p3l_stream.specs.Part.{StandsFor}
use Rattle.p3l_stream.specs.Seen.{Seen}
use Rattle.p3l_stream.specs.Words.{is_blank}
use Rattle.p3l_stream.proofs.Parts.{parted_at, stands_after}
use Rattle.p3l_stream.proofs.lines.Lines.read_words.Goals as goal

pub returns-clause-ok : goal.returns-clause-ok
returns-clause-ok c so_far was =
    let held : List ℕ = c.self.inside.held in
    let end : ℕ = c.in-Some.end in
    let found = c.in-Some.ensures in
    let whole : held ≡ c.front.result.now ++ get_or held end 0 ∷ drop (end + 1) held = parted_at held c.front.result.now end (subst (λ (l : List ℕ). end < length l) c.as_slice.ensures found.0) c.front.ensures in
    rw (c.begin.ensures, c.pass.ensures)
    (stands_after c.args.part.now (record c.read.new.self { begun = true }) c.front.result.now (get_or held end 0) (drop (end + 1) held) so_far
    (subst (λ (l : List ℕ). StandsFor c.args.part.now l so_far) (sym (ap (λ (s : Seen). s.held) c.self.view_is) ∙ whole) was)
    (subst (λ (l : List ℕ). is_blank (get_or l end 0) ≡ true) c.as_slice.ensures found.1) c.in_ok-read.ensures.width refl c.in_ok-read.ensures.ok)
