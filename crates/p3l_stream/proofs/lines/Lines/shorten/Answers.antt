use Rattle.std.proofs.Common.{◌≡◌, ◌-◌, ◌++◌, ◌∷◌, [], ℕ, List, get_or, ap, arith, subst, sym, ◌∙◌, drop}
use Rattle.p3l_stream.specs.Long.{HasZeros, IsRefused}
use Rattle.p3l_stream.specs.Part.{StandsFor}
use Rattle.p3l_stream.specs.Seen.{Seen}
use Rattle.p3l_stream.proofs.LongWords.{filled_of_digits, form_more, parted, put_nines, stands_nines, stands_refused, stands_zeros, word_of_none, zeros_dropped, zeros_plain}
use Rattle.p3l_stream.proofs.lines.Lines.shorten.Goals as goal

pub returns-in-Refused-clause-ok : goal.returns-in-Refused-clause-ok
returns-in-Refused-clause-ok c so_far was =
    let word : List ℕ = c.front.result.now in
    let refused : IsRefused word = c.in-Refused.ensures in
    let whole : c.args.self.now.held ≡ word ++ get_or c.self.inside.held (c.len-len.result - 1) 0 ∷ [] =
    sym (ap (λ (s : Seen). s.held) c.self.view_is) ∙ parted c.self.inside.held word c.len-len.result c.len-len.ensures (omega (arith, c.if-len-le-LONGEST_WORD.false)) c.front.ensures in
    rw (c.refuse.ensures, c.clear.ensures)
    (stands_refused c.args.part.now word (get_or c.self.inside.held (c.len-len.result - 1) 0) so_far (word_of_none word refused.is_word) (filled_of_digits word refused.filled) c.requires.open
    (λ more. form_more word more (filled_of_digits word refused.filled) refused.no_digits)
    (subst (λ (l : List ℕ). StandsFor c.args.part.now l so_far) whole was))

pub returns-in_ok-push-in-TooGreat-2-clause-ok : goal.returns-in_ok-push-in-TooGreat-2-clause-ok
returns-in_ok-push-in-TooGreat-2-clause-ok c so_far was =
    let word : List ℕ = c.front.result.now in
    let whole : c.args.self.now.held ≡ word ++ get_or c.self.inside.held (c.len-len.result - 1) 0 ∷ [] =
    sym (ap (λ (s : Seen). s.held) c.self.view_is) ∙ parted c.self.inside.held word c.len-len.result c.len-len.ensures (omega (arith, c.if-len-le-LONGEST_WORD.false)) c.front.ensures in
    let first = c.in_ok-push-in-TooGreat.ensures.ok in
    let second = c.in_ok-push-in-TooGreat-2.ensures.ok in
    subst (λ (l : List ℕ). StandsFor c.args.part.now l so_far)
    (sym (put_nines c.clear-in-TooGreat.new.self c.push.new.self c.push-in-TooGreat.new.self c.as_slice.result.now c.self.inside.held (c.len-len.result - 1) second first c.clear-in-TooGreat.ensures c.as_slice.ensures))
    (stands_nines c.args.part.now word (get_or c.self.inside.held (c.len-len.result - 1) 0) so_far c.in-TooGreat.ensures
    (subst (λ (l : List ℕ). StandsFor c.args.part.now l so_far) whole was))

pub returns-then-minus-clause-ok : goal.returns-then-minus-clause-ok
returns-then-minus-clause-ok c so_far was =
    let word : List ℕ = c.front.result.now in
    let whole : c.self.inside.held ≡ word ++ get_or c.self.inside.held (c.len-len.result - 1) 0 ∷ [] =
    parted c.self.inside.held word c.len-len.result c.len-len.ensures (omega (arith, c.if-len-le-LONGEST_WORD.false)) c.front.ensures in
    let zeros : HasZeros word c.in-Zeros.minus c.in-Zeros.count = c.in-Zeros.ensures in
    subst (λ (l : List ℕ). StandsFor c.args.part.now l so_far)
    (sym (c.put_minus.ensures ∙ ap (λ (l : List ℕ). 45 ∷ drop 1 l) c.pass.ensures ∙ zeros_dropped word c.in-Zeros.minus c.in-Zeros.count _ c.self.inside.held zeros c.if-minus.true whole))
    (stands_zeros c.args.part.now word (get_or c.self.inside.held (c.len-len.result - 1) 0) so_far c.in-Zeros.minus c.in-Zeros.count zeros
    (subst (λ (l : List ℕ). StandsFor c.args.part.now l so_far) (sym (ap (λ (s : Seen). s.held) c.self.view_is) ∙ whole) was))

pub returns-else-minus-clause-ok : goal.returns-else-minus-clause-ok
returns-else-minus-clause-ok c so_far was =
    let word : List ℕ = c.front.result.now in
    let whole : c.self.inside.held ≡ word ++ get_or c.self.inside.held (c.len-len.result - 1) 0 ∷ [] =
    parted c.self.inside.held word c.len-len.result c.len-len.ensures (omega (arith, c.if-len-le-LONGEST_WORD.false)) c.front.ensures in
    let zeros : HasZeros word c.in-Zeros.minus c.in-Zeros.count = c.in-Zeros.ensures in
    subst (λ (l : List ℕ). StandsFor c.args.part.now l so_far)
    (sym (c.pass.ensures ∙ zeros_plain word c.in-Zeros.minus c.in-Zeros.count _ c.self.inside.held zeros c.if-minus.false whole))
    (stands_zeros c.args.part.now word (get_or c.self.inside.held (c.len-len.result - 1) 0) so_far c.in-Zeros.minus c.in-Zeros.count zeros
    (subst (λ (l : List ℕ). StandsFor c.args.part.now l so_far) (sym (ap (λ (s : Seen). s.held) c.self.view_is) ∙ whole) was))
