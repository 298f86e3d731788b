use Rattle.std.proofs.Common.{◌≡◌, ℕ, ℤ, ◌-◌, ◌<◌, true, List, length, length-drop, get_or, take, drop, Ok, w64, to_z, of_z, sym, ap, ◌∙◌, arith}
use Rattle.std.proofs.lemmas.Int.{to_z-of_z}
use Rattle.std.proofs.lemmas.List.{take_all}
use Rattle.p3l_stream.proofs.Numerals.{IsFirstNumber-plain, number_fits}
use Rattle.p3l_stream.specs.Words.{is_blank}
use Rattle.p3l_stream.proofs.word.plain_number.Goals.{else-found-rest-via-then-found-rest+else-not-separates_words, else-found-rest-via-else-found-rest}
use Rattle.p3l_stream.proofs.word.plain_number.Goals as goal

pub returns : goal.returns
returns c =
    let bytes : List ℕ = c.args.bytes.now in
    let start : ℕ = c.in_ok-start.start in
    let rest : List ℕ = take (length bytes - start) (drop start bytes) in
    let len : ℕ = c.in_ok-found.found.len in
    let number : ℤ = c.in_ok-found.found.number in
    let same : number ≡ to_z w64 (of_z w64 number) = sym (to_z-of_z w64 number (number_fits (take len rest) number c.in_ok-found.ensures.number)) in
    let ends : len < length rest → is_blank (get_or rest len 0) ≡ true =
    elim c.else-found-rest.branch [
      | else-found-rest-via-then-found-rest+else-not-separates_words w ↦ λ below. sym w.separates_words.ensures ∙ w.if-not-separates_words.false
      | else-found-rest-via-else-found-rest w ↦ λ below. absurd (omega arith)
    ] in
    IsFirstNumber-plain bytes start rest len (to_z w64 (of_z w64 number)) _ c.in_ok-start.ensures
    (take_all _ _ (omega (arith, length-drop {A = ℕ})))
    c.in_ok-found.ensures.within (c.in_ok-found.ensures.number ∙ ap Ok same) ends (take_all _ _ (omega (arith, length-drop len rest)))
