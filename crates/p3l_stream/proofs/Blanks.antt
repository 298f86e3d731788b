-- Ended lines one after the other.
use Rattle.std.proofs.Common.{◌≡◌, ℕ, List, [], ◌∷◌, ◌++◌, refl, ap, sym, ◌∙◌, append_assoc}
use Rattle.p3l_stream.specs.Ended.{AreBlank, ended}

-- lines after lines
pub ended-append : (xs ys : List (List ℕ)) → ended (xs ++ ys) ≡ ended xs ++ ended ys
ended-append [] ys = refl
ended-append (x ∷ xs) ys = ap (λ (t : List ℕ). x ++ 10 ∷ t) (ended-append xs ys) ∙ sym (append_assoc x (10 ∷ ended xs) (ended ys))

pub blank-append : (width : ℕ) (xs ys : List (List ℕ)) → AreBlank width xs → AreBlank width ys → AreBlank width (xs ++ ys)
blank-append width [] ys all more = more
blank-append width (x ∷ xs) ys all more = (all.0, all.1, blank-append width xs ys all.2 more)

-- bytes after lines, and lines before them
pub bytes-after : (xs ys : List (List ℕ)) (bytes held more piece after : List ℕ) → bytes ≡ ended xs ++ held → held ++ piece ≡ ended ys ++ after → more ≡ bytes ++ piece → more ≡ ended (xs ++ ys) ++ after
bytes-after xs ys bytes held more piece after was now is =
    is
    ∙ ap (λ (t : List ℕ). t ++ piece) was
    ∙ append_assoc (ended xs) held piece
    ∙ ap (λ (t : List ℕ). ended xs ++ t) now
    ∙ sym (append_assoc (ended xs) (ended ys) after)
    ∙ ap (λ (t : List ℕ). t ++ after) (sym (ended-append xs ys))
