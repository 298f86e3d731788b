-- The items of lines that come after one another.
use Rattle.std.proofs.Common.{◌≡◌, ◌≢◌, ℕ, suc, ◌+◌, List, [], ◌∷◌, ◌++◌, length, take, drop, Some, position, refl, ap, sym, ◌∙◌, arith, append_assoc}
use Rattle.std.specs.Str.Lines.{strip_carriage_return}
use Rattle.p3l_stream.specs.declared.items.Ending.{Ending}
use Rattle.p3l_stream.specs.declared.line.LineContent.{LineContent}
use Rattle.p3l_stream.specs.declared.line.LineContent.TheVariants as line
use Rattle.p3l_stream.specs.declared.taken.Cutoff.{Cutoff}
use Rattle.p3l_stream.specs.declared.taken.Cutoff.TheVariants as stop
use Rattle.p3l_stream.specs.declared.items.Items.{Items}
use Rattle.p3l_stream.specs.Ended.{AreBlank, IsLine, ended, held_by}
use Rattle.p3l_stream.specs.Items.{items_of_lines, put_line}
use Rattle.p3l_stream.specs.Lines.{is_feed, last_line, lines_of}
use Rattle.p3l_stream.proofs.Feeds.{place, place-after, place-line, position-at}
use Rattle.p3l_stream.proofs.LinesApart.{lines_of-feed, lines_of-last}

take-front : (first more : List ℕ) → take (length first) (first ++ more) ≡ first
take-front [] more = refl
take-front (byte ∷ first) more = ap (λ (l : List ℕ). byte ∷ l) (take-front first more)

drop-front : (first after : List ℕ) → drop (length first + 1) (first ++ 10 ∷ after) ≡ after
drop-front [] after = refl
drop-front (byte ∷ first) after =
    let next : suc (length first) + 1 ≡ suc (length first + 1) = omega arith in
    ap (λ n. drop n (byte ∷ (first ++ 10 ∷ after))) next ∙ drop-front first after

longer : (first after : List ℕ) → length (first ++ 10 ∷ after) ≡ length first + (length after + 1)
longer [] after = omega arith
longer (byte ∷ first) after = (let rest = longer first after in omega arith)

-- an ended line comes before the lines after it
pub lines_of-ended : (how : Cutoff) (first after : List ℕ) → IsLine first → lines_of how (first ++ 10 ∷ after) ≡ strip_carriage_return first ∷ lines_of how after
lines_of-ended how first after is_line =
    let bytes : List ℕ = first ++ 10 ∷ after in
    let at : place bytes ≡ length first = place-after first (10 ∷ after) (place-line first is_line) ∙ omega arith in
    let size : length bytes ≡ length first + (length after + 1) = longer first after in
    let found : position is_feed bytes ≡ Some (place bytes) = position-at bytes (omega arith) in
    lines_of-feed how bytes (length first) (sym (found ∙ ap (λ (n : ℕ). Some n) at))
    ∙ ap (λ (l : List ℕ). strip_carriage_return l ∷ lines_of how (drop (length first + 1) bytes)) (take-front first (10 ∷ after))
    ∙ ap (λ (l : List ℕ). strip_carriage_return first ∷ lines_of how l) (drop-front first after)

-- the items of the lines of bytes, numbered from here on
abbrev pub items_from : ℕ → ℕ → Ending → Cutoff → List ℕ → Items
items_from width number close how bytes = items_of_lines width number close (lines_of how bytes)

-- an ended line, and what it holds
pub items_ended : (width number : ℕ) (close : Ending) (how : Cutoff) (first after : List ℕ) (holds : LineContent) → IsLine first → held_by width first ≡ holds →
    items_from width number close how (first ++ 10 ∷ after) ≡ put_line holds number (items_from width (number + 1) close how after)
items_ended width number close how first after holds is_line is =
    ap (items_of_lines width number close) (lines_of-ended how first after is_line) ∙ ap (λ (l : LineContent). put_line l number (items_from width (number + 1) close how after)) is

-- lines without words give no item
pub items_after : (width number : ℕ) (close : Ending) (how : Cutoff) (blanks : List (List ℕ)) (rest : List ℕ) → AreBlank width blanks →
    items_from width number close how (ended blanks ++ rest) ≡ items_from width (number + length blanks) close how rest
items_after width number close how [] rest blank = ap (λ (k : ℕ). items_from width k close how rest) (omega arith)
items_after width number close how (b ∷ bs) rest blank =
    let same : number + 1 + length bs ≡ number + suc (length bs) = omega arith in
    ap (items_from width number close how) (append_assoc b (10 ∷ ended bs) rest)
    ∙ items_ended width number close how b (ended bs ++ rest) line.Blank blank.0 blank.1
    ∙ items_after width (number + 1) close how bs rest blank.2
    ∙ ap (λ (k : ℕ). items_from width k close how rest) same

nothing : (how : Cutoff) → lines_of how [] ≡ []
nothing stop.End = refl
nothing stop.Fault = refl
nothing stop.Limit = refl

-- a line that the end of the input ends, and what it holds
pub items_last : (width number : ℕ) (close : Ending) (first : List ℕ) (holds : LineContent) → IsLine first → held_by width first ≡ holds → holds ≢ line.Blank →
    items_from width number close stop.End first ≡ put_line holds number (items_from width (number + 1) close stop.End [])
items_last width number close [] holds is_line is filled = absurd (filled (sym is))
items_last width number close (byte ∷ first) holds is_line is filled =
    ap (items_of_lines width number close) (lines_of-last stop.End (byte ∷ first) (sym is_line))
    ∙ ap (λ (l : LineContent). put_line l number (items_of_lines width (number + 1) close [])) is

-- the same of a line without words, or of no byte
pub items_none : (width number : ℕ) (close : Ending) (part : List ℕ) → IsLine part → held_by width part ≡ line.Blank →
    items_from width number close stop.End part ≡ record { items = []; ending = close }
items_none width number close [] is_line is = refl
items_none width number close (byte ∷ part) is_line is =
    ap (items_of_lines width number close) (lines_of-last stop.End (byte ∷ part) (sym is_line))
    ∙ ap (λ (l : LineContent). put_line l number (items_of_lines width (number + 1) close [])) is

-- a part of a line is dropped where the input isn't at its end
pub items_dropped : (width number : ℕ) (close : Ending) (how : Cutoff) (part : List ℕ) → IsLine part → last_line how part ≡ [] →
    items_from width number close how part ≡ record { items = []; ending = close }
items_dropped width number close how part is_line drops = ap (items_of_lines width number close) (lines_of-last how part (sym is_line) ∙ drops)
