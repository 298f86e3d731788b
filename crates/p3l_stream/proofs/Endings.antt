-- The count of words of each item.
use Rattle.std.proofs.Common.{◌≡◌, ℕ, zero, suc, arith, ◌+◌, ℤ, Bool, true, false, List, [], ◌∷◌, All, length, nat_eq, refl, if◌then◌else◌}
use Rattle.std.proofs.lemmas.Map.Views.{exact_unsigned_eq}
use Rattle.std.specs.declared.result.Result.{Result}
use Rattle.std.specs.declared.result.Result.TheVariants.{Ok, Err}
use Rattle.p3l_stream.specs.declared.word.WordFault.{WordFault}
use Rattle.p3l_stream.specs.declared.word.WordFault.TheVariants as fault
use Rattle.p3l_stream.specs.Words.{numbers_of, words_of}
use Rattle.p3l_stream.specs.declared.taken.Cutoff.{Cutoff}
use Rattle.p3l_stream.specs.declared.line.LineContent.{LineContent}
use Rattle.p3l_stream.specs.declared.line.LineContent.TheVariants as line
use Rattle.p3l_stream.specs.declared.items.Ending.{Ending}
use Rattle.p3l_stream.specs.declared.items.Items.{Items}
use Rattle.p3l_stream.specs.Lines.{line_of, lines_of, line_from}
use Rattle.p3l_stream.specs.Items.{put_line, items_of_lines, items_taken, closing}

-- a line that is an item has as many numbers as an item has words
abbrev pub IsWide : ℕ → LineContent → Type 0
IsWide width line.Blank = Unit {0}
IsWide width (line.Item words) = length words ≡ width
IsWide width line.BadWord = Unit {0}
IsWide width (line.WrongCount had) = Unit {0}
IsWide width line.OutOfRange = Unit {0}

counted_wide : (width : ℕ) (numbers : List ℤ) (b : Bool) → nat_eq (length numbers) width ≡ b → IsWide width (if b then line.Item numbers else line.WrongCount (length numbers))
counted_wide width numbers true h = exact_unsigned_eq _ _ h
counted_wide width numbers false h = tt

-- the content of a line is as wide
pub line_wide : (width : ℕ) (numbers : Result (List ℤ) WordFault) → IsWide width (line_from width numbers)
line_wide width (Err fault.Form) = tt
line_wide width (Err fault.Range) = tt
line_wide width (Ok []) = tt
line_wide width (Ok (number ∷ numbers)) = counted_wide width (number ∷ numbers) _ refl

all_none : (width : ℕ) → All (λ (words : List ℤ). length words ≡ width) []
all_none width k d h = absurd (omega arith)

all_cons : (width : ℕ) (first : List ℤ) (rest : List (List ℤ)) → length first ≡ width → All (λ words. length words ≡ width) rest → All (λ words. length words ≡ width) (first ∷ rest)
all_cons width first rest w h zero d below = w
all_cons width first rest w h (suc k) d below = h k d (omega arith)

put_wide : (width : ℕ) (l : LineContent) (number : ℕ) (rest : Items) → IsWide width l → All (λ words. length words ≡ width) rest.items → All (λ words. length words ≡ width) (put_line l number rest).items
put_wide width line.Blank number rest w h = h
put_wide width (line.Item words) number rest w h = all_cons width words rest.items w h
put_wide width line.BadWord number rest w h = all_none width
put_wide width (line.WrongCount had) number rest w h = all_none width
put_wide width line.OutOfRange number rest w h = all_none width

lines_wide : (width number : ℕ) (close : Ending) (lines : List (List ℕ)) → All (λ words. length words ≡ width) (items_of_lines width number close lines).items
lines_wide width number close [] = all_none width
lines_wide width number close (bytes ∷ lines) =
    put_wide width (line_of width bytes) number (items_of_lines width (number + 1) close lines) (line_wide width (numbers_of (words_of bytes))) (lines_wide width (number + 1) close lines)

-- each item has `width` words
pub items_wide : (width : ℕ) (how : Cutoff) (bytes : List ℕ) → All (λ words. length words ≡ width) (items_taken width how bytes).items
items_wide width how bytes = lines_wide width 1 (closing how) (lines_of how bytes)
