-- Lines that are ended after a part of them was read.
use Rattle.std.proofs.Common.{◌≡◌, ℕ, ◌+◌, ◌-◌, ◌<◌, ◌≤◌, ℤ, true, false, Bool, ◌||◌, ◌⊎◌, inl, inr, if◌then◌else◌, List, [], ◌∷◌, ◌++◌, length, take, drop, position, Option, Some, None, Result, Ok, Err, refl, ap, sym, subst, ◌∙◌, arith, append_assoc, append-nil, length-append}
use Rattle.std.specs.Str.Lines.{strip_carriage_return}
use Rattle.p3l_base.specs.Memory.{IfGiven}
use Rattle.p3l_io.specs.Change.{Change}
use Rattle.p3l_stream.specs.declared.line.LineContent.{LineContent}
use Rattle.p3l_stream.specs.declared.line.LineContent.TheVariants as line
use Rattle.p3l_stream.specs.declared.taken.Cutoff.TheVariants as stop
use Rattle.p3l_stream.specs.declared.word.WordFault.{WordFault}
use Rattle.p3l_stream.specs.Ended.{IsLine, ended, held_by}
use Rattle.p3l_stream.specs.Lines.{is_feed, last_line}
use Rattle.p3l_stream.specs.Part.{FitsIn, PartSeen, StandsFor, line_after, no_part, put_all}
use Rattle.p3l_stream.specs.Passing.{EndsLine, MayEndLine, MayPassFilled, MayPassRead, OnlyPasses, PassedBlanks, PassedRead, PassesFilled, PassesLast, PassesLine, TakesPiece, moved_past}
use Rattle.p3l_stream.specs.Seen.{Seen}
use Rattle.p3l_stream.specs.Words.{is_filled, numbers_of, words_of}
use Rattle.p3l_stream.proofs.Blanks.{blank-append, ended-append}
use Rattle.p3l_stream.proofs.Feeds.{PartsAt, front_of_line, parts_at, place, place-line}
use Rattle.p3l_stream.proofs.Parts.{line_after-read, line_append, line_back, line_rest, stands_first, stands_more}
use Rattle.p3l_stream.proofs.Passed.{moved_past-moved_past, passed_blank, passed_filled, passed_none, same_words}

-- the first line feed comes after what is held of the line
pub record EndsIn (held piece first after : List ℕ) : Type 0 where
  pub more : List ℕ
  pub first_is : first ≡ held ++ more
  pub piece_is : piece ≡ more ++ 10 ∷ after

ends_in : (held piece first after : List ℕ) → IsLine held → held ++ piece ≡ first ++ 10 ∷ after → EndsIn held piece first after
ends_in [] piece first after is_line e = record { more = first; first_is = refl; piece_is = e }
ends_in (b ∷ held) piece [] after is_line e =
    let front : (is_feed b ≡ false) × (place held ≡ length held) = front_of_line b held (place-line (b ∷ held) is_line) in
    absurd (let ten : b ≡ 10 = cc in let no : is_feed 10 ≡ false = ap is_feed (sym ten) ∙ front.0 in cc)
ends_in (b ∷ held) piece (c ∷ first) after is_line e =
    let same : b ≡ c = cc in
    let rest : held ++ piece ≡ first ++ 10 ∷ after = cc in
    let is : EndsIn held piece first after = ends_in held piece first after (tail b held is_line) rest in
    record {
      more = is.more;
      first_is = ap (λ (l : List ℕ). c ∷ l) is.first_is ∙ ap (λ (x : ℕ). x ∷ (held ++ is.more)) (sym same);
      piece_is = is.piece_is;
    }
  where
    tail : (b : ℕ) (held : List ℕ) → IsLine (b ∷ held) → IsLine held
    tail b held whole = line_rest (b ∷ []) held whole

-- the line that was ended is the one that was read before
pub ends_line : (old new : Seen) (part : PartSeen) (held so_far piece : List ℕ) (holds : LineContent) → EndsLine old new part holds → part.width ≡ old.words → old.held ≡ held ++ piece → StandsFor part held so_far → PassesLine (record old { held = so_far ++ piece }) new holds
ends_line old new part held so_far piece holds ends width held_is stands =
    let is : EndsIn held piece ends.first new.held = ends_in held piece ends.first new.held stands.held_is (sym held_is ∙ ends.bytes_are) in
    record {
      first = so_far ++ is.more;
      is_line = line_append so_far is.more stands.line_is (line_back held is.more stands.held_is (subst IsLine is.first_is ends.is_line));
      holds_it =
          ap (λ (w : ℕ). held_by w (so_far ++ is.more)) (sym width)
          ∙ stands.holds is.more
          ∙ ap (λ (l : List ℕ). line_after part (numbers_of (words_of (strip_carriage_return l)))) (sym is.first_is)
          ∙ ends.holds_it;
      bytes_are = ap (λ (l : List ℕ). so_far ++ l) is.piece_is ∙ sym (append_assoc so_far is.more (10 ∷ new.held));
      after = ends.after;
    }

-- lines without words before a line that has some
filled_after : (old mid new : Seen) (holds : LineContent) → PassedBlanks old mid → PassesFilled mid new holds → PassesFilled old new holds
filled_after old mid new holds was is =
    let words_are : mid.words ≡ old.words = same_words old mid _ was.after in
    record {
      blanks = was.blanks ++ is.blanks;
      first = is.first;
      are_blank = blank-append old.words was.blanks is.blanks was.are_blank (rw (← words_are) is.are_blank);
      is_line = is.is_line;
      holds_it = ap (λ (w : ℕ). held_by w is.first) (sym words_are) ∙ is.holds_it;
      has_words = is.has_words;
      bytes_are =
          was.bytes_are
          ∙ ap (λ (t : List ℕ). ended was.blanks ++ t) is.bytes_are
          ∙ sym (append_assoc (ended was.blanks) (ended is.blanks) (is.first ++ 10 ∷ new.held))
          ∙ ap (λ (t : List ℕ). t ++ (is.first ++ 10 ∷ new.held)) (sym (ended-append was.blanks is.blanks));
      after = moved_past-moved_past old mid new (length was.blanks) (length is.blanks + 1) _ was.after is.after (omega (arith, length-append was.blanks is.blanks));
    }

-- and before others
blanks_after : (old mid new : Seen) → PassedBlanks old mid → PassedBlanks mid new → PassedBlanks old new
blanks_after old mid new was is =
    let words_are : mid.words ≡ old.words = same_words old mid _ was.after in
    record {
      blanks = was.blanks ++ is.blanks;
      are_blank = blank-append old.words was.blanks is.blanks was.are_blank (rw (← words_are) is.are_blank);
      bytes_are =
          was.bytes_are
          ∙ ap (λ (t : List ℕ). ended was.blanks ++ t) is.bytes_are
          ∙ sym (append_assoc (ended was.blanks) (ended is.blanks) new.held)
          ∙ ap (λ (t : List ℕ). t ++ new.held) (sym (ended-append was.blanks is.blanks));
      after = moved_past-moved_past old mid new (length was.blanks) (length is.blanks) _ was.after is.after (sym (length-append was.blanks is.blanks));
    }

-- each line has a byte at least
ended_length : (lines : List (List ℕ)) → length lines ≤ length (ended lines)
ended_length [] = omega arith
ended_length (bytes ∷ lines) = omega (arith, ended_length lines, length-append bytes (10 ∷ ended lines))

-- the bytes left are of no line that was passed
fits_after : (part : PartSeen) (old mid new : Seen) → FitsIn part old → old.held ≡ old.held → new.words ≡ old.words → new.taken ≡ old.taken → new.passed + length new.held ≤ old.passed + length old.held → FitsIn (no_part part.width) new
fits_after part old mid new fits same words taken fewer = record {
  width = fits.width ∙ sym words;
  count = omega (arith, fits.number);
  number = omega (arith, fits.number);
}

fewer_by_line : (old new : Seen) (part : PartSeen) (holds : LineContent) → EndsLine old new part holds → new.passed + length new.held ≤ old.passed + length old.held
fewer_by_line old new part holds ends =
    omega (arith, ap (λ (s : Seen). s.passed) ends.after, ap length ends.bytes_are, length-append ends.first (10 ∷ new.held))

fewer_by_blanks : (old new : Seen) → PassedBlanks old new → new.passed + length new.held ≤ old.passed + length old.held
fewer_by_blanks old new is =
    omega (arith, ap (λ (s : Seen). s.passed) is.after, ap length is.bytes_are, length-append (ended is.blanks) new.held, ended_length is.blanks)

-- the line isn't ended
pub reads_none : (old new : Seen) (part now : PartSeen) (held so_far piece : List ℕ) → MayEndLine old new part now None → FitsIn part old → old.held ≡ held ++ piece → StandsFor part held so_far → PassedRead (record old { held = so_far ++ piece }) new now
reads_none old new part now held so_far piece is fits held_is stands =
    rw (is.1, is.2) (record {
      so_far = so_far ++ piece;
      passed = passed_none (record old { held = so_far ++ piece });
      stands = rw held_is (stands_more part held so_far piece stands (subst IsLine held_is is.0));
      fits = fits;
    })

-- the line has words
pub reads_filled : (old new : Seen) (part now : PartSeen) (held so_far piece : List ℕ) (holds : LineContent) → MayEndLine old new part now (Some holds) → FitsIn part old → old.held ≡ held ++ piece → StandsFor part held so_far → ¬ (holds ≡ line.Blank) → PassesFilled (record old { held = so_far ++ piece }) new holds
reads_filled old new part now held so_far piece holds is fits held_is stands filled =
    let old' : Seen = record old { held = so_far ++ piece } in
    passed_filled old' old' new holds (passed_none old') (ends_line old new part held so_far piece holds is.0 fits.width held_is stands) filled

-- the line has none, and then come others
pub reads_blank : (old mid new : Seen) (part now : PartSeen) (held so_far piece : List ℕ) (holds : LineContent) (o : Option LineContent) → MayEndLine old mid part now (Some holds) → FitsIn part old → old.held ≡ held ++ piece → StandsFor part held so_far → holds ≡ line.Blank → MayPassFilled mid new o
    → MayPassRead (record old { held = so_far ++ piece }) new now o
reads_blank old mid new part now held so_far piece holds None is fits held_is stands blank passed =
    let old' : Seen = record old { held = so_far ++ piece } in
    let before : PassedBlanks old' mid = passed_blank old' old' mid holds (passed_none old') (ends_line old mid part held so_far piece holds is.0 fits.width held_is stands) blank in
    let words : new.words ≡ old.words = ap (λ (s : Seen). s.words) passed.0.after ∙ ap (λ (s : Seen). s.words) is.0.after in
    let taken : new.taken ≡ old.taken = ap (λ (s : Seen). s.taken) passed.0.after ∙ ap (λ (s : Seen). s.taken) is.0.after in
    let first : mid.passed + length mid.held ≤ old.passed + length old.held = fewer_by_line old mid part holds is.0 in
    let others : new.passed + length new.held ≤ mid.passed + length mid.held = fewer_by_blanks mid new passed.0 in
    rw is.1 (record {
      so_far = new.held;
      passed = blanks_after old' mid new before passed.0;
      stands = stands_first part.width new.held passed.1;
      fits = fits_after part old mid new fits refl words taken (omega arith);
    })
reads_blank old mid new part now held so_far piece holds (Some l) is fits held_is stands blank passed =
    let old' : Seen = record old { held = so_far ++ piece } in
    let before : PassedBlanks old' mid = passed_blank old' old' mid holds (passed_none old') (ends_line old mid part held so_far piece holds is.0 fits.width held_is stands) blank in
    filled_after old' mid new l before passed

last_count : (bytes : List ℕ) → length (last_line stop.End bytes) ≡ (if is_filled bytes then 1 else 0)
last_count [] = refl
last_count (byte ∷ bytes) = refl

-- the last line
pub reads_last : (old new : Seen) (part now : PartSeen) (so_far : List ℕ) (holds : LineContent) → FitsIn part old → StandsFor part old.held so_far → line_after part (numbers_of (words_of (strip_carriage_return old.held))) ≡ holds
    → new ≡ moved_past old (if part.begun || is_filled old.held then 1 else 0) [] → PassesLast (record old { held = so_far }) new holds
reads_last old new part now so_far holds fits stands holds_is after = record {
  holds_it =
      ap (λ (w : ℕ). held_by w so_far) (sym fits.width)
      ∙ ap (held_by part.width) (sym (append-nil so_far))
      ∙ stands.holds []
      ∙ ap (λ (l : List ℕ). line_after part (numbers_of (words_of (strip_carriage_return l)))) (append-nil old.held)
      ∙ holds_is;
  after =
      after
      ∙ ap (λ (b : Bool). moved_past old (if b then 1 else 0) []) (sym stands.begun)
      ∙ ap (λ (n : ℕ). moved_past old n []) (sym (last_count so_far));
}

-- a piece comes after the line so far
pub takes_so_far : (old new : Seen) (source : Change (List ℕ)) (piece held so_far held' : List ℕ) → TakesPiece old new source piece held → TakesPiece (record old { held = so_far }) (record new { held = held' }) source piece held'
takes_so_far old new source piece held so_far held' took = record {
  short = took.short;
  after = ap (λ (s : Seen). record s { held = held' }) took.after;
  within = took.within;
  below = took.below;
  given = took.given;
  all = took.all;
}

-- the first line is ended here, and its other words were read
pub ended_here : (old new : Seen) (part now : PartSeen) (end : ℕ) (bytes : List ℕ) (holds : LineContent) → Some end ≡ position is_feed old.held
    → ((others : Result (List ℤ) WordFault) → line_after part (put_all (numbers_of (words_of bytes)) others) ≡ line_after now others) → holds ≡ line_after now (Ok []) → bytes ≡ strip_carriage_return (take end old.held)
    → new ≡ moved_past old 1 (drop (end + 1) old.held) → EndsLine old new part holds
ended_here old new part now end bytes holds found read holds_is bytes_are passed =
    let parts : PartsAt old.held end = parts_at old.held end found in
    rw passed (record {
      first = take end old.held;
      is_line = parts.is_line;
      holds_it = line_after-read part now bytes (take end old.held) holds read holds_is bytes_are;
      bytes_are = parts.whole;
      after = refl;
    })

-- a fact of each value that was given
pub given_all : {T E : Type 0} (r : Result T E) (P Q : T → Type 0) → IfGiven r P → ((x : T) → P x → Q x) → IfGiven r Q
given_all (Ok x) P Q is all = all x is
given_all (Err e) P Q is all = is

-- with a piece more, each word that was read still has a byte, and each line
pub fits_piece : (part : PartSeen) (old new : Seen) (source : Change (List ℕ)) (piece : List ℕ) → FitsIn part old → TakesPiece old new source piece (old.held ++ piece) → FitsIn part new
fits_piece part old new source piece fits took =
    let taken : new.taken ≡ old.taken + length piece = ap (λ (s : Seen). s.taken) took.after in
    let passed : new.passed ≡ old.passed = ap (λ (s : Seen). s.passed) took.after in
    let size : length new.held ≡ length old.held + length piece = ap (λ (s : Seen). length s.held) took.after ∙ length-append old.held piece in
    record {
      width = fits.width ∙ sym (ap (λ (s : Seen). s.words) took.after);
      count = omega (arith, fits.count);
      number = omega (arith, fits.number);
    }

-- no line with words is ended
pub is_read : (old new : Seen) (part : PartSeen) (o : Option LineContent) → MayPassRead old new part o → o ≡ None → PassedRead old new part
is_read old new part None passes e = passes
is_read old new part (Some l) passes e = absurd cc

-- or one is
pub is_filled_read : (old new : Seen) (part : PartSeen) (o : Option LineContent) (holds : LineContent) → MayPassRead old new part o → o ≡ Some holds → PassesFilled old new holds
is_filled_read old new part None holds passes e = absurd cc
is_filled_read old new part (Some l) holds passes e = let same : l ≡ holds = cc in rw (← same) passes

-- the case that nothing was read of a line
pub fits_first : (s : Seen) (width : ℕ) → width ≡ s.words → s.passed + length s.held ≤ s.taken → FitsIn (no_part width) s
fits_first s width is within = record { width = is; count = omega (arith, within); number = omega (arith, within) }

-- other bytes are held
pub holds_only : (old new : Seen) (so_far : List ℕ) → new ≡ record old { held = new.held } → OnlyPasses (record old { held = so_far }) new
holds_only old new so_far is = is ∙ ap (λ (n : ℕ). record old { held = new.held; passed = n }) (sym (ap (λ (s : Seen). s.passed) is))

pub holds_so_far : (old new : Seen) (so_far : List ℕ) → new ≡ record old { held = new.held } → record new { held = so_far } ≡ record old { held = so_far }
holds_so_far old new so_far is = ap (λ (s : Seen). record s { held = so_far }) is

-- each piece brings the end nearer
pub nearer : (now mid past new : Seen) (source : Change (List ℕ)) (piece held so_far : List ℕ) (part : PartSeen) → now.at_end ≡ false → TakesPiece now mid source piece held → ((0 < length piece) ⊎ (mid.at_end ≡ true))
    → PassedRead (record mid { held = so_far }) past part → new ≡ record past { held = new.held } → (new.limit - new.taken) + (if new.at_end then 0 else 1) < (now.limit - now.taken) + (if now.at_end then 0 else 1)
nearer now mid past new source piece held so_far part is_open took moves read is =
    let taken : new.taken ≡ now.taken + length piece = ap (λ (s : Seen). s.taken) is ∙ ap (λ (s : Seen). s.taken) read.passed.after ∙ ap (λ (s : Seen). s.taken) took.after in
    let limit : new.limit ≡ now.limit = ap (λ (s : Seen). s.limit) is ∙ ap (λ (s : Seen). s.limit) read.passed.after ∙ ap (λ (s : Seen). s.limit) took.after in
    let ends : new.at_end ≡ mid.at_end = ap (λ (s : Seen). s.at_end) is ∙ ap (λ (s : Seen). s.at_end) read.passed.after in
    let within : mid.taken ≤ mid.limit = took.within in
    let mid_taken : mid.taken ≡ now.taken + length piece = ap (λ (s : Seen). s.taken) took.after in
    let mid_limit : mid.limit ≡ now.limit = ap (λ (s : Seen). s.limit) took.after in
    let later : ◌≡◌ {A = ℕ} (if now.at_end then 0 else 1) 1 = ap (λ (b : Bool). if b then 0 else 1) is_open in
    by mid.at_end (ap (λ (b : Bool). if b then 0 else 1) ends) moves taken limit (omega (arith, within, mid_taken, mid_limit)) later
  where
    by : (b : Bool) → ◌≡◌ {A = ℕ} (if new.at_end then 0 else 1) (if b then 0 else 1) → ((0 < length piece) ⊎ (b ≡ true)) → new.taken ≡ now.taken + length piece → new.limit ≡ now.limit → now.taken + length piece ≤ now.limit → ◌≡◌ {A = ℕ} (if now.at_end then 0 else 1) 1
        → (new.limit - new.taken) + (if new.at_end then 0 else 1) < (now.limit - now.taken) + (if now.at_end then 0 else 1)
    by true count moves taken limit within later = omega (arith, count, taken, limit, within, later)
    by false count (inl some) taken limit within later = omega (arith, count, some, taken, limit, within, later)
    by false count (inr ends) taken limit within later = absurd cc
