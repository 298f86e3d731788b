-- Lines that were passed, one after another.
use Rattle.std.proofs.Common.{◌≡◌, ℕ, ◌+◌, ◌<◌, List, [], ◌∷◌, ◌++◌, length, take, drop, position, Option, Some, None, refl, ap, sym, ◌∙◌, arith, append_assoc, length-append}
use Rattle.p3l_stream.specs.declared.line.LineContent.{LineContent}
use Rattle.p3l_stream.specs.declared.line.LineContent.TheVariants as line
use Rattle.p3l_stream.specs.Ended.{IsLine, ended, held_by}
use Rattle.p3l_stream.specs.Lines.{is_feed}
use Rattle.p3l_stream.specs.Passing.{MayPassLine, OnlyPasses, PassedBlanks, PassesFilled, PassesLine, moved_past}
use Rattle.p3l_stream.specs.Seen.{Seen}
use Rattle.p3l_stream.proofs.Blanks.{blank-append, ended-append}
use Rattle.p3l_stream.proofs.Feeds.{PartsAt, parts_at}

-- the first line was passed, which is ended at this place
pub passes_to : (old new : Seen) (end : ℕ) (holds : LineContent) → Some end ≡ position is_feed old.held → held_by old.words (take end old.held) ≡ holds → new ≡ moved_past old 1 (drop (end + 1) old.held) → PassesLine old new holds
passes_to old new end holds found is passed =
    let parts : PartsAt old.held end = parts_at old.held end found in
    rw passed (record { first = take end old.held; is_line = parts.is_line; holds_it = is; bytes_are = parts.whole; after = refl })

-- nothing was passed yet
pub passed_none : (s : Seen) → PassedBlanks s s
passed_none s = record { blanks = []; are_blank = tt; bytes_are = refl; after = ap (λ n. record s { passed = n }) (omega arith) }

-- lines after lines were passed
pub moved_past-moved_past : (s now new : Seen) (m n k : ℕ) → now ≡ moved_past s m now.held → new ≡ moved_past now n new.held → m + n ≡ k → new ≡ moved_past s k new.held
moved_past-moved_past s now new m n k was is sum =
    let count : s.passed + m + n ≡ s.passed + k = omega arith in
    is ∙ ap (λ (x : Seen). moved_past x n new.held) was ∙ ap (λ (p : ℕ). record s { held = new.held; passed = p }) count

-- the width stays
pub same_words : (s now : Seen) (n : ℕ) → now ≡ moved_past s n now.held → now.words ≡ s.words
same_words s now n is = ap (λ (x : Seen). x.words) is

-- the first line of what is left was passed, which has no words
pub passed_blank : (old now new : Seen) (holds : LineContent) → PassedBlanks old now → PassesLine now new holds → holds ≡ line.Blank → PassedBlanks old new
passed_blank old now new holds was is blank = record {
  blanks = was.blanks ++ is.first ∷ [];
  are_blank = blank-append old.words was.blanks (is.first ∷ []) was.are_blank (is.is_line, ap (λ (w : ℕ). held_by w is.first) (sym (same_words old now _ was.after)) ∙ is.holds_it ∙ blank, tt);
  bytes_are =
      was.bytes_are
      ∙ ap (λ (t : List ℕ). ended was.blanks ++ t) (is.bytes_are ∙ sym (append_assoc is.first (10 ∷ []) new.held))
      ∙ sym (append_assoc (ended was.blanks) (is.first ++ 10 ∷ []) new.held)
      ∙ ap (λ (t : List ℕ). t ++ new.held) (sym (ended-append was.blanks (is.first ∷ [])));
  after = moved_past-moved_past old now new (length was.blanks) 1 _ was.after is.after (sym (length-append was.blanks (is.first ∷ [])));
}

-- the first line of what is left was passed, which has words
pub passed_filled : (old now new : Seen) (holds : LineContent) → PassedBlanks old now → PassesLine now new holds → ¬ (holds ≡ line.Blank) → PassesFilled old new holds
passed_filled old now new holds was is filled = record {
  blanks = was.blanks;
  first = is.first;
  are_blank = was.are_blank;
  is_line = is.is_line;
  holds_it = ap (λ (w : ℕ). held_by w is.first) (sym (same_words old now _ was.after)) ∙ is.holds_it;
  has_words = filled;
  bytes_are = was.bytes_are ∙ ap (λ (t : List ℕ). ended was.blanks ++ t) is.bytes_are;
  after = moved_past-moved_past old now new (length was.blanks) 1 _ was.after is.after refl;
}

-- a line that was passed is one
pub is_passed : (old new : Seen) (o : Option LineContent) (holds : LineContent) → MayPassLine old new o → o ≡ Some holds → PassesLine old new holds
is_passed old new None holds is e = absurd cc
is_passed old new (Some l) holds is e = let same : l ≡ holds = cc in rw (← same) is

-- at least one byte less is left
pub fewer_left : (old new : Seen) (holds : LineContent) → PassesLine old new holds → length new.held < length old.held
fewer_left old new holds is = omega (arith, ap length is.bytes_are, length-append is.first (10 ∷ new.held))

-- no line is ended any more
pub passed_all : (old now new : Seen) (o : Option LineContent) → PassedBlanks old now → MayPassLine now new o → o ≡ None → PassedBlanks old new × IsLine new.held
passed_all old now new None was is e = (rw is.1 was, rw is.1 is.0)
passed_all old now new (Some l) was is e = absurd cc

-- only lines were passed
pub only_passes : (old now new : Seen) → PassedBlanks old now → new ≡ now → OnlyPasses old new
only_passes old now new was is = rw is (was.after ∙ ap (λ (p : ℕ). record old { held = now.held; passed = p }) (sym (ap (λ (x : Seen). x.passed) was.after)))
