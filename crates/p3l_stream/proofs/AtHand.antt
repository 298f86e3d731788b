-- Lines at hand, before pieces are taken.
use Rattle.std.proofs.Common.{◌≡◌, ◌≢◌, ℕ, ◌+◌, ◌<◌, ◌≤◌, true, false, List, [], ◌∷◌, ◌++◌, length, Option, Result, Ok, Err, refl, ap, sym, ◌∙◌, inl, arith, append_assoc, append-nil, length-append}
use Rattle.p3l_base.specs.declared.NoMemory.{NoMemory}
use Rattle.p3l_io.specs.Change.{Change, Observation, change}
use Rattle.p3l_stream.specs.declared.line.LineContent.{LineContent}
use Rattle.p3l_stream.specs.declared.line.LineContent.TheVariants as line
use Rattle.p3l_stream.specs.declared.items.Ending.TheVariants as ending
use Rattle.p3l_stream.specs.Answers.{AnswerOf, Answers, FindsLine, RunsOut, answer_for}
use Rattle.p3l_stream.specs.Ended.{AreBlank, HasLine, IsLine, ended, held_by}
use Rattle.p3l_stream.specs.Lines.{is_feed}
use Rattle.p3l_stream.specs.Passing.{PassedBlanks, PassesFilled}
use Rattle.p3l_stream.specs.Seen.{Answer, Seen}
use Rattle.p3l_stream.proofs.Blanks.{blank-append, bytes-after}
use Rattle.p3l_stream.proofs.Feeds.{fewer_after, front_of_line, place, place-line}
use Rattle.p3l_stream.proofs.Reading.{answers_line, passes_only, takes_none, takes_passing}

-- a line with words is at hand
pub finds_at_hand : (old new : Seen) (rest : Observation (List ℕ)) (holds : LineContent) (answer : Answer) → old.taken ≤ old.limit → (old.at_end ≡ true → old.taken < old.limit) → PassesFilled old new holds → answer ≡ answer_for holds new.passed → Answers old new (change rest rest) (Ok answer)
finds_at_hand old new rest holds answer within below passed is = record {
  got = [];
  takes = takes_passing old old new (change rest rest) [] (takes_none old rest within below) (passes_only old new _ _ passed.after);
  answer = answers_line old new _ holds answer passed.has_words (record {
    blanks = passed.blanks;
    first = passed.first;
    after_blanks = passed.first ++ 10 ∷ new.held;
    are_blank = passed.are_blank;
    is_line = passed.is_line;
    holds_it = passed.holds_it;
    bytes_are = append-nil old.held ∙ passed.bytes_are;
    stands = inl refl;
    counted = ap (λ (s : Seen). s.passed) passed.after;
  }) is;
}

-- lines without words come before a line that is found
finds_after : (old mid new : Seen) (got : List ℕ) (holds : LineContent) → PassedBlanks old mid → FindsLine mid new (mid.held ++ got) holds → FindsLine old new (old.held ++ got) holds
finds_after old mid new got holds passed found =
    let words_are : mid.words ≡ old.words = ap (λ (s : Seen). s.words) passed.after in
    let before : mid.passed ≡ old.passed + length passed.blanks = ap (λ (s : Seen). s.passed) passed.after in
    record {
      blanks = passed.blanks ++ found.blanks;
      first = found.first;
      after_blanks = found.after_blanks;
      are_blank = blank-append old.words passed.blanks found.blanks passed.are_blank (rw (← words_are) found.are_blank);
      is_line = found.is_line;
      holds_it = ap (λ (w : ℕ). held_by w found.first) (sym words_are) ∙ found.holds_it;
      bytes_are = bytes-after passed.blanks found.blanks old.held mid.held _ got found.after_blanks passed.bytes_are found.bytes_are refl;
      stands = found.stands;
      counted = omega (arith, length-append passed.blanks found.blanks, found.counted);
    }

runs_after : (old mid : Seen) (now count : ℕ) (got part : List ℕ) → PassedBlanks old mid → RunsOut mid.words mid.passed now count (mid.held ++ got) part → RunsOut old.words old.passed now count (old.held ++ got) part
runs_after old mid now count got part passed out =
    let words_are : mid.words ≡ old.words = ap (λ (s : Seen). s.words) passed.after in
    let before : mid.passed ≡ old.passed + length passed.blanks = ap (λ (s : Seen). s.passed) passed.after in
    record {
      blanks = passed.blanks ++ out.blanks;
      are_blank = blank-append old.words passed.blanks out.blanks passed.are_blank (rw (← words_are) out.are_blank);
      is_line = out.is_line;
      bytes_are = bytes-after passed.blanks out.blanks old.held mid.held _ got part passed.bytes_are out.bytes_are refl;
      counted = omega (arith, length-append passed.blanks out.blanks, out.counted);
    }

answer_after : (old mid new : Seen) (got : List ℕ) (result : Result Answer NoMemory) → PassedBlanks old mid → AnswerOf mid new (mid.held ++ got) result → AnswerOf old new (old.held ++ got) result
answer_after old mid new got (Ok (Ok words)) passed found = finds_after old mid new got _ passed found
answer_after old mid new got (Ok (Err ending.End)) passed found = (
  (
    found.0.0,
    runs_after old mid new.passed _ got found.0.0 passed found.0.1,
    ap (λ (w : ℕ). held_by w found.0.0) (sym (ap (λ (s : Seen). s.words) passed.after)) ∙ found.0.2,
    found.0.3,
  ),
  found.1,
)
answer_after old mid new got (Ok (Err (ending.BadWord number))) passed found = (finds_after old mid new got _ passed found.0, found.1)
answer_after old mid new got (Ok (Err (ending.WrongCount number had))) passed found = (finds_after old mid new got _ passed found.0, found.1)
answer_after old mid new got (Ok (Err (ending.OutOfRange number))) passed found = (finds_after old mid new got _ passed found.0, found.1)
answer_after old mid new got (Ok (Err ending.ReadFault)) passed found = ((found.0.0, runs_after old mid new.passed 0 got found.0.0 passed found.0.1, found.0.2), found.1, found.2)
answer_after old mid new got (Ok (Err ending.TooLong)) passed found = ((found.0.0, runs_after old mid new.passed 0 got found.0.0 passed found.0.1, found.0.2), found.1)
answer_after old mid new got (Err e) passed found = tt

-- an answer after lines without words at hand
pub answers_after : (old mid new : Seen) (source : Change (List ℕ)) (result : Result Answer NoMemory) → PassedBlanks old mid → Answers mid new source result → Answers old new source result
answers_after old mid new source result passed is =
    let taken_is : mid.taken ≡ old.taken = ap (λ (s : Seen). s.taken) passed.after in
    let end_is : mid.at_end ≡ old.at_end = ap (λ (s : Seen). s.at_end) passed.after in
    record {
      got = is.got;
      takes = record {
        same_words = is.takes.same_words ∙ ap (λ (s : Seen). s.words) passed.after;
        same_limit = is.takes.same_limit ∙ ap (λ (s : Seen). s.limit) passed.after;
        counted = is.takes.counted ∙ ap (λ (n : ℕ). n + length is.got) taken_is;
        within = is.takes.within;
        below = is.takes.below;
        given = is.takes.given;
        once = λ ends. is.takes.once (end_is ∙ ends);
        all = λ begins ends. is.takes.all (end_is ∙ begins) ends;
      };
      answer = answer_after old mid new is.got result passed is.answer;
    }

-- bytes have one first line
one_first : (x y u v : List ℕ) → place x ≡ length x → place y ≡ length y → x ++ 10 ∷ u ≡ y ++ 10 ∷ v → (x ≡ y) × (u ≡ v)
one_first [] [] u v px py e = (refl, cc)
one_first [] (b ∷ y) u v px py e =
    let front : (is_feed b ≡ false) × (place y ≡ length y) = front_of_line b y py in
    let ten : 10 ≡ b = cc in absurd (let no : true ≡ false = ap is_feed ten ∙ front.0 in cc)
one_first (a ∷ x) [] u v px py e =
    let front : (is_feed a ≡ false) × (place x ≡ length x) = front_of_line a x px in
    let ten : 10 ≡ a = cc in absurd (let no : true ≡ false = ap is_feed ten ∙ front.0 in cc)
one_first (a ∷ x) (b ∷ y) u v px py e =
    let fa : (is_feed a ≡ false) × (place x ≡ length x) = front_of_line a x px in
    let fb : (is_feed b ≡ false) × (place y ≡ length y) = front_of_line b y py in
    let same : a ≡ b = cc in
    let tails : x ++ 10 ∷ u ≡ y ++ 10 ∷ v = cc in
    let rest : (x ≡ y) × (u ≡ v) = one_first x y u v fa.1 fb.1 tails in
    (ap (λ (l : List ℕ). a ∷ l) rest.0 ∙ ap (λ (n : ℕ). n ∷ y) same, rest.1)

-- bytes whose ended lines have no words have no ended line with words
none_among : (width : ℕ) (bs cs : List (List ℕ)) (part first after : List ℕ) → AreBlank width bs → AreBlank width cs → IsLine part → IsLine first → held_by width first ≢ line.Blank → ended bs ++ part ≡ ended cs ++ (first ++ 10 ∷ after) → ⊥
none_among width [] cs part first after bb cb lp lf filled e =
    let few : length after < 0 = fewer_after part [] (ended cs ++ first) after (place-line part lp) (append-nil part ∙ e ∙ sym (append_assoc (ended cs) first (10 ∷ after))) in
    absurd (omega arith)
none_among width (b ∷ bs) [] part first after bb cb lp lf filled e =
    let same : (b ≡ first) × (ended bs ++ part ≡ after) = one_first b first _ after (place-line b bb.0) (place-line first lf) (sym (append_assoc b (10 ∷ ended bs) part) ∙ e) in
    filled (ap (held_by width) (sym same.0) ∙ bb.1)
none_among width (b ∷ bs) (c ∷ cs) part first after bb cb lp lf filled e =
    let same : (b ≡ c) × (ended bs ++ part ≡ ended cs ++ (first ++ 10 ∷ after)) =
    one_first b c _ _ (place-line b bb.0) (place-line c cb.0) (sym (append_assoc b (10 ∷ ended bs) part) ∙ e ∙ append_assoc c (10 ∷ ended cs) (first ++ 10 ∷ after)) in
    none_among width bs cs part first after bb.2 cb.2 lp lf filled same.1

pub no_line : (old mid : Seen) → PassedBlanks old mid → IsLine mid.held → HasLine old.words old.held → ⊥
no_line old mid passed is_line has =
    none_among old.words passed.blanks has.blanks mid.held has.first has.after passed.are_blank has.are_blank is_line has.is_line has.has_words (sym passed.bytes_are ∙ has.bytes_are)
