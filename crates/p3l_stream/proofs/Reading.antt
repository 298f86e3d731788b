-- Pieces taken and lines passed, up to an answer.
use Rattle.std.proofs.Common.{◌≡◌, ◌≢◌, ℕ, ◌+◌, ◌<◌, ◌≤◌, true, false, List, [], ◌∷◌, ◌++◌, length, Option, Some, None, Result, Ok, Err, refl, ap, sym, ◌∙◌, inl, inr, arith, append_assoc, append-nil, length-append}
use Rattle.std.specs.Result.{IsErr}
use Rattle.p3l_base.specs.declared.NoMemory.{NoMemory}
use Rattle.p3l_io.specs.Change.{Becomes, Change, Observation, change}
use Rattle.p3l_stream.specs.declared.line.LineContent.{LineContent}
use Rattle.p3l_stream.specs.declared.line.LineContent.TheVariants as line
use Rattle.p3l_stream.specs.declared.items.Ending.TheVariants as ending
use Rattle.p3l_stream.specs.declared.taken.Cutoff.TheVariants as stop
use Rattle.p3l_stream.specs.Answers.{AnswerOf, Answers, FindsLine, FindsNone, Takes, answer_for}
use Rattle.p3l_stream.specs.Ended.{AreBlank, IsLine, ended, held_by}
use Rattle.p3l_stream.specs.Lines.{last_line}
use Rattle.p3l_stream.specs.Passing.{OnlyPasses, PassedBlanks, PassesFilled, PassesLast, TakesPiece, moved_past}
use Rattle.p3l_stream.specs.Seen.{Answer, Seen}
use Rattle.p3l_stream.specs.Taken.{IsTaken, IsTakenOf}
use Rattle.p3l_stream.proofs.Blanks.{blank-append, bytes-after}
use Rattle.p3l_stream.proofs.Feeds.{fewer_after, place-line}
use Rattle.p3l_stream.proofs.Pieces.{not_both}

-- nothing was taken
pub IsTaken-none : (source : Observation (List ℕ)) → IsTaken (change source source) []
IsTaken-none source = by source.content
  where
    by : (content : Option (List ℕ)) → Becomes (IsTakenOf []) content content
    by None = refl
    by (Some bytes) = (bytes, refl, refl)

-- bytes taken one after the other
pub IsTaken-twice : (first mid last : Observation (List ℕ)) (got piece : List ℕ) → IsTaken (change first mid) got → IsTaken (change mid last) piece → IsTaken (change first last) (got ++ piece)
IsTaken-twice first mid last got piece was is = by first.content mid.content last.content was is
  where
    by : (first mid last : Option (List ℕ)) → Becomes (IsTakenOf got) first mid → Becomes (IsTakenOf piece) mid last → Becomes (IsTakenOf (got ++ piece)) first last
    by None None last was is = is
    by None (Some x) last was is = absurd cc
    by (Some bytes) None last was is = absurd (let none : ◌≡◌ {A = Option (List ℕ)} None (Some was.0) = was.1 in cc)
    by (Some bytes) (Some x) last was is =
        let same : x ≡ was.0 = (let e : Some x ≡ Some was.0 = was.1 in cc) in
        (is.0, is.1, was.2 ∙ ap (λ (t : List ℕ). got ++ t) (sym same ∙ is.2) ∙ sym (append_assoc got piece is.0))

pub takes_none : (s : Seen) (rest : Observation (List ℕ)) → s.taken ≤ s.limit → (s.at_end ≡ true → s.taken < s.limit) → Takes s s (change rest rest) []
takes_none s rest within below = record {
  same_words = refl;
  same_limit = refl;
  counted = omega arith;
  within = within;
  below = below;
  given = IsTaken-none rest;
  once = λ ends. (refl, ends);
  all = λ is_open ends. absurd (not_both s.at_end ends is_open);
}

-- a piece after other bytes
pub takes_more : (old now new : Seen) (rest mid left : Observation (List ℕ)) (got piece held : List ℕ) → Takes old now (change rest mid) got → now.at_end ≡ false → TakesPiece now new (change mid left) piece held → Takes old new (change rest left) (got ++ piece)
takes_more old now new rest mid left got piece held was is_open is = record {
  same_words = ap (λ (s : Seen). s.words) is.after ∙ was.same_words;
  same_limit = ap (λ (s : Seen). s.limit) is.after ∙ was.same_limit;
  counted = ap (λ (s : Seen). s.taken) is.after ∙ ap (λ n. n + length piece) was.counted ∙ omega (arith, length-append got piece);
  within = is.within;
  below = is.below;
  given = IsTaken-twice rest mid left got piece was.given is.given;
  once = λ ends. absurd (not_both now.at_end (was.once ends).1 is_open);
  all = λ begins ends. is.all ends;
}

-- passing lines takes nothing
pub takes_passing : (old now new : Seen) (source : Change (List ℕ)) (got : List ℕ) → Takes old now source got → OnlyPasses now new → Takes old new source got
takes_passing old now new source got was is =
    let taken_is : new.taken ≡ now.taken = ap (λ (s : Seen). s.taken) is in
    let limit_is : new.limit ≡ now.limit = ap (λ (s : Seen). s.limit) is in
    let end_is : new.at_end ≡ now.at_end = ap (λ (s : Seen). s.at_end) is in
    record {
      same_words = ap (λ (s : Seen). s.words) is ∙ was.same_words;
      same_limit = limit_is ∙ was.same_limit;
      counted = taken_is ∙ was.counted;
      within = rw (taken_is, limit_is) was.within;
      below = λ ends. rw (taken_is, limit_is) (was.below (sym end_is ∙ ends));
      given = was.given;
      once = λ ends. ((was.once ends).0, end_is ∙ (was.once ends).1);
      all = λ begins ends. was.all begins (sym end_is ∙ ends);
    }

-- the same of lines that are counted
pub passes_only : (now new : Seen) (n : ℕ) (held : List ℕ) → new ≡ moved_past now n held → OnlyPasses now new
passes_only now new n held is = is ∙ sym (ap (λ (s : Seen). record now { held = s.held; passed = s.passed }) is)

-- bytes were taken, of which lines without words were passed, and what is left is no ended line
pub record IsOnWay (old now : Seen) (source : Change (List ℕ)) : Type 0 where
  pub got : List ℕ
  pub blanks : List (List ℕ)
  pub takes : Takes old now source got
  pub are_blank : AreBlank old.words blanks
  pub is_line : IsLine now.held
  pub bytes_are : old.held ++ got ≡ ended blanks ++ now.held
  pub passed : now.passed ≡ old.passed + length blanks

pub starts : (s : Seen) (rest : Observation (List ℕ)) → s.taken ≤ s.limit → (s.at_end ≡ true → s.taken < s.limit) → IsLine s.held → IsOnWay s s (change rest rest)
starts s rest within below is_line = record {
  got = [];
  blanks = [];
  takes = takes_none s rest within below;
  are_blank = tt;
  is_line = is_line;
  bytes_are = append-nil s.held;
  passed = omega arith;
}

-- one piece more, in which no line with words is ended
pub goes_on : (old now mid new : Seen) (rest was_left left : Observation (List ℕ)) (piece : List ℕ) → IsOnWay old now (change rest was_left) → now.at_end ≡ false
    → TakesPiece now mid (change was_left left) piece (now.held ++ piece) → PassedBlanks mid new → IsLine new.held → IsOnWay old new (change rest left)
goes_on old now mid new rest was_left left piece way is_open took passed is_line =
    let words_are : mid.words ≡ old.words = ap (λ (s : Seen). s.words) took.after ∙ way.takes.same_words in
    let held_is : mid.held ≡ now.held ++ piece = ap (λ (s : Seen). s.held) took.after in
    let count : new.passed ≡ mid.passed + length passed.blanks = ap (λ (s : Seen). s.passed) passed.after in
    let before : mid.passed ≡ now.passed = ap (λ (s : Seen). s.passed) took.after in
    record {
      got = way.got ++ piece;
      blanks = way.blanks ++ passed.blanks;
      takes = takes_passing _ mid new _ _ (takes_more _ _ _ _ _ _ _ _ _ way.takes is_open took) (passes_only mid new _ _ passed.after);
      are_blank = blank-append old.words way.blanks passed.blanks way.are_blank (rw (← words_are) passed.are_blank);
      is_line = is_line;
      bytes_are = bytes-after way.blanks passed.blanks (old.held ++ way.got) now.held _ piece new.held way.bytes_are (sym held_is ∙ passed.bytes_are) (sym (append_assoc old.held way.got piece));
      passed = omega (arith, length-append way.blanks passed.blanks, way.passed);
    }

-- an answer by a line with words
pub answers_line : (old new : Seen) (bytes : List ℕ) (holds : LineContent) (answer : Answer) → holds ≢ line.Blank → FindsLine old new bytes holds → answer ≡ answer_for holds new.passed → AnswerOf old new bytes (Ok answer)
answers_line old new bytes holds answer filled found is = rw is (by_line holds filled found)
  where
    by_line : (holds : LineContent) → holds ≢ line.Blank → FindsLine old new bytes holds → AnswerOf old new bytes (Ok (answer_for holds new.passed))
    by_line line.Blank filled found = absurd (filled refl)
    by_line (line.Item words) filled found = found
    by_line line.BadWord filled found = (found, refl)
    by_line (line.WrongCount had) filled found = (found, refl)
    by_line line.OutOfRange filled found = (found, refl)

-- a line with words is ended in the next piece
pub finds_in_piece : (old now mid new : Seen) (rest was_left left : Observation (List ℕ)) (piece : List ℕ) (holds : LineContent) (answer : Answer) → IsOnWay old now (change rest was_left) → now.at_end ≡ false
    → TakesPiece now mid (change was_left left) piece (now.held ++ piece) → PassesFilled mid new holds → answer ≡ answer_for holds new.passed → Answers old new (change rest left) (Ok answer)
finds_in_piece old now mid new rest was_left left piece holds answer way is_open took passed is =
    let words_are : mid.words ≡ old.words = ap (λ (s : Seen). s.words) took.after ∙ way.takes.same_words in
    let held_is : mid.held ≡ now.held ++ piece = ap (λ (s : Seen). s.held) took.after in
    let count : new.passed ≡ mid.passed + (length passed.blanks + 1) = ap (λ (s : Seen). s.passed) passed.after in
    let before : mid.passed ≡ now.passed = ap (λ (s : Seen). s.passed) took.after in
    record {
      got = way.got ++ piece;
      takes = takes_passing _ mid new _ _ (takes_more _ _ _ _ _ _ _ _ _ way.takes is_open took) (passes_only mid new _ _ passed.after);
      answer = answers_line old new _ holds answer passed.has_words (record {
        blanks = way.blanks ++ passed.blanks;
        first = passed.first;
        after_blanks = passed.first ++ 10 ∷ new.held;
        are_blank = blank-append old.words way.blanks passed.blanks way.are_blank (rw (← words_are) passed.are_blank);
        is_line = passed.is_line;
        holds_it = ap (λ (w : ℕ). held_by w passed.first) (sym words_are) ∙ passed.holds_it;
        bytes_are = bytes-after way.blanks passed.blanks (old.held ++ way.got) now.held _ piece _ way.bytes_are (sym held_is ∙ passed.bytes_are) (sym (append_assoc old.held way.got piece));
        stands = inl refl;
        counted = omega (arith, length-append way.blanks passed.blanks, way.passed);
      }) is;
    }

-- less than the piece is left after it
pub few_left : (now mid new : Seen) (source : Change (List ℕ)) (piece : List ℕ) (holds : LineContent) → IsLine now.held → TakesPiece now mid source piece (now.held ++ piece) → PassesFilled mid new holds → length new.held < 4096
few_left now mid new source piece holds is_line took passed =
    let held_is : mid.held ≡ now.held ++ piece = ap (λ (s : Seen). s.held) took.after in
    let all : now.held ++ piece ≡ (ended passed.blanks ++ passed.first) ++ 10 ∷ new.held = sym held_is ∙ passed.bytes_are ∙ sym (append_assoc (ended passed.blanks) passed.first (10 ∷ new.held)) in
    let fewer : length new.held < length piece = fewer_after now.held piece _ new.held (place-line now.held is_line) all in
    omega (arith, took.short)

-- no line with words is ended, and the rest of a line is dropped
pub drops : (old now : Seen) (source : Change (List ℕ)) (way : IsOnWay old now source) → FindsNone old (record now { held = [] }) (old.held ++ way.got)
drops old now source way = (
  now.held,
  record {
    blanks = way.blanks;
    are_blank = way.are_blank;
    is_line = way.is_line;
    bytes_are = way.bytes_are;
    counted = omega (arith, way.passed);
  },
  refl,
)

-- a fault of reading
pub answers_fault : (old now : Seen) (rest mid left : Observation (List ℕ)) → IsOnWay old now (change rest mid) → IsTaken (change mid left) [] → now.at_end ≡ false → now.taken < now.limit → Answers old (record now { held = [] }) (change rest left) (Ok (Err ending.ReadFault))
answers_fault old now rest mid left way none is_open below = record {
  got = way.got ++ [];
  takes = takes_passing old now (record now { held = [] }) (change rest left) (way.got ++ [])
      (takes_more old now now rest mid left way.got [] now.held way.takes is_open (record {
        short = omega arith;
        after = ap (λ n. record now { taken = n }) (omega arith);
        within = way.takes.within;
        below = way.takes.below;
        given = none;
        all = λ ends. absurd (not_both now.at_end ends is_open);
      }))
      refl;
  answer = (rw (append-nil way.got) (drops old now (change rest mid) way), is_open, below);
}

-- the limit
pub answers_limit : (old now : Seen) (source : Change (List ℕ)) → IsOnWay old now source → now.limit ≤ now.taken → Answers old (record now { held = [] }) source (Ok (Err ending.TooLong))
answers_limit old now source way reached = record {
  got = way.got;
  takes = takes_passing old now (record now { held = [] }) source way.got way.takes refl;
  answer = (drops old now source way, omega (arith, way.takes.within));
}

-- bytes that are a line with words are no empty ones
filled_last : (width : ℕ) (part : List ℕ) (holds : LineContent) → held_by width part ≡ holds → holds ≢ line.Blank → length (last_line stop.End part) ≡ 1
filled_last width [] holds is filled = absurd (filled (sym is))
filled_last width (byte ∷ bytes) holds is filled = refl

-- the last line, or the end
pub answers_last : (old now new : Seen) (source : Change (List ℕ)) (holds : LineContent) (answer : Answer) → IsOnWay old now source → now.at_end ≡ true → PassesLast now new holds → answer ≡ answer_for holds new.passed → Answers old new source (Ok answer)
answers_last old now new source holds answer way ends passed is =
    let count : new.passed ≡ now.passed + length (last_line stop.End now.held) = ap (λ (s : Seen). s.passed) passed.after in
    let held_is : new.held ≡ [] = ap (λ (s : Seen). s.held) passed.after in
    let end_is : new.at_end ≡ true = ap (λ (s : Seen). s.at_end) passed.after ∙ ends in
    let holds_it : held_by old.words now.held ≡ holds = ap (λ (w : ℕ). held_by w now.held) (sym way.takes.same_words) ∙ passed.holds_it in
    record {
      got = way.got;
      takes = takes_passing _ now new _ _ way.takes (passes_only now new _ _ passed.after);
      answer = by_line holds holds_it is count held_is end_is;
    }
  where
    found : (holds : LineContent) → holds ≢ line.Blank → held_by old.words now.held ≡ holds → new.passed ≡ now.passed + length (last_line stop.End now.held) → new.held ≡ [] → new.at_end ≡ true → FindsLine old new (old.held ++ way.got) holds
    found holds filled holds_it count held_is end_is = record {
      blanks = way.blanks;
      first = now.held;
      after_blanks = now.held;
      are_blank = way.are_blank;
      is_line = way.is_line;
      holds_it = holds_it;
      bytes_are = way.bytes_are;
      stands = inr (end_is, refl, held_is);
      counted = omega (arith, way.passed, filled_last old.words now.held holds holds_it filled);
    }

    by_line : (holds : LineContent) → held_by old.words now.held ≡ holds → answer ≡ answer_for holds new.passed → new.passed ≡ now.passed + length (last_line stop.End now.held) → new.held ≡ [] → new.at_end ≡ true → AnswerOf old new (old.held ++ way.got) (Ok answer)
    by_line line.Blank holds_it is count held_is end_is = rw is (
      (
        now.held,
        record {
          blanks = way.blanks;
          are_blank = way.are_blank;
          is_line = way.is_line;
          bytes_are = way.bytes_are;
          counted = omega (arith, way.passed);
        },
        holds_it,
        held_is,
      ),
      end_is,
    )
    by_line (line.Item words) holds_it is count held_is end_is = answers_line old new _ _ answer (λ e. cc) (found _ (λ e. cc) holds_it count held_is end_is) is
    by_line line.BadWord holds_it is count held_is end_is = answers_line old new _ _ answer (λ e. cc) (found _ (λ e. cc) holds_it count held_is end_is) is
    by_line (line.WrongCount had) holds_it is count held_is end_is = answers_line old new _ _ answer (λ e. cc) (found _ (λ e. cc) holds_it count held_is end_is) is
    by_line line.OutOfRange holds_it is count held_is end_is = answers_line old new _ _ answer (λ e. cc) (found _ (λ e. cc) holds_it count held_is end_is) is

-- out of memory
pub answers_in_vain : (old new : Seen) (source : Change (List ℕ)) (result : Result Answer NoMemory) (got : List ℕ) → IsErr result → Takes old new source got → Answers old new source result
answers_in_vain old new source (Ok answer) got err takes = absurd (not_both true refl (sym err))
answers_in_vain old new source (Err e) got err takes = record { got = got; takes = takes; answer = tt }
