-- The count of items that can still be answered.
use Rattle.std.proofs.Common.{◌≡◌, ◌≢◌, ℕ, ◌+◌, ◌-◌, ◌≤◌, Bool, true, false, List, [], ◌∷◌, ◌++◌, ◌⊎◌, length, Option, None, Result, Ok, Err, IfOk, refl, ap, sym, inl, inr, arith, length-append}
use Rattle.p3l_base.specs.declared.NoMemory.{NoMemory}
use Rattle.p3l_io.specs.Change.{Change}
use Rattle.p3l_stream.specs.declared.items.Ending.{Ending}
use Rattle.p3l_stream.specs.declared.line.LineContent.{LineContent}
use Rattle.p3l_stream.specs.declared.line.LineContent.TheVariants as line
use Rattle.p3l_stream.specs.declared.items.Ending.TheVariants as ending
use Rattle.p3l_stream.specs.Answers.{AnswerOf, Answers, FindsLine, IsBefore, Takes}
use Rattle.p3l_stream.specs.Ended.{ended, held_by}
use Rattle.p3l_stream.specs.Seen.{Answer, Seen, closed_by, item_count, most_items, most_of}
use Rattle.p3l_stream.proofs.Pieces.{not_both}

-- a line with words has a byte
has_byte : (width : ℕ) (first : List ℕ) (holds : LineContent) → held_by width first ≡ holds → holds ≢ line.Blank → 1 ≤ length first
has_byte width [] holds is filled = absurd (filled (sym is))
has_byte width (byte ∷ bytes) holds is filled = omega arith

-- an item has its bytes: two, or one at the end of the input with nothing after it
has_bytes : (old new : Seen) (bytes : List ℕ) (holds : LineContent) → holds ≢ line.Blank → FindsLine old new bytes holds
    → (length new.held + 2 ≤ length bytes) ⊎ ((new.at_end ≡ true) × (length new.held ≡ 0) × (1 ≤ length bytes))
has_bytes old new bytes holds filled found = by_stand found.after_blanks found.bytes_are found.stands
  where
    one : 1 ≤ length found.first
    one = has_byte old.words found.first holds found.holds_it filled

    by_stand : (after_blanks : List ℕ) → bytes ≡ ended found.blanks ++ after_blanks → IsBefore new.at_end after_blanks found.first new.held
        → (length new.held + 2 ≤ length bytes) ⊎ ((new.at_end ≡ true) × (length new.held ≡ 0) × (1 ≤ length bytes))
    by_stand after_blanks are (inl e) =
        inl (omega (arith, one, ap length are, ap length e, length-append (ended found.blanks) after_blanks, length-append found.first (10 ∷ new.held)))
    by_stand after_blanks are (inr e) =
        inr (e.0, ap length e.2, omega (arith, one, ap length are, ap length e.1, length-append (ended found.blanks) after_blanks))

-- one item less
one_less : (old new : Seen) (got : List ℕ) (source : Change (List ℕ)) (a b : Bool) → old.at_end ≡ a → new.at_end ≡ b → Takes old new source got
    → (length new.held + 2 ≤ length (old.held ++ got)) ⊎ ((new.at_end ≡ true) × (length new.held ≡ 0) × (1 ≤ length (old.held ++ got)))
    → 1 + most_of None b (length new.held) (new.limit - new.taken) ≤ most_of None a (length old.held) (old.limit - old.taken)
one_less old new got source true true ea eb takes (inl few) = omega (arith, ap length (takes.once ea).0, length-append old.held got)
one_less old new got source true true ea eb takes (inr few) = omega (arith, few.1, few.2, ap length (takes.once ea).0, length-append old.held got)
one_less old new got source true false ea eb takes few = absurd (not_both new.at_end (takes.once ea).1 eb)
one_less old new got source false true ea eb takes (inl few) = omega (arith, length-append old.held got, takes.counted, takes.within, takes.same_limit)
one_less old new got source false true ea eb takes (inr few) = omega (arith, few.1, few.2, length-append old.held got, takes.counted, takes.within, takes.same_limit)
one_less old new got source false false ea eb takes (inl few) = omega (arith, length-append old.held got, takes.counted, takes.within, takes.same_limit)
one_less old new got source false false ea eb takes (inr few) = absurd (not_both new.at_end few.0 eb)

-- the stream after an answer that ends it or doesn't
abbrev pub closed_after : Seen → Result Answer NoMemory → Seen
closed_after s result = record s { closed = closed_by result }

-- a call leaves fewer items to be answered
pub fewer_items : (old new : Seen) (source : Change (List ℕ)) (result : Result Answer NoMemory) → old.closed ≡ None → Answers old new source result
    → IfOk result (λ answer. item_count answer + most_items (closed_after new result) ≤ most_items old)
fewer_items old new source (Ok (Ok words)) open_is is =
    rw open_is (one_less old new is.got source old.at_end new.at_end refl refl is.takes (has_bytes old new _ _ (λ e. cc) is.answer))
fewer_items old new source (Ok (Err ending.End)) open_is is = omega arith
fewer_items old new source (Ok (Err (ending.BadWord number))) open_is is = omega arith
fewer_items old new source (Ok (Err (ending.WrongCount number had))) open_is is = omega arith
fewer_items old new source (Ok (Err (ending.OutOfRange number))) open_is is = omega arith
fewer_items old new source (Ok (Err ending.ReadFault)) open_is is = omega arith
fewer_items old new source (Ok (Err ending.TooLong)) open_is is = omega arith
fewer_items old new source (Err e) open_is is = tt

-- the ending of a stream changes no answer
answer_closed : (old new : Seen) (bytes : List ℕ) (close : Option (Result Ending NoMemory)) (result : Result Answer NoMemory) → AnswerOf old new bytes result → AnswerOf old (record new { closed = close }) bytes result
answer_closed old new bytes close (Ok (Ok words)) is = is
answer_closed old new bytes close (Ok (Err ending.End)) is = is
answer_closed old new bytes close (Ok (Err (ending.BadWord number))) is = is
answer_closed old new bytes close (Ok (Err (ending.WrongCount number had))) is = is
answer_closed old new bytes close (Ok (Err (ending.OutOfRange number))) is = is
answer_closed old new bytes close (Ok (Err ending.ReadFault)) is = is
answer_closed old new bytes close (Ok (Err ending.TooLong)) is = is
answer_closed old new bytes close (Err e) is = tt

pub answers_closed : (old new : Seen) (source : Change (List ℕ)) (close : Option (Result Ending NoMemory)) (result : Result Answer NoMemory) → Answers old new source result → Answers old (record new { closed = close }) source result
answers_closed old new source close result is = record {
  got = is.got;
  takes = record {
    same_words = is.takes.same_words;
    same_limit = is.takes.same_limit;
    counted = is.takes.counted;
    within = is.takes.within;
    below = is.takes.below;
    given = is.takes.given;
    once = is.takes.once;
    all = is.takes.all;
  };
  answer = answer_closed old new _ close result is.answer;
}
