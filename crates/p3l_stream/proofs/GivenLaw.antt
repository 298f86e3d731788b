-- A stream that is read again and again gives the items of the bytes that it takes.
use Rattle.std.proofs.Common.{◌≡◌, ◌≢◌, ℕ, ℤ, ◌+◌, Bool, true, false, List, [], ◌∷◌, ◌++◌, length, Option, Some, None, Result, Ok, Err, refl, ap, sym, subst, ◌∙◌, inl, inr, arith, append_assoc, append-nil, length-append}
use Rattle.std.specs.List.{AllByRecursion}
use Rattle.std.specs.Str.Lines.{strip_carriage_return}
use Rattle.p3l_base.specs.declared.NoMemory.{NoMemory}
use Rattle.p3l_io.specs.Change.{Change}
use Rattle.p3l_stream.specs.declared.items.Ending.{Ending}
use Rattle.p3l_stream.specs.declared.items.Ending.TheVariants as ending
use Rattle.p3l_stream.specs.declared.items.Items.{Items}
use Rattle.p3l_stream.specs.declared.line.LineContent.{LineContent}
use Rattle.p3l_stream.specs.declared.line.LineContent.TheVariants as line
use Rattle.p3l_stream.specs.declared.taken.Cutoff.{Cutoff}
use Rattle.p3l_stream.specs.declared.taken.Cutoff.TheVariants as stop
use Rattle.p3l_stream.specs.Answers.{Answers, FindsLine, FindsNone, IsBefore, RunsOut}
use Rattle.p3l_stream.specs.Ended.{AreBlank, ended, held_by}
use Rattle.p3l_stream.specs.Given.{AreFirst, AreRefused, Closes, GoesOn, HasGiven, TakesOn, before_items, ended_by, items_in}
use Rattle.p3l_stream.specs.Items.{closing, items_taken, put_line}
use Rattle.p3l_stream.specs.Lines.{last_line}
use Rattle.p3l_stream.specs.Seen.{Answer, Seen, closed_by, started}
use Rattle.p3l_stream.specs.Words.{numbers_of, words_of}
use Rattle.p3l_stream.proofs.Endings.{IsWide, line_wide}
use Rattle.p3l_stream.proofs.LinesAfter.{items_after, items_dropped, items_ended, items_from, items_last, items_none}
use Rattle.p3l_stream.proofs.Pieces.{not_both}

-- a stream from which nothing was read
pub given_started : (width limit : ℕ) → HasGiven width (started width limit) [] []
given_started width limit = record {
  width_is = refl;
  counted = refl;
  within = omega arith;
  below = λ ends. cc;
  wide = tt;
  first = λ how more on. (items_taken width how more, refl);
  closes = λ how more on. refl;
}

-- a list with one item more
wide_more : (width : ℕ) (items : List (List ℤ)) (words : List ℤ) → AllByRecursion (λ (w : List ℤ). length w ≡ width) items → length words ≡ width → AllByRecursion (λ (w : List ℤ). length w ≡ width) (items ++ words ∷ [])
wide_more width [] words all one = (one, tt)
wide_more width (first ∷ items) words all one = (all.0, wide_more width items words all.1 one)

-- an answer tells of the items after those answered before
module _ (width : ℕ) (old new : Seen) (source : Change (List ℕ)) (bytes : List ℕ) (items : List (List ℤ)) (result : Result Answer NoMemory) (was : HasGiven width old bytes items) (is_open : old.closed ≡ None)
    (answers : Answers old new source result) where
  abbrev got : List ℕ
  got = answers.got

  later : Closes width old bytes items None
  later = subst (Closes width old bytes items) is_open was.closes

  goes_on : (how : Cutoff) (more : List ℕ) → GoesOn new.at_end how more → GoesOn old.at_end how (got ++ more)
  goes_on how more on ends =
      let once = answers.takes.once ends in
      let now = on once.1 in
      (now.0, ap (λ (l : List ℕ). l ++ more) once.0 ∙ now.1)

  -- the items of all bytes, by those still held and those that the call took
  on_from : (how : Cutoff) (more : List ℕ) → GoesOn old.at_end how (got ++ more) → items_taken width how ((bytes ++ got) ++ more) ≡ before_items items (items_from width (old.passed + 1) (closing how) how ((old.held ++ got) ++ more))
  on_from how more on =
      ap (items_taken width how) (append_assoc bytes got more)
      ∙ later how (got ++ more) on
      ∙ ap (λ (l : List ℕ). before_items items (items_from width (old.passed + 1) (closing how) how l)) (sym (append_assoc old.held got more))

  first_of : AreFirst width new.at_end (bytes ++ got) items
  first_of how more on = (items_from width (old.passed + 1) (closing how) how ((old.held ++ got) ++ more), on_from how more (goes_on how more on))

  -- a line that was found, before those after it
  module _ (holds : LineContent) (filled : holds ≢ line.Blank) (found : FindsLine old new (old.held ++ got) holds) where
    held_it : held_by width found.first ≡ holds
    held_it = ap (λ (w : ℕ). held_by w found.first) (sym was.width_is) ∙ found.holds_it

    number : old.passed + 1 + length found.blanks ≡ new.passed
    number = (let count = found.counted in omega arith)

    stands_before : (how : Cutoff) (more : List ℕ) → GoesOn new.at_end how more → IsBefore new.at_end found.after_blanks found.first new.held →
        items_from width new.passed (closing how) how (found.after_blanks ++ more) ≡ put_line holds new.passed (items_from width (new.passed + 1) (closing how) how (new.held ++ more))
    stands_before how more on (inl at) =
        ap (λ (l : List ℕ). items_from width new.passed (closing how) how (l ++ more)) at
        ∙ ap (items_from width new.passed (closing how) how) (append_assoc found.first (10 ∷ new.held) more)
        ∙ items_ended width new.passed (closing how) how found.first (new.held ++ more) holds found.is_line held_it
    stands_before how more on (inr at) =
        let now = on at.0 in
        let bare : found.after_blanks ++ more ≡ found.first = ap (λ (l : List ℕ). found.after_blanks ++ l) now.1 ∙ append-nil found.after_blanks ∙ at.1 in
        let none : new.held ++ more ≡ [] = ap (λ (l : List ℕ). l ++ more) at.2 ∙ now.1 in
        let last = items_last width new.passed (closing stop.End) found.first holds found.is_line held_it filled in
        ap (λ (l : List ℕ). items_from width new.passed (closing how) how l) bare
        ∙ ap (λ (h : Cutoff). items_from width new.passed (closing h) h found.first) now.0
        ∙ last
        ∙ ap (λ (h : Cutoff). put_line holds new.passed (items_from width (new.passed + 1) (closing h) h [])) (sym now.0)
        ∙ ap (λ (l : List ℕ). put_line holds new.passed (items_from width (new.passed + 1) (closing how) how l)) (sym none)

    on_line : (how : Cutoff) (more : List ℕ) → GoesOn new.at_end how more →
        items_taken width how ((bytes ++ got) ++ more) ≡ before_items items (put_line holds new.passed (items_from width (new.passed + 1) (closing how) how (new.held ++ more)))
    on_line how more on =
        on_from how more (goes_on how more on)
        ∙ ap (λ (l : List ℕ). before_items items (items_from width (old.passed + 1) (closing how) how l)) (ap (λ (l : List ℕ). l ++ more) found.bytes_are ∙ append_assoc (ended found.blanks) found.after_blanks more)
        ∙ ap (before_items items) (items_after width (old.passed + 1) (closing how) how found.blanks (found.after_blanks ++ more) (subst (λ w. AreBlank w found.blanks) was.width_is found.are_blank))
        ∙ ap (λ (k : ℕ). before_items items (items_from width k (closing how) how (found.after_blanks ++ more))) number
        ∙ ap (before_items items) (stands_before how more on found.stands)

  -- a line that is refused
  on_refused : (holds : LineContent) (close : Ending) → holds ≢ line.Blank → FindsLine old new (old.held ++ got) holds → ((k : Items) → put_line holds new.passed k ≡ ended_by [] close) → AreRefused width new.at_end (bytes ++ got) items close
  on_refused holds close filled found puts how more on =
      on_line holds filled found how more on ∙ ap (before_items items) (puts _) ∙ ap (λ (i : List (List ℤ)). ended_by i close) (append-nil items)

  -- no line, and a part of one that is dropped
  on_none : (how : Cutoff) → ((part : List ℕ) → last_line how part ≡ []) → new.at_end ≡ false → FindsNone old new (old.held ++ got) → items_taken width how (bytes ++ got) ≡ ended_by items (closing how)
  on_none how drops not_ended none =
      let out = none.1 in
      ap (items_taken width how) (sym (append-nil (bytes ++ got)))
      ∙ on_from how [] (goes_on how [] (λ ends. absurd (not_both new.at_end ends not_ended)))
      ∙ ap (λ (l : List ℕ). before_items items (items_from width (old.passed + 1) (closing how) how l)) (append-nil (old.held ++ got) ∙ out.bytes_are)
      ∙ ap (before_items items) (items_after width (old.passed + 1) (closing how) how out.blanks none.0 (subst (λ w. AreBlank w out.blanks) was.width_is out.are_blank))
      ∙ ap (before_items items) (items_dropped width _ (closing how) how none.0 out.is_line (drops none.0))
      ∙ ap (λ (i : List (List ℤ)). ended_by i (closing how)) (append-nil items)

  -- the end
  on_end : (part : List ℕ) (now count : ℕ) → RunsOut old.words old.passed now count (old.held ++ got) part → held_by old.words part ≡ line.Blank → new.at_end ≡ true → items_taken width stop.End (bytes ++ got) ≡ ended_by items ending.End
  on_end part now count out blank ends =
      ap (items_taken width stop.End) (sym (append-nil (bytes ++ got)))
      ∙ on_from stop.End [] (goes_on stop.End [] (λ e. (refl, refl)))
      ∙ ap (λ (l : List ℕ). before_items items (items_from width (old.passed + 1) ending.End stop.End l)) (append-nil (old.held ++ got) ∙ out.bytes_are)
      ∙ ap (before_items items) (items_after width (old.passed + 1) ending.End stop.End out.blanks part (subst (λ w. AreBlank w out.blanks) was.width_is out.are_blank))
      ∙ ap (before_items items) (items_none width _ ending.End part out.is_line (ap (λ (w : ℕ). held_by w part) (sym was.width_is) ∙ blank))
      ∙ ap (λ (i : List (List ℤ)). ended_by i ending.End) (append-nil items)

  -- an item more, in front of the others
  shifted : (words : List ℤ) (later : Items) → before_items items (record later { items = words ∷ later.items }) ≡ before_items (items ++ words ∷ []) later
  shifted words later = ap (λ (i : List (List ℤ)). ended_by i later.ending) (sym (append_assoc items (words ∷ []) later.items))

  -- the stream has given these items after the answer
  with_parts : (more : List (List ℤ)) (close : Option (Result Ending NoMemory)) → AllByRecursion (λ (w : List ℤ). length w ≡ width) more → AreFirst width new.at_end (bytes ++ got) more
      → new.closed ≡ close → Closes width new (bytes ++ got) more close → HasGiven width new (bytes ++ got) more
  with_parts more close wide first closed closes = record {
    width_is = answers.takes.same_words ∙ was.width_is;
    counted = (let now = answers.takes.counted in let before = was.counted in omega (arith, length-append bytes got));
    within = answers.takes.within;
    below = answers.takes.below;
    wide = wide;
    first = first;
    closes = subst (Closes width new (bytes ++ got) more) (sym closed) closes;
  }

  -- an item was answered
  item_given : (words : List ℤ) → FindsLine old new (old.held ++ got) (line.Item words) → new.closed ≡ None → HasGiven width new (bytes ++ got) (items ++ words ∷ [])
  item_given words found closed =
      let one : length words ≡ width = subst (IsWide width) (held_it (line.Item words) (λ e. cc) found) (line_wide width (numbers_of (words_of (strip_carriage_return found.first)))) in
      let next : TakesOn new.at_end (λ how more. items_taken width how ((bytes ++ got) ++ more) ≡ before_items (items ++ words ∷ []) (items_from width (new.passed + 1) (closing how) how (new.held ++ more))) =
      λ how more on. on_line (line.Item words) (λ e. cc) found how more on ∙ shifted words (items_from width (new.passed + 1) (closing how) how (new.held ++ more)) in
      with_parts (items ++ words ∷ []) None (wide_more width items words was.wide one) (λ how more on. (items_from width (new.passed + 1) (closing how) how (new.held ++ more), next how more on)) closed next

  -- the stream ended
  ended_given : (close : Result Ending NoMemory) → new.closed ≡ Some close → Closes width new (bytes ++ got) items (Some close) → HasGiven width new (bytes ++ got) (items ++ [])
  ended_given close closed closes =
      subst (HasGiven width new (bytes ++ got)) (sym (append-nil items)) (with_parts items (Some close) was.wide first_of closed closes)

-- after each answer
pub given_answered : (width : ℕ) (old new : Seen) (source : Change (List ℕ)) (bytes : List ℕ) (items : List (List ℤ)) (result : Result Answer NoMemory) → HasGiven width old bytes items → old.closed ≡ None →
    new.closed ≡ closed_by result → (answers : Answers old new source result) → HasGiven width new (bytes ++ answers.got) (items ++ items_in result)
given_answered width old new source bytes items (Ok (Ok words)) was is_open closed a = item_given width old new source bytes items _ was is_open a words a.answer closed
given_answered width old new source bytes items (Ok (Err ending.End)) was is_open closed a =
    ended_given width old new source bytes items _ was is_open a (Ok ending.End) closed
    (a.answer.1, on_end width old new source bytes items _ was is_open a a.answer.0.0 new.passed _ a.answer.0.1 a.answer.0.2 a.answer.1)
given_answered width old new source bytes items (Ok (Err (ending.BadWord number))) was is_open closed a =
    ended_given width old new source bytes items _ was is_open a (Ok (ending.BadWord number)) closed
    (on_refused width old new source bytes items _ was is_open a line.BadWord (ending.BadWord number) (λ e. cc) a.answer.0 (λ k. ap (λ (n : ℕ). ended_by [] (ending.BadWord n)) (sym a.answer.1)))
given_answered width old new source bytes items (Ok (Err (ending.WrongCount number had))) was is_open closed a =
    ended_given width old new source bytes items _ was is_open a (Ok (ending.WrongCount number had)) closed
    (on_refused width old new source bytes items _ was is_open a (line.WrongCount had) (ending.WrongCount number had) (λ e. cc) a.answer.0 (λ k. ap (λ (n : ℕ). ended_by [] (ending.WrongCount n had)) (sym a.answer.1)))
given_answered width old new source bytes items (Ok (Err (ending.OutOfRange number))) was is_open closed a =
    ended_given width old new source bytes items _ was is_open a (Ok (ending.OutOfRange number)) closed
    (on_refused width old new source bytes items _ was is_open a line.OutOfRange (ending.OutOfRange number) (λ e. cc) a.answer.0 (λ k. ap (λ (n : ℕ). ended_by [] (ending.OutOfRange n)) (sym a.answer.1)))
given_answered width old new source bytes items (Ok (Err ending.ReadFault)) was is_open closed a =
    ended_given width old new source bytes items _ was is_open a (Ok ending.ReadFault) closed
    (a.answer.1, a.answer.2, on_none width old new source bytes items _ was is_open a stop.Fault (λ part. refl) a.answer.1 a.answer.0)
given_answered width old new source bytes items (Ok (Err ending.TooLong)) was is_open closed a =
    let not_ended : new.at_end ≡ false = by new.at_end refl in
    ended_given width old new source bytes items _ was is_open a (Ok ending.TooLong) closed
    (not_ended, a.answer.1, on_none width old new source bytes items _ was is_open a stop.Limit (λ part. refl) not_ended a.answer.0)
  where
    by : (b : Bool) → new.at_end ≡ b → new.at_end ≡ false
    by false e = e
    by true e = absurd (let below = a.takes.below e in let at = a.answer.1 in omega arith)
given_answered width old new source bytes items (Err want) was is_open closed a = ended_given width old new source bytes items _ was is_open a (Err want) closed tt

-- an item has the words that it should
pub item_wide : (old new : Seen) (source : Change (List ℕ)) (words : List ℤ) → Answers old new source (Ok (Ok words)) → length words ≡ old.words
item_wide old new source words a = subst (IsWide old.words) a.answer.holds_it (line_wide old.words (numbers_of (words_of (strip_carriage_return a.answer.first))))
