-- A stream of which one more item is requested.
use Rattle.std.proofs.Common.{◌≡◌, ◌≢◌, ℕ, ℤ, ◌+◌, ◌-◌, ◌≤◌, Bool, true, false, List, [], ◌∷◌, ◌++◌, length, Option, Some, None, Result, Ok, Err, IfOk, refl, sym, ap, subst, ◌∙◌, arith, append-nil, length-append}
use Rattle.std.specs.List.{AllByRecursion}
use Rattle.std.specs.Option.{is_some}
use Rattle.p3l_base.specs.declared.NoMemory.{NoMemory}
use Rattle.p3l_io.specs.Change.{Becomes, Change, HasSameFaults, Observation, Rose, change}
use Rattle.p3l_stream.specs.declared.items.Ending.{Ending}
use Rattle.p3l_stream.specs.declared.items.Ending.TheVariants as ending
use Rattle.p3l_stream.specs.Answers.{Answers, IsAtEnd, NextCause}
use Rattle.p3l_stream.specs.Given.{GivenCause, HasGiven, items_in}
use Rattle.p3l_stream.specs.Seen.{Answer, Seen, closed_by, ending_in, item_count, most_items, most_of, started}
use Rattle.p3l_stream.specs.Taken.{IsTaken, IsTakenOf}
use Rattle.p3l_stream.proofs.Reading.{IsTaken-none, IsTaken-twice}
use Rattle.p3l_net.specs.Machine as machine
use Rattle.p3l_run.specs.Feed.{Feeds, FeedsInVain, Gives, GivesMore, IsOpenOrEnded, Offers, closed_so, ending_of, input_limit, most_of_input}

-- nothing was requested yet
pub gives_first : (width : ℕ) (input : Observation (List ℕ)) (s : Seen) → HasGiven width (started width input_limit) [] [] → s ≡ started width input_limit → Gives width (change input input) s [] None
gives_first width input s given fresh = record {
  bytes = [];
  given = subst (λ k. HasGiven width k [] []) (sym fresh) given;
  limit = ap (λ (k : Seen). k.limit) fresh;
  closed_is = ap (λ (k : Seen). k.closed) fresh;
  read = IsTaken-none input;
  at_end = λ ends. absurd (let no : false ≡ true = sym (ap (λ (k : Seen). k.at_end) fresh) ∙ ends in cc);
  cause = refl;
  few = subst (λ k. 0 + most_items k ≤ most_of_input) (sym fresh) (omega arith);
}

-- the end of an input that goes no further
still_end : (input : Change (List ℕ)) (got : List ℕ) → got ≡ [] → IsTaken input got → IsAtEnd input.old.content → IsAtEnd input.new.content
still_end input got none = by input.old.content input.new.content
  where
    by : (old new : Option (List ℕ)) → Becomes (IsTakenOf got) old new → IsAtEnd old → IsAtEnd new
    by None None read end = tt
    by None (Some left) read end = absurd cc
    by (Some rest) None read end = absurd (let some = read.1 in cc)
    by (Some rest) (Some left) read end =
        let same : left ≡ read.0 = (let some = read.1 in cc) in
        same ∙ ap (λ (g : List ℕ). g ++ read.0) (sym none) ∙ sym read.2 ∙ end

-- the count of faults, from before
cause_on : (closed : Option (Result Ending NoMemory)) (first : Observation (List ℕ)) (input : Change (List ℕ)) → HasSameFaults (change first input.old) → GivenCause closed input → GivenCause closed (change first input.new)
cause_on (Some (Ok ending.ReadFault)) first input same cause = subst (λ k. Rose k input.new.faults) same cause
cause_on _ first input same cause = cause ∙ same

nothing_more : (items : List (List ℤ)) → length (items ++ []) ≡ length items
nothing_more items = ap length (append-nil items)

few_on : (old new : Seen) (items : List (List ℤ)) (result : Result Answer NoMemory) → IfOk result (λ answer. item_count answer + most_items new ≤ most_items old) → new.closed ≡ closed_by result → length items + most_items old ≤ most_of_input →
    length (items ++ items_in result) + most_items new ≤ most_of_input
few_on old new items (Ok (Ok words)) few closed was = omega (arith, length-append items (words ∷ []))
few_on old new items (Ok (Err e)) few closed was = omega (arith, nothing_more items)
few_on old new items (Err e) few closed was =
    let none : most_items new ≡ 0 = ap (λ c. most_of c new.at_end (length new.held) (new.limit - new.taken)) closed in
    omega (arith, nothing_more items)

-- one answer more
gives_more : (width : ℕ) (first : Observation (List ℕ)) (input : Change (List ℕ)) (old new : Seen) (items : List (List ℤ)) (result : Result Answer NoMemory)
    → ((bytes : List ℕ) → HasGiven width old bytes items → (answers : Answers old new input result) → HasGiven width new (bytes ++ answers.got) (items ++ items_in result))
    → Answers old new input result → NextCause result input → new.closed ≡ closed_by result → IfOk result (λ answer. item_count answer + most_items new ≤ most_items old)
    → Gives width (change first input.old) old items None → Gives width (change first input.new) new (items ++ items_in result) (closed_by result)
gives_more width first input old new items result law answers cause closed few g = record {
  bytes = g.bytes ++ answers.got;
  given = law g.bytes g.given answers;
  limit = answers.takes.same_limit ∙ g.limit;
  closed_is = closed;
  read = IsTaken-twice first input.old input.new g.bytes answers.got g.read answers.takes.given;
  at_end = λ ends. by old.at_end refl ends;
  cause = cause_on (closed_by result) first input g.cause cause;
  few = few_on old new items result few closed g.few;
}
  where
    by : (b : Bool) → old.at_end ≡ b → new.at_end ≡ true → IsAtEnd input.new.content
    by true was ends = still_end input answers.got (answers.takes.once was).0 answers.takes.given (g.at_end was)
    by false was ends = answers.takes.all was ends

no_end : (e : Ending) → ◌≡◌ {A = Option Ending} None (Some e) → ⊥
no_end e h = cc

-- nothing is requested
pub same_feeds : (width : ℕ) (m : machine.Seen) (s : Seen) (input : Observation (List ℕ)) → (ending_of s ≡ None → m.inbox ≢ None) → Feeds width m m s s (change input input)
same_feeds width m s input filled = record {
  more = [];
  gives = λ first items g. subst (λ i. Gives width (change first input) s i (closed_so (ending_of s))) (sym (append-nil items)) g;
  offers = refl;
  wide = tt;
  filled = filled;
  request = λ some. absurd (some refl);
  kept = λ e is. is;
  empty = λ e none is. absurd (no_end e (sym none ∙ is));
}

-- a call of the stream, by its answer
module _ (width : ℕ) (s s' : Seen) (input : Change (List ℕ)) (result : Result Answer NoMemory)
    (law : (bytes : List ℕ) (items : List (List ℤ)) → HasGiven width s bytes items → (answers : Answers s s' input result) → HasGiven width s' (bytes ++ answers.got) (items ++ items_in result))
    (answers : Answers s s' input result) (cause : NextCause result input) (closed : s'.closed ≡ closed_by result) (few : IfOk result (λ a. item_count a + most_items s' ≤ most_items s)) where
  pub gives_so : (other : Result Answer NoMemory) → result ≡ other → (first : Observation (List ℕ)) (items : List (List ℤ)) → Gives width (change first input.old) s items None →
      Gives width (change first input.new) s' (items ++ items_in other) (closed_by other)
  gives_so other is first items g =
      subst (λ r. Gives width (change first input.new) s' (items ++ items_in r) (closed_by r)) is (gives_more width first input s s' items result (λ bytes given a. law bytes items given a) answers cause closed few g)

  module _ (is_open : s.closed ≡ None) where
    not_ended : ending_of s ≡ None
    not_ended = ap ending_in is_open

    gives_then : (other : Result Answer NoMemory) → result ≡ other → (after : Option (Result Ending NoMemory)) → after ≡ closed_by other → GivesMore width input s s' (items_in other) after
    gives_then other is after then first items g =
        subst (Gives width (change first input.new) s' (items ++ items_in other)) (sym then) (gives_so other is first items (subst (λ k. Gives width (change first input.old) s items (closed_so k)) not_ended g))

    pub in_vain : (other : Result Answer NoMemory) → result ≡ other → AllByRecursion (λ (words : List ℤ). length words ≡ width) (items_in other) → FeedsInVain width s s' input
    in_vain other is wide = record { more = items_in other; gives = gives_then other is s'.closed (closed ∙ ap closed_by is); wide = wide; request = not_ended }

    pub item_feeds : (m m' : machine.Seen) (item : List ℤ) → result ≡ Ok (Ok item) → length item ≡ width → m.inbox ≡ None → m' ≡ record m { inbox = Some item } → Feeds width m m' s s' input
    item_feeds m m' item is wide empty offered = record {
      more = item ∷ [];
      gives = gives_then (Ok (Ok item)) is _ (ap closed_so still);
      offers = (empty, offered, refl);
      wide = (wide, tt);
      filled = λ e none. (let z : Some item ≡ None = sym (ap (λ (k : machine.Seen). k.inbox) offered) ∙ none in cc);
      request = λ some. not_ended;
      kept = λ e is. absurd (no_end e (sym not_ended ∙ is));
      empty = λ e none ends. absurd (no_end e (sym still ∙ ends));
    }
      where
        still : ending_of s' ≡ None
        still = ap ending_in (closed ∙ ap closed_by is)

    pub end_feeds : (m : machine.Seen) (e : Ending) → result ≡ Ok (Err e) → m.inbox ≡ None → Feeds width m m s s' input
    end_feeds m e is empty = record {
      more = [];
      gives = gives_then (Ok (Err e)) is _ (ap closed_so ends);
      offers = refl;
      wide = tt;
      filled = λ none. absurd (no_end e (sym none ∙ ends));
      request = λ some. absurd (some refl);
      kept = λ other is. absurd (no_end other (sym not_ended ∙ is));
      empty = λ other none is. empty;
    }
      where
        ends : ending_of s' ≡ Some e
        ends = ap ending_in (closed ∙ ap closed_by is)

-- memory did not run out for a stream that gave items, and ended so, if it did
pub open_or_ended : {width : ℕ} {input : Change (List ℕ)} {s : Seen} {items : List (List ℤ)} → Gives width input s items (closed_so (ending_of s)) → IsOpenOrEnded s
open_or_ended g none = g.closed_is ∙ ap closed_so none

-- the test of an option tells if it has a value
pub not_none : (T : Type 0) (o : Option T) (b : Bool) → b ≡ is_some o → b ≡ true → o ≢ None
not_none T o b is true_is none = (let z : true ≡ false = sym true_is ∙ is ∙ ap is_some none in cc)

pub is_none : (T : Type 0) (o : Option T) (b : Bool) → b ≡ is_some o → b ≡ false → o ≡ None
is_none T None b is false_is = refl
is_none T (Some x) b is false_is = (let z : true ≡ false = sym is ∙ false_is in cc)

-- a machine that is fed doesn't fire
pub fed_fired : (m m' : machine.Seen) (more : List (List ℤ)) → Offers m m' more → m'.fired ≡ m.fired
fed_fired m m' [] offers = ap (λ (k : machine.Seen). k.fired) offers
fed_fired m m' (item ∷ more) offers = ap (λ (k : machine.Seen). k.fired) offers.1
