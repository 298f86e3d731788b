-- The part of an input that is seen without a fault, and the status of a run on it.
use Rattle.std.proofs.Common.{◌≡◌, ℕ, zero, suc, ℤ, ◌+◌, ◌-◌, ◌<◌, ◌≤◌, Bool, true, false, cond, List, [], ◌++◌, length, take, Option, Some, None, refl, sym, ap, subst, ◌∙◌, arith, append-nil, length-append, if◌then◌else◌, ◌∷◌}
use Rattle.std.specs.List.{AllByRecursion}
use Rattle.std.proofs.Math.Seq.{take-append-add}
use Rattle.std.proofs.lemmas.Bool.{le-leb, lt-leb}
use Rattle.std.proofs.lemmas.List.{take_all}
use Rattle.std.proofs.lemmas.List.Elements.{recursion_from_All}
use Rattle.p3l_io.specs.Change.{Becomes, Change, HasRisen}
use Rattle.p3l_run.specs.declared.end.RunEnd.{RunEnd}
use Rattle.p3l_run.specs.declared.end.RunEnd.TheVariants as finish
use Rattle.p3l_report.specs.Status as status
use Rattle.p3l_report.specs.Verdict.{end_status, ending_status}
use Rattle.p3l_run.specs.declared.keeping.Keeping.{Keeping}
use Rattle.p3l_run.specs.declared.run.Ran.{Ran}
use Rattle.p3l_run.specs.Feed.{Gives, closed_so, input_limit}
use Rattle.p3l_firing.specs.Run.{Course}
use Rattle.p3l_run.specs.Network.{Network, course_of, goes_on, picks_of, width_of}
use Rattle.p3l_run.specs.Run.{Finishes, MayCome, MayEnd, end_of, finish_of}
use Rattle.p3l_run.specs.Start.{item_number}
use Rattle.p3l_run.specs.Trap.{trap_of}
use Rattle.p3l_base.specs.declared.outcome.Trap.{Trap}
use Rattle.p3l_sched.specs.declared.schedule.Schedule.{Schedule}
use Rattle.p3l_sched.specs.declared.schedule.Schedule.TheVariants as schedule
use Rattle.p3l_stream.specs.declared.items.Ending.{Ending}
use Rattle.p3l_stream.specs.declared.items.Ending.TheVariants as ending
use Rattle.p3l_stream.specs.declared.items.Items.{Items}
use Rattle.p3l_stream.specs.declared.taken.Cutoff.TheVariants as stop
use Rattle.p3l_stream.proofs.Endings.{items_wide}
use Rattle.p3l_stream.specs.Answers.{IsAtEnd}
use Rattle.p3l_stream.specs.Taken.{IsTaken}
use Rattle.p3l_stream.specs.Given.{Closes, GivenCause, HasGiven, TakesOn, ended_by}
use Rattle.p3l_stream.specs.declared.line.LineContent.{LineContent}
use Rattle.p3l_stream.specs.declared.line.LineContent.TheVariants as line
use Rattle.p3l_stream.specs.Lines.{line_of, lines_of}
use Rattle.p3l_stream.specs.Items.{items_of, items_of_lines, items_taken, put_line}
use Rattle.p3l_stream.specs.Seen.{Seen}
use Rattle.p3l_program.specs.Run.{run_status, seen_of, status_with, stop_of}

-- the items seen of an input continue from these items to this ending, as the stream may
pub record GoesOnTo (n : Network) (close : Option Ending) (items : List (List ℤ)) (rest : List ℕ) : Type 0 where
  pub later : List (List ℤ)
  pub e : Ending
  pub may_come : MayCome n close later
  pub may_end : MayEnd close e
  pub seen : seen_of (width_of n) rest ≡ ended_by (items ++ later) e

-- the cutoff of an input of at least, or of fewer bytes than the limit
stops_far : (rest : List ℕ) → input_limit ≤ length rest → stop_of rest ≡ stop.Limit
stops_far rest far = ap (λ b. if b then stop.Limit else stop.End) (le-leb _ _ far)

stops_near : (rest : List ℕ) → length rest < input_limit → stop_of rest ≡ stop.End
stops_near rest near = ap (λ b. if b then stop.Limit else stop.End) (lt-leb _ _ near)

take_none : (k : ℕ) → take {A = ℕ} k [] ≡ []
take_none zero = refl
take_none (suc k) = refl

pub wide_tail : (P : List ℤ → Type 0) (xs ys : List (List ℤ)) → AllByRecursion P (xs ++ ys) → AllByRecursion P ys
wide_tail P [] ys all = all
wide_tail P (x ∷ xs) ys all = wide_tail P xs ys all.1

module _ (n : Network) (rest : List ℕ) (s : Seen) (items : List (List ℤ)) (bytes left : List ℕ) (given : HasGiven (width_of n) s bytes items) (limit : s.limit ≡ input_limit)
    (whole : rest ≡ bytes ++ left) (ended : s.at_end ≡ true → left ≡ []) where
  few : length bytes ≤ input_limit
  few = let a = given.counted in let b = given.within in omega arith

  -- the bytes that are seen after those taken
  abbrev more : List ℕ
  more = take (input_limit - length bytes) left

  front : take input_limit rest ≡ bytes ++ more
  front =
      let far : input_limit ≡ length bytes + (input_limit - length bytes) = omega (arith, few) in
      ap (take input_limit) whole ∙ ap (λ k. take k (bytes ++ left)) far ∙ take-append-add bytes left (input_limit - length bytes)

  at_the_end : s.at_end ≡ true → (stop_of rest ≡ stop.End) × (more ≡ [])
  at_the_end end =
      let none : left ≡ [] = ended end in
      let same : rest ≡ bytes = whole ∙ ap (λ l. bytes ++ l) none ∙ append-nil bytes in
      let size = ap length same in
      let a = given.counted in
      let b = given.below end in
      (stops_near rest (omega arith), ap (take (input_limit - length bytes)) none ∙ take_none (input_limit - length bytes))

  -- a statement on the items seen, if it holds whatever follows the bytes taken
  seen_by : (P : Items → Type 0) → TakesOn s.at_end (λ how later. P (items_taken (width_of n) how (bytes ++ later))) → P (seen_of (width_of n) rest)
  seen_by P on = subst (λ t. P (items_taken (width_of n) (stop_of rest) t)) (sym front) (on (stop_of rest) more at_the_end)

  -- a line that is refused ends it
  refused_line : (e : Ending) → TakesOn s.at_end (λ how later. items_taken (width_of n) how (bytes ++ later) ≡ ended_by items e) → GoesOnTo n (Some e) items rest
  refused_line e on = record {
    later = [];
    e = e;
    may_come = record { wide = tt; none = λ close h. refl };
    may_end = refl;
    seen = seen_by (λ i. i ≡ ended_by items e) on ∙ ap (λ i. ended_by i e) (sym (append-nil items));
  }

  goes_on_to : (close : Option Ending) (input : Change (List ℕ)) → s.closed ≡ closed_so close → GivenCause (closed_so close) input → (HasRisen input → ⊥) → GoesOnTo n close items rest
  goes_on_to None input closed cause faultless = by (subst (λ c. Closes (width_of n) s bytes items c) closed given.closes)
    where
      by : Closes (width_of n) s bytes items None → GoesOnTo n None items rest
      by on =
          let here = on (stop_of rest) more at_the_end in
          let all = ap (λ t. items_taken (width_of n) (stop_of rest) t) front ∙ here in
          let wide = recursion_from_All (λ words. length words ≡ width_of n) _ (items_wide (width_of n) (stop_of rest) (bytes ++ more)) in
          record {
            later = _;
            e = _;
            may_come = record {
              wide = wide_tail (λ words. length words ≡ width_of n) items _ (subst (λ (i : Items). AllByRecursion (λ words. length words ≡ width_of n) i.items) here wide);
              none = λ close h. absurd cc;
            };
            may_end = tt;
            seen = all;
          }
  goes_on_to (Some ending.End) input closed cause faultless = by (subst (λ c. Closes (width_of n) s bytes items c) closed given.closes)
    where
      by : Closes (width_of n) s bytes items (closed_so (Some ending.End)) → GoesOnTo n (Some ending.End) items rest
      by h =
          let end = at_the_end h.0 in
          let same : bytes ++ more ≡ bytes = ap (λ m. bytes ++ m) end.1 ∙ append-nil bytes in
          record {
            later = [];
            e = ending.End;
            may_come = record { wide = tt; none = λ close e. refl };
            may_end = refl;
            seen = ap (λ h. items_taken (width_of n) h (take input_limit rest)) end.0 ∙ ap (items_taken (width_of n) stop.End) (front ∙ same) ∙ h.1 ∙ ap (λ i. ended_by i ending.End) (sym (append-nil items));
          }
  goes_on_to (Some (ending.BadWord line)) input closed cause faultless = refused_line (ending.BadWord line) (subst (λ c. Closes (width_of n) s bytes items c) closed given.closes)
  goes_on_to (Some (ending.WrongCount line had)) input closed cause faultless = refused_line (ending.WrongCount line had) (subst (λ c. Closes (width_of n) s bytes items c) closed given.closes)
  goes_on_to (Some (ending.OutOfRange line)) input closed cause faultless = refused_line (ending.OutOfRange line) (subst (λ c. Closes (width_of n) s bytes items c) closed given.closes)
  goes_on_to (Some ending.ReadFault) input closed cause faultless = absurd (faultless cause)
  goes_on_to (Some ending.TooLong) input closed cause faultless = by (subst (λ c. Closes (width_of n) s bytes items c) closed given.closes)
    where
      by : Closes (width_of n) s bytes items (closed_so (Some ending.TooLong)) → GoesOnTo n (Some ending.TooLong) items rest
      by h =
          let a = given.counted in
          let full = h.1 in
          let size = ap length whole ∙ length-append bytes left in
          let none : input_limit - length bytes ≡ 0 = omega arith in
          let nothing : more ≡ [] = ap (λ k. take k left) none in
          let same : bytes ++ more ≡ bytes = ap (λ m. bytes ++ m) nothing ∙ append-nil bytes in
          record {
            later = [];
            e = ending.TooLong;
            may_come = record { wide = tt; none = λ close e. refl };
            may_end = refl;
            seen = ap (λ h. items_taken (width_of n) h (take input_limit rest)) (stops_far rest (omega arith)) ∙ ap (items_taken (width_of n) stop.Limit) (front ∙ same) ∙ h.2
                ∙ ap (λ i. ended_by i ending.TooLong) (sym (append-nil items));
          }

-- the bytes that are left of an input that reports them, behind those that were taken
pub taken_known : (input : Change (List ℕ)) (rest bytes : List ℕ) → input.old.content ≡ Some rest → IsTaken input bytes → (left : List ℕ) × (input.new.content ≡ Some left) × (rest ≡ bytes ++ left)
taken_known input rest bytes known taken = subst (λ old. Becomes (λ rest new. (left : List ℕ) × (new ≡ Some left) × (rest ≡ bytes ++ left)) old input.new.content) known taken

pub at_end_left : (rest : Option (List ℕ)) (left : List ℕ) → rest ≡ Some left → IsAtEnd rest → left ≡ []
at_end_left None left known h = absurd cc
at_end_left (Some other) left known h = let same : other ≡ left = cc in sym same ∙ h

-- the items seen of an input that reports its content, without a fault, continue from the items that its stream gave
pub seen_goes_on : (n : Network) (rest : List ℕ) (input : Change (List ℕ)) (close : Option Ending) (s : Seen) (items : List (List ℤ)) → Gives (width_of n) input s items (closed_so close) →
    input.old.content ≡ Some rest → (HasRisen input → ⊥) → GoesOnTo n close items rest
seen_goes_on n rest input close s items g known faultless =
    let read = taken_known input rest g.bytes known g.read in
    goes_on_to n rest s items g.bytes read.0 g.given g.limit read.2 (λ h. at_end_left input.new.content read.0 read.1 (g.at_end h)) close input g.closed_is g.cause faultless

-- so the status of a run on an input that reports what is left, where no fault came, is that of what is seen
pub seen_status : (n : Network) (s : Schedule) (rest : List ℕ) (keeping : Keeping) (input out : Change (List ℕ)) (end : Ran) →
    input.old.content ≡ Some rest → (HasRisen input → ⊥) → Finishes n s keeping input out end → end_status end.finish ≡ run_status n s rest
seen_status n s rest keeping input out end known faultless f =
    let to = seen_goes_on n rest input f.close f.stream f.items f.gives known faultless in
    ap (λ e. end_status e) (f.ends to.later to.may_come to.e to.may_end) ∙ ap (status_with n s) (sym to.seen)

-- no ending of a stream is a stop
pub ending_unstopped : (e : Ending) → ending_status e ≡ status.stopped → ⊥
ending_unstopped ending.End h = absurd (omega arith)
ending_unstopped (ending.BadWord line) h = absurd (omega arith)
ending_unstopped (ending.WrongCount line had) h = absurd (omega arith)
ending_unstopped (ending.OutOfRange line) h = absurd (omega arith)
ending_unstopped ending.ReadFault h = absurd (omega arith)
ending_unstopped ending.TooLong h = absurd (omega arith)

-- if a run is stopped, some process can fire
pub stopped_goes : (n : Network) (c : Course) (close : Ending) (f : RunEnd) → f ≡ finish_of n c close → end_status f ≡ status.stopped → goes_on n c ≡ true
stopped_goes n c close f is h = by (goes_on n c) (trap_of c.state.emitted) refl (sym (ap (λ k. end_status k) is) ∙ h)
  where
    by : (b : Bool) (trap : Option Trap) → goes_on n c ≡ b → end_status (cond b (finish.Stopped c.fired c.idle) (end_of n.named trap (item_number n.start (length c.state.emitted)) close)) ≡ status.stopped → goes_on n c ≡ true
    by true trap goes k = goes
    by false None goes k = absurd (ending_unstopped close k)
    by false (Some t) goes k = absurd (omega arith)

-- and it is stopped only where its schedule is that of a file, of which all picks were made
pub seen_stops : (n : Network) (s : Schedule) (rest : List ℕ) (keeping : Keeping) (input out : Change (List ℕ)) (end : Ran) →
    input.old.content ≡ Some rest → (HasRisen input → ⊥) → Finishes n s keeping input out end → end_status end.finish ≡ status.stopped →
    s ≡ schedule.Recorded (picks_of n s (seen_of (width_of n) rest).items)
seen_stops n s rest keeping input out end known faultless f h =
    let to = seen_goes_on n rest input f.close f.stream f.items f.gives known faultless in
    let goes = stopped_goes n (course_of n s (f.items ++ to.later)) to.e end.finish (f.ends to.later to.may_come to.e to.may_end) h in
    subst (λ (i : Items). s ≡ schedule.Recorded (picks_of n s i.items)) (sym to.seen) ((f.ran to.later to.may_come).stops goes)

-- below the limit all items of an input are seen
pub seen_short : (width : ℕ) (rest : List ℕ) → length rest < input_limit → seen_of width rest ≡ items_of width rest
seen_short width rest near = ap (λ how. items_taken width how (take input_limit rest)) (stops_near rest near) ∙ ap (items_taken width stop.End) (take_all input_limit rest (omega arith))

-- and they don't end with a fault of reading
line_ends : (l : LineContent) (number : ℕ) (rest : Items) → (rest.ending ≡ ending.ReadFault → ⊥) → (put_line l number rest).ending ≡ ending.ReadFault → ⊥
line_ends line.Blank number rest h = h
line_ends (line.Item words) number rest h = h
line_ends line.BadWord number rest h = λ e. absurd cc
line_ends (line.WrongCount had) number rest h = λ e. absurd cc
line_ends line.OutOfRange number rest h = λ e. absurd cc

lines_end : (width number : ℕ) (lines : List (List ℕ)) → (items_of_lines width number ending.End lines).ending ≡ ending.ReadFault → ⊥
lines_end width number [] = λ e. absurd cc
lines_end width number (bytes ∷ lines) = line_ends (line_of width bytes) number (items_of_lines width (number + 1) ending.End lines) (lines_end width (number + 1) lines)

pub text_ends : (width : ℕ) (text : List ℕ) → (items_of width text).ending ≡ ending.ReadFault → ⊥
text_ends width text = lines_end width 1 (lines_of stop.End text)

-- if a run ends as its stream does, no process can fire
pub still_of : (n : Network) (c : Course) (e close : Ending) (f : RunEnd) → f ≡ finish.Stream close → f ≡ finish_of n c e → goes_on n c ≡ false
still_of n c e close f stream is = by (goes_on n c) refl
  where
    by : (b : Bool) → goes_on n c ≡ b → goes_on n c ≡ false
    by false h = h
    by true h = absurd (let z : finish_of n c e ≡ finish.Stopped c.fired c.idle = ap (λ b. cond b (finish.Stopped c.fired c.idle) (end_of n.named (trap_of c.state.emitted) (item_number n.start (length c.state.emitted)) e)) h in let y = sym stream ∙ is ∙ z in cc)

-- and its stream ended so
pub stream_end : (n : Network) (c : Course) (close e : Ending) (f : RunEnd) → f ≡ finish_of n c close → f ≡ finish.Stream e → close ≡ e
stream_end n c close e f is stream = by (goes_on n c) (trap_of c.state.emitted) (sym is ∙ stream)
  where
    by : (b : Bool) (trap : Option Trap) → cond b (finish.Stopped c.fired c.idle) (end_of n.named trap (item_number n.start (length c.state.emitted)) close) ≡ finish.Stream e → close ≡ e
    by true trap h = absurd cc
    by false None h = cc
    by false (Some t) h = absurd cc
