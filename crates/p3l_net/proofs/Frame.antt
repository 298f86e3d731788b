-- A firing changes only what it touches: the readiness of every process that is apart stays, and of every one for which what was
-- touched has slack.
use Rattle.std.proofs.Common.{◌≡◌, ◌≢◌, ℕ, ℤ, zero, suc, ◌+◌, ◌-◌, ◌<◌, ◌≤◌, ◌⊎◌, nat_lt, nat_le, lt-ltb, Bool, true, false, not, ◌&&◌, cond, List, [], ◌∷◌, ◌++◌, length, Option, Some, None, slice_get, slice_index, slice_set, refl, sym, ap, ap₂, ◌∙◌, subst, arith, inl, inr, filter, length-set, get_or-set_same, get_or-set_other}
use Rattle.std.specs.Option.{option_map, option_to_list, option_or, IfSome, IfNone}
use Rattle.std.specs.List.{AllByRecursion, find, range_with_len}
use Rattle.std.proofs.lemmas.Bool.{cases_eq, cases_lt, cases_Bool, cond-true, cond-false, false≢true, leb-false}
use Rattle.std.proofs.lemmas.List.{get_or_past}
use Rattle.std.proofs.lemmas.Option.{slice_get_past}
use Rattle.std.proofs.Math.Path.{subst₂}
use Rattle.std.proofs.lemmas.List.Folds.{find-append}
use Rattle.p3l_base.specs.declared.outcome.Outcome.{Outcome}
use Rattle.p3l_firing.specs.declared.process.Proc.{Proc}
use Rattle.p3l_firing.specs.declared.process.ProcKind.TheVariants.{Source}
use Rattle.p3l_firing.specs.declared.net.Net.{Net}
use Rattle.p3l_firing.specs.declared.token.Token.{Token}
use Rattle.p3l_firing.specs.Lists.{has_first, first_or, rest_of}
use Rattle.p3l_firing.specs.Token.{credit}
use Rattle.p3l_firing.specs.State.{chan_at, has_room, own_at}
use Rattle.p3l_firing.specs.Fire.{row_can}
use Rattle.p3l_ready.specs.Flags.{flag_at, count_from, in_turn}
use Rattle.p3l_firing.specs.RoundRobin.{next_of}
use Rattle.p3l_firing.specs.Typed.{IsTyped}
use Rattle.p3l_net.specs.Machine.{Seen, HasEmitted, state_of, can_step, ready_list}
use Rattle.p3l_firing.specs.Process.{Has, IsAt}
use Rattle.p3l_net.specs.Channel.{tokens_at}
use Rattle.p3l_net.specs.Steps.{IsApart, ShareNone, ReadsNot, WritesNot, Moves, Ends, HasEnds, OthersStay, HasSlack, AllHaveSlack, AgreesAt, AgreesBut, CanRefresh, looked, ready_at}
use Rattle.p3l_firing.proofs.Rows.{ready_at as row_ready, none_ready}
use Rattle.p3l_ready.proofs.AtLemmas.{same_function}
use Rattle.p3l_firing.proofs.Reading.{room-same}
use Rattle.p3l_firing.proofs.Places.{all-has}
use Rattle.p3l_net.proofs.Alike.{LookAlike, SameFirst, can_alike}
use Rattle.p3l_net.proofs.Cyclic.{next_passes, next_none, next_is}

-- a channel is one of these, or apart from them
among_or_apart : (cs : List ℕ) (c : ℕ) → Has cs c ⊎ AllByRecursion (λ d. c ≢ d) cs
among_or_apart [] c = inr tt
among_or_apart (d ∷ cs) c =
    elim (cases_eq d c) [
      | inl e ↦ inl (inl e)
      | inr e ↦
          elim (among_or_apart cs c) [
            | inl has ↦ inl (inr has)
            | inr apart ↦ inr ((λ f. e (sym f)), apart)
          ]
    ]

same_first : (xs ys : List Token) → xs ≡ ys → SameFirst xs ys
same_first xs ys e = record { there = ap has_first e; token = ap (first_or credit) e }

-- if there are two tokens and one of them came last, the first was there before
grown_first : (xs ys : List Token) (token : Token) → ys ≡ xs ++ token ∷ [] → 1 < length ys → SameFirst ys xs
grown_first [] ys token e long = let one : length ys ≡ 1 = ap length e in absurd (omega (arith, one, long))
grown_first (x ∷ xs) ys token e long = record { there = ap has_first e; token = ap (first_or credit) e }

module _ {m n : Seen} {p : ℕ} {touched : List ℕ} (moves : Moves m n p touched) (r : ℕ) (other : r ≢ p) where
  same_item : (q : Proc) → slice_get m.net.procs r ≡ Some q → q.kind ≡ Source → has_first (state_of n []).unsent ≡ has_first (state_of m []).unsent
  unfolding state_of
  same_item q stands kind =
      let here : r ≡ 0 = moves.typed.one_source r (ap (option_map (λ (x : Proc). x.kind)) stands ∙ ap Some kind) in
      elim moves.inbox [
        | inl source ↦ absurd (other (here ∙ sym (moves.typed.one_source p source)))
        | inr same ↦ ap (λ o. has_first (option_to_list o)) same
      ]

  same_row : (q : Proc) → slice_get m.net.procs r ≡ Some q → LookAlike m.net (state_of n []) (state_of m []) q → ready_at n r ≡ ready_at m r
  unfolding state_of
  same_row q stands alike =
      let there : slice_get n.net.procs r ≡ Some q = ap (λ (x : Net). slice_get x.procs r) moves.net ∙ stands in
      let own : (state_of n []).own r ≡ (state_of m []).own r = moves.owns r other in
      row_ready n.tree n.net (state_of n []) r q there
      ∙ ap (λ o. row_can q.kind n.tree n.net (state_of n []) o q) own
      ∙ ap₂ (λ t x. row_can q.kind t x (state_of n []) (own_at m.owns r) q) moves.tree moves.net
      ∙ can_alike m.net (state_of n []) (state_of m []) (own_at m.owns r) q alike m.tree moves.typed.widths q.kind refl (moves.typed.processes r q stands)
      ∙ sym (row_ready m.tree m.net (state_of m []) r q stands)

  same_place : ((q : Proc) → slice_get m.net.procs r ≡ Some q → LookAlike m.net (state_of n []) (state_of m []) q) → ready_at n r ≡ ready_at m r
  same_place alike = by_place (slice_get m.net.procs r) refl
    where
      by_place : (o : Option Proc) → slice_get m.net.procs r ≡ o → ready_at n r ≡ ready_at m r
      by_place (Some q) e = same_row q e (alike q e)
      by_place None e = none_ready n.tree n.net (state_of n []) r (ap (λ (x : Net). slice_get x.procs r) moves.net ∙ e) ∙ sym (none_ready m.tree m.net (state_of m []) r e)

  -- THE FRAME: a process that is apart is as ready as it was
  module _ (apart : IsApart m.net r touched) where
    -- a channel of the other process is none of those touched
    untouched : (cs : List ℕ) → IsApart m.net r cs → (c : ℕ) → IsAt (slice_get m.net.procs r) c → AllByRecursion (λ d. c ≢ d) cs
    untouched [] far c at = tt
    untouched (d ∷ cs) far c at = ((λ e. far.0 (subst (IsAt (slice_get m.net.procs r)) e at)), untouched cs far.1 c at)

    apart_alike : (q : Proc) → slice_get m.net.procs r ≡ Some q → LookAlike m.net (state_of n []) (state_of m []) q
    unfolding state_of
    apart_alike q stands =
        let same : (c : ℕ) → IsAt (Some q) c → tokens_at n.queues c ≡ tokens_at m.queues c = λ c at. moves.queues c (untouched touched apart c (subst (λ x. IsAt x c) (sym stands) at)) in
        record {
          firsts = λ c has. same_first (tokens_at n.queues c) (tokens_at m.queues c) (same c (inl has));
          rooms = λ c has. room-same m.net (state_of n []) (state_of m []) c (same c (inr has));
          item = same_item q stands;
        }

    pub apart_same : ready_at n r ≡ ready_at m r
    apart_same = same_place apart_alike

  -- and so is one for which what was touched has slack
  module _ (ends : Ends) (sides : HasEnds m.net ends) (slack : AllHaveSlack n r touched) (q : Proc) (stands : slice_get m.net.procs r ≡ Some q) where
    there : slice_get n.net.procs r ≡ Some q
    there = ap (λ (x : Net). slice_get x.procs r) moves.net ∙ stands

    -- the process that fired does not read what this one reads, or write what it writes
    unread : (c : ℕ) → Has q.ins c → ReadsNot m.net p c
    unread c has x at h = other (sym (sides.read r c q stands has) ∙ sides.read p c x at h)

    unwritten : (c : ℕ) → Has q.outs c → WritesNot m.net p c
    unwritten c has x at h = other (sym (sides.written r c q stands has) ∙ sides.written p c x at h)

    first_same : (c : ℕ) → Has q.ins c → SameFirst (tokens_at n.queues c) (tokens_at m.queues c)
    first_same c has =
        elim (among_or_apart touched c) [
          | inl at ↦
              elim (moves.grows c (unread c has)) [
                | inl same ↦ same_first (tokens_at n.queues c) (tokens_at m.queues c) same
                | inr more ↦ grown_first (tokens_at m.queues c) (tokens_at n.queues c) more.0 more.1 ((all-has (HasSlack n r) touched slack c at).tokens q there has)
              ]
          | inr apart ↦ same_first (tokens_at n.queues c) (tokens_at m.queues c) (moves.queues c apart)
        ]

    room_still : (c : ℕ) → Has q.outs c → has_room m.net (state_of n []) c ≡ has_room m.net (state_of m []) c
    unfolding has_room state_of
    room_still c has =
        elim (among_or_apart touched c) [
          | inl at ↦
              elim (moves.shrinks c (unwritten c has)) [
                | inl same ↦ ap (λ ts. nat_lt (length ts) (chan_at m.net c).cap) same
                | inr less ↦
                    let room : length (tokens_at n.queues c) + 1 < (chan_at m.net c).cap
                    = subst (λ (x : Net). length (tokens_at n.queues c) + 1 < (chan_at x c).cap) moves.net ((all-has (HasSlack n r) touched slack c at).room q there has) in
                    let one : length (tokens_at m.queues c) ≤ length (tokens_at n.queues c) + 1
                    = subst (λ ts. length (tokens_at m.queues c) ≤ length ts + 1) (sym less) (one_shorter (tokens_at m.queues c)) in
                    lt-ltb (length (tokens_at n.queues c)) (chan_at m.net c).cap (omega (arith, room))
                    ∙ sym (lt-ltb (length (tokens_at m.queues c)) (chan_at m.net c).cap (omega (arith, room, one)))
              ]
          | inr apart ↦ ap (λ ts. nat_lt (length ts) (chan_at m.net c).cap) (moves.queues c apart)
        ]
      where
        one_shorter : (xs : List Token) → length xs ≤ length (rest_of xs) + 1
        one_shorter [] = omega arith
        one_shorter (x ∷ xs) = omega arith

    slack_alike : LookAlike m.net (state_of n []) (state_of m []) q
    unfolding state_of
    slack_alike = record { firsts = first_same; rooms = room_still; item = same_item q stands }

  pub slack_same : (ends : Ends) → HasEnds m.net ends → AllHaveSlack n r touched → ready_at n r ≡ ready_at m r
  slack_same ends sides slack = same_place (slack_alike ends sides slack)

-- channels of p are none of a process that has none in common with it
pub none_shared : (m : Seen) (p r : ℕ) (cs : List ℕ) → AllByRecursion (IsAt (slice_get m.net.procs p)) cs → ShareNone m.net p r → IsApart m.net r cs
none_shared m p r [] all apart = tt
none_shared m p r (c ∷ cs) all apart = (apart c all.0, none_shared m p r cs all.1 apart)

-- the others stay as ready as they were
pub others_stay : {m n : Seen} {p : ℕ} {touched : List ℕ} → Moves m n p touched → OthersStay m n p
others_stay {m = m} {p = p} {touched = touched} moves r other apart = apart_same moves r other (none_shared m p r touched moves.own_channels apart)

-- only the source takes what is in the inbox
pub inbox_stays : {m n : Seen} {p : ℕ} {touched : List ℕ} → Moves m n p touched → p ≢ 0 → n.inbox ≡ m.inbox
inbox_stays {p = p} moves other =
    elim moves.inbox [
      | inl source ↦ absurd (other (moves.typed.one_source p source))
      | inr same ↦ same
    ]

-- the flags of the old machine tell which processes of the new one are ready, but maybe for those for which what was touched has no slack
pub others_agree : {m n : Seen} {p : ℕ} {touched : List ℕ} (flags : List Bool) → AgreesBut m flags [] → (ends : Ends) → HasEnds m.net ends → Moves m n p touched → (r : ℕ) → r < length n.net.procs → r ≢ p → AllHaveSlack n r touched → flag_at flags r ≡ ready_at n r
others_agree flags agrees ends sides moves r inside other slack =
    agrees.right r (subst (λ (x : Net). r < length x.procs) moves.net inside) tt
    ∙ sym (slack_same moves r other ends sides slack)

-- after a look at process w its flag is right, and the others are as they were
look_right : (m : Seen) (w : ℕ) (flags new : List Bool) → length flags ≡ length m.net.procs → (look : Bool) → new ≡ looked look m w flags → (r : ℕ) → r < length m.net.procs → ((r ≡ w → look ≡ false) → flag_at flags r ≡ ready_at m r) → flag_at new r ≡ ready_at m r
look_right m w flags new size false e r inside before = ap (λ fs. flag_at fs r) e ∙ before (λ same. refl)
look_right m w flags new size true e r inside before =
    ap (λ fs. flag_at fs r) e
    ∙ elim (cases_eq r w) [
      | inl same ↦ ap (flag_at (slice_set flags w (ready_at m w))) same ∙ get_or-set_same flags w (ready_at m w) false (subst₂ (λ k n. k < n) same (sym size) inside) ∙ ap (ready_at m) (sym same)
      | inr other ↦ get_or-set_other flags w r (ready_at m w) false other ∙ before (λ same. absurd (other same))
    ]

look_long : (m : Seen) (w : ℕ) (flags : List Bool) (look : Bool) → length (looked look m w flags) ≡ length flags
look_long m w flags true = length-set flags w (ready_at m w)
look_long m w flags false = refl

-- the flags after one look at the process that fired
pub looked_first : {m : Seen} {ends : Ends} {flags new : List Bool} {p : ℕ} {touched : List ℕ} → CanRefresh m ends flags p touched → new ≡ slice_set flags p (ready_at m p) → AgreesBut m new touched
looked_first {m = m} {flags = flags} {new = new} {p = p} can e = record {
  size = ap length e ∙ look_long m p flags true ∙ can.size;
  right = λ r inside slack. look_right m p flags new can.size true e r inside (λ unlooked. can.others r inside (λ same. false≢true (sym (unlooked same))) slack);
}

-- If the flags disagree only at ends of channel c, which process p reads or writes, they agree once the process at its other end was
-- looked at, if that may have become ready
module _ {m : Seen} {ends : Ends} {p c : ℕ} {flags new : List Bool} {cs : List ℕ} (sides : HasEnds m.net ends) (agrees : AgreesBut m flags (c ∷ cs)) (known : AgreesAt m new p) where
  looked_once : (w : ℕ) (look : Bool) → new ≡ looked look m w flags → ((r : ℕ) → r ≢ p → (r ≡ w → look ≡ false) → HasSlack m r c) → AgreesBut m new cs
  looked_once w look e slack_at = record {
    size = ap length e ∙ look_long m w flags look ∙ agrees.size;
    right = λ r inside slack. elim (cases_eq r p) [
      | inl same ↦ ap (flag_at new) same ∙ known.known ∙ ap (ready_at m) (sym same)
      | inr other ↦ look_right m w flags new agrees.size look e r inside (λ unlooked. agrees.right r inside (slack_at r other unlooked, slack))
    ];
  }

  -- the writer of a channel that p reads
  pub looked_at_writer : slice_index ends.readers c ≡ p → new ≡ looked (nat_le (chan_at m.net c).cap (length (tokens_at m.queues c) + 1)) m (slice_index ends.writers c) flags → AgreesBut m new cs
  looked_at_writer reads e =
      looked_once (slice_index ends.writers c) (nat_le (chan_at m.net c).cap (length (tokens_at m.queues c) + 1)) e
      (λ r other unlooked. record {
        room = λ q stands has. leb-false (chan_at m.net c).cap (length (tokens_at m.queues c) + 1) (unlooked (sym (sides.written r c q stands has)));
        tokens = λ q stands has. absurd (other (sym (sides.read r c q stands has) ∙ reads));
      })

  -- the reader of one that p writes
  pub looked_at_reader : slice_index ends.writers c ≡ p → new ≡ looked (nat_le (length (tokens_at m.queues c)) 1) m (slice_index ends.readers c) flags → AgreesBut m new cs
  looked_at_reader writes e =
      looked_once (slice_index ends.readers c) (nat_le (length (tokens_at m.queues c)) 1) e
      (λ r other unlooked. record {
        room = λ q stands has. absurd (other (sym (sides.written r c q stands has) ∙ writes));
        tokens = λ q stands has. leb-false (length (tokens_at m.queues c)) 1 (unlooked (sym (sides.read r c q stands has)));
      })

-- numbers that pass are as many as are counted, and the k-th of them has k before it
module _ (f : ℕ → Bool) where
  cond_long : (b : Bool) (x : ℕ) (xs : List ℕ) → length (cond b (x ∷ xs) xs) ≡ cond b 1 0 + length xs
  cond_long true x xs = omega arith
  cond_long false x xs = omega arith

  pub filtered : (a n : ℕ) → length (filter f (range_with_len a n)) ≡ count_from f a n
  unfolding count_from
  filtered a zero = refl
  filtered a (suc n) = cond_long (f a) a (filter f (range_with_len (a + 1) n)) ∙ ap (λ k. cond (f a) 1 0 + k) (filtered (a + 1) n)

  pub kth : (a d n : ℕ) → d < n → f (a + d) ≡ true → slice_get (filter f (range_with_len a n)) (count_from f a d) ≡ Some (a + d)
  unfolding count_from
  kth a d zero h pass = absurd (omega (arith, h))
  kth a zero (suc n) h pass =
      let here : a + zero ≡ a = omega arith in
      ap (λ xs. slice_get xs 0) (cond-true (f a) (a ∷ filter f (range_with_len (a + 1) n)) (filter f (range_with_len (a + 1) n)) (ap f (sym here) ∙ pass)) ∙ ap Some (sym here)
  kth a (suc d) (suc n) h pass =
      let R = filter f (range_with_len (a + 1) n) in
      let shift : a + suc d ≡ a + 1 + d = omega arith in
      let less : d < n = omega (arith, h) in
      let later : slice_get R (count_from f (a + 1) d) ≡ Some (a + 1 + d) = kth (a + 1) d n less (ap f (sym shift) ∙ pass) in
      elim (cases_Bool (f a)) [
        | inl e ↦
            let one : cond {A = ℕ} (f a) 1 0 ≡ 1 = cond-true (f a) 1 0 e in
            let count : cond (f a) 1 0 + count_from f (a + 1) d ≡ suc (count_from f (a + 1) d) = omega (arith, one) in
            ap₂ (λ xs k. slice_get xs k) (cond-true (f a) (a ∷ R) R e) count ∙ later ∙ ap Some (sym shift)
        | inr e ↦
            let none : cond {A = ℕ} (f a) 1 0 ≡ 0 = cond-false (f a) 1 0 e in
            let count : cond (f a) 1 0 + count_from f (a + 1) d ≡ count_from f (a + 1) d = omega (arith, none) in
            ap₂ (λ xs k. slice_get xs k) (cond-false (f a) (a ∷ R) R e) count ∙ later ∙ ap Some (sym shift)
      ]

module _ (m : Seen) (flags : List Bool) (agrees : AgreesBut m flags []) where
  -- as functions they are the same
  pub flags_are : flag_at flags ≡ ready_at m
  flags_are = same_function (λ r. elim (cases_lt r (length m.net.procs)) [
    | inl inside ↦ agrees.right r inside tt
    | inr past ↦
        get_or_past flags r false (subst (λ n. n ≤ r) (sym agrees.size) past)
        ∙ sym (none_ready m.tree m.net (state_of m []) r (slice_get_past m.net.procs r past))
  ])

  module _ (untrapped : m.trapped ≡ false) where
    pub calm_steps : flag_at flags ≡ can_step m
    calm_steps = same_function (λ r. ap (λ (f : ℕ → Bool). f r) flags_are ∙ ap (λ b. not b && ready_at m r) (sym untrapped))

    pub next_flags : (from : ℕ) (x : Option ℕ) → x ≡ find (flag_at flags) (in_turn (length flags) from) → x ≡ find (can_step m) (in_turn (length m.net.procs) from)
    next_flags from x e = e ∙ ap₂ (λ (f : ℕ → Bool) n. find f (in_turn n from)) calm_steps agrees.size

    pub count_flags : (x : ℕ) → x ≡ count_from (flag_at flags) 0 (length flags) → x ≡ length (ready_list m)
    count_flags x e = e ∙ ap₂ (λ (f : ℕ → Bool) n. count_from f 0 n) calm_steps agrees.size ∙ sym (filtered (can_step m) 0 (length m.net.procs))

    pub nth_flags : (k x : ℕ) → x < length flags → flag_at flags x ≡ true → count_from (flag_at flags) 0 x ≡ k → slice_get (ready_list m) k ≡ Some x
    nth_flags k x inside flag before =
        let pass : can_step m (0 + x) ≡ true = ap (can_step m) (let e : 0 + x ≡ x = omega arith in e) ∙ sym (ap (λ (f : ℕ → Bool). f x) calm_steps) ∙ flag in
        let long = agrees.size in
        ap (slice_get (ready_list m)) (sym before ∙ ap (λ (f : ℕ → Bool). count_from f 0 x) calm_steps)
        ∙ kth (can_step m) 0 x (length m.net.procs) (omega (arith, inside, long)) pass
        ∙ ap Some (let e : 0 + x ≡ x = omega arith in e)

-- after a trap nothing can fire
module _ (m : Seen) (trapped : m.trapped ≡ true) where
  pub trapped_steps : (p : ℕ) → can_step m p ≡ false
  trapped_steps p = ap (λ b. not b && ready_at m p) trapped

  none_found : (f : ℕ → Bool) → ((p : ℕ) → f p ≡ false) → (xs : List ℕ) → None ≡ find f xs
  none_found f h [] = refl
  none_found f h (x ∷ xs) = none_found f h xs ∙ sym (cond-false (f x) _ _ (h x))

  pub trapped_next : (xs : List ℕ) → None ≡ find (can_step m) xs
  trapped_next xs = none_found (can_step m) trapped_steps xs

  none_filtered : (f : ℕ → Bool) → ((p : ℕ) → f p ≡ false) → (xs : List ℕ) → 0 ≡ length (filter f xs)
  none_filtered f h [] = refl
  none_filtered f h (x ∷ xs) = none_filtered f h xs ∙ sym (ap length (cond-false (f x) _ _ (h x)))

  pub trapped_count : 0 ≡ length (ready_list m)
  trapped_count = none_filtered (can_step m) trapped_steps (range_with_len 0 (length m.net.procs))

-- the result of the search in turn
module _ (m : Seen) (from : ℕ) (there : from < length m.net.procs) (x : Option ℕ) (e : x ≡ find (can_step m) (in_turn (length m.net.procs) from)) where
  parts : x ≡ option_or (find (can_step m) (range_with_len from (length m.net.procs - from))) (find (can_step m) (range_with_len 0 from))
  parts = e ∙ find-append (can_step m) (range_with_len from (length m.net.procs - from)) (range_with_len 0 from)

  pub turn_state : (emitted : List Outcome) → HasEmitted m emitted → x ≡ next_of m.tree m.net (state_of m emitted) from
  turn_state emitted has = parts ∙ sym (next_is m from there emitted has)

  IsFound : Option ℕ → Type 0
  IsFound o = IfSome o (λ p. (p < length m.net.procs) × (can_step m p ≡ true))

  pub turn_found : IfSome x (λ p. (p < length m.net.procs) × (can_step m p ≡ true))
  turn_found = by (find (can_step m) (range_with_len from (length m.net.procs - from))) refl
    where
      by : (o : Option ℕ) → find (can_step m) (range_with_len from (length m.net.procs - from)) ≡ o → IfSome x (λ p. (p < length m.net.procs) × (can_step m p ≡ true))
      by (Some p) f = subst (λ o. IfSome o (λ q. (q < length m.net.procs) × (can_step m q ≡ true))) (sym (parts ∙ ap (λ o. option_or o (find (can_step m) (range_with_len 0 from))) f)) (next_passes m from there from (length m.net.procs - from) (omega (arith, there)) (Some p) (sym f))
      by None f = subst (λ o. IfSome o (λ q. (q < length m.net.procs) × (can_step m q ≡ true))) (sym (parts ∙ ap (λ o. option_or o (find (can_step m) (range_with_len 0 from))) f)) (next_passes m from there 0 from (omega (arith, there)) (find (can_step m) (range_with_len 0 from)) refl)

  pub turn_none : IfNone x ((p : ℕ) → can_step m p ≡ false)
  turn_none = by (find (can_step m) (range_with_len from (length m.net.procs - from))) refl
    where
      by : (o : Option ℕ) → find (can_step m) (range_with_len from (length m.net.procs - from)) ≡ o → IfNone x ((p : ℕ) → can_step m p ≡ false)
      by (Some p) f = subst (λ o. IfNone o ((q : ℕ) → can_step m q ≡ false)) (sym (parts ∙ ap (λ o. option_or o (find (can_step m) (range_with_len 0 from))) f)) tt
      by None f = subst (λ o. IfNone o ((q : ℕ) → can_step m q ≡ false)) (sym (parts ∙ ap (λ o. option_or o (find (can_step m) (range_with_len 0 from))) f)) (next_none m from there f (find (can_step m) (range_with_len 0 from)) refl)

-- no trap was emitted if some process can fire
pub listed_calm : (m : Seen) (k : ℕ) → k < length (ready_list m) → m.trapped ≡ false
listed_calm m k h =
    elim (cases_Bool m.trapped) [
      | inl e ↦ let none = trapped_count m e in absurd (omega (arith, none, h))
      | inr e ↦ e
    ]

-- an offer changes only the inbox
pub offer_moves : (m n : Seen) (item : List ℤ) → IsTyped m.tree m.net → n ≡ record m { inbox = Some item } → Moves m n 0 []
offer_moves m n item typed e =
    subst (λ x. Moves m x 0 []) (sym e)
    (record { typed = typed; tree = refl; net = refl; inside = tt; own_channels = tt; queues = λ c apart. refl; grows = λ c none. inl refl; shrinks = λ c none. inl refl; owns = λ r apart. refl; inbox = inl typed.source })

-- and only the source may become ready by it
pub offer_stays : {m n : Seen} → Moves m n 0 [] → (r : ℕ) → r ≢ 0 → ready_at n r ≡ ready_at m r
offer_stays moves r other = apart_same moves r other tt
