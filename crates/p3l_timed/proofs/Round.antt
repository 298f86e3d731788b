-- A round of looks: what one look makes of the due moments, and how the round comes to its end.
use Rattle.std.proofs.Common.{◌≡◌, ◌≢◌, ℕ, ◌+◌, ◌<◌, ◌⊎◌, inl, inr, Bool, true, false, List, [], ◌∷◌, ◌++◌, length, Option, Some, None, slice_get, slice_set, refl, sym, ap, ◌∙◌, subst, arith}
use Rattle.std.proofs.lemmas.Bool.Decides.{nat_tests}
use Rattle.std.specs.List.{AllByRecursion}
use Rattle.std.specs.Option.{is_some}
use Rattle.std.proofs.lemmas.Bool.{cases_eq}
use Rattle.std.proofs.lemmas.List.{get_or-set_same, get_or-set_other}
use Rattle.p3l_firing.specs.declared.process.Proc.{Proc}
use Rattle.p3l_firing.specs.Process.{Has, IsAt}
use Rattle.p3l_net.specs.Machine.{Seen, can_step}
use Rattle.p3l_net.specs.Steps.{IsApart, IsReader, IsWriter, ShareNone}
use Rattle.p3l_timed.specs.Moments.{due_at}
use Rattle.p3l_timed.specs.Clock.{IsOnTheWay, OthersAsBefore}
use Rattle.p3l_timed.specs.Due.{due_next, renewed, without}

-- a second look changes no due time
pub due_again : (can : Bool) (fresh : ℕ) (due : Option ℕ) → due_next can fresh (due_next can fresh due) ≡ due_next can fresh due
due_again true fresh None = refl
due_again true fresh (Some d) = refl
due_again false fresh due = refl

-- due are those that can fire
pub due_where : (can : Bool) (fresh : ℕ) (due : Option ℕ) → is_some (due_next can fresh due) ≡ can
due_where true fresh due = refl
due_where false fresh due = refl

-- a look changes nothing where due is what can fire
pub due_stays : (can : Bool) (fresh : ℕ) (due : Option ℕ) → can ≡ is_some due → due_next can fresh due ≡ due
due_stays can fresh None e = subst (λ b. due_next b fresh None ≡ None) (sym e) refl
due_stays can fresh (Some d) e = subst (λ b. due_next b fresh (Some d) ≡ Some d) (sym e) refl

-- a process that is due was so, or became it now
pub due_from : (can : Bool) (fresh e : ℕ) (due : Option ℕ) → due_next can fresh due ≡ Some e → (due ≡ Some e) ⊎ (fresh ≡ e)
due_from true fresh e None h = inr (cc)
due_from true fresh e (Some d) h = inl h
due_from false fresh e due h = cc

pub without_own : (p : ℕ) (due : ℕ → Option ℕ) → without p due p ≡ None
without_own p due = grind (arith, nat_tests)

pub without_other : (p r : ℕ) (due : ℕ → Option ℕ) → r ≢ p → without p due r ≡ due r
without_other p r due other = grind (arith, nat_tests)

-- one entry was written
pub put_same : (due : List (Option ℕ)) (x : ℕ) (d : Option ℕ) → x < length due → due_at (slice_set due x d) x ≡ d
put_same due x d there = get_or-set_same due x d None there

pub put_other : (due : List (Option ℕ)) (x r : ℕ) (d : Option ℕ) → r ≢ x → due_at (slice_set due x d) r ≡ due_at due r
put_other due x r d other = get_or-set_other due x r d None other

module _ (m : Seen) (price : ℕ → ℕ) (moment p : ℕ) (before : ℕ → Option ℕ) where
  abbrev after : ℕ → Option ℕ
  after = renewed (can_step m) price moment before

  -- one look at process x
  module _ (due : List (Option ℕ)) (x : ℕ) (there : x < length due) (mixed : (r : ℕ) → (due_at due r ≡ before r) ⊎ (due_at due r ≡ after r)) where
    abbrev looked : List (Option ℕ)
    looked = slice_set due x (due_next (can_step m x) (moment + price x) (due_at due x))

    pub look_here : due_at looked x ≡ after x
    look_here =
        put_same due x _ there
        ∙ elim (mixed x) [
          | inl e ↦ ap (due_next (can_step m x) (moment + price x)) e
          | inr e ↦ ap (due_next (can_step m x) (moment + price x)) e ∙ due_again (can_step m x) (moment + price x) (before x)
        ]

    pub look_keeps : (r : ℕ) → due_at due r ≡ after r → due_at looked r ≡ after r
    look_keeps r e = elim (cases_eq r x) [
      | inl same ↦ subst (λ z. due_at looked z ≡ after z) (sym same) look_here
      | inr other ↦ put_other due x r _ other ∙ e
    ]

    pub look_mixed : (r : ℕ) → (due_at looked r ≡ before r) ⊎ (due_at looked r ≡ after r)
    look_mixed r = elim (cases_eq r x) [
      | inl same ↦ inr (subst (λ z. due_at looked z ≡ after z) (sym same) look_here)
      | inr other ↦ elim (mixed r) [ inl e ↦ inl (put_other due x r _ other ∙ e) | inr e ↦ inr (put_other due x r _ other ∙ e) ]
    ]

  -- the two ends of a channel were looked at
  pub ends_looked : (c w d : ℕ) (cs : List ℕ) (due one two : List (Option ℕ)) → IsWriter m.net c w → IsReader m.net c d → w < length due → d < length one
      → one ≡ slice_set due w (due_next (can_step m w) (moment + price w) (due_at due w))
      → two ≡ slice_set one d (due_next (can_step m d) (moment + price d) (due_at one d))
      → IsOnTheWay m price moment p (c ∷ cs) before due → IsOnTheWay m price moment p cs before two
  ends_looked c w d cs due one two writes reads w_there d_there first second way =
      let mixed_one : (r : ℕ) → (due_at one r ≡ before r) ⊎ (due_at one r ≡ after r) = λ r. subst (λ xs. (due_at xs r ≡ before r) ⊎ (due_at xs r ≡ after r)) (sym first) (look_mixed due w w_there way.mixed r) in
      let keeps_one : (r : ℕ) → due_at due r ≡ after r → due_at one r ≡ after r = λ r e. subst (λ xs. due_at xs r ≡ after r) (sym first) (look_keeps due w w_there way.mixed r e) in
      let here_one : due_at one w ≡ after w = subst (λ xs. due_at xs w ≡ after w) (sym first) (look_here due w w_there way.mixed) in
      let keeps_two : (r : ℕ) → due_at one r ≡ after r → due_at two r ≡ after r = λ r e. subst (λ xs. due_at xs r ≡ after r) (sym second) (look_keeps one d d_there mixed_one r e) in
      let here_two : due_at two d ≡ after d = subst (λ xs. due_at xs d ≡ after d) (sym second) (look_here one d d_there mixed_one) in
      record {
        mixed = λ r. subst (λ xs. (due_at xs r ≡ before r) ⊎ (due_at xs r ≡ after r)) (sym second) (look_mixed one d d_there mixed_one r);
        own = keeps_two p (keeps_one p way.own);
        done = λ r other apart. elim (cases_eq r w) [
          | inl same ↦ keeps_two r (subst (λ z. due_at one z ≡ after z) (sym same) here_one)
          | inr no_writer ↦ elim (cases_eq r d) [
            | inl same ↦ subst (λ z. due_at two z ≡ after z) (sym same) here_two
            | inr no_reader ↦ keeps_two r (keeps_one r (way.done r other (not_at r no_writer no_reader (slice_get m.net.procs r) refl, apart)))
          ]
        ];
      }
    where
      not_at : (r : ℕ) → r ≢ w → r ≢ d → (o : Option Proc) → slice_get m.net.procs r ≡ o → IsAt (slice_get m.net.procs r) c → ⊥
      not_at r no_writer no_reader None e at = subst (λ o. IsAt o c) e at
      not_at r no_writer no_reader (Some q) e at = ends (subst (λ o. IsAt o c) e at)
        where
          ends : Has q.ins c ⊎ Has q.outs c → ⊥
          ends (inl has) = no_reader (reads r q e has)
          ends (inr has) = no_writer (writes r q e has)

-- the channels of a process that share none with another
pub apart_all : (m : Seen) (p r : ℕ) (cs : List ℕ) → AllByRecursion (IsAt (slice_get m.net.procs p)) cs → ShareNone m.net p r → IsApart m.net r cs
apart_all m p r [] all apart = tt
apart_all m p r (c ∷ cs) all apart = (apart c all.0, apart_all m p r cs all.1 apart)

-- a process that reads and writes none of its channels shares none with it
pub shares_none : (m : Seen) (p r : ℕ) (q : Proc) → slice_get m.net.procs p ≡ Some q → IsApart m.net r (q.ins ++ (q.outs ++ [])) → ShareNone m.net p r
shares_none m p r q stands apart c mine its = among q.ins (subst (λ o. IsAt o c) stands mine) apart
  where
    in_outs : (xs : List ℕ) → Has xs c → IsApart m.net r (xs ++ []) → ⊥
    in_outs [] has all = has
    in_outs (x ∷ xs) (inl e) all = all.0 (subst (IsAt (slice_get m.net.procs r)) (sym e) its)
    in_outs (x ∷ xs) (inr has) all = in_outs xs has all.1

    in_both : (xs : List ℕ) → IsApart m.net r (xs ++ (q.outs ++ [])) → (Has xs c ⊎ Has q.outs c) → ⊥
    in_both [] all (inl has) = has
    in_both [] all (inr has) = in_outs q.outs has all
    in_both (x ∷ xs) all (inl (inl e)) = all.0 (subst (IsAt (slice_get m.net.procs r)) (sym e) its)
    in_both (x ∷ xs) all (inl (inr has)) = in_both xs all.1 (inl has)
    in_both (x ∷ xs) all (inr has) = in_both xs all.1 (inr has)

    among : (xs : List ℕ) → (Has xs c ⊎ Has q.outs c) → IsApart m.net r (xs ++ (q.outs ++ [])) → ⊥
    among xs h all = in_both xs all h

-- THE ROUND BEGINS: process p, whose due moment is over, was looked at
pub round_begun : (m : Seen) (price : ℕ → ℕ) (moment p : ℕ) (q : Proc) (due cleared new : List (Option ℕ)) → slice_get m.net.procs p ≡ Some q → p < length due
    → OthersAsBefore m p (due_at due) → cleared ≡ slice_set due p None → p < length cleared
    → new ≡ slice_set cleared p (due_next (can_step m p) (moment + price p) (due_at cleared p))
    → IsOnTheWay m price moment p (q.ins ++ (q.outs ++ [])) (without p (due_at due)) new
round_begun m price moment p q due cleared new stands there others clear there_too look =
    let start : (r : ℕ) → due_at cleared r ≡ without p (due_at due) r = λ r. elim (cases_eq r p) [
      | inl same ↦ subst (λ z. due_at cleared z ≡ without p (due_at due) z) (sym same) (ap (λ xs. due_at xs p) clear ∙ put_same due p None there ∙ sym (without_own p (due_at due)))
      | inr other ↦ ap (λ xs. due_at xs r) clear ∙ put_other due p r None other ∙ sym (without_other p r (due_at due) other)
    ] in
    let mixed : (r : ℕ) → (due_at cleared r ≡ without p (due_at due) r) ⊎ (due_at cleared r ≡ renewed (can_step m) price moment (without p (due_at due)) r) = λ r. inl (start r) in
    record {
      mixed = λ r. subst (λ xs. (due_at xs r ≡ without p (due_at due) r) ⊎ (due_at xs r ≡ renewed (can_step m) price moment (without p (due_at due)) r)) (sym look)
          (look_mixed m price moment p (without p (due_at due)) cleared p there_too mixed r);
      own = subst (λ xs. due_at xs p ≡ renewed (can_step m) price moment (without p (due_at due)) p) (sym look)
          (look_here m price moment p (without p (due_at due)) cleared p there_too mixed);
      done = λ r other apart.
          ap (λ xs. due_at xs r) look ∙ put_other cleared p r _ other ∙ start r
          ∙ sym (due_stays (can_step m r) (moment + price r) (without p (due_at due) r)
          (others r other (shares_none m p r q stands apart) ∙ ap is_some (sym (without_other p r (due_at due) other))));
    }

-- THE ROUND ENDS: all are due as they have to be
pub round_ended : {m : Seen} {price : ℕ → ℕ} {moment p : ℕ} {before : ℕ → Option ℕ} {due : List (Option ℕ)} → IsOnTheWay m price moment p [] before due
    → (r : ℕ) → due_at due r ≡ renewed (can_step m) price moment before r
round_ended {m = m} {price = price} {moment = moment} {p = p} {before = before} {due = due} way r = elim (cases_eq r p) [
  | inl same ↦ subst (λ z. due_at due z ≡ renewed (can_step m) price moment before z) (sym same) way.own
  | inr other ↦ way.done r other tt
]
