-- The step of a verifier at one place.
use Rattle.std.proofs.Common.{◌≡◌, ℕ, ◌+◌, ◌<◌, ◌≤◌, ◌⊎◌, inl, inr, ⊎_elim, Bool, true, false, List, length, map, get_or, Option, Some, None, refl, sym, ap, ◌∙◌, subst, arith, length-set}
use Rattle.std.specs.Prelude.{slice_get, slice_set, IsSomeAnd}
use Rattle.std.specs.Option.{option_map}
use Rattle.std.proofs.lemmas.Bool.{cases_lt}
use Rattle.std.proofs.lemmas.List.{length-map}
use Rattle.std.proofs.lemmas.Option.{slice_get_within, slice_get-get_or, slice_get-map}
use Rattle.p3l_code.specs.declared.instr.Instr.{Instr}
use Rattle.p3l_code.specs.declared.instr.Instr.TheVariants.{End}
use Rattle.p3l_code.specs.declared.instr.Code.{Code}
use Rattle.p3l_code.specs.Safe.{Agrees, depth_after, target_of, goes_on, next_of, IsFine, AreDepths, IsReached}
use Rattle.p3l_verify.specs.Known.{HasDepths, IsLocal, IsFree, Knows, CanNote, KnowsAt, CanNoteAt, noted_at, IsSettled, IsSound}
use Rattle.p3l_verify.proofs.Notes.{unknown_or_same, knows_kept, knows_new, knows_at_kept, at_same, at_kept, at_at_kept}

-- in depths that keep the rules, a place has this one
abbrev pub MustBe : Code → ℕ → ℕ → Type 0
MustBe code p d = (depths : List ℕ) → AreDepths code depths → slice_get depths p ≡ Some d

settled_kept : (code : Code) (known : List (Option ℕ)) (p d q : ℕ) (i : Instr) → CanNote known p d → IsSettled code known q i → IsSettled code (slice_set known p (Some d)) q i
settled_kept code known p d q i can s = (
  s.0,
  knows_kept known p d q s.0 can s.1,
  record {
    own = s.2.own;
    next = knows_at_kept known p d _ (next_of q (goes_on i)) can s.2.next;
    jumps = knows_at_kept known p d _ (target_of i) can s.2.jumps;
  },
)

-- a depth that must be so is noted
pub noted : (code : Code) (known : List (Option ℕ)) (place p d : ℕ) → IsSound code known place → CanNote known p d → (d ≡ 0) ⊎ IsReached code.instrs p → MustBe code p d → IsSound code (slice_set known p (Some d)) place
noted code known place p d s can rooted must = record {
  whole = length-set known p (Some d) ∙ s.whole;
  start = knows_kept known p d 0 0 can s.start;
  settled = λ q i below at. settled_kept code known p d q i can (s.settled q i below at);
  rooted = λ q x k. ⊎_elim (λ h. s.rooted q x h)
      (λ e. subst (λ n. (n ≡ 0) ⊎ IsReached code.instrs q) (sym e.1) (subst (λ n. (d ≡ 0) ⊎ IsReached code.instrs n) (sym e.0) rooted))
      (knows_new known p d q x k);
  only = λ depths are q x k. ⊎_elim (λ h. s.only depths are q x h)
      (λ e. ap (slice_get depths) e.0 ∙ must depths are ∙ ap Some (sym e.1))
      (knows_new known p d q x k);
}

-- a place that is reached from below the place where the verifier is
reached_known : (code : Code) (known : List (Option ℕ)) (place : ℕ) → IsSound code known place → IsReached code.instrs place → (d : ℕ) × Knows known place d
reached_known code known place s (inl r) =
    let below : r.0 < place = omega (arith, r.2) in
    let x = s.settled r.0 r.1 below r.3 in
    (_, subst (λ n. Knows known n (depth_after x.0 r.1)) (sym r.2) (subst (λ b. KnowsAt known (depth_after x.0 r.1) (next_of r.0 b)) r.4 x.2.next))
reached_known code known place s (inr r) =
    let x = s.settled r.0 r.1 r.2 r.3 in
    (_, subst (λ o. KnowsAt known (depth_after x.0 r.1) o) r.4 x.2.jumps)

must_be_zero : (code : Code) (known : List (Option ℕ)) (place d : ℕ) → IsSound code known place → place < length code.instrs → slice_get known place ≡ Some None → d ≡ 0 → MustBe code place d
must_be_zero code known place d s inside unknown zero_d depths are =
    let x : ℕ = get_or depths place 0 in
    let at : slice_get depths place ≡ Some x = slice_get-get_or depths place 0 (omega (arith, are.whole)) in
    let free : ¬ IsReached code.instrs place = λ r. (let k = reached_known code known place s r in let h = k.1 in cc) in
    let z : x ≡ 0 = are.unreached place x at free in
    at ∙ ap Some (z ∙ sym zero_d)

-- the depth of the place where the verifier is
pub settles : (code : Code) (known : List (Option ℕ)) (place d : ℕ) → IsSound code known place → place < length code.instrs → CanNote known place d → (slice_get known place ≡ Some None → d ≡ 0) → MustBe code place d × IsSound code (slice_set known place (Some d)) place
settles code known place d s inside can unreached =
    ⊎_elim
    (λ unknown. let must = must_be_zero code known place d s inside unknown (unreached unknown) in
    (must, noted code known place place d s can (inl (unreached unknown)) must))
    (λ k. let must : MustBe code place d = λ depths are. s.only depths are place d k in
    (must, noted code known place place d s can (s.rooted place d k) must))
    (unknown_or_same known place d can)

-- if depths keep the rules, the known depths let them be noted
pub can_note : (code : Code) (known : List (Option ℕ)) (place : ℕ) → IsSound code known place → (depths : List ℕ) → AreDepths code depths → (to : Option ℕ) (x : ℕ) → Agrees depths x to → CanNoteAt known to x
can_note code known place s depths are None x agrees = tt
can_note code known place s depths are (Some to) x agrees = by (slice_get known to) refl
  where
    by : (o : Option (Option ℕ)) → slice_get known to ≡ o → IsSomeAnd o (λ h. IsFree h x)
    by None e =
        let w = slice_get_within depths to x agrees in
        let g = slice_get-get_or known to None (omega (arith, w, are.whole, s.whole)) in absurd cc
    by (Some None) e = tt
    by (Some (Some y)) e = let q = s.only depths are to y e in cc

-- a place that the instruction at another leads to
pub leads_on : (code : Code) (known : List (Option ℕ)) (place : ℕ) (to : Option ℕ) (x : ℕ) → IsSound code known place → CanNoteAt known to x → ((p : ℕ) → to ≡ Some p → (x ≡ 0) ⊎ IsReached code.instrs p) → ((depths : List ℕ) → AreDepths code depths → Agrees depths x to) → IsSound code (noted_at known to x) place
leads_on code known place None x s can rooted must = s
leads_on code known place (Some p) x s can rooted must = noted code known place p x s can (rooted p refl) must

-- all that is known before a place, once its own instruction was gone over
pub goes_over : (code : Code) (known : List (Option ℕ)) (place : ℕ) (i : Instr) → slice_get code.instrs place ≡ Some i → IsSound code known place → IsSettled code known place i → IsSound code known (place + 1)
goes_over code known place i at s here = record {
  whole = s.whole;
  start = s.start;
  settled = λ q j below found. ⊎_elim
      (λ h. s.settled q j h found)
      (λ h. let same : q ≡ place = omega arith in
      let there : slice_get code.instrs place ≡ Some j = ap (slice_get code.instrs) (sym same) ∙ found in
      let e : i ≡ j = cc in
      subst (λ n. IsSettled code known n j) (sym same) (subst (λ k. IsSettled code known place k) e here))
      (cases_lt q place);
  rooted = s.rooted;
  only = s.only;
}

module _ (code : Code) (known : List (Option ℕ)) (place d : ℕ) (i : Instr) (at : slice_get code.instrs place ≡ Some i) (s : IsSound code known place) (own : Knows known place d) (must : MustBe code place d) where
  fine : (depths : List ℕ) → AreDepths code depths → IsFine code depths place i d
  fine depths are = are.each place d i at (must depths are)

  -- depths that keep the rules pass the tests
  pub is_local : HasDepths code → IsLocal code place i d
  unfolding fine
  is_local h =
      let f = fine h.0 h.1 in
      record { within = f.within; leads = f.leads; room = record { pops_enough = f.pops_enough; shallow = f.shallow }; ends = f.ends }

  pub can_note_next : HasDepths code → CanNoteAt known (next_of place (goes_on i)) (depth_after d i)
  unfolding fine
  can_note_next h = can_note code known place s h.0 h.1 (next_of place (goes_on i)) (depth_after d i) (fine h.0 h.1).next

  pub can_note_jump : HasDepths code → CanNoteAt known (target_of i) (depth_after d i)
  unfolding fine
  can_note_jump h = can_note code known place s h.0 h.1 (target_of i) (depth_after d i) (fine h.0 h.1).jumps

  next_rooted : (b : Bool) → goes_on i ≡ b → (p : ℕ) → next_of place b ≡ Some p → (depth_after d i ≡ 0) ⊎ IsReached code.instrs p
  next_rooted true g p e = let same : p ≡ place + 1 = cc in inr (inl (place, i, same, at, g))
  next_rooted false g p e = absurd cc

  pub notes_next : CanNoteAt known (next_of place (goes_on i)) (depth_after d i) → IsSound code (noted_at known (next_of place (goes_on i)) (depth_after d i)) place
  unfolding fine next_rooted
  notes_next can =
      leads_on code known place (next_of place (goes_on i)) (depth_after d i) s can (next_rooted (goes_on i) refl) (λ depths are. (fine depths are).next)

  jump_rooted : (to : Option ℕ) → target_of i ≡ to → CanNoteAt known to (depth_after d i) → (p : ℕ) → to ≡ Some p → (depth_after d i ≡ 0) ⊎ IsReached code.instrs p
  jump_rooted None t can p e = absurd cc
  jump_rooted (Some to) t can p e =
      let same : to ≡ p = cc in
      ⊎_elim
      (λ h. let there : target_of i ≡ Some p = t ∙ e in inr (inr (place, i, omega (arith, h, same), at, there)))
      (λ h. let k : (n : ℕ) × Knows known to n = known_before to h in
      let free : Knows known to (depth_after d i) = ⊎_elim (λ u. absurd (let v = k.1 in cc)) (λ x. x) (unknown_or_same known to (depth_after d i) can) in
      subst (λ n. (depth_after d i ≡ 0) ⊎ IsReached code.instrs n) same (s.rooted to (depth_after d i) free))
      (cases_lt place to)
    where
      known_before : (to : ℕ) → to ≤ place → (n : ℕ) × Knows known to n
      known_before to h =
          ⊎_elim
          (λ below. let w = slice_get_within code.instrs place i at in
          let x = s.settled to (get_or code.instrs to i) below (slice_get-get_or code.instrs to i (omega arith)) in (x.0, x.1))
          (λ h'. let e : to ≡ place = omega arith in (d, subst (λ n. Knows known n d) (sym e) own))
          (cases_lt to place)

  pub notes_jump : CanNoteAt known (target_of i) (depth_after d i) → IsSound code (noted_at known (target_of i) (depth_after d i)) place
  unfolding fine jump_rooted
  notes_jump can =
      leads_on code known place (target_of i) (depth_after d i) s can (jump_rooted (target_of i) refl can) (λ depths are. (fine depths are).jumps)

module _ (code : Code) (known : List (Option ℕ)) (place d : ℕ) (i : Instr) (at : slice_get code.instrs place ≡ Some i) (s : IsSound code known place) (own : Knows known place d) (must : MustBe code place d) (next jump : Option ℕ) (after : ℕ) (en : next ≡ next_of place (goes_on i)) (ej : jump ≡ target_of i) (eb : after ≡ depth_after d i) where
  -- the depth after an instruction can be noted at the next place
  pub next_can : HasDepths code → CanNoteAt known next after
  next_can h =
      subst (λ o. CanNoteAt known o after) (sym en)
      (subst (λ x. CanNoteAt known (next_of place (goes_on i)) x) (sym eb) (can_note_next code known place d i at s own must h))

  can_next : CanNoteAt known next after → CanNoteAt known (next_of place (goes_on i)) (depth_after d i)
  can_next can = subst (λ x. CanNoteAt known (next_of place (goes_on i)) x) eb (subst (λ o. CanNoteAt known o after) en can)

  known_next : (known' : List (Option ℕ)) → known' ≡ noted_at known next after → known' ≡ noted_at known (next_of place (goes_on i)) (depth_after d i)
  known_next known' e = e ∙ ap (λ o. noted_at known o after) en ∙ ap (λ x. noted_at known (next_of place (goes_on i)) x) eb

  sound_next : (known' : List (Option ℕ)) → CanNoteAt known next after → known' ≡ noted_at known next after → IsSound code known' place
  sound_next known' can e =
      subst (λ k. IsSound code k place) (sym (known_next known' e)) (notes_next code known place d i at s own must (can_next can))

  own_next : (known' : List (Option ℕ)) → CanNoteAt known next after → known' ≡ noted_at known next after → Knows known' place d
  own_next known' can e = subst (λ k. Knows k place d) (sym e) (at_kept known next after place d can own)

  -- and where the instruction jumps
  pub jump_can : (known' : List (Option ℕ)) → CanNoteAt known next after → known' ≡ noted_at known next after → HasDepths code → CanNoteAt known' jump after
  jump_can known' can e h =
      subst (λ o. CanNoteAt known' o after) (sym ej)
      (subst (λ x. CanNoteAt known' (target_of i) x) (sym eb)
      (can_note_jump code known' place d i at (sound_next known' can e) (own_next known' can e) must h))

  -- then the place was gone over
  pub visited : (known' known'' : List (Option ℕ)) → IsLocal code place i d → CanNoteAt known next after → known' ≡ noted_at known next after → CanNoteAt known' jump after → known'' ≡ noted_at known' jump after → IsSound code known'' (place + 1)
  visited known' known'' local can e can' e' =
      let s' = sound_next known' can e in
      let own' = own_next known' can e in
      let jumps : CanNoteAt known' (target_of i) (depth_after d i) =
      subst (λ x. CanNoteAt known' (target_of i) x) eb (subst (λ o. CanNoteAt known' o after) ej can') in
      let noted' : known'' ≡ noted_at known' (target_of i) (depth_after d i) =
      e' ∙ ap (λ o. noted_at known' o after) ej ∙ ap (λ x. noted_at known' (target_of i) x) eb in
      let at_next : KnowsAt known' after next = subst (λ k. KnowsAt k after next) (sym e) (at_same known next after can) in
      let at_next' : KnowsAt known'' after next = subst (λ k. KnowsAt k after next) (sym e') (at_at_kept known' jump after after next can' at_next) in
      let at_jump : KnowsAt known'' after jump = subst (λ k. KnowsAt k after jump) (sym e') (at_same known' jump after can') in
      let own'' : Knows known'' place d = subst (λ k. Knows k place d) (sym e') (at_kept known' jump after place d can' own') in
      let s'' = subst (λ k. IsSound code k place) (sym noted') (notes_jump code known' place d i at s' own' must jumps) in
      goes_over code known'' place i at s'' (
        d,
        own'',
        record {
          own = local;
          next = subst (λ o. KnowsAt known'' (depth_after d i) o) en (subst (λ x. KnowsAt known'' x next) eb at_next');
          jumps = subst (λ o. KnowsAt known'' (depth_after d i) o) ej (subst (λ x. KnowsAt known'' x jump) eb at_jump);
        },
      )

-- the depths that are known in the end
depth_of : Option ℕ → ℕ
depth_of None = 0
depth_of (Some d) = d

depth_known : (known : List (Option ℕ)) (p d : ℕ) → Knows known p d → slice_get (map depth_of known) p ≡ Some d
unfolding depth_of
depth_known known p d k = slice_get-map depth_of known p ∙ ap (option_map depth_of) k

agrees_known : (known : List (Option ℕ)) (x : ℕ) (to : Option ℕ) → KnowsAt known x to → Agrees (map depth_of known) x to
agrees_known known x None k = tt
agrees_known known x (Some p) k = depth_known known p x k

-- once all places were gone over, what is known are depths that keep the rules
pub has_depths : (code : Code) (known : List (Option ℕ)) → IsSound code known (length code.instrs) → HasDepths code
has_depths code known s = (
  map depth_of known,
  record {
    whole = length-map known depth_of ∙ s.whole;
    start = depth_known known 0 0 s.start;
    each = λ p d i at there.
        let w = slice_get_within code.instrs p i at in
        let x = s.settled p i w at in
        let k = depth_known known p x.0 x.1 in
        let e : x.0 ≡ d = cc in
        subst (IsFine code (map depth_of known) p i) e (record {
          within = x.2.own.within;
          leads = x.2.own.leads;
          pops_enough = x.2.own.room.pops_enough;
          shallow = x.2.own.room.shallow;
          next = agrees_known known _ (next_of p (goes_on i)) x.2.next;
          jumps = agrees_known known _ (target_of i) x.2.jumps;
          ends = x.2.own.ends;
        });
    unreached = λ p d there free.
        let w = slice_get_within (map depth_of known) p d there in
        let inside : p < length code.instrs = omega (arith, length-map known depth_of, s.whole) in
        at_root p d there free inside;
  },
)
  where
    at_root : (p d : ℕ) → slice_get (map depth_of known) p ≡ Some d → ¬ IsReached code.instrs p → p < length code.instrs → d ≡ 0
    at_root p d there free inside = by (slice_get code.instrs p) refl
      where
        by : (o : Option Instr) → slice_get code.instrs p ≡ o → d ≡ 0
        by None e = let g = slice_get-get_or code.instrs p End inside in absurd cc
        by (Some i) e =
            let x = s.settled p i inside e in
            let k = depth_known known p x.0 x.1 in
            let same : x.0 ≡ d = cc in
            ⊎_elim (λ z. sym same ∙ z) (λ r. absurd (free r)) (s.rooted p x.0 x.1)
