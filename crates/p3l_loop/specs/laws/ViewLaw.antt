-- Effects of the rows of Head and Tail on the view of a loop: letting in, holding, sending round once more and releasing
-- keep the list, the numbers, the turns and the credits (`let_in_goes` to `release_goes`), and the work falls.
-- The rounds of the ring give an item the outcome of the language's turns (`rounds_turns`).
use Rattle.std.proofs.Common.{◌≡◌, ℕ, zero, suc, ◌+◌, ◌*◌, ◌-◌, ◌≤◌, ◌<◌, inl, inr, nat_eq, nat_lt, Bool, true, false, List, [], ◌∷◌, ◌++◌, map, length, refl, sym, ap, ap₂, ◌∙◌, subst, arith, append_assoc, eqb-true, eq-eqb, lt-ltb, ltb-true, le-ltb}
use Rattle.std.proofs.lemmas.Bool.{cases_Bool, cases_lt, cond-true, cond-false, and_parts, and_from}
use Rattle.std.proofs.lemmas.List.{map-append}
use Rattle.p3l_base.specs.declared.outcome.Outcome.{Outcome}
use Rattle.p3l_base.specs.declared.outcome.Outcome.TheVariants.{Value, Trapped}
use Rattle.p3l_firing.specs.Token.{over, newest_tag, second_tag, untagged, admitted, once_more, first_tag, later_tags, next_tag}
use Rattle.p3l_firing.specs.declared.token.Token.{Token}
use Rattle.p3l_firing.specs.kinds.Tail.{Turn.Held, Turn.Again, turn_of, by_test, has_number, pick_number, drop_number}
use Rattle.p3l_loop.specs.Loop.{Laps, ending, after, turns, rounds, settled, View, bag, in_turns, to_come, well_kept, ring_due}
use Rattle.p3l_loop.specs.laws.HeldLaw.{Found, found}
use Rattle.p3l_skel.specs.Item.{is_done}
use Rattle.p3l_template.specs.Bag.{read, IsNumbered}
use Rattle.p3l_template.specs.laws.BagLaw.{numbered_to, numbered_from, insert_numbered, insert_read, moved_numbered, moved_read, moved_count, release_numbered, release_read, without_count}
use Rattle.p3l_template.specs.laws.Inside.{times_le}

-- the list that a loop keeps
unfoldable pub view_line : Laps → View → List Token
view_line l v = v.output ++ (to_come l v ++ map (over (rounds l)) v.input)

pub record Kept (l : Laps) (tokens : ℕ) (v : View) : Type 0 where
  pub count : v.least + length (bag l v) ≡ v.next
  pub credits : v.credits + length (bag l v) ≡ tokens
  pub turns : in_turns l.turns v.ring ≡ true
  pub spent : in_turns l.turns v.held ≡ true
  pub numbered : IsNumbered (bag l v) v.least

pub kept_to : (l : Laps) (tokens : ℕ) (v : View) → well_kept l tokens v ≡ true → Kept l tokens v
unfolding well_kept
kept_to l tokens v h =
    let a = and_parts _ _ h in
    let b = and_parts _ _ a.1 in
    let c = and_parts _ _ b.1 in
    record {
      count = eqb-true _ _ a.0;
      credits = eqb-true _ _ b.0;
      turns = c.0;
      spent = (and_parts _ _ c.1).0;
      numbered = numbered_to (bag l v) v.least (and_parts _ _ c.1).1;
    }

pub kept_from : (l : Laps) (tokens : ℕ) (v : View) → Kept l tokens v → well_kept l tokens v ≡ true
unfolding well_kept
kept_from l tokens v k =
    and_from _ _ (eq-eqb _ _ k.count)
    (and_from _ _ (eq-eqb _ _ k.credits) (and_from _ _ k.turns (and_from _ _ k.spent (numbered_from (bag l v) v.least k.numbered))))

-- from v to w: still kept, and the same list
pub record Goes (l : Laps) (tokens : ℕ) (v w : View) : Type 0 where
  pub kept : Kept l tokens w
  pub line : view_line l w ≡ view_line l v

turns_append : (m : ℕ) (xs ys : List Token) → in_turns m xs ≡ true → in_turns m ys ≡ true → in_turns m (xs ++ ys) ≡ true
unfolding in_turns
turns_append m [] ys h k = k
turns_append m (x ∷ xs) ys h k = and_from _ _ (and_parts _ _ h).0 (turns_append m xs ys (and_parts _ _ h).1 k)

turns_one : (m : ℕ) (x : Token) → 0 < newest_tag x → newest_tag x < 2 + (m - 1) → in_turns m (x ∷ []) ≡ true
unfolding in_turns
turns_one m x h l = and_from _ _ (and_from _ _ (lt-ltb _ _ h) (lt-ltb _ _ l)) refl

pub turns_rest : (m : ℕ) (x : Token) (xs : List Token) → in_turns m (x ∷ xs) ≡ true →
    (0 < newest_tag x) × (in_turns m xs ≡ true)
unfolding in_turns
turns_rest m x xs h = (ltb-true 0 (newest_tag x) (and_parts _ _ (and_parts _ _ h).0).0, (and_parts _ _ h).1)

-- the first of them with another outcome is in turn too
turns_alone : (m : ℕ) (x : Token) (xs : List Token) (w : Outcome) → in_turns m (x ∷ xs) ≡ true →
    in_turns m (record x { body = w } ∷ []) ≡ true
unfolding in_turns
turns_alone m x xs w h = and_from _ _ (and_parts _ _ h).0 refl

-- those that are left when one is let go are
turns_drop : (m n : ℕ) (xs : List Token) → in_turns m xs ≡ true → in_turns m (drop_number n xs) ≡ true
unfolding in_turns drop_number
turns_drop m n [] h = refl
turns_drop m n (x ∷ xs) h =
    elim (cases_Bool (nat_eq (second_tag x) n)) [
      | inl e ↦ subst (λ z. in_turns m z ≡ true) (sym (cond-true _ _ _ e)) (and_parts _ _ h).1
      | inr e ↦
          subst (λ z. in_turns m z ≡ true) (sym (cond-false _ _ _ e))
          (and_from _ _ (and_parts _ _ h).0 (turns_drop m n xs (and_parts _ _ h).1))
    ]

pub next_turn : (x : Token) → 0 < newest_tag x → newest_tag (once_more x) ≡ suc (newest_tag x)
unfolding first_tag next_tag
next_turn x h = go x.tags h
  where
    go : (ts : List ℕ) → 0 < first_tag ts → first_tag (next_tag ts) ≡ suc (first_tag ts)
    go [] k = absurd (omega arith)
    go (t ∷ ts) k = refl

next_later : (ts : List ℕ) → later_tags (next_tag ts) ≡ later_tags ts
unfolding later_tags next_tag
next_later [] = refl
next_later (t ∷ ts) = refl

-- the outcome after the body is the value, if it is held
pub after_held : (l : Laps) (t : ℕ) (o w : Outcome) → turn_of l.test l.spent (nat_lt t l.turns) o ≡ Held w →
    after l (l.turns - t) o ≡ w
unfolding after ending
after_held l t o w h =
    elim (cases_lt t l.turns) [
      | inl e ↦
          let k : l.turns - t ≡ suc (l.turns - suc t) = omega arith in
          ap (λ z. after l z o) k
          ∙ ap (λ z. ending z (after l (l.turns - suc t) (l.body o)))
          (sym (ap (λ b. turn_of l.test l.spent b o) (lt-ltb _ _ e)) ∙ h)
      | inr e ↦
          let k : l.turns - t ≡ 0 = omega arith in
          ap (λ z. after l z o) k
          ∙ ap (λ z. ending z o) (sym (ap (λ b. turn_of l.test l.spent b o) (le-ltb t l.turns e)) ∙ h)
    ]

never : (test : Outcome → Outcome) (spent : Outcome) (o : Outcome) → turn_of test spent false o ≡ Again → ⊥
unfolding turn_of by_test
never test spent (Trapped m) h = cc
never test spent (Value w) h =
    elim (test (Value w)) as (λ c. by_test c (Value w) spent false ≡ Again → ⊥) [
      | Trapped m ↦ λ k. cc
      | Value c ↦ λ k. elim (cases_Bool (is_done c)) [
        | inl e ↦ let z : Held (Value w) ≡ Again = sym (cond-true _ _ _ e) ∙ k in cc
        | inr e ↦ let z : Held spent ≡ Again = sym (cond-false _ _ _ e) ∙ k in cc
      ]
    ] h

-- no value goes round on the last turn
last_turn : (test : Outcome → Outcome) (spent : Outcome) (more : Bool) (o : Outcome) →
    turn_of test spent more o ≡ Again → more ≡ true
last_turn test spent true o h = refl
last_turn test spent false o h = absurd (never test spent o h)

pub after_again : (l : Laps) (t : ℕ) (o : Outcome) → turn_of l.test l.spent (nat_lt t l.turns) o ≡ Again →
    (t < l.turns) × (after l (l.turns - t) o ≡ after l (l.turns - suc t) (l.body o))
unfolding after ending
after_again l t o h =
    let m = last_turn l.test l.spent (nat_lt t l.turns) o h in
    let e : t < l.turns = ltb-true t l.turns m in
    let k : l.turns - t ≡ suc (l.turns - suc t) = omega arith in (
      e,
      ap (λ z. after l z o) k
          ∙ ap (λ z. ending z (after l (l.turns - suc t) (l.body o))) (sym (ap (λ b. turn_of l.test l.spent b o) m) ∙ h),
    )

-- the ring gives what the language says
turns_after : (l : Laps) (t : ℕ) (o : Outcome) → turns l (suc t) o ≡ after l t (l.body o)
unfolding turns after
turns_after l zero o = refl
turns_after l (suc t) o =
    ap (λ b. ending (turn_of l.test l.spent b (l.body o)) (turns l (suc t) (l.body o))) (lt-ltb 0 (suc t) (omega arith))
    ∙ ap (λ z. ending (turn_of l.test l.spent true (l.body o)) z) (turns_after l t (l.body o))

pub rounds_turns : (l : Laps) (o : Outcome) → 0 < l.turns → rounds l o ≡ turns l l.turns o
unfolding rounds
rounds_turns l o some = sym (turns_after l (l.turns - 1) o) ∙ ap (λ t. turns l t o) (omega arith)

-- THE ROWS
module _ (l : Laps) (tokens : ℕ) (v : View) (k : Kept l tokens v) where
  -- Head lets a token in
  new_turn : (x : Token) → newest_tag (settled l (over l.body (admitted v.next x))) ≡ v.next
  unfolding settled first_tag later_tags
  new_turn x = refl

  new_untagged : (x : Token) → untagged (settled l (over l.body (admitted v.next x))) ≡ over (rounds l) x
  unfolding settled first_tag later_tags rounds
  new_untagged x = refl

  new_first : (x : Token) → newest_tag (over l.body (admitted v.next x)) ≡ 1
  unfolding first_tag
  new_first x = refl

  -- it comes after those of the ring that are before it in the body, and before those that come back (a and b)
  abbrev pub let_in_view : List Token → List Token → Token → List Token → ℕ → View
  let_in_view a b x xs c =
      record v { next = v.next + 1; credits = c; ring = a ++ over l.body (admitted v.next x) ∷ b; input = xs }

  module _ (a b : List Token) (ring : v.ring ≡ a ++ b) where
    old_bag : bag l v ≡ (map untagged v.held ++ map (settled l) a) ++ map (settled l) b
    unfolding bag
    old_bag =
        ap (λ z. map untagged v.held ++ map (settled l) z) ring
        ∙ ap (λ z. map untagged v.held ++ z) (map-append (settled l) a b)
        ∙ sym (append_assoc (map untagged v.held) (map (settled l) a) (map (settled l) b))

    let_in_bag : (x : Token) (xs : List Token) (c : ℕ) →
        bag l (let_in_view a b x xs c)
        ≡ (map untagged v.held ++ map (settled l) a) ++ settled l (over l.body (admitted v.next x)) ∷ map (settled l) b
    unfolding bag
    let_in_bag x xs c =
        ap (λ z. map untagged v.held ++ z) (map-append (settled l) a (over l.body (admitted v.next x) ∷ b))
        ∙ sym (append_assoc (map untagged v.held) (map (settled l) a) _)

    turns_parts : (m : ℕ) (xs ys : List Token) → in_turns m (xs ++ ys) ≡ true → (in_turns m xs ≡ true) × (in_turns m ys ≡ true)
    unfolding in_turns
    turns_parts m [] ys h = (refl, h)
    turns_parts m (x ∷ xs) ys h =
        let p = and_parts _ _ h in
        let r = turns_parts m xs ys p.1 in
        (and_from _ _ p.0 r.0, r.1)

    turns_before : (m : ℕ) (x : Token) (xs : List Token) → in_turns m (x ∷ []) ≡ true → in_turns m xs ≡ true →
        in_turns m (x ∷ xs) ≡ true
    unfolding in_turns
    turns_before m x xs h r = and_from _ _ (and_parts _ _ h).0 r

    pub let_in_goes : (x : Token) (xs : List Token) (c : ℕ) → v.input ≡ x ∷ xs → v.credits ≡ suc c →
        Goes l tokens v (let_in_view a b x xs c)
    unfolding view_line to_come
    let_in_goes x xs c e f =
        let g = let_in_bag x xs c in
        let old = ap length old_bag in
        let num : IsNumbered ((map untagged v.held ++ map (settled l) a) ++ map (settled l) b) v.least =
        subst (λ z. IsNumbered z v.least) old_bag k.numbered in
        let n : newest_tag (settled l (over l.body (admitted v.next x)))
        ≡ v.least + length ((map untagged v.held ++ map (settled l) a) ++ map (settled l) b) =
        new_turn x ∙ omega (arith, k.count, old) in
        let len = ap length g
        ∙ without_count (map untagged v.held ++ map (settled l) a) (settled l (over l.body (admitted v.next x))) (map (settled l) b) in
        let t = turns_parts l.turns a b (ap (in_turns l.turns) (sym ring) ∙ k.turns) in
        record {
          kept = record {
            count = omega (arith, len, old, k.count);
            credits = omega (arith, len, old, k.credits, f);
            turns = turns_append l.turns a _ t.0
                (turns_before l.turns _ b (turns_one l.turns _ (omega (arith, new_first x)) (omega (arith, new_first x))) t.1);
            spent = k.spent;
            numbered = subst (λ z. IsNumbered z v.least) (sym g)
                (insert_numbered (map untagged v.held ++ map (settled l) a) _ (map (settled l) b) v.least num n);
          };
          line =
              ap (λ z. v.output ++ (read z v.least (length z) ++ map (over (rounds l)) xs)) g
              ∙ ap (λ z. v.output ++ (z ++ map (over (rounds l)) xs))
              (insert_read (map untagged v.held ++ map (settled l) a) _ (map (settled l) b) v.least num n
              ∙ ap₂ (λ y z. read y v.least (length y) ++ z ∷ []) (sym old_bag) (new_untagged x))
              ∙ ap (λ z. v.output ++ z) (append_assoc (read (bag l v) v.least (length (bag l v))) _ _)
              ∙ ap (λ z. v.output ++ (read (bag l v) v.least (length (bag l v)) ++ map (over (rounds l)) z)) (sym e);
        }

  -- Tail holds the value w of the token y
  abbrev pub hold_view : Token → List Token → Outcome → View
  hold_view y ys w = record v { held = v.held ++ record y { body = w } ∷ []; ring = ys }

  hold_bag : (y : Token) (ys : List Token) (w : Outcome) → v.ring ≡ y ∷ ys → after l (l.turns - newest_tag y) y.body ≡ w →
      bag l (hold_view y ys w) ≡ bag l v
  unfolding bag settled
  hold_bag y ys w e h =
      ap (λ z. z ++ map (settled l) ys) (map-append untagged v.held (record y { body = w } ∷ []))
      ∙ append_assoc (map untagged v.held) _ _
      ∙ ap (λ z. map untagged v.held ++ (record { tags = later_tags y.tags; body = z } ∷ map (settled l) ys)) (sym h)
      ∙ ap (λ z. map untagged v.held ++ map (settled l) z) (sym e)

  pub hold_goes : (y : Token) (ys : List Token) (w : Outcome) → v.ring ≡ y ∷ ys →
      turn_of l.test l.spent (nat_lt (newest_tag y) l.turns) y.body ≡ Held w → Goes l tokens v (hold_view y ys w)
  unfolding view_line to_come
  hold_goes y ys w e h =
      let b = hold_bag y ys w e (after_held l (newest_tag y) y.body w h) in
      let len = ap length b in
      record {
        kept = record {
          count = omega (arith, len, k.count);
          credits = omega (arith, len, k.credits);
          turns = (turns_rest l.turns y ys (ap (in_turns l.turns) (sym e) ∙ k.turns)).1;
          spent = turns_append l.turns v.held _ k.spent
              (turns_alone l.turns y ys w (ap (in_turns l.turns) (sym e) ∙ k.turns));
          numbered = subst (λ z. IsNumbered z v.least) (sym b) k.numbered;
        };
        line = ap (λ z. v.output ++ (read z v.least (length z) ++ map (over (rounds l)) v.input)) b;
      }

  -- Tail sends the token y round once more
  abbrev pub again_view : Token → List Token → View
  again_view y ys = record v { ring = ys ++ over l.body (once_more y) ∷ [] }

  again_settled : (y : Token) → 0 < newest_tag y →
      after l (l.turns - newest_tag y) y.body ≡ after l (l.turns - suc (newest_tag y)) (l.body y.body) →
      settled l (over l.body (once_more y)) ≡ settled l y
  unfolding settled
  again_settled y p h =
      ap₂ (λ a b. record { tags = a; body = after l (l.turns - b) (l.body y.body) }) (next_later y.tags) (next_turn y p)
      ∙ ap (λ z. record { tags = later_tags y.tags; body = z }) (sym h)

  again_bag : (y : Token) (ys : List Token) → settled l (over l.body (once_more y)) ≡ settled l y →
      bag l (again_view y ys) ≡ (map untagged v.held ++ map (settled l) ys) ++ settled l y ∷ []
  unfolding bag
  again_bag y ys h =
      ap (λ z. map untagged v.held ++ z) (map-append (settled l) ys _)
      ∙ sym (append_assoc (map untagged v.held) (map (settled l) ys) _)
      ∙ ap (λ z. (map untagged v.held ++ map (settled l) ys) ++ z ∷ []) h

  ring_bag : (y : Token) (ys : List Token) → v.ring ≡ y ∷ ys →
      bag l v ≡ map untagged v.held ++ settled l y ∷ map (settled l) ys
  unfolding bag
  ring_bag y ys e = ap (λ z. map untagged v.held ++ map (settled l) z) e

  pub again_goes : (y : Token) (ys : List Token) → v.ring ≡ y ∷ ys →
      turn_of l.test l.spent (nat_lt (newest_tag y) l.turns) y.body ≡ Again → Goes l tokens v (again_view y ys)
  unfolding view_line to_come
  again_goes y ys e h =
      let a = after_again l (newest_tag y) y.body h in
      let t = turns_rest l.turns y ys (ap (in_turns l.turns) (sym e) ∙ k.turns) in
      let b = again_bag y ys (again_settled y t.0 a.1) in
      let c = ring_bag y ys e in
      let n = subst (λ z. IsNumbered z v.least) c k.numbered in
      let m : length (bag l (again_view y ys)) ≡ length (bag l v) =
      ap length b ∙ moved_count (map untagged v.held) (settled l y) (map (settled l) ys) ∙ ap length (sym c) in
      record {
        kept = record {
          count = omega (arith, m, k.count);
          credits = omega (arith, m, k.credits);
          turns = turns_append l.turns ys _ t.1
              (turns_one l.turns _ (omega (arith, next_turn y t.0)) (omega (arith, next_turn y t.0, a.0)));
          spent = k.spent;
          numbered =
              subst (λ z. IsNumbered z v.least) (sym b)
              (moved_numbered (map untagged v.held) (settled l y) (map (settled l) ys) v.least n);
        };
        line =
            ap (λ z. v.output ++ (read z v.least (length z) ++ map (over (rounds l)) v.input)) b
            ∙ ap (λ z. v.output ++ (z ++ map (over (rounds l)) v.input))
            (moved_read (map untagged v.held) (settled l y) (map (settled l) ys) v.least n)
            ∙ ap (λ z. v.output ++ (read z v.least (length z) ++ map (over (rounds l)) v.input)) (sym c);
      }

  -- Tail releases
  abbrev pub release_view : View
  release_view = record v {
    least = v.least + 1;
    credits = v.credits + 1;
    held = drop_number v.least v.held;
    output = v.output ++ untagged (untagged (pick_number v.least v.held)) ∷ [];
  }

  module _ (f : Found v.least v.held) where
    bag_before : bag l v
        ≡ map untagged f.before ++ untagged (pick_number v.least v.held) ∷ (map untagged f.after ++ map (settled l) v.ring)
    unfolding bag
    bag_before =
        ap (λ z. map untagged z ++ map (settled l) v.ring) f.whole
        ∙ ap (λ z. z ++ map (settled l) v.ring) (map-append untagged f.before _)
        ∙ append_assoc (map untagged f.before) _ _

    bag_after : bag l release_view ≡ map untagged f.before ++ (map untagged f.after ++ map (settled l) v.ring)
    unfolding bag
    bag_after =
        ap (λ z. map untagged z ++ map (settled l) v.ring) f.others
        ∙ ap (λ z. z ++ map (settled l) v.ring) (map-append untagged f.before f.after)
        ∙ append_assoc (map untagged f.before) _ _

    found_goes : Goes l tokens v release_view
    unfolding view_line to_come
    found_goes =
        let n = subst (λ z. IsNumbered z v.least) bag_before k.numbered in
        let len : length (bag l v) ≡ suc (length (bag l release_view)) =
        ap length bag_before ∙ without_count (map untagged f.before) _ _ ∙ ap (λ z. suc (length z)) (sym bag_after) in
        let up : v.least + 1 ≡ suc v.least = omega arith in
        record {
          kept = record {
            count = omega (arith, len, k.count);
            credits = omega (arith, len, k.credits);
            turns = k.turns;
            spent = turns_drop l.turns v.least v.held k.spent;
            numbered =
                subst (λ z. IsNumbered (bag l release_view) z) (sym up)
                (subst (λ z. IsNumbered z (suc v.least)) (sym bag_after)
                (release_numbered (map untagged f.before) _ _ v.least n f.right));
          };
          line =
              ap₂ (λ y z. (v.output ++ untagged (untagged (pick_number v.least v.held)) ∷ [])
              ++ (read y z (length y) ++ map (over (rounds l)) v.input)) bag_after up
              ∙ append_assoc v.output _ _
              ∙ ap (λ z. v.output ++ (z ++ map (over (rounds l)) v.input))
              (sym (release_read (map untagged f.before) (untagged (pick_number v.least v.held))
              (map untagged f.after ++ map (settled l) v.ring) v.least n f.right))
              ∙ ap (λ z. v.output ++ (read z v.least (length z) ++ map (over (rounds l)) v.input)) (sym bag_before);
        }

  pub release_goes : has_number v.least v.held ≡ true → Goes l tokens v release_view
  release_goes h = found_goes (found v.least v.held h)

-- THE WORK
pub ring_append : (turns f : ℕ) (xs ys : List Token) →
    ring_due turns f (xs ++ ys) ≡ ring_due turns f xs + ring_due turns f ys
unfolding ring_due
ring_append turns f [] ys = omega arith
ring_append turns f (x ∷ xs) ys = let r = ring_append turns f xs ys in omega (arith, r)

-- THE SIZE
le_times : (a b g : ℕ) → a ≤ b → a * g ≤ b * g
le_times a b g l = let e : b ≡ a + (b - a) = omega arith in
    let d : b * g ≡ a * g + (b - a) * g = ap (λ z. z * g) e ∙ omega arith in omega (arith, d)

pub ring_bound : (turns f : ℕ) (xs : List Token) → in_turns turns xs ≡ true →
    ring_due turns f xs ≤ ((turns - 1) * (f + 2) + 2) * length xs
unfolding ring_due
ring_bound turns f [] h = omega arith
ring_bound turns f (x ∷ xs) h =
    let t = turns_rest turns x xs h in
    let r = ring_bound turns f xs t.1 in
    let m = le_times (turns - newest_tag x) (turns - 1) (f + 2) (omega (arith, t.0)) in
    let d : ((turns - 1) * (f + 2) + 2) * suc (length xs)
    ≡ ((turns - 1) * (f + 2) + 2) + ((turns - 1) * (f + 2) + 2) * length xs = omega arith in
    omega (arith, m, r, d)

-- b, d, f and h tokens are in B, D, F and with Tail, and q in the body
pub all_bound : (u f b d c h q p w i : ℕ) → w ≤ f * q → p ≤ q → ((b + d) + (c + h)) + q ≤ i →
    (f * b + w) + (u * ((d + (p + b)) + c) + ((f + 1) * c + h)) ≤ (u + (f + 1)) * i
all_bound u f b d c h q p w i l m n =
    let x = times_le (u + (f + 1)) (((b + d) + (c + h)) + q) i n in
    let y = times_le u p q m in
    let z : (u + (f + 1)) * (((b + d) + (c + h)) + q)
    ≡ ((u * b + u * d) + (u * c + u * h)) + u * q + (((f * b + f * d) + (f * c + f * h)) + f * q)
    + (((b + d) + (c + h)) + q) = omega arith in
    let v : u * ((d + (p + b)) + c) ≡ (u * d + (u * p + u * b)) + u * c = omega arith in
    let t : (f + 1) * c ≡ f * c + c = omega arith in
    omega (arith, x, y, z, v, t, l)
