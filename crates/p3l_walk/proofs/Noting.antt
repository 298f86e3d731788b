-- Notes that are taken, one step at a time.
use Rattle.std.proofs.Common.{◌≡◌, ℕ, ℤ, zero, suc, ◌+◌, ◌-◌, ◌/◌, ◌<◌, ◌≤◌, Bool, true, false, cond, List, [], ◌∷◌, ◌++◌, length, map, take, drop, get_or, Result, Ok, Err, OnOk, refl, sym, ap, ◌∙◌, arith, drop-cons, add-one, append-nil, length-take, length-drop}
use Rattle.std.specs.List.{range_with_len}
use Rattle.std.proofs.lemmas.List.{drop_all}
use Rattle.p3l_base.specs.declared.outcome.Outcome.{Outcome}
use Rattle.p3l_base.specs.declared.outcome.Outcome.TheVariants.{Value, Trapped}
use Rattle.p3l_base.specs.declared.outcome.Trap.{Trap}
use Rattle.p3l_skel.specs.Fold.{combined}
use Rattle.p3l_skel.specs.Item.{is_done, on_value}
use Rattle.p3l_walk.specs.Notes.{Note, turn, noted_by, notes_on, if_value, stage_notes, element_notes, folded, fold_notes_to, fold_notes, turn_notes}

pub on_ok-along : {A B : Type 0} (r : Result A B) (P Q : Type 0) → (P → Q) → OnOk r P → OnOk r Q
on_ok-along (Ok x) P Q more h = more h
on_ok-along (Err e) P Q more h = tt

pub on_ok : {A B : Type 0} (r : Result A B) (P : Type 0) → P → OnOk r P
on_ok (Ok x) P h = h
on_ok (Err e) P h = tt

module _ {S : Type 0} (noted : S → Note → S) where
  -- one after the other
  pub noted_by-append : (g : S) (xs ys : List Note) → noted_by noted g (xs ++ ys) ≡ noted_by noted (noted_by noted g xs) ys
  unfolding noted_by
  noted_by-append g [] ys = refl
  noted_by-append g (x ∷ xs) ys = noted_by-append (noted g x) xs ys

  pub noted_by-one : (g : S) (x : Note) → noted_by noted g (x ∷ []) ≡ noted g x
  unfolding noted_by
  noted_by-one g x = refl

  noted_by-first : (g : S) (x : Note) (xs : List Note) → noted_by noted g (x ∷ xs) ≡ noted_by noted (noted g x) xs
  unfolding noted_by
  noted_by-first g x xs = refl

  pub noted_by-none : (g : S) → noted_by noted g [] ≡ g
  unfolding noted_by
  noted_by-none g = refl

  -- stages
  pub stage_noted-more : (part : ℕ → List ℤ → Outcome) (does : ℕ → List ℤ → List Note) (items : List ℕ) (i : ℕ) → i < length items → (outcome next : Outcome) (g g' whole : S) →
      noted_by noted g (stage_notes part does (drop i items) outcome) ≡ whole → g' ≡ noted_by noted g (notes_on (does (get_or items i 0)) outcome) → next ≡ on_value (part (get_or items i 0)) outcome →
      noted_by noted g' (stage_notes part does (drop (i + 1) items) next) ≡ whole
  stage_noted-more part does items i inside outcome next g g' whole so_far now is =
      let here = notes_on (does (get_or items i 0)) outcome in
      ap (λ x. noted_by noted x (stage_notes part does (drop (i + 1) items) next)) now
      ∙ (ap (λ o. noted_by noted (noted_by noted g here) (stage_notes part does (drop (i + 1) items) o)) is
      ∙ (sym (noted_by-append g here (stage_notes part does (drop (i + 1) items) (on_value (part (get_or items i 0)) outcome)))
      ∙ rw add-one (rw (drop-cons items i 0 inside) at so_far)))

  pub stage_noted-all : (part : ℕ → List ℤ → Outcome) (does : ℕ → List ℤ → List Note) (items : List ℕ) (i : ℕ) (outcome : Outcome) (g whole : S) → length items ≤ i → noted_by noted g (stage_notes part does (drop i items) outcome) ≡ whole → g ≡ whole
  stage_noted-all part does items i outcome g whole past so_far =
      sym (noted_by-none g) ∙ (sym (ap (λ ps. noted_by noted g (stage_notes part does ps outcome)) (drop_all i items past)) ∙ so_far)

  -- elements of a map
  module _ (part : ℕ → Outcome) (does : ℕ → List Note) (e count : ℕ) (g g' whole : S) where
    pub element_noted-trap : e < count → (trap : Trap) → noted_by noted g (element_notes part does (range_with_len e (count - e))) ≡ whole → g' ≡ noted_by noted g (does e) → Trapped trap ≡ part e → g' ≡ whole
    element_noted-trap inside trap so_far now is =
        let left : count - e ≡ suc (count - (e + 1)) = omega arith in
        let rest = element_notes part does (range_with_len (e + 1) (count - (e + 1))) in
        now
        ∙ (ap (noted_by noted g) (sym (append-nil (does e)))
        ∙ (ap (λ o. noted_by noted g (does e ++ if_value o rest)) is
        ∙ (ap (λ n. noted_by noted g (element_notes part does (range_with_len e n))) (sym left) ∙ so_far)))

    pub element_noted-more : e < count → (result : List ℤ) → noted_by noted g (element_notes part does (range_with_len e (count - e))) ≡ whole → g' ≡ noted_by noted g (does e) → Value result ≡ part e →
        noted_by noted g' (element_notes part does (range_with_len (e + 1) (count - (e + 1)))) ≡ whole
    element_noted-more inside result so_far now is =
        let left : count - e ≡ suc (count - (e + 1)) = omega arith in
        let rest = element_notes part does (range_with_len (e + 1) (count - (e + 1))) in
        ap (λ x. noted_by noted x rest) now
        ∙ (sym (noted_by-append g (does e) rest)
        ∙ (ap (λ o. noted_by noted g (does e ++ if_value o rest)) is
        ∙ (ap (λ n. noted_by noted g (element_notes part does (range_with_len e n))) (sym left) ∙ so_far)))

    pub element_noted-all : count ≤ e → noted_by noted g (element_notes part does (range_with_len e (count - e))) ≡ whole → g ≡ whole
    element_noted-all past so_far =
        let none : count - e ≡ 0 = omega arith in
        sym (noted_by-none g) ∙ (sym (ap (λ n. noted_by noted g (element_notes part does (range_with_len e n))) none) ∙ so_far)

  -- folds
  half_length : (n : ℕ) (xs : List (List ℤ)) → length xs ≤ suc n → 2 ≤ length xs → (length (take (length xs / 2) xs) ≤ n) × (length (drop (length xs / 2) xs) ≤ n)
  half_length n xs fits several =
      (omega (arith, length-take (length xs / 2) xs), omega (arith, length-drop (length xs / 2) xs))

  module _ (operator : List ℤ → Outcome) (does : List ℤ → List Note) where
    enough : (n m : ℕ) (xs : List (List ℤ)) → length xs ≤ n → length xs ≤ m → fold_notes_to n operator does xs ≡ fold_notes_to m operator does xs
    unfolding fold_notes_to
    enough zero zero xs few less = refl
    enough zero (suc m) [] few less = refl
    enough zero (suc m) (x ∷ xs) few less = absurd (omega arith)
    enough (suc n) zero [] few less = refl
    enough (suc n) zero (x ∷ xs) few less = absurd (omega arith)
    enough (suc n) (suc m) [] few less = refl
    enough (suc n) (suc m) (x ∷ []) few less = refl
    enough (suc n) (suc m) (x ∷ (y ∷ xs)) few less =
        let all : List (List ℤ) = x ∷ (y ∷ xs) in
        let several : 2 ≤ length all = omega arith in
        let one = half_length n all few several in
        let two = half_length m all less several in
        rw (enough n m (take (length all / 2) all) one.0 two.0, enough n m (drop (length all / 2) all) one.1 two.1) refl

    -- the notes once the left half is folded
    rest_notes : List (List ℤ) → List (List ℤ) → List Note
    rest_notes front back =
        fold_notes operator does back ++ notes_on does (combined (λ words. Value words) (folded operator front) (folded operator back))

    halves : (xs : List (List ℤ)) → 2 ≤ length xs → fold_notes operator does xs ≡ fold_notes operator does (take (length xs / 2) xs) ++ if_value (folded operator (take (length xs / 2) xs)) (rest_notes (take (length xs / 2) xs) (drop (length xs / 2) xs))
    unfolding fold_notes_to rest_notes
    halves [] several = absurd (omega arith)
    halves (x ∷ []) several = absurd (omega arith)
    halves (x ∷ (y ∷ xs)) several =
        let all : List (List ℤ) = x ∷ (y ∷ xs) in
        let n : ℕ = suc (length xs) in
        let fits : length all ≤ suc n = omega arith in
        let one = half_length n all fits several in
        rw (enough (length (take (length all / 2) all)) n (take (length all / 2) all) (omega arith) one.0, enough (length (drop (length all / 2) all)) n (drop (length all / 2) all) (omega arith) one.1) refl

    split : (xs front back : List (List ℤ)) → 2 ≤ length xs → front ≡ take (length xs / 2) xs → back ≡ drop (length xs / 2) xs → fold_notes operator does xs ≡ fold_notes operator does front ++ if_value (folded operator front) (rest_notes front back)
    split xs front back several first second =
        halves xs several
        ∙ (ap (λ f. fold_notes operator does f ++ if_value (folded operator f) (rest_notes f (drop (length xs / 2) xs))) (sym first)
        ∙ ap (λ b. fold_notes operator does front ++ if_value (folded operator front) (rest_notes front b)) (sym second))

    pub fold_noted-one : (xs : List (List ℤ)) (g : S) → length xs ≡ 1 → g ≡ noted_by noted g (fold_notes operator does xs)
    unfolding fold_notes_to noted_by
    fold_noted-one [] g single = absurd (omega arith)
    fold_noted-one (x ∷ []) g single = refl
    fold_noted-one (x ∷ (y ∷ xs)) g single = absurd (omega arith)

    pub fold_noted-trap : (xs front back : List (List ℤ)) (trap : Trap) (g now : S) → 2 ≤ length xs → front ≡ take (length xs / 2) xs → back ≡ drop (length xs / 2) xs →
        Trapped trap ≡ folded operator front → now ≡ noted_by noted g (fold_notes operator does front) → now ≡ noted_by noted g (fold_notes operator does xs)
    fold_noted-trap xs front back trap g now several first second is noting =
        noting
        ∙ (ap (noted_by noted g) (sym (append-nil (fold_notes operator does front)))
        ∙ (ap (λ o. noted_by noted g (fold_notes operator does front ++ if_value o (rest_notes front back))) is
        ∙ ap (noted_by noted g) (sym (split xs front back several first second))))

    itself : (x : Outcome) → on_value (λ words. Value words) x ≡ x
    itself (Value words) = refl
    itself (Trapped trap) = refl

    pub fold_noted-more : (xs front back : List (List ℤ)) (left : List ℤ) (right both : Outcome) (g one two now : S) → 2 ≤ length xs → front ≡ take (length xs / 2) xs → back ≡ drop (length xs / 2) xs →
        Value left ≡ folded operator front → right ≡ folded operator back → ((op : List ℤ → Outcome) → on_value op both ≡ combined op (Value left) right) →
        one ≡ noted_by noted g (fold_notes operator does front) → two ≡ noted_by noted one (fold_notes operator does back) → now ≡ noted_by noted two (notes_on does both) → now ≡ noted_by noted g (fold_notes operator does xs)
    unfolding rest_notes
    fold_noted-more xs front back left right both g one two now several first second is_left is_right paired in_left in_right last =
        let f = fold_notes operator does front in
        let b = fold_notes operator does back in
        let join = λ (l r : Outcome). combined (λ words. Value words) l r in
        let is_both : both ≡ join (folded operator front) (folded operator back) =
        sym (itself both) ∙ (paired (λ words. Value words) ∙ (ap (λ l. join l right) is_left ∙ ap (λ r. join (folded operator front) r) is_right)) in
        let end = notes_on does (join (folded operator front) (folded operator back)) in
        last
        ∙ (ap (λ o. noted_by noted two (notes_on does o)) is_both
        ∙ (ap (λ x. noted_by noted x end) (in_right ∙ ap (λ x. noted_by noted x b) in_left)
        ∙ (sym (noted_by-append (noted_by noted g f) b end)
        ∙ (sym (noted_by-append g f (b ++ end))
        ∙ (ap (λ o. noted_by noted g (f ++ if_value o (rest_notes front back))) is_left
        ∙ ap (noted_by noted g) (sym (split xs front back several first second)))))))

  -- turns
  module _ (home : ℕ) (body condition : List ℤ → Outcome) (in_body in_condition : List ℤ → List Note) (made left : ℕ) (words : List ℤ) (g one two whole : S) (some : 0 < left)
      (so_far : noted_by noted g (turn_notes home body condition in_body in_condition made left words) ≡ whole) (began : one ≡ noted g (turn home (made + 1))) (turned : two ≡ noted_by noted one (in_body words)) where
    -- the notes after the condition, and those after the body
    after_test : List ℤ → Outcome → List Note
    after_test result answer =
        notes_on (λ a. cond (is_done a) [] (turn_notes home body condition in_body in_condition (made + 1) (left - 1) result)) answer

    after_body : Outcome → List Note
    after_body outcome = notes_on (λ result. in_condition result ++ after_test result (condition result)) outcome

    opened : noted_by noted two (after_body (body words)) ≡ whole
    unfolding after_body after_test
    opened =
        let more : left ≡ suc (left - 1) = omega arith in
        ap (λ x. noted_by noted x (after_body (body words))) (turned ∙ ap (λ x. noted_by noted x (in_body words)) began)
        ∙ (sym (noted_by-append (noted g (turn home (made + 1))) (in_body words) (after_body (body words)))
        ∙ (sym (noted_by-first g (turn home (made + 1)) (in_body words ++ after_body (body words)))
        ∙ ap (λ n. noted_by noted g (turn_notes home body condition in_body in_condition made n words)) (sym more) ∙ so_far))

    pub turn_noted-body_trap : (trap : Trap) → Trapped trap ≡ body words → two ≡ whole
    unfolding after_body
    turn_noted-body_trap trap is = sym (noted_by-none two) ∙ (ap (λ o. noted_by noted two (after_body o)) is ∙ opened)

    tested : (next : List ℤ) (three : S) → Value next ≡ body words → three ≡ noted_by noted two (in_condition next) → noted_by noted three (after_test next (condition next)) ≡ whole
    unfolding after_body
    tested next three is now =
        ap (λ x. noted_by noted x (after_test next (condition next))) now
        ∙ (sym (noted_by-append two (in_condition next) (after_test next (condition next)))
        ∙ (ap (λ o. noted_by noted two (after_body o)) is ∙ opened))

    pub turn_noted-condition_trap : (next : List ℤ) (three : S) (trap : Trap) → Value next ≡ body words → three ≡ noted_by noted two (in_condition next) → Trapped trap ≡ condition next → three ≡ whole
    unfolding after_test
    turn_noted-condition_trap next three trap is now test = sym (noted_by-none three) ∙ (ap (λ o. noted_by noted three (after_test next o)) test ∙ tested next three is now)

    pub turn_noted-done : (next answer : List ℤ) (three : S) → Value next ≡ body words → three ≡ noted_by noted two (in_condition next) → Value answer ≡ condition next → is_done answer ≡ true → three ≡ whole
    unfolding after_test
    turn_noted-done next answer three is now test done =
        sym (noted_by-none three)
        ∙ (sym (ap (λ b. noted_by noted three (cond b [] (turn_notes home body condition in_body in_condition (made + 1) (left - 1) next))) done)
        ∙ (ap (λ o. noted_by noted three (after_test next o)) test ∙ tested next three is now))

    pub turn_noted-again : (next answer : List ℤ) (three : S) → Value next ≡ body words → three ≡ noted_by noted two (in_condition next) → Value answer ≡ condition next → is_done answer ≡ false →
        noted_by noted three (turn_notes home body condition in_body in_condition (made + 1) (left - 1) next) ≡ whole
    unfolding after_test
    turn_noted-again next answer three is now test more =
        sym (ap (λ b. noted_by noted three (cond b [] (turn_notes home body condition in_body in_condition (made + 1) (left - 1) next))) more)
        ∙ (ap (λ o. noted_by noted three (after_test next o)) test ∙ tested next three is now)

  pub turn_noted-none : (home : ℕ) (body condition : List ℤ → Outcome) (in_body in_condition : List ℤ → List Note) (made left : ℕ) (words : List ℤ) (g whole : S) → left ≡ 0 → noted_by noted g (turn_notes home body condition in_body in_condition made left words) ≡ whole → g ≡ whole
  turn_noted-none home body condition in_body in_condition made left words g whole none so_far =
      sym (noted_by-none g) ∙ (sym (ap (λ n. noted_by noted g (turn_notes home body condition in_body in_condition made n words)) none) ∙ so_far)
