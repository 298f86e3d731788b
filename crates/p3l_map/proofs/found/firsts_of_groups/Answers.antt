use Rattle.std.proofs.Common.{◌≡◌, ◌+◌, ◌%◌, ◌++◌, ◌<◌, ◌≤◌, ℕ, zero, suc, nat_eq, List, [], ◌∷◌, true, false, inl, inr, take, drop, length, subst, refl, sym, ap, ◌∙◌, arith, append_assoc, length-append, eq-eqb, eqb-true}
use Rattle.std.proofs.lemmas.Bool.{cases_Bool, false≢true}
use Rattle.std.proofs.lemmas.List.{take_more}
use Rattle.p3l_firing.specs.declared.token.Token.{Token}
use Rattle.p3l_map.specs.Map.{all_alike}
use Rattle.p3l_map.specs.Groups.{begun}
use Rattle.p3l_map.proofs.GroupSteps.{AreFirsts, HasFirst, no_firsts, first_more, has_first_one, not_alike, none_made, all_made}
use Rattle.p3l_template.proofs.Slots.{split_at}
use Rattle.p3l_map.proofs.found.firsts_of_groups.Goals as goal

take_count : (xs : List Token) (k : ℕ) → k ≤ length xs → length (take k xs) ≡ k
take_count [] zero l = refl
take_count [] (suc k) l = absurd (omega (arith, l))
take_count (x ∷ xs) zero l = refl
take_count (x ∷ xs) (suc k) l = ap suc (take_count xs k (omega (arith, l)))

take_past : (xs : List Token) (k : ℕ) → length xs ≤ k → take k xs ≡ xs
take_past [] zero l = refl
take_past [] (suc k) l = refl
take_past (x ∷ xs) zero l = absurd (omega (arith, l))
take_past (x ∷ xs) (suc k) l = ap (λ z. x ∷ z) (take_past xs k (omega (arith, l)))

-- a piece that isn't the first of its group
module _ (n k : ℕ) (xs : List Token) (x : Token) (firsts : List Token) (pos : 1 ≤ n) (below : k < length xs)
    (are : AreFirsts n (take k xs) firsts) where
  count : length (take k xs) ≡ k
  count = take_count xs k (omega (arith, below))

  later : nat_eq (k % n) 0 ≡ false → HasFirst n (take k xs) x firsts
  later h =
      has_first_one n (omega (arith, pos)) (take k xs) x firsts are
      (λ d. false≢true (sym h ∙ eq-eqb (k % n) 0 (ap (λ m. m % n) (sym count) ∙ d)))

  not_empty : nat_eq (k % n) 0 ≡ false → 1 ≤ length firsts
  not_empty h =
      let f = later h in
      let e = ap length f.last in
      let d = length-append f.groups_before (f.first ∷ []) in
      omega (arith, e, d)

  first : nat_eq (k % n) 0 ≡ true → length (take k xs) % n ≡ 0
  first h = ap (λ m. m % n) count ∙ eqb-true (k % n) 0 h

pub loop-k-init : goal.loop-k-init
loop-k-init c = no_firsts c.args.number _ c.new-firsts.ensures

pub add_piece-requires : goal.add_piece-requires
add_piece-requires c = λ h.
    not_empty c.args.number c.loop-k.k c.args.pieces.now c.index-pieces-k.result c.loop-k.firsts c.requires c.loop-k-test.true c.loop-k.invariant h

pub returns-then-not-branch : goal.returns-then-not-branch
returns-then-not-branch c =
    let k = c.loop-k.k in
    let xs = c.args.pieces.now in
    let x = c.index-pieces-k.result in
    none_made (begun c.args.number xs)
    (elim (cases_Bool (nat_eq (k % c.args.number) 0)) [
      | inl t ↦ absurd (false≢true (sym c.if-not-branch.true ∙ c.in_ok-add_piece.ensures.first t))
      | inr f ↦
          let one = later c.args.number k xs x c.loop-k.firsts c.requires c.loop-k-test.true c.loop-k.invariant f in
          let whole = split_at xs k x c.loop-k-test.true c.index-pieces-k.is ∙ sym (append_assoc (take k xs) (x ∷ []) (drop (k + 1) xs)) in
          ap (λ z. all_alike (begun c.args.number z)) whole
          ∙ not_alike c.args.number (take k xs ++ x ∷ []) (drop (k + 1) xs)
          (one.differs (sym (c.in_ok-add_piece.ensures.later f one.groups_before one.first one.last) ∙ c.if-not-branch.true))
    ])

pub loop-k-preserved : goal.loop-k-preserved
loop-k-preserved c =
    let n = c.args.number in
    let k = c.loop-k.k in
    let xs = c.args.pieces.now in
    let x = c.index-pieces-k.result in
    let more : take k xs ++ x ∷ [] ≡ take (k + 1) xs =
    sym (take_more xs k x c.loop-k-test.true ∙ ap (λ z. take k xs ++ z ∷ []) (sym c.index-pieces-k.is)) in
    let firsts : AreFirsts c.args.number (take k xs ++ x ∷ []) c.add_piece.new.firsts =
    elim (cases_Bool (nat_eq (k % c.args.number) 0)) [
      | inl t ↦
          first_more n (omega (arith, c.requires)) (take k xs) x c.loop-k.firsts c.loop-k.invariant c.add_piece.new.firsts
          (first n k xs x c.loop-k.firsts c.requires c.loop-k-test.true c.loop-k.invariant t) (c.in_ok-add_piece.ensures.one_more t)
      | inr f ↦
          let one = later n k xs x c.loop-k.firsts c.requires c.loop-k-test.true c.loop-k.invariant f in
          one.more c.add_piece.new.firsts (c.in_ok-add_piece.ensures.same f)
          (sym (c.in_ok-add_piece.ensures.later f one.groups_before one.first one.last) ∙ c.if-not-branch.false)
    ] in
    subst (λ z. AreFirsts c.args.number z c.add_piece.new.firsts) more firsts

pub returns : goal.returns
returns c =
    let all : take c.loop-k.k c.args.pieces.now ≡ c.args.pieces.now = take_past c.args.pieces.now c.loop-k.k (omega (arith, c.loop-k-test.false)) in
    let are = subst (λ z. AreFirsts c.args.number z c.loop-k.firsts) all c.loop-k.invariant in
    all_made (begun c.args.number c.args.pieces.now) c.loop-k.firsts are.made are.alike
