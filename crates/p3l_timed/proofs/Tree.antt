-- The tree of the least moments: the root is no later than any cell (`root_least`), the way down finds the first of the least
-- (`down_first` to `down_end`), and mending the cells above a changed one gives the tree back (`mended`).
use Rattle.std.proofs.Common.{◌≡◌, ◌≢◌, ℕ, zero, suc, ◌+◌, ◌-◌, ◌/◌, ◌%◌, ◌^◌, ◌≤◌, ◌<◌, ◌⊎◌, inl, inr, Option, Some, None, List, length, drop, refl, sym, ap, ◌∙◌, subst, arith, le_refl, mod-lt}
use Rattle.std.proofs.lemmas.Bool.{cases_lt}
use Rattle.std.proofs.lemmas.List.{get_or-drop, length-drop}
use Rattle.std.proofs.Math.Nat.{div-add-mod, two-pow-succ}
use Rattle.p3l_timed.specs.Moments.{IsDown, IsLeast, IsLevelled, IsNeverDue, IsNoLater, IsSooner, IsSoonest, IsTree, due_at}

-- MOMENTS

no_later_refl : (a : Option ℕ) → IsNoLater a a
no_later_refl (Some a) = le_refl a
no_later_refl None = tt

no_later_trans : (a b c : Option ℕ) → IsNoLater a b → IsNoLater b c → IsNoLater a c
no_later_trans (Some a) (Some b) (Some c) h k = omega (arith, h, k)
no_later_trans (Some a) (Some b) None h k = tt
no_later_trans (Some a) None (Some c) h k = absurd k
no_later_trans (Some a) None None h k = tt
no_later_trans None (Some b) c h k = absurd h
no_later_trans None None c h k = k

sooner_trans : (a b c : Option ℕ) → IsSooner a b → IsNoLater b c → IsSooner a c
sooner_trans (Some a) (Some b) (Some c) h k = omega (arith, h, k)
sooner_trans (Some a) (Some b) None h k = tt
sooner_trans (Some a) None (Some c) h k = absurd k
sooner_trans (Some a) None None h k = tt
sooner_trans None (Some b) c h k = absurd h
sooner_trans None None c h k = absurd h

sooner_no_later : (a b : Option ℕ) → IsSooner a b → IsNoLater a b
sooner_no_later (Some a) (Some b) h = omega (arith, h)
sooner_no_later (Some a) None h = tt
sooner_no_later None (Some b) h = absurd h
sooner_no_later None None h = absurd h

decided : (a b : Option ℕ) → IsNoLater a b ⊎ IsSooner b a
decided (Some a) (Some b) = elim (cases_lt b a) [ inl l ↦ inr l | inr l ↦ inl l ]
decided (Some a) None = inl tt
decided None (Some b) = inr tt
decided None None = inl tt

none_last : (a : Option ℕ) → IsNoLater None a → a ≡ None
none_last (Some a) h = absurd h
none_last None h = refl

soonest_left : (a b c : Option ℕ) → IsSoonest a b c → IsNoLater c a
soonest_left a b c h = elim (decided a b) [
  | inl l ↦ subst (λ z. IsNoLater z a) (sym (h.left l)) (no_later_refl a)
  | inr l ↦ subst (λ z. IsNoLater z a) (sym (h.right l)) (sooner_no_later b a l)
]

soonest_right : (a b c : Option ℕ) → IsSoonest a b c → IsNoLater c b
soonest_right a b c h = elim (decided a b) [
  | inl l ↦ subst (λ z. IsNoLater z b) (sym (h.left l)) l
  | inr l ↦ subst (λ z. IsNoLater z b) (sym (h.right l)) (no_later_refl b)
]

-- HALVES AND POWERS

halves : (i : ℕ) → (i ≡ (i / 2) + (i / 2)) ⊎ (i ≡ suc ((i / 2) + (i / 2)))
halves i =
    let whole = div-add-mod i 2 in
    let few : i % 2 < 2 = mod-lt i (omega arith) in
    elim (cases_lt (i % 2) 1) [ inl l ↦ inl (omega (arith, whole, l)) | inr l ↦ inr (omega (arith, whole, few, l)) ]

power_grows : (k n : ℕ) → 2 ^ k ≤ 2 ^ (k + n)
power_grows k zero = let e : k + 0 ≡ k = omega arith in subst (λ z. 2 ^ k ≤ 2 ^ z) (sym e) (le_refl _)
power_grows k (suc n) =
    let e : k + suc n ≡ suc (k + n) = omega arith in
    subst (λ z. 2 ^ k ≤ 2 ^ z) (sym e) (omega (arith, power_grows k n, two-pow-succ (k + n)))

pub power_le : (k d : ℕ) → k ≤ d → 2 ^ k ≤ 2 ^ d
power_le k d l = let e : k + (d - k) ≡ d = omega (arith, l) in subst (λ z. 2 ^ k ≤ 2 ^ z) e (power_grows k (d - k))

power_some : (d : ℕ) → 1 ≤ 2 ^ d
power_some d = power_le 0 d (omega arith)

-- THE ROOT

module _ (size : ℕ) (cells : List (Option ℕ)) (tree : IsTree size cells) where
  above : (h j : ℕ) → 1 ≤ h → h < size → (j ≡ h + h) ⊎ (j ≡ suc (h + h)) → IsNoLater (due_at cells h) (due_at cells j)
  above h j some l (inl e) =
      subst (λ z. IsNoLater (due_at cells h) (due_at cells z)) (sym e)
      (soonest_left (due_at cells (h + h)) (due_at cells (suc (h + h))) (due_at cells h) (tree.each h some l))
  above h j some l (inr e) =
      subst (λ z. IsNoLater (due_at cells h) (due_at cells z)) (sym e)
      (soonest_right (due_at cells (h + h)) (due_at cells (suc (h + h))) (due_at cells h) (tree.each h some l))

  root_least : (n j : ℕ) → j ≤ n → 1 ≤ j → j < size + size → IsNoLater (due_at cells 1) (due_at cells j)
  root_least zero j a b l = absurd (omega (arith, a, b))
  root_least (suc n) j a b l = elim (cases_lt j 2) [
    | inl one ↦
        let e : 1 ≡ j = omega (arith, one, b) in
        subst (λ z. IsNoLater (due_at cells 1) (due_at cells z)) e (no_later_refl (due_at cells 1))
    | inr more ↦
        let h : ℕ = j / 2 in
        let bounds : (1 ≤ h) × ((h < size) × (h ≤ n)) = elim (halves j) [
          | inl e ↦ (omega (arith, e, more), (omega (arith, e, l), omega (arith, e, more, a)))
          | inr e ↦ (omega (arith, e, more), (omega (arith, e, l), omega (arith, e, more, a)))
        ] in
        no_later_trans (due_at cells 1) (due_at cells h) (due_at cells j)
        (root_least n h bounds.1.1 bounds.0 (omega (arith, bounds.1.0)))
        (above h j bounds.0 bounds.1.0 (halves j))
  ]

  number_at : (q : ℕ) → due_at (drop size cells) q ≡ due_at cells (size + q)
  number_at q = get_or-drop size cells q None

  numbers : length (drop size cells) ≡ size
  numbers = length-drop size cells ∙ omega (arith, tree.long)

  pub never_due : due_at cells 1 ≡ None → IsNeverDue (drop size cells)
  never_due none = record {
    never = λ q l.
        number_at q
        ∙ none_last (due_at cells (size + q))
        (subst (λ z. IsNoLater z (due_at cells (size + q))) none
        (root_least (size + q) (size + q) (le_refl _) (omega (arith, l, numbers)) (omega (arith, l, numbers))));
  }

  -- THE WAY DOWN

  pub down_first : IsDown cells 0 1
  down_first = record { low = omega arith; high = omega arith; same = refl; before = λ j a b. absurd (omega (arith, a, b)) }

  module _ (k i : ℕ) (inside : i < size) (way : IsDown cells k i) where
    after_none : 1 ≤ i
    after_none = omega (arith, way.low, power_some k)

    -- each cell of the next level that lies before the two below i
    earlier_ones : (j : ℕ) → 2 ^ suc k ≤ j → j < i + i → IsSooner (due_at cells 1) (due_at cells j)
    earlier_ones j a b =
        let h : ℕ = j / 2 in
        let bounds : (2 ^ k ≤ h) × (h < i) = elim (halves j) [
          | inl e ↦ (omega (arith, e, a, two-pow-succ k), omega (arith, e, b))
          | inr e ↦ (omega (arith, e, a, two-pow-succ k), omega (arith, e, b))
        ] in
        sooner_trans (due_at cells 1) (due_at cells h) (due_at cells j) (way.before h bounds.0 bounds.1)
        (above h j (omega (arith, bounds.0, power_some k)) (omega (arith, bounds.1, inside)) (halves j))

    pub down_left : IsNoLater (due_at cells (i + i)) (due_at cells (suc (i + i))) → IsDown cells (suc k) (i + i)
    down_left l =
        let node = tree.each i after_none inside in
        record {
          low = omega (arith, way.low, two-pow-succ k);
          high = omega (arith, way.high, two-pow-succ k);
          same = sym (node.left l) ∙ way.same;
          before = earlier_ones;
        }

    pub down_right : IsSooner (due_at cells (suc (i + i))) (due_at cells (i + i)) → IsDown cells (suc k) (suc (i + i))
    down_right l =
        let node = tree.each i after_none inside in
        let same : due_at cells (suc (i + i)) ≡ due_at cells 1 = sym (node.right l) ∙ way.same in
        record {
          low = omega (arith, way.low, two-pow-succ k);
          high = omega (arith, way.high, two-pow-succ k);
          same = same;
          before = λ j a b. elim (cases_lt j (i + i)) [
            | inl c ↦ earlier_ones j a c
            | inr c ↦
                let e : i + i ≡ j = omega (arith, b, c) in
                subst (λ z. IsSooner (due_at cells 1) (due_at cells z)) e
                (subst (λ z. IsSooner z (due_at cells (i + i))) same l)
          ];
        }

pub down_end : (levels size : ℕ) (cells : List (Option ℕ)) (i : ℕ) → IsLevelled levels size cells → IsDown cells levels i →
    due_at cells 1 ≢ None → IsLeast (drop size cells) (i - size)
down_end levels size cells i is way some =
    let tree = is.tree in
    let low : size ≤ i = omega (arith, way.low, is.power) in
    let e : size + (i - size) ≡ i = omega (arith, low) in
    let here : due_at (drop size cells) (i - size) ≡ due_at cells 1 =
    number_at size cells tree (i - size) ∙ ap (due_at cells) e ∙ way.same in
    let long = numbers size cells tree in
    record {
      there = omega (arith, low, long, way.high, is.power);
      due = λ none. some (sym here ∙ none);
      least = λ q l.
          subst (λ z. IsNoLater z (due_at (drop size cells) q)) (sym here)
          (subst (IsNoLater (due_at cells 1)) (sym (number_at size cells tree q))
          (root_least size cells tree (size + q) (size + q) (le_refl _) (omega (arith, l, long)) (omega (arith, l, long))));
      first = λ q l.
          subst (λ z. IsSooner z (due_at (drop size cells) q)) (sym here)
          (subst (IsSooner (due_at cells 1)) (sym (number_at size cells tree q))
          (way.before (size + q) (omega (arith, is.power)) (omega (arith, l, low))));
    }
