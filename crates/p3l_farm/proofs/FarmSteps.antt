-- The steps of what is found in a farm.
use Rattle.std.proofs.Common.{◌≡◌, ℕ, ◌+◌, ◌<◌, ◌≤◌, ◌&&◌, ◌⊎◌, inl, inr, nat_eq, Some, None, cond, Bool, true, false, List, ◌++◌, drop, length, get_or, refl, sym, ap, ap₂, ◌∙◌, append_assoc, append-nil}
use Rattle.std.proofs.lemmas.Bool.{cond-false}
use Rattle.std.proofs.lemmas.List.{drop_all, map-append}
use Rattle.p3l_firing.specs.declared.token.Token.{Token}
use Rattle.p3l_template.proofs.LineSteps.{lines_left}
use Rattle.p3l_farm.specs.Farm.{View, rising, all_rising, joined, well_kept}
use Rattle.p3l_template.specs.Bag.{read, numbered}
use Rattle.p3l_farm.specs.FarmKind.{found_by}
use Rattle.p3l_template.specs.Finding.{bare, bares, if_orderly}
use Rattle.p3l_template.specs.Numbered.{ordered}
use Rattle.p3l_template.specs.laws.BareLaw.{bares-bares, bares-length, read-bare, numbered-bare, and-true}

pub rising_left : (ls : List (List Token)) (i : ℕ) (l : List Token) → i < length ls → l ≡ get_or ls i l →
    all_rising (drop i ls) ≡ (rising l && all_rising (drop (i + 1) ls))
unfolding all_rising
rising_left ls i l b h = ap all_rising (lines_left ls i l b h)

pub rising_end : (ls : List (List Token)) (i : ℕ) → length ls ≤ i → all_rising (drop i ls) ≡ true
unfolding all_rising
rising_end ls i l = ap all_rising (drop_all i ls l)

pub joined_left : (ls : List (List Token)) (i : ℕ) (l : List Token) (list : List Token) → i < length ls → l ≡ get_or ls i l →
    (list ++ bares l) ++ bares (joined (drop (i + 1) ls)) ≡ list ++ bares (joined (drop i ls))
unfolding joined
joined_left ls i l list b h =
    append_assoc list (bares l) _
    ∙ ap (λ z. list ++ z) (sym (map-append bare l (joined (drop (i + 1) ls))) ∙ ap (λ z. bares (joined z)) (sym (lines_left ls i l b h)))

pub joined_end : (ls : List (List Token)) (i : ℕ) (list : List Token) → length ls ≤ i → list ≡ list ++ bares (joined (drop i ls))
unfolding joined
joined_end ls i list l = sym (ap (λ z. list ++ bares (joined z)) (drop_all i ls l) ∙ append-nil list)

module _ (v : View) (bag : List Token) (are : bag ≡ bares (joined v.lines)) where
  many : length bag ≡ length (joined v.lines)
  many = ap length are ∙ bares-length (joined v.lines)

  pub none_found : (nat_eq (v.least + length bag) v.next ≡ false) ⊎ (all_rising v.lines ≡ false) → None ≡ if_orderly (found_by v)
  unfolding if_orderly found_by well_kept
  none_found (inl h) =
      sym (cond-false _ _ _ (ap (λ b. b && (numbered (joined v.lines) v.least && all_rising v.lines))
      (ap (λ n. nat_eq (v.least + n) v.next) (sym many) ∙ h)))
  none_found (inr h) =
      sym (cond-false _ _ _ (ap (λ b. nat_eq (v.least + length (joined v.lines)) v.next && (numbered (joined v.lines) v.least && b)) h
      ∙ ap (λ b. nat_eq (v.least + length (joined v.lines)) v.next && b) (and_false (numbered (joined v.lines) v.least))
      ∙ and_false (nat_eq (v.least + length (joined v.lines)) v.next)))
    where
      and_false : (b : Bool) → (b && false) ≡ false
      and_false true = refl
      and_false false = refl

  pub found_in_order : nat_eq (v.least + length bag) v.next ≡ true → all_rising v.lines ≡ true → ordered bag v.least ≡ if_orderly (found_by v)
  unfolding if_orderly found_by well_kept ordered
  found_in_order a r =
      ap₂ (λ b p. cond b (Some p) None)
      (ap (λ z. numbered z v.least) are ∙ numbered-bare (joined v.lines) v.least
      ∙ sym (ap₂ (λ x y. x && (numbered (joined v.lines) v.least && y)) (ap (λ n. nat_eq (v.least + n) v.next) (sym many) ∙ a) r
      ∙ and-true (numbered (joined v.lines) v.least)))
      (ap bares (ap₂ (λ z n. read z v.least n) are many ∙ read-bare (joined v.lines) v.least (length (joined v.lines)))
      ∙ bares-bares (read (joined v.lines) v.least (length (joined v.lines))))
