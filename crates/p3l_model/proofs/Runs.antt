-- Runs of counts: the counts of some nodes within those of more nodes.
use Rattle.std.proofs.Common.{◌≡◌, ℕ, zero, suc, ◌+◌, ◌==◌, ◌<◌, true, false, List, [], ◌∷◌, ◌++◌, take, drop, length, refl, sym, ◌∙◌, subst, arith, inl, inr}
use Rattle.std.specs.List.{Contains}
use Rattle.std.proofs.lemmas.Bool.{cases_eq}
use Rattle.std.proofs.lemmas.Bool.Decides.{nat_tests}
use Rattle.std.proofs.lemmas.List.{take-append-drop}
use Rattle.std.proofs.lemmas.List.Elements.{Contains-append_left, Contains-append_right}
use Rattle.p3l_skel.specs.declared.tree.Tree.{Tree}
use Rattle.p3l_skel.specs.Counts.{TakesLawful, count_in}
use Rattle.p3l_skel.proofs.Taken.{TakesLawful-append, TakesLawful-split}
use Rattle.p3l_model.proofs.Members.{Contains-cons_cases, Contains-nil, Contains-head, Contains-tail}

-- the first counts are lawful alone, and the rest is after them
pub takes-front : (tree : Tree) (ks ns rest : List ℕ) → TakesLawful tree ks ns rest → TakesLawful tree ks (take (length ks) ns) [] × (drop (length ks) ns ≡ rest)
takes-front tree [] ns rest h = (refl, h)
takes-front tree (k ∷ ks) [] rest h = absurd h
takes-front tree (k ∷ ks) (n ∷ ns) rest h = let p = takes-front tree ks ns rest h.1 in ((h.0, p.0), p.1)

-- lawful counts with more after them
takes-more : (tree : Tree) (ks xs rest ys : List ℕ) → TakesLawful tree ks xs rest → TakesLawful tree ks (xs ++ ys) (rest ++ ys)
takes-more tree [] xs rest ys h = subst (λ zs. xs ++ ys ≡ zs ++ ys) h refl
takes-more tree (k ∷ ks) [] rest ys h = absurd h
takes-more tree (k ∷ ks) (n ∷ xs) rest ys h = (h.0, takes-more tree ks xs rest ys h.1)

pub takes-parts : (tree : Tree) (ks ms ns : List ℕ) → TakesLawful tree (ks ++ ms) ns [] → TakesLawful tree ks (take (length ks) ns) [] × TakesLawful tree ms (drop (length ks) ns) []
takes-parts tree ks ms ns h =
    let split = TakesLawful-split tree ks ms ns [] h in
    let front = takes-front tree ks ns split.0 split.1 in
    (front.0, subst (λ zs. TakesLawful tree ms zs []) (sym front.1) split.2)

pub takes-whole : (tree : Tree) (ks ms ns : List ℕ) (size : ℕ) → TakesLawful tree ks (take size ns) [] → TakesLawful tree ms (drop size ns) [] → TakesLawful tree (ks ++ ms) ns []
takes-whole tree ks ms ns size front back =
    subst (λ zs. TakesLawful tree (ks ++ ms) zs []) (take-append-drop size ns)
    (TakesLawful-append tree ks ms (take size ns ++ drop size ns) (drop size ns) [] (takes-more tree ks (take size ns) [] (drop size ns) front) back)

-- the counts of the first nodes come first
pub count_in-front : (ks ms ns : List ℕ) (x : ℕ) → Contains ks x → count_in (ks ++ ms) ns x ≡ count_in ks (take (length ks) ns) x
count_in-front [] ms ns x inside = absurd (Contains-nil x inside)
count_in-front (k ∷ ks) ms [] x inside = refl
count_in-front (k ∷ ks) ms (n ∷ ns) x inside =
    elim (cases_eq k x) [
      | inl same ↦ let test : (k == x) ≡ true = search (arith, nat_tests) in rw test refl
      | inr other ↦ let test : (k == x) ≡ false = search (arith, nat_tests) in
          let later : Contains ks x = elim (Contains-cons_cases k ks x inside) [ inl same ↦ absurd (other (sym same)) | inr there ↦ there ] in
          rw test (count_in-front ks ms ns x later)
    ]

none : (ms : List ℕ) (x : ℕ) → count_in ms [] x ≡ 0
none [] x = refl
none (m ∷ ms) x = refl

-- and those of the others after
pub count_in-back : (ks ms ns : List ℕ) (x : ℕ) → (Contains ks x → ⊥) → count_in (ks ++ ms) ns x ≡ count_in ms (drop (length ks) ns) x
count_in-back [] ms ns x apart = refl
count_in-back (k ∷ ks) ms [] x apart = sym (none ms x)
count_in-back (k ∷ ks) ms (n ∷ ns) x apart =
    elim (cases_eq k x) [
      | inl same ↦ absurd (apart (subst (λ y. Contains (k ∷ ks) y) same (Contains-head k ks)))
      | inr other ↦ let test : (k == x) ≡ false = search (arith, nat_tests) in
          rw test (count_in-back ks ms ns x (λ h. apart (Contains-tail k ks x h)))
    ]

-- a count for each node is the one in a run
abbrev pub Agrees : (ℕ → ℕ) → List ℕ → List ℕ → Type 0
Agrees count ks ns = (x : ℕ) → Contains ks x → count x ≡ count_in ks ns x

pub agrees-front : (count : ℕ → ℕ) (ks ms ns : List ℕ) → Agrees count (ks ++ ms) ns → Agrees count ks (take (length ks) ns)
agrees-front count ks ms ns all = λ x h. all x (Contains-append_left ks ms x h) ∙ count_in-front ks ms ns x h

pub agrees-back : (count : ℕ → ℕ) (ks ms ns : List ℕ) → ((x : ℕ) → Contains ks x → Contains ms x → ⊥) → Agrees count (ks ++ ms) ns → Agrees count ms (drop (length ks) ns)
agrees-back count ks ms ns apart all = λ x h. all x (Contains-append_right ks ms x h) ∙ count_in-back ks ms ns x (λ f. apart x f h)

-- the count of the first node
pub agrees-head : (count : ℕ → ℕ) (k : ℕ) (ks : List ℕ) (n : ℕ) (ns : List ℕ) → Agrees count (k ∷ ks) (n ∷ ns) → count k ≡ n
agrees-head count k ks n ns all = let test : (k == k) ≡ true = search (arith, nat_tests) in rw test at (all k (Contains-head k ks))

pub agrees-tail : (count : ℕ → ℕ) (k : ℕ) (ks : List ℕ) (n : ℕ) (ns : List ℕ) → (Contains ks k → ⊥) → Agrees count (k ∷ ks) (n ∷ ns) → Agrees count ks ns
agrees-tail count k ks n ns apart all = λ x h.
    elim (cases_eq k x) [
      | inl same ↦ absurd (apart (subst (Contains ks) (sym same) h))
      | inr other ↦ let test : (k == x) ≡ false = search (arith, nat_tests) in rw test at (all x (Contains-tail k ks x h))
    ]
