-- Lawful counts are lawful at each node, and small.
use Rattle.std.proofs.Common.{◌≡◌, ℕ, zero, suc, ◌^◌, ◌≤◌, ◌==◌, true, false, List, [], ◌∷◌, sym, subst, arith, inl, inr, Some, None, Option}
use Rattle.std.specs.List.{Contains}
use Rattle.std.proofs.lemmas.Bool.{cases_eq}
use Rattle.std.proofs.lemmas.Nat.{pow_pos}
use Rattle.std.proofs.lemmas.Bool.Decides.{nat_tests}
use Rattle.p3l_skel.specs.declared.tree.Form.{Form}
use Rattle.p3l_skel.specs.declared.tree.Form.TheVariants.{Seq, Comp, Pipe, Farm, Map, Reduce, Loop}
use Rattle.p3l_skel.specs.declared.tree.Tree.{Tree}
use Rattle.p3l_skel.specs.Tree.{node_at}
use Rattle.p3l_skel.specs.Counts.{IsLawfulCount, TakesLawful, count_in}
use Rattle.p3l_skel.specs.Numbers.{joined_firings, power_up_to, most_segments}
use Rattle.p3l_skel.proofs.Powers.{power_up_to-most, small_exponent}
use Rattle.p3l_model.proofs.Members.{Contains-cons_cases, Contains-nil}

lawful_small : (form : Form) (n : ℕ) → IsLawfulCount form n → n ≤ 512
lawful_small Seq n h = absurd h.1
lawful_small Comp n h = absurd h.1
lawful_small Pipe n h = absurd h.1
lawful_small (Farm w) n h = h.1.1
lawful_small (Map w cut) n h = h.1.2
lawful_small (Reduce w len elem) n h = h.1.2
lawful_small (Loop turns tokens) n h = absurd h.1

-- no node has more than 512 workers
pub count_small : (tree : Tree) (ks ns rest : List ℕ) (node : ℕ) → TakesLawful tree ks ns rest → count_in ks ns node ≤ 512
count_small tree [] ns rest node h = omega arith
count_small tree (k ∷ ks) [] rest node h = absurd h
count_small tree (k ∷ ks) (n ∷ ns) rest node h =
    let here = lawful_small (node_at tree k).form n h.0 in
    let later = count_small tree ks ns rest node h.1 in
    grind (arith, nat_tests)

-- each of the nodes has a lawful count
pub count_lawful : (tree : Tree) (ks ns rest : List ℕ) (node : ℕ) → TakesLawful tree ks ns rest → Contains ks node → IsLawfulCount (node_at tree node).form (count_in ks ns node)
count_lawful tree [] ns rest node h inside = absurd (Contains-nil node inside)
count_lawful tree (k ∷ ks) [] rest node h inside = absurd h
count_lawful tree (k ∷ ks) (n ∷ ns) rest node h inside =
    elim (cases_eq k node) [
      | inl same ↦ let test : (k == node) ≡ true = search (arith, nat_tests) in
          rw test (subst (λ x. IsLawfulCount (node_at tree x).form n) same h.0)
      | inr other ↦ let test : (k == node) ≡ false = search (arith, nat_tests) in
          let later : Contains ks node = elim (Contains-cons_cases k ks node inside) [
            | inl same ↦ absurd (other (sym same))
            | inr there ↦ there
          ] in
          rw test (count_lawful tree ks ns rest node h.1 later)
    ]

joined_firings-mono : (n m : ℕ) → 1 ≤ n → n ≤ m → joined_firings n ≤ joined_firings m
joined_firings-mono n m some more = grind (arith, nat_tests)

-- a reduce fires no more often than with the most segments that it may have
pub reduce_bounded : (w : Option ℕ) (len elem n : ℕ) → IsLawfulCount (Reduce w len elem) n → joined_firings n ≤ joined_firings (most_segments (Reduce w len elem))
reduce_bounded (Some m) len elem n h = rw h.0 (omega arith)
reduce_bounded None len elem n (meets, ((e, is), fits, small)) =
    let power : 2 ^ e ≤ len = rw is at fits in
    let exponent : e ≤ 9 = small_exponent e (rw is at small) in
    let most = power_up_to-most 9 e len exponent power in
    let some : 1 ≤ 2 ^ e = pow_pos e in
    rw is (joined_firings-mono (2 ^ e) (power_up_to 9 len) some most)
