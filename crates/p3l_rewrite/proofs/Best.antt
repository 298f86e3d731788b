-- The best of some programs, and with one more.
use Rattle.std.proofs.Common.{◌≡◌, ℕ, zero, suc, ◌-◌, ◌<◌, ◌≤◌, ◌⊎◌, inl, inr, List, [], ◌∷◌, ◌++◌, length, take, drop, Some, refl, ap, sym, ◌∙◌, subst, arith, append-nil}
use Rattle.std.specs.Prelude.{slice_get}
use Rattle.p3l_ast.specs.Tree.{ProgramTree}
use Rattle.p3l_skel.specs.declared.tree.Tree.{Tree}
use Rattle.p3l_skel.specs.Tree.{node_at}
use Rattle.p3l_skel.specs.Numbers.{Fits}
use Rattle.p3l_check.specs.Resolving.{ResolvedTree}
use Rattle.p3l_cost.specs.declared.costs.Costs.{Costs}
use Rattle.p3l_model.specs.Optimal.{IsChosen}
use Rattle.p3l_model.specs.Service.{service}
use Rattle.p3l_rewrite.proofs.Added.{ok_same}
use Rattle.p3l_rewrite.specs.Rewriting.{IsAccepted, with_added, with_modules, costs_for, Serves, IsBest, StaysBest}
use Rattle.p3l_rewrite.specs.Serving.{HasTree, IsBestTime}

-- a program has one tree
pub one_whole : (program : ProgramTree) (a b : IsAccepted program) → a.whole ≡ b.whole
one_whole program a b = ok_same a.whole b.whole (sym a.resolves ∙ b.resolves)

take_drop : (n : ℕ) (xs : List ℕ) → take n xs ++ drop n xs ≡ xs
take_drop zero xs = refl
take_drop (suc n) [] = refl
take_drop (suc n) (x ∷ xs) = ap (λ l. x ∷ l) (take_drop n xs)

none_added : (root number : ℕ) (xs : List ℕ) → with_added root 0 number xs ≡ xs
none_added root number xs = ap (λ l. l ++ drop root xs) (append-nil (take root xs)) ∙ take_drop root xs

-- costs for the same tree are the costs
pub own_costs : (tree : Tree) (costs : Costs) → costs_for tree costs tree ≡ costs
own_costs tree costs =
    let root = (node_at tree 0).module in
    let none : length tree.modules - length tree.modules ≡ 0 = omega arith in
    ap (λ n. with_modules root n costs) none
    ∙ (λ i. record { setup = costs.setup; word = costs.word; ticks = none_added root 0 costs.ticks i; turns = none_added root 1 costs.turns i })

module _ (tree : Tree) (costs : Costs) (processors : ℕ) where
  -- a program's service time, if it serves, is the least of its tree
  pub serves_soonest : (q : ProgramTree) (m n : ℕ) → Serves tree costs processors q m → Serves tree costs processors q n → m ≤ n
  serves_soonest q m n a b =
      let other = b.accepted.whole.tree in
      let same : a.accepted.whole ≡ b.accepted.whole = one_whole q a.accepted b.accepted in
      let soonest = a.chosen.optimal.soonest in
      let mine : service a.accepted.whole.tree (costs_for tree costs a.accepted.whole.tree) a.counts 0 ≤ service other (costs_for tree costs other) b.counts 0 =
      subst (λ (w : ResolvedTree). service a.accepted.whole.tree (costs_for tree costs a.accepted.whole.tree) a.counts 0 ≤ service w.tree (costs_for tree costs w.tree) b.counts 0) same
      (soonest b.counts (subst (λ (w : ResolvedTree). Fits w.tree processors b.counts) (sym same) b.chosen.optimal.fit)) in
      omega (arith, mine, a.time_is, b.time_is)

  pub alone : (program : ProgramTree) (time : ℕ) → Serves tree costs processors program time → IsBest tree costs processors (program ∷ []) program time
  alone program time serves = record {
    place = 0;
    there = refl;
    serves = serves;
    least = least;
    first = λ k n q low. absurd (omega (arith, low));
  }
    where
      least : (k n : ℕ) (q : ProgramTree) → slice_get (program ∷ []) k ≡ Some q → Serves tree costs processors q n → time ≤ n
      least zero n q there it =
          let same : program ≡ q = cc in
          serves_soonest program time n serves (subst (λ p. Serves tree costs processors p n) (sym same) it)
      least (suc k) n q there it = absurd cc

  -- places in a list with one more behind
  abbrev Behind : List ProgramTree → ProgramTree → ℕ → ProgramTree → Type 0
  Behind xs x k q = ((k < length xs) × (slice_get xs k ≡ Some q)) ⊎ ((k ≡ length xs) × (x ≡ q))

  behind : (xs : List ProgramTree) (x : ProgramTree) (k : ℕ) (q : ProgramTree) → slice_get (xs ++ x ∷ []) k ≡ Some q → Behind xs x k q
  behind [] x zero q e = inr (refl, cc)
  behind [] x (suc k) q e = absurd cc
  behind (y ∷ ys) x zero q e = inl (omega arith, e)
  behind (y ∷ ys) x (suc k) q e = more (behind ys x k q e)
    where
      more : Behind ys x k q → Behind (y ∷ ys) x (suc k) q
      more (inl h) = inl (omega (arith, h.0), h.1)
      more (inr h) = inr (ap suc h.0, h.1)

  there_before : (xs ys : List ProgramTree) (k : ℕ) (q : ProgramTree) → slice_get xs k ≡ Some q → slice_get (xs ++ ys) k ≡ Some q
  there_before [] ys k q e = absurd cc
  there_before (x ∷ xs) ys zero q e = e
  there_before (x ∷ xs) ys (suc k) q e = there_before xs ys k q e

  there_last : (xs : List ProgramTree) (x : ProgramTree) → slice_get (xs ++ x ∷ []) (length xs) ≡ Some x
  there_last [] x = refl
  there_last (y ∷ ys) x = there_last ys x

  within : (xs : List ProgramTree) (k : ℕ) (q : ProgramTree) → slice_get xs k ≡ Some q → k < length xs
  within [] k q e = absurd cc
  within (x ∷ xs) zero q e = omega arith
  within (x ∷ xs) (suc k) q e = let h = within xs k q e in omega (arith, h)

  -- a program that serves no sooner, if it serves, leaves the best what it is
  pub stays : (best program : ProgramTree) (time : ℕ) → ((n : ℕ) → Serves tree costs processors program n → time ≤ n) → StaysBest tree costs processors best time (Some program) best time
  stays best program time later xs is = record {
    place = is.place;
    there = there_before xs (program ∷ []) is.place best is.there;
    serves = is.serves;
    least = λ k n q there it. least k n q (behind xs program k q there) it;
    first = λ k n q low there it. first k n q low (behind xs program k q there) it;
  }
    where
      least : (k n : ℕ) (q : ProgramTree) → Behind xs program k q → Serves tree costs processors q n → time ≤ n
      least k n q (inl h) it = is.least k n q h.1 it
      least k n q (inr h) it = later n (subst (λ p. Serves tree costs processors p n) (sym h.1) it)

      first : (k n : ℕ) (q : ProgramTree) → k < is.place → Behind xs program k q → Serves tree costs processors q n → time < n
      first k n q low (inl h) it = is.first k n q low h.1 it
      first k n q low (inr h) it = absurd (let inside = within xs is.place best is.there in omega (arith, low, h.0, inside))

  -- a program that serves sooner is the best
  pub overtakes : (best program : ProgramTree) (old time : ℕ) → time < old → Serves tree costs processors program time → StaysBest tree costs processors best old (Some program) program time
  overtakes best program old time sooner serves xs is = record {
    place = length xs;
    there = there_last xs program;
    serves = serves;
    least = λ k n q there it. least k n q (behind xs program k q there) it;
    first = λ k n q low there it. first k n q low (behind xs program k q there) it;
  }
    where
      least : (k n : ℕ) (q : ProgramTree) → Behind xs program k q → Serves tree costs processors q n → time ≤ n
      least k n q (inl h) it = let no_less : old ≤ n = is.least k n q h.1 it in omega (arith, sooner, no_less)
      least k n q (inr h) it = serves_soonest program time n serves (subst (λ p. Serves tree costs processors p n) (sym h.1) it)

      first : (k n : ℕ) (q : ProgramTree) → k < length xs → Behind xs program k q → Serves tree costs processors q n → time < n
      first k n q low (inl h) it = let no_less : old ≤ n = is.least k n q h.1 it in omega (arith, sooner, no_less)
      first k n q low (inr h) it = absurd (omega (arith, low, h.0))

-- a program serves in its own place
pub own_serves : (program : ProgramTree) (tree : Tree) (costs : Costs) (processors time : ℕ) → HasTree program tree → IsBestTime tree costs processors time
    → Serves tree costs processors program time
own_serves program tree costs processors time has best =
    let own : costs_for tree costs has.accepted.whole.tree ≡ costs = ap (costs_for tree costs) (sym has.tree_is) ∙ own_costs tree costs in
    record {
      accepted = has.accepted;
      counts = best.counts;
      chosen = subst (λ t. IsChosen t (costs_for tree costs has.accepted.whole.tree) processors best.counts) has.tree_is (subst (λ c. IsChosen tree c processors best.counts) (sym own) best.chosen);
      time_is =
          best.time_is ∙ ap (λ c. service tree c best.counts 0) (sym own)
          ∙ ap (λ t. service t (costs_for tree costs has.accepted.whole.tree) best.counts 0) has.tree_is;
    }
