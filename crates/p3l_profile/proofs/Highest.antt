-- Numbers that are noted one after the other come to the greatest of them all.
use Rattle.std.proofs.Common.{◌≡◌, ◌≢◌, ℕ, zero, suc, ◌+◌, ◌<◌, ◌≤◌, ◌==◌, Bool, true, false, cond, List, [], ◌∷◌, ◌++◌, length, replicate, refl, sym, ap, ◌∙◌, subst, arith}
use Rattle.std.specs.Prelude.{codes, max, min, slice_index, ◌&&◌}
use Rattle.std.proofs.lemmas.Bool.Decides.{nat_tests}
use Rattle.std.proofs.lemmas.List.{length-set, length-replicate, get_or-replicate, get_or-set_same, get_or-set_other}
use Rattle.p3l_skel.specs.declared.tree.ModuleInfo.{ModuleInfo}
use Rattle.p3l_skel.specs.declared.tree.Node.{Node}
use Rattle.p3l_profile.specs.declared.text.CostTable.{CostTable}
use Rattle.p3l_profile.specs.declared.text.CostTable.TheVariants.{Ticks, Turns}
use Rattle.p3l_profile.specs.Greatest.{Greatest, if_own, none_noted, noted, noted_all, raised, took_in, work_in}
use Rattle.p3l_profile.specs.Law.{HasTheGreatest}
use Rattle.p3l_walk.specs.Notes.{Note, noted_by, ran, turn}
use Rattle.p3l_profile.specs.Text.{entries, entry_if, entry_of, is_used, number_of, speaks_of, turns_table}
use Rattle.p3l_base.specs.Limits.{most_cost}

eq_holds : (m n : ℕ) → (m == n) ≡ true → m ≡ n
eq_holds m n h = grind (arith, nat_tests)

eq_fails : (m n : ℕ) → (m == n) ≡ false → m ≢ n
eq_fails m n h e = grind (arith, nat_tests)

-- the number of a module after that of one was raised
raised_at : (xs : List ℕ) (home other n : ℕ) → home < length xs → slice_index (raised xs other n) home ≡ max (slice_index xs home) (if_own home other n)
raised_at xs home other n inside = by (home == other) refl
  where
    by : (b : Bool) → (home == other) ≡ b → slice_index (raised xs other n) home ≡ max (slice_index xs home) (cond b n 0)
    by true e =
        let same = eq_holds home other e in
        ap (λ k. slice_index (raised xs k n) home) (sym same) ∙ get_or-set_same xs home (max (slice_index xs home) n) 0 inside
    by false e =
        let more : slice_index xs home ≡ max (slice_index xs home) 0 = omega arith in
        get_or-set_other xs other home (max (slice_index xs other) n) 0 (eq_fails home other e) ∙ more

long_raised : (xs : List ℕ) (other n : ℕ) → length (raised xs other n) ≡ length xs
long_raised xs other n = length-set xs other (max (slice_index xs other) n)

max-assoc : (a b c : ℕ) → max (max a b) c ≡ max a (max b c)
max-assoc a b c = omega arith

work_at : (g : Greatest) (done : List Note) (home : ℕ) → home < length g.work → slice_index (noted_all g done).work home ≡ max (slice_index g.work home) (work_in done home)
unfolding noted_by
work_at g [] home inside = omega arith
work_at g (ran other n ∷ done) home inside =
    work_at (noted g (ran other n)) done home (subst (λ k. home < k) (sym (long_raised g.work other n)) inside)
    ∙ (ap (λ k. max k (work_in done home)) (raised_at g.work home other n inside)
    ∙ max-assoc (slice_index g.work home) (if_own home other n) (work_in done home))
work_at g (turn other n ∷ done) home inside = work_at (noted g (turn other n)) done home inside

took_at : (g : Greatest) (done : List Note) (home : ℕ) → home < length g.took → 1 ≤ slice_index g.took home → slice_index (noted_all g done).took home ≡ max (slice_index g.took home) (took_in done home)
unfolding noted_by
took_at g [] home inside some = omega arith
took_at g (ran other n ∷ done) home inside some = took_at (noted g (ran other n)) done home inside some
took_at g (turn other n ∷ done) home inside some =
    let here = raised_at g.took home other n inside in
    let more : 1 ≤ slice_index (raised g.took other n) home = subst (λ k. 1 ≤ k) (sym here) (omega arith) in
    took_at (noted g (turn other n)) done home (subst (λ k. home < k) (sym (long_raised g.took other n)) inside) more
    ∙ (ap (λ k. max k (took_in done home)) here
    ∙ max-assoc (slice_index g.took home) (if_own home other n) (took_in done home))

-- one turn at least
some_turn : (done : List Note) (home : ℕ) → 1 ≤ took_in done home
some_turn [] home = omega arith
some_turn (ran other n ∷ done) home = some_turn done home
some_turn (turn other n ∷ done) home = let s = some_turn done home in omega arith

pub work_is : (modules : ℕ) (done : List Note) (home : ℕ) → home < modules → slice_index (noted_all (none_noted modules) done).work home ≡ work_in done home
work_is modules done home inside =
    let first : slice_index (replicate modules 0) home ≡ 0 = get_or-replicate modules home 0 0 inside in
    let long : home < length (replicate modules 0) = subst (λ k. home < k) (sym (length-replicate modules 0)) inside in
    let none : max 0 (work_in done home) ≡ work_in done home = omega arith in
    work_at (none_noted modules) done home long ∙ (ap (λ k. max k (work_in done home)) first ∙ none)

pub took_is : (modules : ℕ) (done : List Note) (home : ℕ) → home < modules → slice_index (noted_all (none_noted modules) done).took home ≡ took_in done home
took_is modules done home inside =
    let first : slice_index (replicate modules 1) home ≡ 1 = get_or-replicate modules home 1 0 inside in
    let long : home < length (replicate modules 1) = subst (λ k. home < k) (sym (length-replicate modules 1)) inside in
    let least = some_turn done home in
    let same : max 1 (took_in done home) ≡ took_in done home = omega arith in
    took_at (none_noted modules) done home long (subst (λ k. 1 ≤ k) (sym first) (omega arith)) ∙ (ap (λ k. max k (took_in done home)) first ∙ same)

entries-same : (table : CostTable) (f g : ℕ → ℕ) (nodes : List Node) (home : ℕ) (ms : List ModuleInfo) → ((k : ℕ) → k < home + length ms → f k ≡ g k) → entries table f nodes home ms ≡ entries table g nodes home ms
entries-same table f g nodes home [] same = refl
entries-same table f g nodes home (m ∷ ms) same =
    ap (λ n. entry_if (speaks_of table m.kind && is_used nodes home) m.name n ++ entries table f nodes (home + 1) ms) (same home (omega arith))
    ∙ ap (λ rest. entry_of table g nodes home m ++ rest) (entries-same table f g nodes (home + 1) ms (λ k low. same k (omega arith)))

pub has_the_greatest : HasTheGreatest
has_the_greatest tree done =
    let count = length tree.modules in
    let g = noted_all (none_noted count) done in
    let same = λ (table : CostTable). entries-same table (number_of table (slice_index g.work) (slice_index g.took)) (number_of table (work_in done) (took_in done)) tree.nodes 0 tree.modules (numbers table) in
    ap (λ ticks. head ++ (ticks ++ turns_table (entries Turns (number_of Turns (slice_index g.work) (slice_index g.took)) tree.nodes 0 tree.modules))) (same Ticks)
    ∙ ap (λ turns. head ++ (entries Ticks (number_of Ticks (work_in done) (took_in done)) tree.nodes 0 tree.modules ++ turns_table turns)) (same Turns)
  where
    head : List ℕ
    head = codes "setup = 10\nword = 1\n[seq]\n"

    numbers : (table : CostTable) (k : ℕ) → k < 0 + length tree.modules → number_of table (slice_index (noted_all (none_noted (length tree.modules)) done).work) (slice_index (noted_all (none_noted (length tree.modules)) done).took) k ≡ number_of table (work_in done) (took_in done) k
    numbers Ticks k low = ap (λ n. min n most_cost) (work_is (length tree.modules) done k (omega arith))
    numbers Turns k low = took_is (length tree.modules) done k (omega arith)
