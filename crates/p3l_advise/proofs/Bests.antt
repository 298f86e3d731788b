-- The best service times of several numbers of processors.
use Rattle.std.proofs.Common.{◌≡◌, ℕ, ◌<◌, ◌≤◌, ◌++◌, List, [], ap, ◌∙◌, arith, inl, inr, append_assoc}
use Rattle.std.proofs.lemmas.Bool.{cases_lt}
use Rattle.p3l_skel.specs.declared.tree.Tree.{Tree}
use Rattle.p3l_skel.specs.Lawful.{IsLawfulTree}
use Rattle.p3l_skel.specs.Numbers.{procs}
use Rattle.p3l_cost.specs.declared.costs.Costs.{Costs}
use Rattle.p3l_cost.specs.Costs.{AreCostsOf}
use Rattle.p3l_model.specs.Optimal.{IsChosen}
use Rattle.p3l_alloc.specs.declared.allocation.Best.{Best}
use Rattle.p3l_alloc.specs.Best.{IsBest, best_at}
use Rattle.p3l_alloc.specs.Need.{IsLeastProcs}
use Rattle.p3l_alloc.specs.Table.{IsTableFrom}
use Rattle.p3l_alloc.proofs.Chosen.{best_there}
use Rattle.p3l_advise.specs.Advice.{IsAdvice}
use Rattle.p3l_advise.specs.Falls.{fall_lines}
use Rattle.p3l_advise.specs.Help.{help_lines}
use Rattle.p3l_advise.specs.Lines.{tree_lines}

module _ (tree : Tree) (costs : Costs) where
  -- as many processors as are used have the same service time
  pub enough : (p q : ℕ) (a b : Best) → IsBest tree costs p a → IsBest tree costs q b → b.used ≤ p → p ≤ q → a.service ≡ b.service
  enough p q a b at_p at_q used within =
      let few : procs tree at_q.counts 0 ≤ p = let is = at_q.processes in omega arith in
      let below = at_p.optimal.soonest at_q.counts (record { lawful = at_q.optimal.fit.lawful; few = few }) in
      let above = at_q.optimal.soonest at_p.counts (record { lawful = at_p.optimal.fit.lawful; few = let few = at_p.optimal.fit.few in omega arith }) in
      let time = at_p.time in
      let other = at_q.time in
      omega arith

  -- and fewer have a later one
  pub needed : (p q : ℕ) (a b : Best) → IsBest tree costs p a → IsBest tree costs q b → p < b.used → p ≤ q → b.service < a.service
  needed p q a b at_p at_q less within =
      let small = at_p.optimal.fit.few in
      let above = at_q.optimal.soonest at_p.counts (record { lawful = at_p.optimal.fit.lawful; few = omega arith }) in
      let time = at_p.time in
      let other = at_q.time in
      let is = at_q.processes in
      elim (cases_lt b.service a.service) [
        | inl sooner ↦ sooner
        | inr same ↦
            let fewest = at_q.optimal.fewest at_p.counts (record { lawful = at_p.optimal.fit.lawful; few = omega arith }) (omega arith) in
            absurd (omega (arith, fewest))
      ]

  -- the chosen counts have as many processes as any best ones
  pub same_used : (p : ℕ) (b : Best) (counts : List ℕ) → IsBest tree costs p b → IsChosen tree costs p counts → procs tree counts 0 ≡ b.used
  same_used p b counts best chosen =
      let o = chosen.optimal in
      let soon = o.soonest best.counts best.optimal.fit in
      let late = best.optimal.soonest counts o.fit in
      let few = o.fewest best.counts best.optimal.fit (omega arith) in
      let many = best.optimal.fewest counts o.fit (omega arith) in
      let is = best.processes in
      omega (arith, few, many)

-- the pieces of the text
words : (text t1 t2 t3 a b c : List ℕ) → t1 ≡ [] ++ a → t2 ≡ t1 ++ b → t3 ≡ t2 ++ c → text ≡ t3 → text ≡ a ++ (b ++ c)
words text t1 t2 t3 a b c e1 e2 e3 e = rw (e, e3, e2, e1) (append_assoc a b c)

-- the text is advice, where a table says the best for each number of processors
pub advice : (tree : Tree) (costs : Costs) (processors least used : ℕ) (rows : List (List ℕ)) (counts : List ℕ) (text t0 t1 t2 t3 : List ℕ) → IsLawfulTree tree → AreCostsOf tree costs → IsTableFrom tree costs processors rows 0 → IsLeastProcs tree least → least ≤ processors → IsChosen tree costs processors counts → used ≡ procs tree counts 0 →
    t0 ≡ [] → t1 ≡ t0 ++ fall_lines (best_at tree rows) least processors → t2 ≡ t1 ++ tree_lines tree costs counts → t3 ≡ t2 ++ help_lines tree costs counts processors used → text ≡ t3 → IsAdvice tree costs processors text
advice tree costs processors least used rows counts text t0 t1 t2 t3 lawful priced table need within chosen is e0 e1 e2 e3 e =
    let best : ℕ → Best = best_at tree rows in
    let reached = need.reached in
    let bests : (p : ℕ) → least ≤ p → p ≤ processors → IsBest tree costs p (best p) =
    λ p low high. best_there tree costs processors p rows reached.0 lawful priced table high (record { lawful = reached.1; few = let r = reached.2 in omega arith }) in
    let all = bests processors within (omega arith) in
    let same : used ≡ (best processors).used = is ∙ same_used tree costs processors (best processors) counts all chosen in
    record {
      least = least;
      best = best;
      counts = counts;
      need = need;
      bests = bests;
      chosen = chosen;
      words =
          words text t1 t2 t3 (fall_lines best least processors) (tree_lines tree costs counts) (help_lines tree costs counts processors (best processors).used)
          (e1 ∙ ap (λ (t : List ℕ). t ++ fall_lines best least processors) e0) e2 (e3 ∙ ap (λ (u : ℕ). t2 ++ help_lines tree costs counts processors u) same) e;
      enough = λ p many few. elim (cases_lt p least) [
        | inl fewer ↦ let r = need.below all.counts all.optimal.fit.lawful in let u = all.processes in absurd (omega arith)
        | inr fits ↦ enough tree costs p processors (best p) (best processors) (bests p fits few) all many few
      ];
      needed = λ p fits less. let small = all.optimal.fit.few in let u = all.processes in
          let few : p ≤ processors = omega arith in needed tree costs p processors (best p) (best processors) (bests p fits few) all less few;
    }
