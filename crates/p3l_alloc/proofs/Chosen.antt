-- The chosen counts, by the soonest service time and the fewest processes.
use Rattle.std.proofs.Common.{◌≡◌, ℕ, ◌≤◌, ◌<◌, ◌++◌, List, [], length, refl, sym, ap, ◌∙◌, subst, arith}
use Rattle.std.specs.Prelude.{slice_index_or}
use Rattle.p3l_skel.specs.declared.tree.Tree.{Tree}
use Rattle.p3l_skel.specs.Lawful.{IsLawfulTree}
use Rattle.p3l_skel.specs.Numbers.{Fits, procs}
use Rattle.p3l_cost.specs.declared.costs.Costs.{Costs}
use Rattle.p3l_cost.specs.Costs.{AreCostsOf}
use Rattle.p3l_model.specs.NodeCost.{never}
use Rattle.p3l_model.specs.Service.{service}
use Rattle.p3l_model.specs.Costed.{Costed, costed, run_procs, run_service}
use Rattle.p3l_model.specs.Least.{Serves, FitsRun}
use Rattle.p3l_model.specs.Optimal.{IsChosen, IsNoLater, IsOptimal}
use Rattle.p3l_model.proofs.Bounds.{slowest-root}
use Rattle.p3l_model.proofs.Nested.{subtree_end}
use Rattle.p3l_model.proofs.Timed.{bounded}
use Rattle.p3l_model.proofs.Whole.{procs_whole, service_whole, fits_run, run_fits}
use Rattle.p3l_alloc.specs.Best.{IsBest, best_at}
use Rattle.p3l_alloc.specs.declared.allocation.Best.{Best}
use Rattle.p3l_alloc.specs.Soonest.{IsRow}
use Rattle.p3l_alloc.specs.Table.{row_in, IsTableFrom}
use Rattle.p3l_alloc.specs.Walk.{first_within, AddsFirst, CanServe, IsFirst}
use Rattle.p3l_alloc.proofs.First.{row_fewest}
use Rattle.p3l_alloc.proofs.Rows.{row_fewer}

-- t is the soonest service time with at most `most` processes, and p the fewest that reach it
pub record IsBestRun (a : Costed) (most t p : ℕ) : Type 0 where
  pub small : p ≤ most
  pub can : CanServe a t p
  pub soonest : (ys : List ℕ) → FitsRun a most ys → t ≤ run_service a ys
  pub fewest : (ys : List ℕ) → Serves a t ys → run_procs a ys ≤ most → p ≤ run_procs a ys

pub best_from : (a : Costed) (most t : ℕ) (row : List ℕ) → IsRow a most row → t ≡ slice_index_or row most never → t < never → IsBestRun a most t (first_within t row)
best_from a most t row rows is early =
    let entry = rows most (omega arith) in
    let o = entry.reached (omega arith) in
    let serves : Serves a t o.0 = record { lawful = o.1.lawful; soon = omega (arith, o.2) } in
    let f = row_fewest a t most most row rows early (omega arith) (record { counts = o.0; serves = serves; few = o.1.few }) in
    let few = o.1.few in
    let least = f.below o.0 serves (omega arith) in
    let r = f.reached in
    record {
      small = omega (arith, least);
      can = record { counts = r.0; serves = r.1; few = omega (arith, r.2) };
      soonest = λ ys g. let q = entry.below ys g in omega (arith, q);
      fewest = f.below;
    }

module _ (tree : Tree) (costs : Costs) (lawful : IsLawfulTree tree) (priced : AreCostsOf tree costs) (processors t p : ℕ) (xs : List ℕ) (best : IsBestRun (costed tree costs 0) processors t p) (serves : Serves (costed tree costs 0) t xs) (few : run_procs (costed tree costs 0) xs ≤ p) where
  fit : FitsRun (costed tree costs 0) processors xs
  fit = record { lawful = serves.lawful; few = let small = best.small in omega (arith, few) }

  pub fits : Fits tree processors xs
  fits = run_fits tree costs lawful priced processors xs fit

  pub service_is : t ≡ service tree costs xs 0
  service_is =
      let now = best.soonest xs fit in
      let soon = serves.soon in
      omega (arith, now, service_whole tree costs lawful priced xs fits.lawful)

  pub procs_are : p ≡ procs tree xs 0
  procs_are =
      let least = best.fewest xs serves fit.few in
      omega (arith, least, few, procs_whole tree costs lawful priced xs fits.lawful)

  soonest_of : (ys : List ℕ) → Fits tree processors ys → t ≤ service tree costs ys 0
  soonest_of ys g =
      let q = best.soonest ys (fits_run tree costs lawful priced processors ys g) in
      omega (arith, q, service_whole tree costs lawful priced ys g.lawful)

  serves_of : (ys : List ℕ) → Fits tree processors ys → service tree costs ys 0 ≡ t → Serves (costed tree costs 0) t ys
  serves_of ys g same = record {
    lawful = (fits_run tree costs lawful priced processors ys g).lawful;
    soon = omega (arith, service_whole tree costs lawful priced ys g.lawful);
  }

  fewest_of : (ys : List ℕ) → Fits tree processors ys → service tree costs ys 0 ≡ t → p ≤ procs tree ys 0
  fewest_of ys g same =
      let run = fits_run tree costs lawful priced processors ys g in
      let q = best.fewest ys (serves_of ys g same) run.few in
      omega (arith, q, procs_whole tree costs lawful priced ys g.lawful)

  pub optimal : IsOptimal tree costs processors xs
  optimal =
      let s = service_is in
      let u = procs_are in
      record {
        fit = fits;
        soonest = λ ys g. let q = soonest_of ys g in omega (arith, q);
        fewest = λ ys g same. let q = fewest_of ys g (omega arith) in omega (arith, q);
      }

  pub chosen : ((ys : List ℕ) → Serves (costed tree costs 0) t ys → run_procs (costed tree costs 0) ys ≤ p → IsNoLater xs ys) → IsChosen tree costs processors xs
  chosen first =
      let s = service_is in
      let u = procs_are in
      record {
        optimal = optimal;
        first = λ ys o.
            let low = soonest_of ys o.fit in
            let high = o.soonest xs fits in
            let same : service tree costs ys 0 ≡ t = omega arith in
            let cost = o.fewest xs fits (omega arith) in
            let run = fits_run tree costs lawful priced processors ys o.fit in
            first ys (serves_of ys o.fit same) (omega (arith, cost, procs_whole tree costs lawful priced ys o.fit.lawful));
      }

-- the best counts, as those of the tree with its costs put in
pub best_run : (tree : Tree) (costs : Costs) (processors : ℕ) (best : Best) → IsLawfulTree tree → AreCostsOf tree costs → IsBest tree costs processors best → IsBestRun (costed tree costs 0) processors best.service best.used
best_run tree costs processors best lawful priced b =
    let o = b.optimal in
    let run = fits_run tree costs lawful priced processors b.counts o.fit in
    let time = b.time in
    let used = b.processes in
    let whole = service_whole tree costs lawful priced b.counts o.fit.lawful in
    let all = procs_whole tree costs lawful priced b.counts o.fit.lawful in
    let few = o.fit.few in
    record {
      small = omega arith;
      can = record { counts = b.counts; serves = record { lawful = run.lawful; soon = omega arith }; few = omega arith };
      soonest = λ ys g.
          let f = run_fits tree costs lawful priced processors ys g in
          let q = o.soonest ys f in
          omega (arith, q, service_whole tree costs lawful priced ys f.lawful);
      fewest = λ ys s small.
          let f = run_fits tree costs lawful priced processors ys (record { lawful = s.lawful; few = small }) in
          let soon = s.soon in
          let q = o.soonest ys f in
          let same : service tree costs ys 0 ≡ service tree costs b.counts 0 = omega (arith, q, soon, service_whole tree costs lawful priced ys f.lawful) in
          let r = o.fewest ys f same in
          omega (arith, r, procs_whole tree costs lawful priced ys f.lawful);
    }

-- the best of the tree with its costs put in, as the best counts
pub best_of_run : (tree : Tree) (costs : Costs) (processors t p : ℕ) → IsLawfulTree tree → AreCostsOf tree costs → IsBestRun (costed tree costs 0) processors t p → IsBest tree costs processors (record { service = t; used = p })
best_of_run tree costs processors t p lawful priced best =
    let can = best.can in
    record {
      counts = can.counts;
      optimal = optimal tree costs lawful priced processors t p can.counts best can.serves can.few;
      time = service_is tree costs lawful priced processors t p can.counts best can.serves can.few;
      processes = procs_are tree costs lawful priced processors t p can.counts best can.serves can.few;
    }

pub none_fit : (tree : Tree) (costs : Costs) (processors t : ℕ) (row : List ℕ) → IsLawfulTree tree → AreCostsOf tree costs → IsRow (costed tree costs 0) processors row → t ≡ slice_index_or row processors never → never ≤ t → (ys : List ℕ) → Fits tree processors ys → ⊥
none_fit tree costs processors t row lawful priced rows is late ys g =
    let run = fits_run tree costs lawful priced processors ys g in
    let q = (rows processors (omega arith)).below ys run in
    let b = bounded (costed tree costs 0) ys run.lawful in
    let slow = slowest-root tree costs lawful priced in
    omega (arith, q, b)

-- the root's row in a whole table
pub root_row : (tree : Tree) (costs : Costs) (most processors : ℕ) (rows : List (List ℕ)) (row : List ℕ) → IsLawfulTree tree → AreCostsOf tree costs → IsTableFrom tree costs most rows 0 → processors ≤ most → row ≡ row_in tree rows 0 → IsRow (costed tree costs 0) processors row
root_row tree costs most processors rows row lawful priced table within is =
    let some : 0 < length tree.nodes = subtree_end 6 tree 0 (length tree.nodes) lawful.preorder in
    let whole = table.each 0 (omega arith) some (slowest-root tree costs lawful priced) in
    row_fewer (costed tree costs 0) most processors row within (subst (IsRow (costed tree costs 0) most) (sym is) whole)

pub root_best : (tree : Tree) (costs : Costs) (most processors time fewest : ℕ) (rows : List (List ℕ)) (row : List ℕ) → IsLawfulTree tree → AreCostsOf tree costs → IsTableFrom tree costs most rows 0 → processors ≤ most → row ≡ row_in tree rows 0 → time ≡ slice_index_or row processors never → time < never → fewest ≡ first_within time row → IsBestRun (costed tree costs 0) processors time fewest
root_best tree costs most processors time fewest rows row lawful priced table within is entry early least =
    subst (IsBestRun (costed tree costs 0) processors time) (sym least)
    (best_from (costed tree costs 0) processors time row (root_row tree costs most processors rows row lawful priced table within is) entry early)

-- a table has the best for a number of processors, if some counts fit
pub best_there : (tree : Tree) (costs : Costs) (most processors : ℕ) (rows : List (List ℕ)) (counts : List ℕ) → IsLawfulTree tree → AreCostsOf tree costs → IsTableFrom tree costs most rows 0 → processors ≤ most → Fits tree processors counts → IsBest tree costs processors (best_at tree rows processors)
best_there tree costs most processors rows counts lawful priced table within fits =
    let row : List ℕ = row_in tree rows 0 in
    let entries = root_row tree costs most processors rows row lawful priced table within refl in
    let run = fits_run tree costs lawful priced processors counts fits in
    let q = (entries processors (omega arith)).below counts run in
    let b = bounded (costed tree costs 0) counts run.lawful in
    let slow = slowest-root tree costs lawful priced in
    let t : ℕ = slice_index_or row processors never in
    best_of_run tree costs processors t (first_within t row) lawful priced
    (best_from (costed tree costs 0) processors t row entries refl (omega (arith, q, b, slow)))

-- counts added to none are the first by themselves
pub first_alone : (a : Costed) (t p used : ℕ) (before after : List ℕ) → before ≡ [] → AddsFirst a t p before after used → IsFirst a t p after × (used ≡ run_procs a after)
first_alone a t p used before after none adds =
    let all : after ≡ adds.counts = adds.joined ∙ ap (λ (xs : List ℕ). xs ++ adds.counts) none in
    (subst (IsFirst a t p) (sym all) adds.first, adds.cost ∙ ap (run_procs a) (sym all))
